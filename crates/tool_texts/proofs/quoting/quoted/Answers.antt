use Rattle.std.proofs.Common.{◌≡◌, rules, string_bytes}
use Rattle.std.specs.Char.{encode_utf8}
use Rattle.tool_texts.specs.Quoting.{escaped_text}
use Rattle.tool_texts.proofs.Pushes.{pushed_between}
use Rattle.tool_texts.proofs.Visible.{quoted_is}
use Rattle.tool_texts.proofs.quoting.quoted.Goals as goal

pub returns-clause-exact : goal.returns-clause-exact
returns-clause-exact c =
    let first : string_bytes c.push.new.self ≡ encode_utf8 34 = search rules in
    pushed_between _ _ _ (escaped_text c.args.octets.now) 34 34 first c.in_ok-push_escaped.ensures c.in_ok-push-2.ensures.bytes

pub returns-clause-shown : goal.returns-clause-shown
returns-clause-shown c =
    let first : string_bytes c.push.new.self ≡ encode_utf8 34 = search rules in
    quoted_is _ c.args.octets.now
    (pushed_between _ _ _ (escaped_text c.args.octets.now) 34 34 first c.in_ok-push_escaped.ensures c.in_ok-push-2.ensures.bytes)
