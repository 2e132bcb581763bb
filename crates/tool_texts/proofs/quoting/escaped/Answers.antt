use Rattle.std.proofs.Common.{◌≡◌, rules, string_bytes}
use Rattle.std.specs.Str.{encode_utf8_all}
use Rattle.tool_texts.specs.Quoting.{escaped_text}
use Rattle.tool_texts.proofs.Visible.{escaped_is}
use Rattle.tool_texts.proofs.quoting.escaped.Goals as goal

pub returns-clause-shown : goal.returns-clause-shown
returns-clause-shown c =
    let exact : string_bytes c.push_escaped.new.text ≡ encode_utf8_all (escaped_text c.args.octets.now) = search rules in
    escaped_is _ _ exact
