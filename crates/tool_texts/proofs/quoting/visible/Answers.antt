use Rattle.std.proofs.Common.{◌≡◌, rules, string_bytes}
use Rattle.std.specs.Str.{encode_utf8_all}
use Rattle.tool_texts.specs.Quoting.{visible_text}
use Rattle.tool_texts.proofs.Visible.{visible_is}
use Rattle.tool_texts.proofs.quoting.visible.Goals as goal

pub returns-clause-shown : goal.returns-clause-shown
returns-clause-shown c =
    let exact : string_bytes c.push_all_visible.new.text ≡ encode_utf8_all (visible_text c.args.words.now) = search rules in
    visible_is _ _ exact
