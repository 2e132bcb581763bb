use Rattle.std.proofs.Common.{◌≡◌, true, ℕ, List, subst, string_bytes}
use Rattle.std.specs.Prelude.{IfOk}
use Rattle.std.specs.Str.{encode_utf8_all}
use Rattle.tool_texts.specs.Quoting.{is_bare}
use Rattle.tool_texts.proofs.Escapes.{named_bare}
use Rattle.tool_texts.proofs.quoting.named.Goals as goal

pub returns-then-is_bare-clause-exact : goal.returns-then-is_bare-clause-exact
returns-then-is_bare-clause-exact c =
    let bare : is_bare c.args.name.now ≡ true = cc in
    subst (λ (cs : List ℕ). IfOk c.escaped.result (λ t. string_bytes t ≡ encode_utf8_all cs)) (named_bare c.args.name.now bare)
    c.escaped.ensures.exact
