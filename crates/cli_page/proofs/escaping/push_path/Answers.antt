use Rattle.std.proofs.Common.{flat_map, sym, ap, ◌∙◌, map-id, ◌++◌, ℕ, List, string_bytes}
use Rattle.std.proofs.lemmas.Iterator.{YieldsList-from_chars}
use Rattle.std.proofs.lemmas.Iterator.Consumers.{YieldsList-end}
use Rattle.std.specs.Str.{encode_utf8_all}
use Rattle.cli_page.specs.Escaping.{path_shown_of}
use Rattle.cli_page.proofs.escaping.push_path.Goals as goal

pub returns : goal.returns
returns c =
    let end = YieldsList-end (YieldsList-from_chars c.args.path.now c.utf8.path cc) c.loop-c.yielded _ c.loop-c.yielded_by
    _ _ c.in-None.is c.next.ensures.steps in
    c.loop-c.invariant
    ∙ ap (λ (cs : List ℕ). string_bytes c.args.page.now ++ encode_utf8_all (flat_map path_shown_of cs)) (sym (map-id c.loop-c.yielded) ∙ end.0)
