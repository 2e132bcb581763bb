use Rattle.std.proofs.Common.{◌∙◌, ◌++◌, ◌∷◌, [], ap, sym, map-id, append-nil, flat_map, ℕ, List, string_bytes}
use Rattle.std.proofs.lemmas.Grind.{flat_map-append}
use Rattle.std.proofs.lemmas.Iterator.{YieldsList-from_chars}
use Rattle.std.proofs.lemmas.Iterator.Consumers.{YieldsList-end}
use Rattle.cli_texts.specs.Json.{ascii_of}
use Rattle.cli_texts.proofs.json.in_ascii.Goals as goal

pub loop-c-preserved : goal.loop-c-preserved
loop-c-preserved c =
    c.in_ok-push_ascii.ensures
    ∙ (ap (λ (bs : List ℕ). bs ++ ascii_of c.in-Some.c) c.loop-c.invariant
    ∙ (ap (λ (bs : List ℕ). flat_map ascii_of c.loop-c.yielded ++ bs) (sym (append-nil (ascii_of c.in-Some.c)))
    ∙ sym (flat_map-append ascii_of c.loop-c.yielded (c.in-Some.c ∷ []))))

pub returns : goal.returns
returns c =
    let end = YieldsList-end (YieldsList-from_chars c.args.json.now c.utf8.json cc) c.loop-c.yielded _ c.loop-c.yielded_by
    _ _ c.in-None.is c.next.ensures.steps in
    c.loop-c.invariant ∙ ap (flat_map ascii_of) (sym (map-id c.loop-c.yielded) ∙ end.0)
