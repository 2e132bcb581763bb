use Rattle.std.proofs.Common.{◌≡◌, ◌∙◌, Some, true, sym, ap, refl, rules}
use Rattle.std.proofs.lemmas.Bool.{not-true, not-false}
use Rattle.std.specs.Prelude.{is_none}
use Rattle.record_archive.specs.Archive.{Archive, Record, body_of}
use Rattle.cli_history.specs.Seals.{known, length_and_sum}
use Rattle.cli_changes.proofs.RunLaws.{body_read, none_of, read_as, unread_as}
use Rattle.cli_changes.proofs.runs.fidelity_of.Goals as goal

pub returns-then-is_none-clause-told : goal.returns-then-is_none-clause-told
returns-then-is_none-clause-told g c = λ clean (a : Archive) (r : Record) s at same.
    let is : is_none c.length_and_sum.result ≡ true = search (rules, not-true, not-false) in
    unread_as (known c.args.seals.now c.args.message) _ _
    (none_of _ length_and_sum c.length_and_sum.result (known c.args.seals.now c.args.message) c.length_and_sum.ensures is) refl

pub returns-clause-told : goal.returns-clause-told
returns-clause-told g c = λ clean (a : Archive) (r : Record) s at same.
    let body = c.in_ok-body.body.items in
    read_as (known c.args.seals.now c.args.message) _ c.as_slice.result.now _
    (ap (body_of a.messages) (sym same) ∙ body_read a c.args.number r body at (c.in_ok-body.ensures.told clean a s)
    ∙ ap Some (sym c.as_slice.ensures.value))
    c.in_ok-fidelity.ensures
