use Rattle.std.proofs.Common.{◌≡◌, ◌∙◌, Bool, false, true, subst, sym}
use Rattle.std.proofs.lemmas.Result.{IfOk-weaker}
use Rattle.record_archive.specs.Archive.{Archive}
use Rattle.record_ledger.specs.Ledgers.{keeper_of}
use Rattle.cli_changes.specs.Holdings.{IsHeld, held_by, is_any_of}
use Rattle.cli_changes.specs.Series.{IsSoOf}
use Rattle.cli_changes.proofs.holds.may_be_held.Goals as goal

pub returns-in-Place-clause-held : goal.returns-in-Place-clause-held
returns-in-Place-clause-held g c = λ yes none clean (a : Archive) s.
    subst (λ change. IsHeld change c.args.hold.now.name.now a) (sym c.in-Place.is) tt

pub returns-in-End-clause-held : goal.returns-in-End-clause-held
returns-in-End-clause-held g c =
    let keeper = keeper_of g.S.Store in
    let hold = c.args.hold.now in
    IfOk-weaker c.is_held_by.result
    (λ (b : Bool). IsSoOf keeper c.args.archive.now c.is_held_by.new.archive (λ a. b ≡ is_any_of (held_by hold.name.now a)))
    (λ (b : Bool). b ≡ true → c.args.is_any ≡ false
    → IsSoOf keeper c.args.archive.now c.is_held_by.new.archive (λ a. IsHeld hold.change hold.name.now a))
    (λ b told yes none clean (a : Archive) s.
    subst (λ change. IsHeld change hold.name.now a) (sym c.in-End.is) (sym (told clean a s) ∙ yes)) c.is_held_by.ensures.held
