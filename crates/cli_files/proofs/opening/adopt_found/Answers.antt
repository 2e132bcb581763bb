use Rattle.std.proofs.Common.{◌≡◌, sym, subst, inl, inr, arith}
use Rattle.sqlite.specs.State.{HasCleanDisk}
use Rattle.sqlite.specs.Held.{state}
use Rattle.record_tables.specs.Tables.{HasNone}
use Rattle.record_tables.specs.declared.layout.Layout.TheVariants.{Empty}
use Rattle.record_archive.specs.Archive.{Archive}
use Rattle.record_store.specs.Stores.{StandsFor}
use Rattle.cli_files.proofs.opening.adopt_found.Goals as goal

pub returns-in-Ok-clause-stands : goal.returns-in-Ok-clause-stands
returns-in-Ok-clause-stands g c clean a found =
    let Stands : Archive → Type 0 = λ b. StandsFor g.S.Store c.in-Ok.adopted b in
    elim found [
      | inl rows ↦ c.in-Ok.ensures.found clean a rows.0 rows.1
      | inr none ↦ subst Stands (sym none.1) (c.in-Ok.ensures.empty clean none.0)
    ]

pub returns-in-Ok-clause-layout : goal.returns-in-Ok-clause-layout
returns-in-Ok-clause-layout g c =
    let named : c.layout_of.result ≡ Empty → ⊥ = λ e. grind arith in
    elim c.in-Ok.ensures.layout [
      | inl tables ↦ tables
      | inr none ↦ absurd (named (c.layout_of.ensures.empty (subst HasNone (sym c.schema.ensures.value) none)))
    ]

pub returns-in-Ok-clause-clean : goal.returns-in-Ok-clause-clean
returns-in-Ok-clause-clean g c clean =
    let early : HasCleanDisk (state g.S.Store c.in-Ok.adopted.conn) = clean in
    omega (arith, c.in-Ok.ensures.crash.clean)
