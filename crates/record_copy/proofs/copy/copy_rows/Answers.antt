use Rattle.std.proofs.Common.{◌≡◌, sym, ap, subst, refl, true, ◌∙◌, Err}
use Rattle.sqlite.specs.Effect.{Database}
use Rattle.sqlite.specs.State.{HasCleanDisk}
use Rattle.sqlite.specs.Held.{state}
use Rattle.record_archive.specs.Archive.{Archive}
use Rattle.record_tables.specs.Rows.{Stores}
use Rattle.record_copy.proofs.CauseLemmas.{handed_on, no_archive_read}
use Rattle.record_copy.proofs.CopyLemmas.{stores_copied}
use Rattle.record_copy.proofs.LookLemmas.{looks_then}
use Rattle.record_copy.proofs.copy.copy_rows.Goals as goal

pub returns-clause-copies : goal.returns-clause-copies
returns-clause-copies g c clean_from clean_to = λ (a : Archive) plan s.
    let from = state g.S.Store c.args.from.now in
    let to = state g.T.Store c.args.to.now in
    let mid = state g.T.Store c.place_plan.new.to in
    let new = state g.T.Store c.fill.new.to in
    let rows = c.in_ok-rows.rows in
    let back = c.fill.ensures.looks.falls clean_from in
    let told = c.in_ok-rows.ensures.tells back s.tables s.stored s.keyed in
    let kept = c.in_ok-rows.ensures.kept back s.stored.schema in
    let stored = subst (λ (db : Database). Stores db s.tables) (sym kept) s.stored in
    let filled = c.in_ok-fill.ensures.filled clean_to clean_from s.tables stored s.keyed c.args.plan.now told in
    let clean_mid : HasCleanDisk mid = c.fill.ensures.falls clean_to in (
      c.place_plan.ensures.was_open clean_mid filled.0,
      λ (b : Archive) k blank.
          let laid = rw c.as_slice.ensures.value at (c.in_ok-place_plan.ensures.ok clean_mid) in
          let kept_rows = stores_copied c.args.plan.now a b from.now to.now mid.now new.now rows plan s k blank told laid filled.1 in
          let alone : c.is_alone.result ≡ true = search in
          record { tables = sym c.schema.ensures.value ∙ c.is_alone.ensures.0 alone; rows = kept_rows },
    )

pub returns-clause-looks : goal.returns-clause-looks
returns-clause-looks g c =
    looks_then g.S.Store c.args.from.now c.read_source.new.from c.fill.new.from c.read_source.ensures.looks
    c.in_ok-rows.ensures.kept c.fill.ensures.looks

pub returns-in_err-rows-clause-lost : goal.returns-in_err-rows-clause-lost
returns-in_err-rows-clause-lost g c clean is = λ (a : Archive) archive s.
    let e = no_archive_read c.from_residual.result c.in_err-rows.field-0.0 c.from_residual.ensures.1 is in
    c.in_err-rows.ensures.none clean (ap Err e) a archive s

pub returns-in_err-place_plan-clause-lost : goal.returns-in_err-place_plan-clause-lost
returns-in_err-place_plan-clause-lost g c clean is =
    let e = handed_on c.from_residual-in_err-place_plan.result c.in_err-place_plan.field-0.0 c.from_residual-in_err-place_plan.ensures.1 is in
    absurd (c.in_err-place_plan.ensures.never (ap Err e))

pub returns-in_err-fill-clause-lost : goal.returns-in_err-fill-clause-lost
returns-in_err-fill-clause-lost g c clean is = λ (a : Archive) archive s.
    let e = handed_on c.from_residual-in_err-fill.result c.in_err-fill.field-0.0 c.from_residual-in_err-fill.ensures.1 is in
    let back = c.fill.ensures.looks.falls clean in
    let told = c.in_ok-rows.ensures.tells back s.tables s.stored s.keyed in
    let kept = c.in_ok-rows.ensures.kept back s.stored.schema in
    let stored = subst (λ (db : Database). Stores db s.tables) (sym kept) s.stored in
    c.in_err-fill.ensures.lost clean (ap Err e) s.tables stored s.keyed c.args.plan.now told

pub returns-in_err-fill-clause-looks : goal.returns-in_err-fill-clause-looks
returns-in_err-fill-clause-looks g c =
    looks_then g.S.Store c.args.from.now c.read_source.new.from c.fill.new.from c.read_source.ensures.looks
    c.in_ok-rows.ensures.kept c.fill.ensures.looks

pub returns-then-not-is_alone-clause-looks : goal.returns-then-not-is_alone-clause-looks
returns-then-not-is_alone-clause-looks g c =
    looks_then g.S.Store c.args.from.now c.read_source.new.from c.fill.new.from c.read_source.ensures.looks
    c.in_ok-rows.ensures.kept c.fill.ensures.looks
