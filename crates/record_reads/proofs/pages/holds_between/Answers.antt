use Rattle.std.proofs.Common.{◌<◌, ◌^◌, refl, arith}
use Rattle.sqlite_tied.specs.Compute.{everything}
use Rattle.record_tables.specs.Reads.{hold_values, ReadsHold}
use Rattle.record_tables.specs.CodeRows.{hold_entry_of}
use Rattle.record_reads.proofs.PageReads.{shows_between, all_fit}
use Rattle.record_reads.proofs.TypedLemmas.{if_ok, back, readable, one_hold, can_hold}
use Rattle.record_reads.proofs.pages.holds_between.Goals as goal

pub read_all-requires : goal.read_all-requires
unfolding everything
read_all-requires g c = refl

pub returns-clause-all : goal.returns-clause-all
returns-clause-all g c clean =
    if_ok c.read_all.result _ _ (c.read_all.ensures.all clean) (λ all h t hs are s keyed.
    let asked = rw (c.to_sql.ensures, c.to_sql-2.ensures) at h.1.0 in
    let shown = shows_between _ _ h.0 c.args.first c.args.last t hs s keyed are asked in
    back hold_values ReadsHold hold_entry_of one_hold h.0 _ all.items shown h.1.1)

pub returns-clause-none : goal.returns-clause-none
returns-clause-none g c clean is t hs are s keyed =
    let found = c.read_all.ensures.none clean is in
    let low : c.args.last < 2 ^ 32 = omega arith in
    let asked = rw (c.to_sql.ensures, c.to_sql-2.ensures) at found.1.0 in
    let shown = shows_between _ _ found.0 c.args.first c.args.last t hs s keyed are asked in
    found.1.1 (readable hold_values _ _ can_hold found.0 _ shown (all_fit c.args.first c.args.last low hs))
