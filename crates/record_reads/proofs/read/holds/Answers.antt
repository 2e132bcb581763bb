use Rattle.std.proofs.Common.{refl}
use Rattle.sqlite_tied.specs.Compute.{everything}
use Rattle.record_tables.specs.Reads.{hold_values, ReadsHold}
use Rattle.record_tables.specs.CodeRows.{hold_entry_of}
use Rattle.record_reads.proofs.ReadLemmas.{shows_holds}
use Rattle.record_reads.proofs.TypedLemmas.{if_ok, back, readable, one_hold, can_hold}
use Rattle.record_reads.proofs.RawLemmas.{typed_holds}
use Rattle.record_reads.proofs.read.holds.Goals as goal

pub read_all-requires : goal.read_all-requires
unfolding everything
read_all-requires g c = refl

pub returns-clause-all : goal.returns-clause-all
returns-clause-all g c clean =
    if_ok c.read_all.result _ _ (c.read_all.ensures.all clean) (λ all h t hs are s keyed.
    back hold_values ReadsHold hold_entry_of one_hold h.0 _ all.items (shows_holds _ _ h.0 t hs s keyed are h.1.0) h.1.1)

pub returns-clause-none : goal.returns-clause-none
returns-clause-none g c clean is t hs are s keyed fits =
    let found = c.read_all.ensures.none clean is in
    found.1.1 (readable hold_values _ _ can_hold found.0 _ (shows_holds _ _ found.0 t hs s keyed are found.1.0) fits)

pub returns-clause-typed : goal.returns-clause-typed
returns-clause-typed g c clean =
    if_ok c.read_all.result _ _ (c.read_all.ensures.all clean) (λ all h has. typed_holds hold_entry_of _ _ h.0 all.items h.1.0 h.1.1)
