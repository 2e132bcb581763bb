use Rattle.std.proofs.Common.{refl}
use Rattle.sqlite_tied.specs.Compute.{everything}
use Rattle.record_tables.specs.Reads.{class_values, ReadsClass}
use Rattle.record_tables.specs.CodeRows.{class_entry_of}
use Rattle.record_reads.proofs.ReadLemmas.{shows_classes}
use Rattle.record_reads.proofs.TypedLemmas.{if_ok, back, readable_all, one_class, can_class}
use Rattle.record_reads.proofs.RawLemmas.{typed_classes}
use Rattle.record_reads.proofs.read.classes.Goals as goal

pub read_all-requires : goal.read_all-requires
unfolding everything
read_all-requires g c = refl

pub returns-clause-all : goal.returns-clause-all
returns-clause-all g c clean =
    if_ok c.read_all.result _ _ (c.read_all.ensures.all clean) (λ all h t cs are s keyed.
    back class_values ReadsClass class_entry_of one_class h.0 _ all.items (shows_classes _ _ h.0 t cs s keyed are h.1.0) h.1.1)

pub returns-clause-none : goal.returns-clause-none
returns-clause-none g c clean is t cs are s keyed =
    let found = c.read_all.ensures.none clean is in
    found.1.1 (readable_all class_values _ can_class found.0 _ (shows_classes _ _ found.0 t cs s keyed are found.1.0))

pub returns-clause-typed : goal.returns-clause-typed
returns-clause-typed g c clean =
    if_ok c.read_all.result _ _ (c.read_all.ensures.all clean) (λ all h has. typed_classes class_entry_of _ _ h.0 all.items h.1.0 h.1.1)
