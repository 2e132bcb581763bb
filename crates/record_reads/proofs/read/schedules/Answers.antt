use Rattle.std.proofs.Common.{refl}
use Rattle.sqlite_tied.specs.Compute.{everything}
use Rattle.record_tables.specs.Reads.{rule_values, ReadsRule}
use Rattle.record_tables.specs.CodeRows.{rule_of}
use Rattle.record_reads.proofs.ReadLemmas.{shows_schedules}
use Rattle.record_reads.proofs.TypedLemmas.{if_ok, back, readable, one_rule, can_rule}
use Rattle.record_reads.proofs.RawLemmas.{typed_schedules}
use Rattle.record_reads.proofs.read.schedules.Goals as goal

pub read_all-requires : goal.read_all-requires
unfolding everything
read_all-requires g c = refl

pub returns-clause-all : goal.returns-clause-all
returns-clause-all g c clean =
    if_ok c.read_all.result _ _ (c.read_all.ensures.all clean) (λ all h t rs are s keyed.
    back rule_values ReadsRule rule_of one_rule h.0 _ all.items (shows_schedules _ _ h.0 t rs s keyed are h.1.0) h.1.1)

pub returns-clause-none : goal.returns-clause-none
returns-clause-none g c clean is t rs are s keyed fits =
    let found = c.read_all.ensures.none clean is in
    found.1.1 (readable rule_values _ _ can_rule found.0 _ (shows_schedules _ _ found.0 t rs s keyed are found.1.0) fits)

pub returns-clause-typed : goal.returns-clause-typed
returns-clause-typed g c clean =
    if_ok c.read_all.result _ _ (c.read_all.ensures.all clean) (λ all h has. typed_schedules rule_of _ _ h.0 all.items h.1.0 h.1.1)
