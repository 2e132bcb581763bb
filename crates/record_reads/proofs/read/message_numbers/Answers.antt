use Rattle.std.proofs.Common.{refl, sym, map-id, ◌∙◌}
use Rattle.sqlite_tied.specs.Compute.{everything}
use Rattle.record_tables.specs.Reads.{number_values, ReadsNumber}
use Rattle.record_reads.proofs.ReadLemmas.{shows_numbers}
use Rattle.record_reads.proofs.TypedLemmas.{if_ok, back, readable, one_number, can_number}
use Rattle.record_reads.proofs.RawLemmas.{typed_messages}
use Rattle.record_reads.proofs.read.message_numbers.Goals as goal

pub read_all-requires : goal.read_all-requires
unfolding everything
read_all-requires g c = refl

pub returns-clause-all : goal.returns-clause-all
returns-clause-all g c clean =
    if_ok c.read_all.result _ _ (c.read_all.ensures.all clean) (λ all h t s keyed.
    sym (map-id all.items) ∙ back number_values ReadsNumber (λ n. n) one_number h.0 _ all.items (shows_numbers _ _ h.0 t s keyed h.1.0) h.1.1)

pub returns-clause-none : goal.returns-clause-none
returns-clause-none g c clean is t s keyed fits =
    let found = c.read_all.ensures.none clean is in
    found.1.1 (readable number_values _ _ can_number found.0 _ (shows_numbers _ _ found.0 t s keyed found.1.0) fits)

pub returns-clause-typed : goal.returns-clause-typed
returns-clause-typed g c clean =
    if_ok c.read_all.result _ _ (c.read_all.ensures.all clean) (λ all h has. typed_messages (λ n. n) _ _ h.0 all.items h.1.0 h.1.1)
