use Rattle.std.proofs.Common.{refl}
use Rattle.sqlite_tied.specs.Compute.{everything}
use Rattle.record_tables.specs.Reads.{pair_values, ReadsPair}
use Rattle.record_tables.specs.CodeRows.{pair_of}
use Rattle.record_reads.proofs.ReadLemmas.{shows_settings}
use Rattle.record_reads.proofs.TypedLemmas.{if_ok, back, readable_all, one_setting, can_setting}
use Rattle.record_reads.proofs.read.settings.Goals as goal

pub read_all-requires : goal.read_all-requires
unfolding everything
read_all-requires g c = refl

pub returns-clause-all : goal.returns-clause-all
returns-clause-all g c clean =
    if_ok c.read_all.result _ _ (c.read_all.ensures.all clean) (λ all h t ps are s keyed.
    back pair_values ReadsPair pair_of one_setting h.0 _ all.items (shows_settings _ _ h.0 t ps s keyed are h.1.0) h.1.1)

pub returns-clause-none : goal.returns-clause-none
returns-clause-none g c clean is t ps are s keyed =
    let found = c.read_all.ensures.none clean is in
    found.1.1 (readable_all pair_values _ can_setting found.0 _ (shows_settings _ _ found.0 t ps s keyed are found.1.0))
