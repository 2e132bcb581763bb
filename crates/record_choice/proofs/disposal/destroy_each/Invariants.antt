use Rattle.std.proofs.Common.{◌≡◌, List, take}
use Rattle.jiff.specs.Words.{epoch_day}
use Rattle.record_archive.specs.Archive.{Archive}
use Rattle.record_choice.specs.Disposals.{Certificate, Destroys, HandsOver, IsKnown}
use Rattle.record_choice.proofs.disposal.destroy_each.Given as goal

abbrev pub invariant-loop-number : goal.invariant-loop-number
invariant-loop-number g l = record {
  at : l.count ≡ l.number-index;
  takes : g.K.Registrar.is_open l.registrar;
  falls : g.R.Repository.clean l.records → g.R.Repository.clean l.fn.records;
  done : (cs : List Certificate) × HandsOver g.K.Registrar.takes l.fn.registrar cs l.registrar
      × (g.R.Repository.clean l.records → (a : Archive) → g.R.Repository.stands l.fn.records a
      → Destroys (λ b. g.R.Repository.stands l.records b × IsKnown b l.known) (epoch_day l.day) (take l.number-index l.numbers) cs a);
}
