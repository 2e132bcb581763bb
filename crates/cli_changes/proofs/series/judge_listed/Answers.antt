use Rattle.std.proofs.lemmas.Bool.Decides.{Decides-eqb}
use Rattle.std.proofs.lemmas.Slice.Eq.{slice_eq-Decides}
use Rattle.cli_changes.proofs.series.judge_listed.Goals as goal

pub returns-then-eq : goal.returns-then-eq
returns-then-eq c = (slice_eq-Decides Decides-eqb _ _ _ c.eq.ensures).0 c.if-eq.true
