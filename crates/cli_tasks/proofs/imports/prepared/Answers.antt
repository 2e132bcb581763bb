use Rattle.std.proofs.Common.{List, subst, ℕ}
use Rattle.cli_tasks.specs.Captured.{ShowsCaptured}
use Rattle.cli_tasks.proofs.imports.prepared.Goals as goal

pub returns : goal.returns
returns g c = record {
  glances = c.captured_for.ensures.glances;
  has = c.in_ok-known.known;
  shown = subst (λ (o : List ℕ). ShowsCaptured g.S.Store o c.args.archive.now c.captured_for.new.archive.conn c.in_ok-known.known)
      c.as_str.ensures.value c.in_ok-known.ensures.captured;
  knows = c.in_ok-know.ensures;
}
