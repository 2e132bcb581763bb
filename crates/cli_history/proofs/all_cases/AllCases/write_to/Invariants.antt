use Rattle.cli_history.proofs.AllCaseLemmas.{AreBegun}
use Rattle.cli_history.proofs.all_cases.AllCases.write_to.Given as goal

-- some cases are written, and the others are left
abbrev pub invariant-loop-name : goal.invariant-loop-name
invariant-loop-name g l = record {
  can : (goal.iterator-loop-name g).can_next l.name-iterator;
  finite : (goal.iterator-loop-name g).is_finite l.name-iterator;
  so_far : AreBegun g.K.Sink.written l.is_json l.self.cases.entries l.name-iterator l.fn.sink l.sink l.is_first;
}
