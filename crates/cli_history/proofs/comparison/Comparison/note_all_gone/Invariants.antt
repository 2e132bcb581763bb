use Rattle.std.proofs.Common.{◌≡◌, true}
use Rattle.cli_history.specs.Compared.{is_alike}
use Rattle.cli_history.proofs.comparison.Comparison.note_all_gone.Given as goal

abbrev pub invariant-loop-number : goal.invariant-loop-number
invariant-loop-number l = record {
  rest : l.self ≡ record l.fn.self { found = l.self.found; more = l.self.more; changes = l.self.changes };
  noted : is_alike l.self ≡ true → is_alike l.fn.self ≡ true;
}
