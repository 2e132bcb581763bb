use Rattle.std.proofs.Common.{◌≡◌, drop, map}
use Rattle.sieve_check.specs.Lookup.{same_text, row_where}
use Rattle.sieve_check.specs.Tables.{capability_table}
use Rattle.sieve_check.specs.Views.{capability_view}
use Rattle.sieve_check.proofs.lookup.find_capability.Given as goal

abbrev pub invariant-loop-row : goal.invariant-loop-row
invariant-loop-row l = row_where (λ r. same_text l.text r.text) (map capability_view (drop l.row-index l.row-items))
    ≡ row_where (λ r. same_text l.text r.text) capability_table
