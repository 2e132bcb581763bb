use Rattle.std.proofs.Common.{◌≡◌, drop, map}
use Rattle.sieve_check.specs.Lookup.{same_name, row_where}
use Rattle.sieve_check.specs.Tables.{test_table}
use Rattle.sieve_check.specs.Views.{test_view}
use Rattle.sieve_check.proofs.lookup.find_test.Given as goal

abbrev pub invariant-loop-row : goal.invariant-loop-row
invariant-loop-row l = row_where (λ r. same_name l.name r.name) (map test_view (drop l.row-index l.row-items))
    ≡ row_where (λ r. same_name l.name r.name) test_table
