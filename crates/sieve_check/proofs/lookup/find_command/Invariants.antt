use Rattle.std.proofs.Common.{◌≡◌, drop, map}
use Rattle.sieve_check.specs.Lookup.{same_name, row_where}
use Rattle.sieve_check.specs.Tables.{command_table}
use Rattle.sieve_check.specs.Views.{command_view}
use Rattle.sieve_check.proofs.lookup.find_command.Given as goal

abbrev pub invariant-loop-row : goal.invariant-loop-row
invariant-loop-row l = row_where (λ r. same_name l.name r.name) (map command_view (drop l.row-index l.row-items))
    ≡ row_where (λ r. same_name l.name r.name) command_table
