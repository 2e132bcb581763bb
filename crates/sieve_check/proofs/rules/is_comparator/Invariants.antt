use Rattle.std.proofs.Common.{◌≡◌, drop, map}
use Rattle.std.specs.List.{list_any}
use Rattle.sieve_check.specs.Lookup.{same_text}
use Rattle.sieve_check.specs.Tables.{comparator_table}
use Rattle.sieve_check.proofs.rules.is_comparator.Given as goal

abbrev pub invariant-loop-name : goal.invariant-loop-name
invariant-loop-name l = list_any (λ t. same_text l.text t) (map (λ t. t.now) (drop l.name-index l.name-items))
    ≡ list_any (λ t. same_text l.text t) comparator_table
