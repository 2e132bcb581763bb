use Rattle.std.proofs.Common.{◌≡◌, drop, map}
use Rattle.sieve_check.specs.Lookup.{same_name, row_where, tag_named}
use Rattle.sieve_check.specs.Views.{tag_view}
use Rattle.sieve_check.proofs.lookup.find_tag.Given as goal

abbrev pub invariant-loop-row : goal.invariant-loop-row
invariant-loop-row l = row_where (λ r. same_name l.name r.name) (map tag_view (drop l.row-index l.tags))
    ≡ tag_named l.fn.name (map tag_view l.fn.tags)
