-- Rows in an order by a key, as a stable sort leaves them.
use Rattle.std.proofs.Common.{◌≡◌, List, ap, Bor, Ordering}
use Rattle.std.proofs.lemmas.Fn.{always_returns_same}
use Rattle.std.proofs.lemmas.List.MinMax.{ranks_by}
use Rattle.std.specs.Cmp.{IsTotalOrder}
use Rattle.std.specs.Fn.{Mut, Called}
use Rattle.std.specs.List.Sorted.{IsPermutation, IsSortedByClosure, IsStableByClosure}
use Rattle.std.specs.Ordering.{is_lt}
use Rattle.cli_page.specs.declared.index.Row.{Row}
use Rattle.cli_page.specs.Indexes.{IsOrderedBy}

module _ {K : Type 0} {R : K → K → Ordering} (total : IsTotalOrder R) (key : Row → K) where
  -- each call compares the keys of the two rows
  pub ordered_by : {F : Type 0} {g : Mut F (Bor Row × (Bor Row × Unit {0})) Ordering} {f : F} (added shown : List Row)
      → IsPermutation added shown → IsSortedByClosure g f shown → IsStableByClosure g f added shown
      → ((a : Bor Row × (Bor Row × Unit {0})) (r : Ordering) (f' : F) → Called g f a r f' → (r ≡ R (key a.0.now) (key a.1.0.now)) × (f' ≡ f))
      → IsOrderedBy (λ one other. is_lt (R (key one) (key other))) added shown
  ordered_by {g = g} {f = f} added shown each up ties calls =
      let ranks = ranks_by total key in
      let answers = always_returns_same g (λ a r. is_lt r ≡ is_lt (R (key a.0.now) (key a.1.0.now))) f
      (λ a r f' k. (ap is_lt (calls a r f' k).0, (calls a r f' k).1)) in
      record { each = each; ordered = up _ ranks answers; ties = ties _ ranks answers }
