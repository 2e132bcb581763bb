-- What a search for a key under `i;ascii-casemap` reads, and what it knows of its key.
use Rattle.std.specs.Prelude.{◌≡◌, ◌⊎◌, ℕ, ◌+◌, ◌<◌, ◌≤◌, List, length, slice_index}
use Rattle.memchr.specs.Critical.{IsPeriod, IsCritical, NoPeriodBelow}
use Rattle.memchr.specs.TwoWay.{OccursIn}
use Rattle.sieve_meaning.specs.declared.matching.Comparator.TheVariants.{Casemap}
use Rattle.sieve_meaning.specs.Matching.{fold_octet}
use Rattle.sieve_match.specs.declared.two_way.Order.{Order}
use Rattle.sieve_match.specs.declared.two_way.Order.TheVariants.{Rising, Falling}
use Rattle.sieve_match.specs.declared.two_way.Plan.{Plan}

-- an octet of a text, as it is compared
unfoldable pub folded_octet : List ℕ → ℕ → ℕ
folded_octet text k = fold_octet Casemap (slice_index text k)

-- the key occurs in the value at this place
abbrev pub StandsAt : (value key : List ℕ) → ℕ → Type 0
StandsAt value key k = OccursIn (folded_octet key) (length key) (folded_octet value) (length value) k

-- which of two octets comes first in an order
unfoldable pub Precedes : Order → ℕ → ℕ → Type 0
Precedes Rising a b = a < b
Precedes Falling a b = b < a

-- a key of m octets x, its cut, and how far a mismatch left of the cut moves the search. Below that number the key has
-- no period; if the number is its period, the octets before the last period are known to fit
pub record IsPlan (x : ℕ → ℕ) (m : ℕ) (p : Plan) : Type 0 where
  pub below : p.cut < m
  pub critical : IsCritical x m p.cut
  pub some : 0 < p.shift
  pub fits : p.shift ≤ m
  pub short : NoPeriodBelow x m p.shift
  pub kept : (p.kept ≡ 0) ⊎ ((p.kept + p.shift ≡ m) × (p.cut < p.shift) × IsPeriod x m p.shift)
  pub rare : p.rare < m
