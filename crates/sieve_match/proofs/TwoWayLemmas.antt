-- What a search for a key under `i;ascii-casemap` knows of the key and of the places that it passes over.
use Rattle.std.proofs.Common.{◌≡◌, ℕ, ◌+◌, ◌-◌, ◌<◌, ◌≤◌, true, eqb, ◌||◌, List, length, take, drop}
use Rattle.std.proofs.Common.{slice_index, max, Option, Some, ⊎_elim, inl, inr, sym, ap, subst, ◌∙◌, arith}
use Rattle.std.specs.Char.{to_ascii_lowercase, to_ascii_uppercase}
use Rattle.std.proofs.Math.ListN.{get_or-map}
use Rattle.std.proofs.lemmas.List.{length-map, length-take-le, length-drop, get_or-take, get_or-drop}
use Rattle.std.proofs.lemmas.Bool.{cases_lt}
use Rattle.std.proofs.lemmas.Bool.Decides.{nat_tests}
use Rattle.memchr.specs.Find.{IsFirst, Nowhere, NoneBefore, Passes, OccursAt, FindsNeedle, is_byte2}
use Rattle.memchr.specs.TwoWay.{IsCut}
use Rattle.memchr.specs.declared.arch.all.twoway.Shift.TheVariants.{Small, Large}
use Rattle.memchr.proofs.lemmas.FindLemmas.{Nowhere-then, Nowhere-wider, IsFirst-agree}
use Rattle.memchr.proofs.lemmas.SearchLemmas.{Nowhere-right, Nowhere-left, known-next, IsShift-large, IsShift-small}
use Rattle.sieve_meaning.specs.declared.matching.Comparator.{Comparator}
use Rattle.sieve_meaning.specs.declared.matching.Comparator.TheVariants.{Casemap}
use Rattle.sieve_meaning.specs.Matching.{fold_octet, fold}
use Rattle.sieve_match.specs.declared.two_way.Order.{Order}
use Rattle.sieve_match.specs.declared.two_way.Order.TheVariants.{Rising, Falling}
use Rattle.sieve_match.specs.declared.two_way.Plan.{Plan}
use Rattle.sieve_match.specs.TwoWay.{folded_octet, StandsAt, Precedes, IsPlan}

pub Precedes-trans : (order : Order) (a b c : ℕ) → Precedes order a b → Precedes order b c → Precedes order a c
unfolding Precedes
Precedes-trans Rising a b c p q = omega arith
Precedes-trans Falling a b c p q = omega arith

pub Precedes-irrefl : (order : Order) (a : ℕ) → Precedes order a a → ⊥
unfolding Precedes
Precedes-irrefl Rising a p = omega arith
Precedes-irrefl Falling a p = omega arith

pub Precedes-opposed : (a b : ℕ) → Precedes Rising a b → Precedes Falling a b → ⊥
unfolding Precedes
Precedes-opposed a b p q = omega arith

-- the plan of a key, by how its cut is known
module _ (x : ℕ → ℕ) (m : ℕ) (p : Plan) (rare : p.rare < m) where
  pub IsPlan-small : IsCut x m p.cut (Small p.shift) → p.kept ≡ m - p.shift → IsPlan x m p
  IsPlan-small h kept =
      let s = IsShift-small p.cut h.shifts in
      record { below = h.below; critical = h.critical; some = s.0; fits = s.2; short = s.4; kept = inr (omega (arith, s.2), s.1, s.3); rare = rare }

  pub IsPlan-large : IsCut x m p.cut (Large p.shift) → p.kept ≡ 0 → IsPlan x m p
  IsPlan-large h kept =
      let s = IsShift-large p.cut h.shifts in
      record { below = h.below; critical = h.critical; some = s.0; fits = s.1; short = s.2; kept = inl kept; rare = rare }

-- an octet that is equal to another as they are compared is that octet in one of its cases
either_case : (b o : ℕ) → fold_octet Casemap b ≡ fold_octet Casemap o → (eqb b (to_ascii_uppercase o) || eqb b (to_ascii_lowercase o)) ≡ true
either_case b o e = grind (arith, nat_tests)

-- a text as it is compared reads as its octets do
read_fold : (text : List ℕ) (k : ℕ) → slice_index (fold Casemap text) k ≡ folded_octet text k
unfolding folded_octet
read_fold text k = get_or-map (fold_octet Casemap) text k 0

occurs_from : (key value : List ℕ) (k : ℕ) → StandsAt value key k → OccursAt (fold Casemap value) (fold Casemap key) k
occurs_from key value k h = record {
  fits = rw (length-map value (fold_octet Casemap), length-map key (fold_octet Casemap)) h.fits;
  reads = λ j l. read_fold value (k + j) ∙ h.reads j (rw (length-map key (fold_octet Casemap)) at l) ∙ sym (read_fold key j);
}

stands_from : (key value : List ℕ) (k : ℕ) → OccursAt (fold Casemap value) (fold Casemap key) k → StandsAt value key k
stands_from key value k h = record {
  fits = rw (length-map value (fold_octet Casemap), length-map key (fold_octet Casemap)) at h.fits;
  reads = λ j l. sym (read_fold value (k + j)) ∙ h.reads j (rw (length-map key (fold_octet Casemap)) l) ∙ read_fold key j;
}

-- the first place of a key is that of its octets as they are compared
pub found_casemap : (c : Comparator) (key value : List ℕ) (r : Option ℕ) → c ≡ Casemap
    → IsFirst (StandsAt value key) 0 (length value + 1) r → FindsNeedle (fold c value) (fold c key) 0 r
found_casemap c key value r is h = rw is (rw (length-map value (fold_octet Casemap))
    (IsFirst-agree (StandsAt value key) (OccursAt (fold Casemap value) (fold Casemap key)) 0 (length value + 1)
    (λ k l s. occurs_from key value k s) (λ k l o. stands_from key value k o) r h))

-- the key occurs at no place where its rare octet occurs in neither case
module _ (key value : List ℕ) (at rare upper lower : ℕ) (inside : rare < length key)
    (within : at + length key ≤ length value) (is_upper : upper ≡ to_ascii_uppercase (slice_index key rare))
    (is_lower : lower ≡ to_ascii_lowercase (slice_index key rare)) where
  -- the octets of the value at which the rare octet may be
  abbrev ahead : List ℕ
  ahead = take (length value - length key + rare + 1 - (at + rare)) (drop (at + rare) value)

  length-ahead : length ahead ≡ length value - length key + rare + 1 - (at + rare)
  length-ahead =
      let fits : length value - length key + rare + 1 - (at + rare) ≤ length (drop (at + rare) value) = rw length-drop (omega arith) in
      length-take-le (length value - length key + rare + 1 - (at + rare)) (drop (at + rare) value) fits

  at-ahead : (j : ℕ) → j < length value - length key + rare + 1 - (at + rare) → slice_index ahead j ≡ slice_index value (at + rare + j)
  at-ahead j l = get_or-take (length value - length key + rare + 1 - (at + rare)) (drop (at + rare) value) j 0 l ∙ get_or-drop (at + rare) value j 0

  passes : (k : ℕ) → at ≤ k → k < length value + 1 - length key → StandsAt value key k → Passes (is_byte2 upper lower) ahead (k - at)
  unfolding folded_octet
  passes k low high h =
      let e : fold_octet Casemap (slice_index value (k + rare)) ≡ fold_octet Casemap (slice_index key rare) = h.reads rare inside in
      let place : at + rare + (k - at) ≡ k + rare = omega arith in
      let octet : slice_index ahead (k - at) ≡ slice_index value (k + rare) = at-ahead (k - at) (omega arith)
      ∙ ap (λ (q : ℕ). slice_index value q) place in
      rw (octet, is_upper, is_lower) (either_case (slice_index value (k + rare)) (slice_index key rare) e)

  pub skipped_all : Nowhere (Passes (is_byte2 upper lower) ahead) 0 (length ahead) → Nowhere (StandsAt value key) at (length value + 1 - length key)
  skipped_all h k low high stands = h (k - at) (omega arith) (omega (arith, length-ahead)) (passes k low high stands)

  pub skipped_to : (j : ℕ) → NoneBefore (Passes (is_byte2 upper lower) ahead) 0 (length ahead) j
      → (at + j < length value + 1 - length key) × Nowhere (StandsAt value key) at (at + j)
  skipped_to j h = (
    omega (arith, h.high, length-ahead),
    λ k low high stands. h.before (k - at) (omega arith) (omega arith) (passes k low (omega (arith, h.high, length-ahead)) stands),
  )

-- one place at which the search compares: the octets from `start` up to `end` fit, and those before `known`
module _ (key value : List ℕ) (p : Plan) (plan : IsPlan (folded_octet key) (length key) p) (some : 0 < length key) (at next known start end : ℕ)
    (passed : Nowhere (StandsAt value key) 0 at) (small : known < length key) (fits : (k : ℕ) → k < known
    → folded_octet key k ≡ folded_octet value (at + k))
    (candidate : (at ≤ next) × (next < length value + 1 - length key)
    × Nowhere (StandsAt value key) at next) (stays : 0 < known → Some next ≡ Some at)
    (start_is : start ≡ max p.cut known) (low : start ≤ end) (high : end ≤ length key) (same : (k : ℕ) → start ≤ k
    → k < end → folded_octet key k ≡ folded_octet value (next + k)) where
  before : Nowhere (StandsAt value key) 0 next
  before = Nowhere-then passed candidate.2

  front : (k : ℕ) → k < known → folded_octet key k ≡ folded_octet value (next + k)
  front k l =
      let s = stays (omega arith) in
      let e : at ≡ next = cc in
      subst (λ (q : ℕ). folded_octet key k ≡ folded_octet value (q + k)) e (fits k l)

  right : (k : ℕ) → p.cut ≤ k → k < end → folded_octet key k ≡ folded_octet value (next + k)
  right k a b = ⊎_elim (λ inside. front k (omega arith)) (λ outside. same k outside b) (cases_lt k start)

  pub after_right : end < length key → (folded_octet key end ≡ folded_octet value (next + end) → ⊥)
      → Nowhere (StandsAt value key) 0 (next + (end - p.cut + 1))
  after_right below differs =
      Nowhere-then before (Nowhere-right (folded_octet key) (length key) (folded_octet value) (length value) p.cut
      plan.critical next end (omega arith) below right differs)

  pub found : length key ≤ end → ((k : ℕ) → known ≤ k → k < p.cut → folded_octet key k ≡ folded_octet value (next + k))
      → IsFirst (StandsAt value key) 0 (length value + 1) (Some next)
  found full left = (
    record { low = omega arith; high = omega (arith, candidate.1); before = before },
    record {
      fits = omega (arith, candidate.1);
      reads = λ j l. sym (⊎_elim
          (λ early. front j early)
          (λ late. ⊎_elim (λ inside. left j late inside) (λ outside. right j outside (omega arith)) (cases_lt j p.cut))
          (cases_lt j known));
    },
  )

  pub after_left : length key ≤ end
      → (((k : ℕ) → known ≤ k → k < p.cut → folded_octet key k ≡ folded_octet value (next + k)) → ⊥)
      → Nowhere (StandsAt value key) 0 (next + p.shift)
  after_left full differs =
      Nowhere-then before (Nowhere-left (folded_octet key) (length key) (folded_octet value) (length value) p.cut
      p.shift plan.critical plan.short next
      (λ k a b. right k a (omega arith)) (λ occurs. differs (λ k a b. sym (occurs.reads k (omega (arith, plan.below))))))

  pub kept_fits : length key ≤ end → (k : ℕ) → k < p.kept → folded_octet key k ≡ folded_octet value (next + p.shift + k)
  kept_fits full k l = ⊎_elim
      (λ none. absurd (omega (arith, none)))
      (λ s. known-next (folded_octet key) (length key) (folded_octet value) (length value) p.cut p.shift s.2 s.1 next
      (λ j a b. right j a (omega arith)) k (omega (arith, s.0)))
      plan.kept

pub kept_below : (x : ℕ → ℕ) (m : ℕ) (p : Plan) → IsPlan x m p → 0 < m → p.kept < m
kept_below x m p plan some = ⊎_elim (λ none. omega (arith, none)) (λ s. omega (arith, s.0, plan.some)) plan.kept

-- if each place at which the key could be was passed over, it occurs nowhere
pub stands_nowhere : (key value : List ℕ) (bound : ℕ) → Nowhere (StandsAt value key) 0 bound
    → length value < bound + length key → Nowhere (StandsAt value key) 0 (length value + 1)
stands_nowhere key value bound h past = Nowhere-wider (length value + 1) (λ k s. omega (arith, s.fits)) h
