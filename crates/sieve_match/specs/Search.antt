-- The comparisons of a search for what a pattern covers (RFC 5228, section 2.7.1): its tries, and the comparisons of
-- each.
use Rattle.std.specs.Prelude.{◌≡◌, ℕ, suc, ◌+◌, Bool, true, false, List, [], ◌∷◌, ◌==◌, if◌then◌else◌}
use Rattle.sieve_meaning.specs.declared.matching.Comparator.{Comparator}
use Rattle.sieve_meaning.specs.declared.matching.Item.{Item}
use Rattle.sieve_meaning.specs.declared.matching.Item.TheVariants.{Octet, One, Any}
use Rattle.sieve_meaning.specs.Matching.{fold_octet}

-- how a try ends: the items cover the text; or they fit up to a `*`, with the items after it and the rest of the text;
-- or one does not fit
pub data Trial : Type 0 where
  covered : Trial
  to_star : List Item → List ℕ → Trial
  misfit : Trial

-- a try: the items are laid on a text, one after another from its front on, up to the next `*`
abbrev pub trial : Comparator → List Item → List ℕ → Trial
trial c [] [] = covered
trial c [] (b ∷ bs) = misfit
trial c (Octet o ∷ is) [] = misfit
trial c (Octet o ∷ is) (b ∷ bs) = if fold_octet c o == fold_octet c b then trial c is bs else misfit
trial c (One ∷ is) [] = misfit
trial c (One ∷ is) (b ∷ bs) = trial c is bs
trial c (Any ∷ is) text = to_star is text

-- the comparisons of a try: one for each item that is an octet, up to the first that differs from its octet
abbrev pub comparisons : Comparator → List Item → List ℕ → ℕ
comparisons c [] text = 0
comparisons c (Octet o ∷ is) [] = 0
comparisons c (Octet o ∷ is) (b ∷ bs) = suc (if fold_octet c o == fold_octet c b then comparisons c is bs else 0)
comparisons c (One ∷ is) [] = 0
comparisons c (One ∷ is) (b ∷ bs) = comparisons c is bs
comparisons c (Any ∷ is) text = 0

-- a search, its answer, and its comparisons, which are those of all its tries. What comes before the first `*` is tried
-- at the front of the value only. What comes after a `*` is tried at one place after another, from where the items
-- before it ended, up to the first place where it fits. The flag says whether a `*` comes before the items
pub data Search (c : Comparator) : Bool → List Item → List ℕ → Bool → ℕ → Type 0 where
  covers_all : (starred : Bool) (items : List Item) (text : List ℕ) → trial c items text ≡ covered →
      Search c starred items text true (comparisons c items text)
  at_star : (starred : Bool) (items next : List Item) (text rest : List ℕ) (answer : Bool) (n : ℕ) →
      trial c items text ≡ to_star next rest → Search c true next rest answer n →
      Search c starred items text answer (comparisons c items text + n)
  at_front : (items : List Item) (text : List ℕ) → trial c items text ≡ misfit →
      Search c false items text false (comparisons c items text)
  at_end : (items : List Item) → trial c items [] ≡ misfit → Search c true items [] false (comparisons c items [])
  next_place : (items : List Item) (b : ℕ) (text : List ℕ) (answer : Bool) (n : ℕ) →
      trial c items (b ∷ text) ≡ misfit → Search c true items text answer n →
      Search c true items (b ∷ text) answer (comparisons c items (b ∷ text) + n)
