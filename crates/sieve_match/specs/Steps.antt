-- One step of a search for what a pattern covers: what its first item does at the front of a text.
use Rattle.std.specs.Prelude.{ℕ, suc, List, [], ◌∷◌, ◌==◌, if◌then◌else◌}
use Rattle.sieve_meaning.specs.declared.matching.Comparator.{Comparator}
use Rattle.sieve_meaning.specs.declared.matching.Item.{Item}
use Rattle.sieve_meaning.specs.declared.matching.Item.TheVariants.{Octet, One, Any}
use Rattle.sieve_meaning.specs.Matching.{fold_octet, items_of}
use Rattle.sieve_match.specs.declared.wildcards.Step.{Step}
use Rattle.sieve_match.specs.declared.wildcards.Step.TheVariants as steps

-- a step over items, where the code's is over the pattern's octets
pub data Turn : Type 0 where
  ends : Turn
  star : List Item → Turn
  goes : List Item → List ℕ → Turn
  stuck : Turn

abbrev pub turn_of : Comparator → List Item → List ℕ → Turn
turn_of c [] [] = ends
turn_of c [] (b ∷ bs) = stuck
turn_of c (Octet o ∷ is) [] = stuck
turn_of c (Octet o ∷ is) (b ∷ bs) = if fold_octet c o == fold_octet c b then goes is bs else stuck
turn_of c (One ∷ is) [] = stuck
turn_of c (One ∷ is) (b ∷ bs) = goes is bs
turn_of c (Any ∷ is) text = star is

abbrev pub turn_view : Step → Turn
turn_view steps.Ends = ends
turn_view (steps.Star p) = star (items_of p.now)
turn_view (steps.Goes p t) = goes (items_of p.now) t.now
turn_view steps.Stuck = stuck

-- how many octets the first item compares with the front of a text: one, if the item is an octet and the text has one
abbrev pub compared_length : List Item → List ℕ → ℕ
compared_length [] text = 0
compared_length (Octet o ∷ is) [] = 0
compared_length (Octet o ∷ is) (b ∷ bs) = 1
compared_length (One ∷ is) text = 0
compared_length (Any ∷ is) text = 0

-- how many items of a pattern are octets
abbrev pub octet_count : List Item → ℕ
octet_count [] = 0
octet_count (Octet o ∷ is) = suc (octet_count is)
octet_count (One ∷ is) = octet_count is
octet_count (Any ∷ is) = octet_count is
