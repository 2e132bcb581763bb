-- Numbers that are typed, and of which no event tells, on worked rows.
use Rattle.std.proofs.Common.{◌≡◌, ◌∷◌, [], true, false, List, codes, refl}
use Rattle.choice_words.specs.declared.numbers.TypedNumbers.{TypedNumbers}
use Rattle.choice_words.specs.declared.numbers.TypedNumbers.TheVariants.{One, Range}
use Rattle.record_history.specs.Events.{Held, ReasonsRequired}
use Rattle.cli_history.specs.Missing.{are_met, unmet}

abbrev typed : List TypedNumbers
typed = One 4 ∷ Range 7 9 ∷ One 12 ∷ []

-- one record of a range is enough
some_left : unmet typed (Held (codes "audit") 8 ∷ ReasonsRequired ∷ Held (codes "audit") 5 ∷ []) ≡ One 4 ∷ One 12 ∷ []
some_left = refl

not_all : are_met typed (Held (codes "audit") 8 ∷ Held (codes "audit") 4 ∷ []) ≡ false
not_all = refl

all : are_met typed (Held (codes "audit") 12 ∷ Held (codes "audit") 7 ∷ Held (codes "audit") 4 ∷ []) ≡ true
all = refl
