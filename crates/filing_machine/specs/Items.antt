-- The topmost items of a machine's stack.
use Rattle.std.specs.Prelude.{List, [], ◌∷◌}
use Rattle.filing_machine.specs.declared.state.Item.{Item}
use Rattle.filing_machine.specs.declared.state.Item.TheVariants.{Truth, Fields, Count}

-- a truth value on the top
abbrev pub HasTruth : List Item → Type 0
HasTruth (Truth b ∷ items) = Unit {0}
HasTruth _ = ⊥

-- a list on the top
abbrev pub HasFields : List Item → Type 0
HasFields (Fields places ∷ items) = Unit {0}
HasFields _ = ⊥

-- a number on the top
abbrev pub HasCount : List Item → Type 0
HasCount (Count n ∷ items) = Unit {0}
HasCount _ = ⊥

-- two lists on the top
abbrev pub HasTwo : List Item → Type 0
HasTwo (Fields ys ∷ Fields xs ∷ items) = Unit {0}
HasTwo _ = ⊥

-- no item
abbrev pub IsBare : List Item → Type 0
IsBare [] = Unit {0}
IsBare _ = ⊥
