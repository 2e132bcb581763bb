-- The choice that is typed.
use Rattle.std.specs.Prelude.{ℕ, ◌==◌, Bool, true, false, List, [], ◌∷◌, ◌++◌, map, Option, Some, None, option_map, if◌then◌else◌}
use Rattle.std.specs.List.{list_any}
use Rattle.jiff.specs.Words.{epoch_day}
use Rattle.choice_words.specs.declared.choice.Choice as words
use Rattle.choice_words.specs.declared.numbers.TypedNumbers.{TypedNumbers}
use Rattle.choice_words.specs.declared.numbers.TypedNumbers.TheVariants.{One, Range}
use Rattle.record_choice.specs.Choices.{Span, Choice, anyone, is_in}

-- one number, or the numbers from the first to the last
abbrev pub span_typed : TypedNumbers → Span
span_typed (One n) = record { first = n; last = n }
span_typed (Range first last) = record { first = first; last = last }

-- nothing is asked of numbers where none is typed
abbrev pub spans_typed : List TypedNumbers → Option (List Span)
spans_typed [] = None
spans_typed (t ∷ ts) = Some (map span_typed (t ∷ ts))

-- THE CHOICE THAT IS TYPED
abbrev pub choice_typed : words.Choice → Choice
choice_typed c = record {
  numbers = spans_typed c.numbers.items;
  class = option_map (λ t. t.now) c.class;
  live = c.is_live;
  destroyed = c.is_destroyed;
  held = if c.is_held then Some anyone else None;
  since = option_map epoch_day c.since;
  until = option_map epoch_day c.until;
  due = option_map epoch_day c.due;
}

-- a number is one of those that a word means
abbrev pub is_number : ℕ → TypedNumbers → Bool
is_number n t = is_in n (span_typed t)

-- a number is typed, by itself or in a range
abbrev pub is_among : List TypedNumbers → ℕ → Bool
is_among ts n = list_any (is_number n) ts

-- a number is typed by itself
abbrev pub is_one : ℕ → TypedNumbers → Bool
is_one n (One m) = m == n
is_one n (Range first last) = false

abbrev pub single : TypedNumbers → List ℕ
single (One n) = n ∷ []
single (Range first last) = []

-- the numbers that are typed by themselves
abbrev pub singles : List TypedNumbers → List ℕ
singles [] = []
singles (t ∷ ts) = single t ++ singles ts
