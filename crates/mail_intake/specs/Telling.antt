-- What is told of messages that stay: each once a day, and again where the reason is another one.
use Rattle.std.specs.Prelude.{◌≡◌, ◌↔◌, ℕ, ◌==◌, ◌<◌, ◌^◌, Bool, true, not, ◌&&◌, List, [], ◌∷◌, ◌++◌, map, Option, Some}
use Rattle.std.specs.Fmt.{decimal}
use Rattle.std.specs.List.{AllByRecursion, flat_map, list_all, list_any, slice_split}
use Rattle.std.specs.Str.{bytes_eq}
use Rattle.mail_intake.specs.declared.memory.Memory.{Memory as Remembered}
use Rattle.mail_intake.specs.declared.memory.Told.{Told as Entry}

-- that a message was told to stay, and the words for it
pub record Told : Type 0 where
  pub name : List ℕ
  pub words : List ℕ

-- what was told on a day, counted from 1970-01-01
pub record Memory : Type 0 where
  pub day : ℕ
  pub told : List Told

-- without where it is kept
abbrev pub told_view : Entry → Told
told_view t = record { name = t.name.items; words = t.words.items }

abbrev pub memory_view : Remembered → Memory
memory_view m = record { day = m.day; told = map told_view m.told.items }

abbrev pub is_of : (name words : List ℕ) → Told → Bool
is_of name words t = bytes_eq t.name name && bytes_eq t.words words

-- what is to be told of a message on a day: what was not told of it, in the same words, on that day
abbrev pub is_to_be_told : (name words : List ℕ) → (day : ℕ) → Memory → Bool
is_to_be_told name words day memory = not ((memory.day == day) && list_any (is_of name words) memory.told)

-- ---- in octets

abbrev pub field : List ℕ → List ℕ
field value = value ++ 0 ∷ []

abbrev pub entry : Told → List ℕ
entry t = field t.name ++ field t.words

-- the day, and each name with its words
abbrev pub spelling : Memory → List ℕ
spelling m = field (decimal m.day) ++ flat_map entry m.told

abbrev pub HasNoNul : List ℕ → Type 0
HasNoNul octets = list_all (λ o. not (o == 0)) octets ≡ true

abbrev pub IsPlain : Told → Type 0
IsPlain t = HasNoNul t.name × HasNoNul t.words

-- what octets can keep: a day of 64 bits, and names and words without the NUL that ends each of them
pub record CanBeKept (m : Memory) : Type 0 where
  pub day : m.day < 2 ^ 64
  pub told : AllByRecursion IsPlain m.told

abbrev pub Keeps : List ℕ → Memory → Type 0
Keeps octets m = CanBeKept m × (octets ≡ spelling m)

-- WHAT IS READ IS THE MEMORY THAT THE OCTETS KEEP: this one and no other, and none only where they keep none
abbrev pub IsReading : List ℕ → Option Memory → Type 0
IsReading octets found = (m : Memory) → Keeps octets m ↔ (found ≡ Some m)

-- what stands between the NULs
abbrev pub fields_of : List ℕ → List (List ℕ)
fields_of octets = slice_split (λ o. o == 0) octets

-- each two fields are a name and its words
abbrev pub entries_of : List (List ℕ) → List Told
entries_of [] = []
entries_of (name ∷ []) = []
entries_of (name ∷ words ∷ rest) = record { name = name; words = words } ∷ entries_of rest
