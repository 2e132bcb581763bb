-- Archives of volumes: several archives in a row, which answer as one.
use Rattle.std.specs.Prelude.{ℕ, ◌+◌, ◌==◌, nat_le, nat_lt, Bool, ◌&&◌, ◌||◌, List, [], ◌∷◌, ◌++◌, map, filter, Option, Some, None, option_map}
use Rattle.std.specs.Prelude.{if◌then◌else◌}
use Rattle.std.specs.List.{list_any}
use Rattle.record_archive.specs.Archive.{Archive, Record}
use Rattle.record_choice.specs.Choices.{Span, Choice, Question, where_asked, meets_asked}

-- ---- joined answers

-- what each of some volumes answers, in their order, where the first of them has this number
abbrev pub joined_from : {X : Type 0} → (ℕ → Archive → List X) → ℕ → List Archive → List X
joined_from answer v [] = []
joined_from answer v (a ∷ vs) = answer v a ++ joined_from answer (v + 1) vs

-- THE ANSWERS OF ALL VOLUMES, JOINED: the first has number 1
abbrev pub joined : {X : Type 0} → (ℕ → Archive → List X) → List Archive → List X
joined answer vs = joined_from answer 1 vs

-- the sum of what each of some volumes counts
abbrev pub total_from : (ℕ → Archive → ℕ) → ℕ → List Archive → ℕ
total_from count v [] = 0
total_from count v (a ∷ vs) = count v a + total_from count (v + 1) vs

abbrev pub total : (ℕ → Archive → ℕ) → List Archive → ℕ
total count vs = total_from count 1 vs

-- ---- records

-- a record in its volume, with the number of the volume
pub record Placed : Type 0 where
  pub volume : ℕ
  pub archive : Archive
  pub one : Record

abbrev pub placed : ℕ → Archive → Record → Placed
placed v a r = record { volume = v; archive = a; one = r }

-- the records of a volume, each in its place
abbrev pub placed_all : ℕ → Archive → List Record → List Placed
placed_all v a rs = map (placed v a) rs

-- THE RECORDS OF ALL VOLUMES, volume by volume, each in the order of its numbers
abbrev pub all_records : List Archive → List Placed
all_records vs = joined (λ v a. placed_all v a a.records) vs

-- ---- choices

-- the numbers from one to another of a volume, both included
pub record VolumeSpan : Type 0 where
  pub volume : ℕ
  pub first : ℕ
  pub last : ℕ

-- the number of a record, and that of its volume
pub record VolumeNumber : Type 0 where
  pub volume : ℕ
  pub number : ℕ

-- what a command asks of records of all volumes: one of these numbers, none before a first one, and what else can be asked; numbers are
-- no part of that
pub record VolumeChoice : Type 0 where
  pub numbers : Option (List VolumeSpan)
  pub first : Option VolumeNumber
  pub others : Choice

-- the record has the number, and its volume has that of the span
abbrev pub is_in_span : (volume number : ℕ) → VolumeSpan → Bool
is_in_span v n s = (s.volume == v) && (nat_le s.first n && nat_le n s.last)

-- the record is not before the first one: it is in a later volume, or in the same one, with no smaller number
abbrev pub is_from : (volume number : ℕ) → VolumeNumber → Bool
is_from v n f = nat_lt f.volume v || ((f.volume == v) && nat_le f.number n)

-- all that is asked but the numbers
abbrev pub others_of : VolumeChoice → Choice
others_of c = record c.others { numbers = None }

-- A RECORD OF A VOLUME IS CHOSEN: it has one of the numbers, is not before the first one, and all else that is asked holds of it in
-- its volume
abbrev pub meets_in : Question → VolumeChoice → Placed → Bool
meets_in q c p = (where_asked (list_any (is_in_span p.volume p.one.number)) c.numbers && where_asked (is_from p.volume p.one.number) c.first)
    && meets_asked q (others_of c) p.archive p.one

-- THE CHOSEN RECORDS OF ALL VOLUMES
abbrev pub chosen_in_all : Question → VolumeChoice → List Archive → List Placed
chosen_in_all q c vs = filter (meets_in q c) (all_records vs)

-- THE CHOSEN RECORDS OF ONE VOLUME
abbrev pub chosen_in : Question → VolumeChoice → ℕ → Archive → List Record
chosen_in q c v a = filter (λ (r : Record). meets_in q c (placed v a r)) a.records

-- ---- the choice for one volume

abbrev pub is_span_of : ℕ → VolumeSpan → Bool
is_span_of v s = s.volume == v

abbrev pub span_of : VolumeSpan → Span
span_of s = record { first = s.first; last = s.last }

-- the spans of a volume, as a volume alone has them
abbrev pub spans_in : ℕ → List VolumeSpan → List Span
spans_in v ss = map span_of (filter (is_span_of v) ss)

-- THE CHOICE FOR A VOLUME ALONE
abbrev pub choice_in : ℕ → VolumeChoice → Choice
choice_in v c = record c.others { numbers = option_map (spans_in v) c.numbers }

-- from which number on its records are looked at: from the first one in the volume of that, and from 0 on in any other
abbrev pub first_in : ℕ → Option VolumeNumber → ℕ
first_in v None = 0
first_in v (Some f) = if f.volume == v then f.number else 0

-- a record of the volume may be asked for: a span is of the volume, or no number is asked for, and it is not before that of the first one
abbrev pub asks_for : ℕ → VolumeChoice → Bool
asks_for v c = where_asked (list_any (is_span_of v)) c.numbers && where_asked (λ (f : VolumeNumber). nat_le f.volume v) c.first

-- what an archive alone answers, from a number on
abbrev pub chosen_from : Question → Choice → ℕ → Archive → List Record
chosen_from q c first a = filter (λ (r : Record). nat_le first r.number && meets_asked q c a r) a.records
