-- Which records a command is about.
use Rattle.std.specs.Prelude.{ℕ, nat_le, int_le, ℤ, pos, Bool, true, false, not, ◌&&◌, ◌||◌, List, [], ◌∷◌, ◌++◌, filter, Option, Some, None, if◌then◌else◌}
use Rattle.std.specs.List.{list_any, starts_with}
use Rattle.std.specs.Prelude.{nat_eq}
use Rattle.std.specs.Str.{bytes_eq}
use Rattle.record_archive.specs.Archive.{Record, Archive, is_live, is_held, is_held_by, due_of, is_by_any, from_1970, body_of}

-- the numbers from one to another, both included
pub record Span : Type 0 where
  pub first : ℕ
  pub last : ℕ

-- who keeps a record: a hold of any name, or of this one
pub data Holder : Type 0 where
  anyone : Holder
  named : List ℕ → Holder

-- what a command asks of records; days are counted from 1970-01-01
pub record Choice : Type 0 where
  pub numbers : Option (List Span)
  pub class : Option (List ℕ)
  pub live : Bool
  pub destroyed : Bool
  pub held : Option Holder
  pub since : Option ℤ
  pub until : Option ℤ
  pub due : Option ℤ

-- nothing is asked, or it holds
abbrev pub where_asked : {X : Type 0} → (X → Bool) → Option X → Bool
where_asked holds None = true
where_asked holds (Some x) = holds x

abbrev pub is_in : ℕ → Span → Bool
is_in n s = nat_le s.first n && nat_le n s.last

-- the path is that of the class, or the class and a "/" come first in it
abbrev pub is_within : (class path : List ℕ) → Bool
is_within class path = bytes_eq path class || starts_with nat_eq path (class ++ 47 ∷ [])

abbrev pub is_kept : Archive → Record → Holder → Bool
is_kept a r anyone = is_held a r.number
is_kept a r (named name) = is_held_by a name r.number

-- live, with a due day that is not later
abbrev pub is_due_on : Archive → Record → ℤ → Bool
is_due_on a r day = is_live r && is_by_any (from_1970 day) (due_of a r)

-- with one of the numbers, and in the class or below it
abbrev pub is_where : Choice → Record → Bool
is_where c r = where_asked (list_any (is_in r.number)) c.numbers && where_asked (λ class. is_within class r.path) c.class

-- live, destroyed or kept, as is asked
abbrev pub is_as : Choice → Archive → Record → Bool
is_as c a r = (not c.live || is_live r) && (not c.destroyed || r.destroyed) && where_asked (is_kept a r) c.held

-- captured since and until the days, and due by the day
abbrev pub is_when : Choice → Archive → Record → Bool
is_when c a r = where_asked (λ day. int_le day (pos r.day)) c.since && where_asked (λ day. int_le (pos r.day) day) c.until
    && where_asked (is_due_on a r) c.due

-- THE RECORDS that a command is about: all that is asked holds
abbrev pub meets : Choice → Archive → Record → Bool
meets c a r = is_where c r && is_as c a r && is_when c a r

-- what is asked of messages, if anything is: the messages to which the answer is yes
abbrev pub Question : Type 0
Question = Option (List ℕ → Bool)

-- the message of a record, which is gone once the record is destroyed
abbrev pub message_of : Archive → Record → Option (List ℕ)
message_of a r = if r.destroyed then None else body_of a.messages r.message

-- the answer is yes; a message that is gone has none
abbrev pub is_yes : (List ℕ → Bool) → Option (List ℕ) → Bool
is_yes asks None = false
is_yes asks (Some message) = asks message

-- THE SAME WITH A QUESTION on their messages, where one is asked
abbrev pub meets_asked : Question → Choice → Archive → Record → Bool
meets_asked q c a r = meets c a r && where_asked (λ asks. is_yes asks (message_of a r)) q

abbrev pub chosen : Question → Choice → Archive → List Record
chosen q c a = filter (meets_asked q c a) a.records

-- nothing is asked
abbrev pub every_record : Choice
every_record = record { numbers = None; class = None; live = false; destroyed = false; held = None; since = None; until = None; due = None }

-- no more is asked than that it is live
abbrev pub every_live_record : Choice
every_live_record = record every_record { live = true }
