-- The messages of an mbox, given by its lines, each with its end (RFC 4155).
use Rattle.std.specs.Prelude.{ℕ, ◌+◌, Bool, true, false, List, [], ◌∷◌, ◌++◌, map, length, nat_le, ◌&&◌, Option, Some, None, if◌then◌else◌}
use Rattle.std.specs.List.{concat}
use Rattle.mail_head.specs.declared.buffer.TheConstants.{MAX_OCTETS}
use Rattle.mail_boxes.specs.Marks.{is_empty_line, is_separator, unquoted}
use Rattle.mail_boxes.specs.declared.splitter.BoxMessage.{BoxMessage}
use Rattle.mail_boxes.specs.declared.splitter.BoxMessage.TheVariants.{Whole, TooLong}

-- Lines in groups: those before the first separator, and those behind each separator
abbrev pub Groups : Type 0
Groups = List (List ℕ) × List (List (List ℕ))

abbrev pub all_of : Groups → List (List (List ℕ))
all_of g = g.0 ∷ g.1

-- a line before those of the first group
abbrev pub with_first : List ℕ → Groups → Groups
with_first line g = (line ∷ g.0, g.1)

-- LINES ARE CUT AT EACH SEPARATOR that follows an empty line, which is left out
unfoldable pub groups : (after_empty : Bool) → List (List ℕ) → Groups
groups after_empty [] = ([], [])
groups after_empty (line ∷ lines) = if after_empty && is_separator line then ([], all_of (groups false lines))
    else with_first line (groups (is_empty_line line) lines)

-- the lines without the last one, where that is empty
unfoldable pub without_last_empty : List (List ℕ) → List (List ℕ)
without_last_empty [] = []
without_last_empty (line ∷ []) = if is_empty_line line then [] else line ∷ []
without_last_empty (line ∷ next ∷ lines) = line ∷ without_last_empty (next ∷ lines)

-- the octets that the lines of a group are, without the empty line that ends them, and with their quoting undone
abbrev pub text_of : List (List ℕ) → List ℕ
text_of group = concat (map unquoted (without_last_empty group))

-- octets that a message may have; none where they are too many
abbrev pub limited : List ℕ → Option (List ℕ)
limited text = if nat_le (length text) MAX_OCTETS then Some text else None

-- the message of a group of lines; none where it is too long
abbrev pub message_of : List (List ℕ) → Option (List ℕ)
message_of group = limited (text_of group)

-- THE MESSAGES OF AN MBOX; none where its first line is no separator
abbrev pub messages_of : List (List ℕ) → Option (List (Option (List ℕ)))
messages_of [] = None
messages_of (line ∷ lines) = if is_separator line then Some (map message_of (all_of (groups false lines))) else None

-- ---- a message that is read line by line

-- what contracts see of a message
abbrev pub message_view : BoxMessage → Option (List ℕ)
message_view (Whole octets) = Some octets.items
message_view TooLong = None

-- the octets of a message so far, none where they are too many, and the empty line that was read last, if the last line was one
pub record Open : Type 0 where
  pub text : Option (List ℕ)
  pub blank : List ℕ

-- the octets with more of them; none where they are too many
abbrev pub added : Option (List ℕ) → List ℕ → Option (List ℕ)
added None more = None
added (Some text) more = limited (text ++ more)

-- a message with the rest of its lines, which come after an empty line or after none: an empty line that ends it is no part of it
abbrev pub completed : Option (List ℕ) → (blank : List ℕ) → List (List ℕ) → Option (List ℕ)
completed text blank [] = text
completed text blank (line ∷ lines) = added text (blank ++ text_of (line ∷ lines))

-- the open message with the first group, and those of the others
abbrev pub with_groups : Open → Groups → List (Option (List ℕ))
with_groups o g = completed o.text o.blank g.0 ∷ map message_of g.1

-- THE MESSAGES THAT ARE STILL TO COME, where one is open and these lines follow
abbrev pub to_come : Open → List (List ℕ) → List (Option (List ℕ))
to_come o lines = with_groups o (groups (is_empty_line o.blank) lines)

-- where nothing of a message was read
abbrev pub nothing_read : Open
nothing_read = record { text = Some []; blank = [] }

-- a line, where it is empty
abbrev pub blank_of : List ℕ → List ℕ
blank_of line = if is_empty_line line then line else []

-- the open message with a line more: the empty line before it belongs to the message now
abbrev pub with_line : Open → List ℕ → Open
with_line o line = record {
  text = if is_empty_line line then added o.text o.blank else added (added o.text o.blank) (unquoted line);
  blank = blank_of line;
}

-- what is handed on at a line
abbrev pub handed : Option BoxMessage → List (Option (List ℕ))
handed None = []
handed (Some message) = message_view message ∷ []
