-- The forms that the words of a command must have, and how a line breaks them.
use Rattle.std.specs.Prelude.{ℕ, Bool, List, [], ◌∷◌, ◌==◌, not, is_some, nat_le, if◌then◌else◌, Option, Some, None, option_map, length, position}
use Rattle.std.specs.List.{zip}
use Rattle.session_words.specs.Words.{words_of, is_name, number_up_to, greatest_length, greatest_number}
use Rattle.session_words.specs.Verbs.{verb_of}
use Rattle.session_words.specs.declared.verbs.Verb.{Verb}
use Rattle.session_words.specs.declared.verbs.Verb.TheVariants as verb
use Rattle.tool_texts.specs.declared.forms.Payload.TheVariants as payload
use Rattle.tool_texts.specs.declared.forms.Slot.{Slot}
use Rattle.tool_texts.specs.declared.forms.Slot.TheVariants as slot
use Rattle.tool_texts.specs.declared.forms.LineFault.{LineFault}
use Rattle.tool_texts.specs.declared.forms.LineFault.TheVariants as fault

-- the greatest line, in octets without the line feed
abbrev pub greatest_line : ℕ
greatest_line = 512

abbrev pub has_form : Slot → List ℕ → Bool
has_form slot.Officer word = is_name word
has_form slot.ScriptName word = is_name word
has_form slot.Moment word = is_some (number_up_to greatest_number word)
has_form (slot.Length kind) word = is_some (number_up_to greatest_length word)

-- the words after the first word of a command that octets follow; no such words for any other command
abbrev pub slots_after : Verb → List Slot
slots_after verb.Plan = slot.Length payload.Plan ∷ []
slots_after verb.Script = slot.Officer ∷ slot.ScriptName ∷ slot.Length payload.Script ∷ []
slots_after verb.Global = slot.ScriptName ∷ slot.Length payload.Script ∷ []
slots_after verb.Image = slot.Officer ∷ slot.Length payload.Image ∷ []
slots_after verb.File = slot.Length payload.Script ∷ slot.Length payload.Message ∷ []
slots_after verb.Try = slot.Length payload.Image ∷ slot.Length payload.Message ∷ []
slots_after verb.Begin = slot.Officer ∷ slot.Moment ∷ slot.Length payload.Message ∷ []
slots_after _ = []

abbrev pub slots_of_command : Option Verb → List Slot
slots_of_command (Some v) = slots_after v
slots_of_command None = []

-- the same by a command's name; none for any other name
abbrev pub slots_of : (name : List ℕ) → List Slot
slots_of name = slots_of_command (verb_of name)

-- the place of the first word that has not the form of its slot
abbrev pub first_wrong : List Slot → List (List ℕ) → Option ℕ
first_wrong slots words = position (λ p. not (has_form p.0 p.1)) (zip slots words)

-- how words break the forms of their slots
abbrev pub misfit : List Slot → List (List ℕ) → Option LineFault
misfit slots words =
    if length words == length slots then option_map fault.WrongWord (first_wrong slots words)
    else Some (fault.WordCount (length slots))

-- a command that no octets follow is judged by its name alone
abbrev pub fault_of_slots : List Slot → (words : List (List ℕ)) → Option LineFault
fault_of_slots [] words = None
fault_of_slots (first ∷ more) words = misfit (first ∷ more) words

abbrev pub fault_of_command : Option Verb → (words : List (List ℕ)) → Option LineFault
fault_of_command None words = Some fault.UnknownCommand
fault_of_command (Some v) words = fault_of_slots (slots_after v) words

abbrev pub fault_of_words : List (List ℕ) → Option LineFault
fault_of_words [] = Some fault.UnknownCommand
fault_of_words (name ∷ words) = fault_of_command (verb_of name) words

-- why a session would not read what follows a line as it was meant, if so
unfoldable pub fault_of : (line : List ℕ) → Option LineFault
fault_of line = if nat_le (length line) greatest_line then fault_of_words (words_of line) else Some fault.TooLong
