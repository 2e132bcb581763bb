-- Events of a history as values of JSON.
use Rattle.std.specs.Prelude.{ℕ, suc, ◌-◌, List, [], ◌∷◌, ◌++◌, map, codes, string_bytes}
use Rattle.std.specs.List.{range_with_len}
use Rattle.serde_json.specs.Data.{Data, boolean, number, unsigned, string, array}
use Rattle.serde_json.specs.View.{items_of}
use Rattle.cli_texts.specs.declared.events.Field.{Field}
use Rattle.cli_texts.specs.declared.events.Field.TheVariants as field
use Rattle.cli_texts.specs.declared.events.ListedEvent.{ListedEvent}
use Rattle.cli_texts.specs.declared.events.Named.{Named}
use Rattle.cli_texts.specs.Json.{Member, object_of, shown_value, texts_value, volume_members}

-- all numbers from a first to a last
abbrev pub numbers_value : (first last : ℕ) → Data
numbers_value first last = array (items_of (map (λ n. number (unsigned n)) (range_with_len first (suc last - first))))

abbrev pub field_value : Field → Data
field_value (field.Number n) = number (unsigned n)
field_value (field.Numbers first last) = numbers_value first last
field_value (field.Text text) = shown_value text.now
field_value (field.Octets octets) = shown_value octets.items
field_value (field.Words words) = string (string_bytes words)
field_value (field.Texts texts) = texts_value (map (λ t. t.now) texts.items)
field_value (field.Truth is_so) = boolean is_so

abbrev pub field_member : Named → Member
field_member f = (f.name.now, field_value f.value)

-- what every event has, with the text of its moment
abbrev pub event_members : ListedEvent → (moment : List ℕ) → List Member
event_members e moment =
    (codes "number", number (unsigned e.number))
    ∷ (codes "moment", string moment)
    ∷ (codes "who", shown_value e.who.now)
    ∷ (codes "deed", string e.word.now)
    ∷ (codes "notes", shown_value e.notes.now)
    ∷ (codes "reason", shown_value e.reason.now)
    ∷ (codes "line", shown_value e.line.now)
    ∷ (codes "mark", shown_value e.mark.now)
    ∷ []

-- THE OBJECT OF AN EVENT, with the number of its volume, where it has one, and the fields of its deed
abbrev pub event_value : ListedEvent → (moment : List ℕ) → Data
event_value e moment = object_of (event_members e moment ++ (volume_members e.volume ++ map field_member e.fields.now))
