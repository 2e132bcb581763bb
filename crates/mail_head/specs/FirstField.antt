-- A field where it stands in a text.
use Rattle.std.specs.Prelude.{◌≡◌, ℕ, ◌+◌, ◌-◌, ◌<◌, ◌≤◌, List, ◌∷◌, length, drop}
use Rattle.mail_head.specs.Fields.{fields_of}
use Rattle.mail_head.specs.declared.reading.FoundField.{FoundField}

-- The first field of a text's header: `from` and `after` are ends of the text, and no field stands before `from`. The
-- fields from there on are this one and those of `after`, and its name and body stand between the two.
pub record IsFirstField (text : List ℕ) (found : FoundField) : Type 0 where
  pub first : fields_of text ≡ fields_of found.from.now
  pub field : fields_of found.from.now ≡ found.field ∷ fields_of found.after.now
  pub from_end : found.from.now ≡ drop (length text - length found.from.now) text
  pub from_within : length found.from.now ≤ length text
  pub after_end : found.after.now ≡ drop (length text - length found.after.now) text
  pub between : (length found.field.0 + length found.field.1) + length found.after.now < length found.from.now
