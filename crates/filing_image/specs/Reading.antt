-- Reading from left to right: each reader answers a value and the octets after it, or None. The contracts in
-- src/reading.rt use these definitions; proofs/Whole.antt proves that they invert the spelling.
use Rattle.std.specs.Prelude.{◌≡◌, ℕ, zero, suc, List, [], ◌∷◌, length, take, drop, Option, Some, None, Result, Ok, Err, nat_lt, ◌==◌, ◌&&◌, if◌then◌else◌}
use Rattle.std.specs.Int.{Width, w8, w16, w32, w64, byte_len, from_be_bytes}
use Rattle.filing_image.specs.declared.fault.FormFault.{FormFault}
use Rattle.filing_image.specs.declared.fault.FormFault.TheVariants.{NoMemory, BadForm}
use Rattle.filing_image.specs.declared.instruction.Instruction.{Instruction}
use Rattle.filing_image.specs.declared.reading.Heading.{Heading}
use Rattle.filing_image.specs.declared.reading.Written.{Written}
use Rattle.filing_image.specs.declared.version.Version.{Version}
use Rattle.filing_image.specs.declared.version.Version.TheVariants.{One, Two}
use Rattle.filing_image.specs.Program.{Parts, parts_from, list_in}

infixl 10 ◌>>=◌
abbrev pub ◌>>=◌ : {A B : Type 0} → Option A → (A → Option B) → Option B
(Some x) >>= f = f x
None >>= f = None

-- What a function returned, mapped by view, is what the reader gives, unless an allocation was refused.
abbrev pub Gives : {X Y : Type 0} → (X → Y) → Result X FormFault → Option Y → Type 0
Gives view (Ok x) read = read ≡ Some (view x)
Gives view (Err BadForm) read = read ≡ None
Gives view (Err NoMemory) read = Unit {0}

abbrev pub number_at : Width → List ℕ → Option (ℕ × List ℕ)
number_at w octets = if nat_lt (length octets) (byte_len w) then None
    else Some (from_be_bytes w (take (byte_len w) octets), drop (byte_len w) octets)

unfoldable pub text_at : List ℕ → Option (List ℕ × List ℕ)
text_at octets = do
  n ← number_at w16 octets
  if nat_lt (length n.1) n.0 then None else Some (take n.0 n.1, drop n.0 n.1)

unfoldable pub instruction_at : List ℕ → Option (Instruction × List ℕ)
instruction_at octets = do
  op ← number_at w8 octets
  a ← number_at w8 op.1
  b ← number_at w16 a.1
  Some (record { op = op.0; a = a.0; b = b.0 }, b.1)

-- n values in a row, each read by the same reader
unfoldable pub many_at : {A : Type 0} → (List ℕ → Option (A × List ℕ)) → ℕ → List ℕ → Option (List A × List ℕ)
many_at read zero octets = Some ([], octets)
many_at read (suc n) octets = do
  first ← read octets
  others ← many_at read n first.1
  Some (first.0 ∷ others.0, others.1)

-- the version by the last octet of a mark
abbrev pub version_of_octet : ℕ → Option Version
version_of_octet b = if b == 0x31 then Some One else (if b == 0x32 then Some Two else None)

-- the version of the mark, and the octets after the mark
unfoldable pub version_and_rest : List ℕ → Option (Version × List ℕ)
version_and_rest (b0 ∷ b1 ∷ b2 ∷ b3 ∷ rest) = if (b0 == 0x53) && ((b1 == 0x46) && (b2 == 0x49))
    then version_of_octet b3 >>= (λ v. Some (v, rest)) else None
version_and_rest _ = None

-- the count of procedures, which version 2 alone has
unfoldable pub procedure_count_at : Version → List ℕ → Option (Option ℕ × List ℕ)
procedure_count_at One octets = Some (None, octets)
procedure_count_at Two octets = number_at w16 octets >>= λ n. Some (Some n.0, n.1)

-- the first places of the procedures, where they are counted
unfoldable pub procedures_at : Option ℕ → List ℕ → Option (Option (List ℕ) × List ℕ)
procedures_at None octets = Some (None, octets)
procedures_at (Some count) octets = many_at (number_at w16) count octets >>= λ x. Some (Some x.0, x.1)

-- the counts of an image
pub record Counts : Type 0 where
  pub texts : ℕ
  pub numbers : ℕ
  pub slots : ℕ
  pub procedures : Option ℕ
  pub instructions : ℕ

abbrev pub counts_of : Heading → Counts
counts_of h = record { texts = h.texts; numbers = h.numbers; slots = h.slots; procedures = h.procedures; instructions = h.instructions }

unfoldable pub counts_at : Version → List ℕ → Option (Counts × List ℕ)
counts_at version octets = do
  texts ← number_at w16 octets
  numbers ← number_at w16 texts.1
  slots ← number_at w16 numbers.1
  procedures ← procedure_count_at version slots.1
  instructions ← number_at w16 procedures.1
  Some (record { texts = texts.0; numbers = numbers.0; slots = slots.0; procedures = procedures.0; instructions = instructions.0 }, instructions.1)

abbrev pub parts_of : Written → Parts
parts_of w = parts_from w.budget w.texts.items w.numbers.items w.slots (list_in w.first_places) w.instructions.items

unfoldable pub parts_at : List ℕ → Option (Parts × List ℕ)
parts_at octets = do
  version ← version_and_rest octets
  budget ← number_at w32 version.1
  counts ← counts_at version.0 budget.1
  texts ← many_at text_at counts.0.texts counts.1
  numbers ← many_at (number_at w64) counts.0.numbers texts.1
  procedures ← procedures_at counts.0.procedures numbers.1
  instructions ← many_at instruction_at counts.0.instructions procedures.1
  Some (record { budget = budget.0; texts = texts.0; numbers = numbers.0; slots = counts.0.slots; procedures = procedures.0; instructions = instructions.0 }, instructions.1)

-- the parts that all of the octets spell, or None where octets are left over
unfoldable pub all_of : List ℕ → Option Parts
all_of octets = do
  parts ← parts_at octets
  if length parts.1 == 0 then Some parts.0 else None
