-- The one spelling of each program in octets. All numbers are big-endian. First come the octets 53 46 49 31
-- (hexadecimal) in version 1 and 53 46 49 32 in version 2, and the budget in four octets. Then come the counts of texts,
-- numbers, slots, in version 2 procedures, and instructions, in two octets each. They are followed by the texts, each
-- after its length in two octets, the numbers in eight octets each, in version 2 the first place of each procedure in
-- two octets, and the instructions in four octets each. Nothing follows.
use Rattle.std.specs.Prelude.{◌≡◌, ℕ, ◌<◌, ◌≤◌, ◌^◌, List, [], ◌∷◌, ◌++◌, length, All, Option, Some, None}
use Rattle.std.specs.List.{flat_map}
use Rattle.std.specs.Int.{w8, w16, w32, w64, to_be_bytes}
use Rattle.filing_image.specs.declared.instruction.Instruction.{Instruction}
use Rattle.filing_image.specs.declared.version.Version.{Version}
use Rattle.filing_image.specs.declared.version.Version.TheVariants.{One, Two}
use Rattle.filing_image.specs.Program.{Program, Parts, parts, version_of, firsts_of}

-- the length in two octets, and the octets
abbrev pub text : List ℕ → List ℕ
text octets = to_be_bytes w16 (length octets) ++ octets

-- the operation's number and a in an octet each, b in two
abbrev pub instruction : Instruction → List ℕ
instruction i = to_be_bytes w8 i.op ++ (to_be_bytes w8 i.a ++ to_be_bytes w16 i.b)

abbrev pub mark : Version → List ℕ
mark One = 0x53 ∷ 0x46 ∷ 0x49 ∷ 0x31 ∷ []
mark Two = 0x53 ∷ 0x46 ∷ 0x49 ∷ 0x32 ∷ []

-- how many procedures there are, which version 1 does not say
abbrev pub procedure_count : Option (List ℕ) → List ℕ
procedure_count None = []
procedure_count (Some firsts) = to_be_bytes w16 (length firsts)

-- how many texts, numbers, slots, procedures and instructions there are
abbrev pub counts : Program → List ℕ
counts p = to_be_bytes w16 (length p.texts) ++ (to_be_bytes w16 (length p.numbers) ++ (to_be_bytes w16 p.slots
    ++ (procedure_count p.procedures ++ to_be_bytes w16 (length p.code))))

-- the first place of each procedure
abbrev pub procedures : Option (List ℕ) → List ℕ
procedures None = []
procedures (Some firsts) = flat_map (to_be_bytes w16) firsts

-- the mark, the budget, the counts, and what was counted
unfoldable pub spelling : Parts → List ℕ
spelling p =
    mark (version_of p.procedures) ++ (to_be_bytes w32 p.budget
    ++ (to_be_bytes w16 (length p.texts) ++ (to_be_bytes w16 (length p.numbers)
    ++ (to_be_bytes w16 p.slots ++ (procedure_count p.procedures ++ (to_be_bytes w16 (length p.instructions)
    ++ (flat_map text p.texts ++ (flat_map (to_be_bytes w64) p.numbers ++ (procedures p.procedures ++ flat_map instruction p.instructions)))))))))

-- the operation's number and the operand a fit one octet, and b fits two
pub record FitsInstruction (i : Instruction) : Type 0 where
  pub op : i.op < 2 ^ 8
  pub a : i.a < 2 ^ 8
  pub b : i.b < 2 ^ 16

-- the counts and the lengths of texts fit two octets, which the types of the parts do not ensure
pub record IsShort (p : Parts) : Type 0 where
  pub text_count : length p.texts < 2 ^ 16
  pub number_count : length p.numbers < 2 ^ 16
  pub procedure_count : length (firsts_of p.procedures) < 2 ^ 16
  pub instruction_count : length p.instructions < 2 ^ 16
  pub texts : All (λ t. length t < 2 ^ 16) p.texts

-- each part fits its octets
pub record FitsOctets (p : Parts) : Type 0 where
  pub short : IsShort p
  pub budget : p.budget < 2 ^ 32
  pub slots : p.slots < 2 ^ 16
  pub numbers : All (λ n. n < 2 ^ 64) p.numbers
  pub firsts : All (λ f. f < 2 ^ 16) (firsts_of p.procedures)
  pub instructions : All FitsInstruction p.instructions

-- the number of a version's last operation: version 2 alone has calls and returns
abbrev pub last_operation : Version → ℕ
last_operation One = 21
last_operation Two = 23

-- each operation is one of the version's
abbrev pub IsOfVersion : Parts → Type 0
IsOfVersion p = All (λ i. i.op ≤ last_operation (version_of p.procedures)) p.instructions

-- each part fits its octets, and each operation is one of the version's
pub record Fits (p : Parts) : Type 0 where
  pub octets : FitsOctets p
  pub operations : IsOfVersion p

-- the parts of some program, where each instruction encodes an operation of the version
pub record IsProgram (x : Parts) : Type 0 where
  pub program : Program
  pub is : parts program ≡ x
  pub operations : IsOfVersion x
