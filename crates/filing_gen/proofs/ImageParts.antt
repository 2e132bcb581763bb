-- An image has room for the parts of a program that may run.
use Rattle.std.proofs.Common.{◌≡◌, ◌≤◌, ◌<◌, ◌^◌, ℕ, List, Option, Some, None, All, Vec, length, refl, ap, arith, lit≤}
use Rattle.std.specs.Prelude.{slice_get}
use Rattle.std.specs.declared.alloc.Global.{Global}
use Rattle.std.proofs.lemmas.List.{length-map}
use Rattle.std.proofs.lemmas.List.Elements.{All-map, All-weaker}
use Rattle.filing_image.specs.Program.{Program, parts, program_from, instruction_of, version_of, firsts_of}
use Rattle.filing_image.specs.Spelling.{IsOfVersion, last_operation}
use Rattle.filing_image.specs.declared.instruction.Instruction.{Instruction}
use Rattle.filing_image.specs.declared.instruction.Operation.{Operation}
use Rattle.filing_image.specs.declared.instruction.Operation.TheVariants.{Call, Return}
use Rattle.filing_verify.specs.Well.{IsWell, InRange, HasProcedures}
use Rattle.filing_gen.specs.Pools.{IsAmong, octets_of}
use Rattle.filing_gen.specs.Adds.{HasRoom, IsImageOfOutput}
use Rattle.filing_gen.specs.Correct.{FitsImage}
use Rattle.filing_gen.specs.declared.output.Output.{Output}

-- OPERATIONS

in_each : (firsts : Option (List ℕ)) → 21 ≤ last_operation (version_of firsts)
in_each None = lit≤ tt
in_each (Some firsts) = lit≤ tt

-- calls and returns are in range only where there are procedures
in_second : (firsts : Option (List ℕ)) (b : ℕ) → b < length (firsts_of firsts) → 23 ≤ last_operation (version_of firsts)
in_second None b below = absurd (omega (arith, below))
in_second (Some firsts) b below = lit≤ tt

has_operation : (p : Program) (o : Operation) → InRange p o → (instruction_of o).op ≤ last_operation (version_of p.procedures)
has_operation p (Call b) h = let last = in_second p.procedures b h in omega (arith, last)
has_operation p Return h = in_second p.procedures 0 h
has_operation p o h = let last = in_each p.procedures in omega (arith, last)

of_version : (p : Program) → IsWell p → IsOfVersion (parts p)
of_version p well =
    let IsOf : ℕ → Type 0 = λ op. op ≤ last_operation (version_of p.procedures) in
    All-map (λ (i : Instruction). IsOf i.op) instruction_of p.code (All-weaker (InRange p) (λ o.
    IsOf (instruction_of o).op) (has_operation p) p.code well.in_range.each)

-- COUNTS

few_procedures : (p : Program) (firsts : Option (List ℕ)) → HasProcedures p firsts → length (firsts_of firsts) < 2 ^ 16
few_procedures p None h = omega arith
few_procedures p (Some firsts) h = omega (arith, h.most)

module _ (o : Output) (budget slots : ℕ) (firsts : Option (List ℕ)) (texts : List (Vec ℕ Global)) (numbers : List ℕ)
    (code : List Operation) (same : code ≡ o.code.items)
    (text : (t : List ℕ) (b : ℕ) → IsAmong (t, b) o.texts → slice_get (octets_of texts) b ≡ Some t)
    (number : (k b : ℕ) → IsAmong (k, b) o.numbers → slice_get numbers b ≡ Some k) where
  abbrev image : Program
  image = program_from budget texts numbers slots firsts code

  pub is_image : IsImageOfOutput budget slots firsts o image
  is_image = record {
    budget_is = refl;
    slots = refl;
    procedures_are = refl;
    text = λ b t at. text t b at;
    number = λ b k at. number k b at;
    code = same;
  }

  pub fits_image : HasRoom o 0 → length texts ≡ length o.texts → length numbers ≡ length o.numbers
      → All (λ t. length t < 2 ^ 16) (octets_of texts) → ((p : Program) → IsImageOfOutput budget slots firsts o p → IsWell p)
      → FitsImage image
  fits_image few as_many_texts as_many_numbers short all_well =
      let well = all_well image is_image in
      record {
        well = well;
        short = record {
          text_count = omega (arith, few.1, as_many_texts, length-map texts (λ (t : Vec ℕ Global). t.items));
          number_count = omega (arith, few.2, as_many_numbers);
          procedure_count = few_procedures image firsts well.in_range.procedures;
          instruction_count = omega (arith, few.0, ap length same, length-map code instruction_of);
          texts = short;
        };
        of_version = of_version image well;
      }
