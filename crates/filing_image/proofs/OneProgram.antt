-- No two programs have the same parts, and no spelling begins another.
use Rattle.std.proofs.Common.{◌≡◌, ℕ, cond, eqb, List, [], ◌∷◌, ◌++◌, map, Some, None, refl, sym, ap, subst, ◌∙◌}
use Rattle.filing_image.specs.declared.instruction.Instruction.{Instruction}
use Rattle.filing_image.specs.declared.instruction.Operation.{Operation}
use Rattle.filing_image.specs.declared.instruction.Operation.TheVariants.{PushTrue, PushFalse, Not, Values, Join, Match, Pop, Exists, Size, Number}
use Rattle.filing_image.specs.declared.instruction.Operation.TheVariants.{Less, Jump, JumpIf, JumpUnless, Marked, Mark, File, Keep, Discard, Stop}
use Rattle.filing_image.specs.declared.instruction.Operation.TheVariants.{Fault, Call, Return}
use Rattle.filing_image.specs.Program.{Program, Parts, parts, instruction_of}
use Rattle.filing_image.specs.Spelling.{spelling, Fits}
use Rattle.filing_image.specs.Reading.{parts_at, all_of}
use Rattle.filing_image.proofs.Fields.{IsBytes, some_is}
use Rattle.filing_image.proofs.Whole.{parts_again, all_takes, all_again}

-- the operation that an instruction encodes, if there is one
operation : Instruction → Operation
operation i =
    cond (eqb i.op 1) PushTrue (cond (eqb i.op 2) PushFalse (cond (eqb i.op 3) Not (cond (eqb i.op 4) (Values i.b)
    (cond (eqb i.op 5) Join (cond (eqb i.op 6) (Match i.a i.b) (cond (eqb i.op 7) Pop (cond (eqb i.op 8) (Exists i.b)
    (cond (eqb i.op 9) Size (cond (eqb i.op 10) (Number i.b) (cond (eqb i.op 11) Less (cond (eqb i.op 12) (Jump i.b)
    (cond (eqb i.op 13) (JumpIf i.b) (cond (eqb i.op 14) (JumpUnless i.b) (cond (eqb i.op 15) (Marked i.b) (cond (eqb i.op 16) (Mark i.b)
    (cond (eqb i.op 17) (File i.a i.b) (cond (eqb i.op 18) Keep (cond (eqb i.op 19) Discard (cond (eqb i.op 20) Stop
    (cond (eqb i.op 21) (Fault i.a) (cond (eqb i.op 22) (Call i.b) Return)))))))))))))))))))))

operation_is : (o : Operation) → operation (instruction_of o) ≡ o
unfolding operation
operation_is PushTrue = refl
operation_is o = refl

operations_are : (code : List Operation) → map operation (map instruction_of code) ≡ code
operations_are [] = refl
operations_are (o ∷ code) =
    ap (λ (x : Operation). x ∷ map operation (map instruction_of code)) (operation_is o) ∙ ap (λ (l : List Operation). o ∷ l) (operations_are code)

-- the program with these parts
program : Parts → Program
program x = record {
  budget = x.budget;
  texts = x.texts;
  numbers = x.numbers;
  slots = x.slots;
  procedures =
      x.procedures;
  code = map operation x.instructions;
}

program_is : (p : Program) → program (parts p) ≡ p
unfolding program
program_is p =
    ap (λ (code : List Operation). record {
      budget = p.budget;
      texts = p.texts;
      numbers = p.numbers;
      slots = p.slots;
      procedures = p.procedures;
      code = code;
    }) (operations_are p.code)

pub one_program : (p q : Program) → parts p ≡ parts q → p ≡ q
one_program p q e = sym (program_is p) ∙ ap program e ∙ program_is q

-- where two spellings and what follows them are the same octets, the programs are the same, and so is what follows
pub one_start : (p q : Program) (x y : List ℕ) → Fits (parts p) → Fits (parts q) → spelling (parts p)
    ++ x ≡ spelling (parts q) ++ y → (p ≡ q) × (x ≡ y)
one_start p q x y fits_p fits_q e =
    let read : Some (parts p, x) ≡ Some (parts q, y) = sym (parts_again (parts p) x fits_p.octets) ∙ ap parts_at e
    ∙ parts_again (parts q) y fits_q.octets in
    let same : (parts p, x) ≡ (parts q, y) = some_is (parts p, x) (parts q, y) read in
    (one_program p q (ap (λ (z : Parts × List ℕ). z.0) same), ap (λ (z : Parts × List ℕ). z.1) same)

-- ---- what decode answers, where x was read

abbrev IsRead : List ℕ → Parts → Type 0
IsRead octets x = all_of octets ≡ Some x

pub is_found : (octets : List ℕ) (x : Parts) (i : Program) → IsBytes octets → IsRead octets x → parts i ≡ x → octets ≡ spelling (parts i)
is_found octets x i bytes read e = subst (λ (y : Parts). octets ≡ spelling y) (sym e) (all_takes octets x bytes read).0

-- what was read is the parts of each program that is spelled so
pub is_that : (octets : List ℕ) (x : Parts) (p : Program) → IsRead octets x → Fits (parts p) → octets ≡ spelling (parts p) → x ≡ parts p
is_that octets x p read fits e = some_is x (parts p) (sym read ∙ ap all_of e ∙ all_again (parts p) fits.octets)

pub is_only : (octets : List ℕ) (x : Parts) (i p : Program) → IsRead octets x → parts i ≡ x → Fits (parts p) → octets ≡ spelling (parts p) → i ≡ p
is_only octets x i p read e fits spelled = one_program i p (e ∙ is_that octets x p read fits spelled)

-- what is not read is no program's spelling
pub unread : (octets : List ℕ) (p : Program) → all_of octets ≡ None → Fits (parts p) → octets ≡ spelling (parts p) → ⊥
unread octets p none fits e =
    let x : Some (parts p) ≡ None = sym (all_again (parts p) fits.octets) ∙ ap all_of (sym e) ∙ none in
    absurd cc
