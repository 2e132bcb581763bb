-- The successors of an operation, the places that a program reaches, and the procedures that places are in. Places
-- count from 0.
use Rattle.std.specs.Prelude.{◌≡◌, ℕ, zero, suc, ◌+◌, ◌-◌, Option, Some, None, Bool, true, false, nat_le, slice_get, count_by, ◌⊎◌}
use Rattle.filing_image.specs.Program.{Program, first_places}
use Rattle.filing_image.specs.declared.instruction.Operation.{Operation}
use Rattle.filing_image.specs.declared.instruction.Operation.TheVariants.{Jump, JumpIf, JumpUnless, Stop, Fault, Call, Return}

-- the place that a jump names
abbrev pub jump_target : Operation → Option ℕ
jump_target (Jump b) = Some b
jump_target (JumpIf b) = Some b
jump_target (JumpUnless b) = Some b
jump_target _ = None

-- the first place of the procedure with this number, where there is one
abbrev pub first_place : Program → ℕ → Option ℕ
first_place program b = slice_get (first_places program) b

-- the place that a jump names, or the first place of the procedure that a call enters
abbrev pub target : Program → Operation → Option ℕ
target program (Call b) = first_place program b
target program o = jump_target o

-- whether the run may go on to the next place; it may at a call, once the procedure has returned
abbrev pub goes_on : Operation → Bool
goes_on (Jump b) = false
goes_on Stop = false
goes_on (Fault a) = false
goes_on Return = false
goes_on _ = true

-- In this program the run may go from the operation at place p to place q.
abbrev pub Follows : Program → Operation → ℕ → ℕ → Type 0
Follows program o p q = ((goes_on o ≡ true) × (q ≡ p + 1)) ⊎ (target program o ≡ Some q)

-- Place q is a successor of place p.
abbrev pub Leads : Program → ℕ → ℕ → Type 0
Leads program p q = (o : Operation) × (slice_get program.code p ≡ Some o) × Follows program o p q

-- A path of n successors leads from place 0 to q: it has n + 1 places.
abbrev pub Path : Program → ℕ → ℕ → Type 0
Path program zero q = q ≡ 0
Path program (suc n) q = (p : ℕ) × Path program n p × Leads program p q

-- Some path leads from place 0 to q.
abbrev pub IsReached : Program → ℕ → Type 0
IsReached program q = (n : ℕ) × Path program n q

-- the number of the procedure that a place is in: each reaches from its first place to that of the next one; 0 in version
-- 1, whose code is one piece
abbrev pub procedure_of : Program → ℕ → ℕ
procedure_of program p = count_by (λ f. nat_le f p) (first_places program) - 1

-- Place q is a successor of place p other than the start of a called procedure: the next place, or that of a jump.
abbrev pub Continues : Program → ℕ → ℕ → Type 0
Continues program p q = (o : Operation) × (slice_get program.code p ≡ Some o) ×
    (((goes_on o ≡ true) × (q ≡ p + 1)) ⊎ (jump_target o ≡ Some q))
