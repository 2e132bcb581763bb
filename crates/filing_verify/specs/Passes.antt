-- Invariants of the passes over the code, which the contract of the verifier does not use.
use Rattle.std.specs.Prelude.{◌≡◌, ◌≢◌, ℕ, ◌+◌, ◌<◌, ◌≤◌, ◌⊎◌, List, [], length, Bool, true, false, Option, Some, None, slice_get, slice_set, slice_index_or, min, max, ◌↔◌}
use Rattle.filing_image.specs.Program.{Program}
use Rattle.filing_image.specs.declared.instruction.Operation.{Operation}
use Rattle.filing_verify.specs.declared.kind.Kind.{Kind}
use Rattle.filing_verify.specs.Flow.{jump_target, target, goes_on, Follows, Leads, IsReached, procedure_of}
use Rattle.filing_verify.specs.Shapes.{after, IsAssignment}
use Rattle.filing_verify.specs.Well.{cost_by}

-- each reached jump and each reached call goes to a greater place
abbrev pub GoesOnward : Program → Type 0
GoesOnward program = (p q : ℕ) (o : Operation) → IsReached program p → slice_get program.code p ≡ Some o →
    target program o ≡ Some q → p < q

-- each successor of a reached place is a place of the code
abbrev pub LeadsInside : Program → Type 0
LeadsInside program = (p q : ℕ) → IsReached program p → Leads program p q → q < length program.code

-- The run goes on from place p to the next one, which is no place of its procedure.
pub record RunsOn (program : Program) (p : ℕ) : Type 0 where
  pub operation : Operation
  pub here : slice_get program.code p ≡ Some operation
  pub goes : goes_on operation ≡ true
  pub out : (p + 1 < length program.code) × (procedure_of program (p + 1) ≡ procedure_of program p) → ⊥

abbrev pub IsMarked : List Bool → ℕ → Type 0
IsMarked ms p = slice_get ms p ≡ Some true

-- each place has a mark, which is set exactly where the place is reached
abbrev pub MarksReached : Program → List Bool → Type 0
MarksReached program ms = (length ms ≡ length program.code) ×
    ((p : ℕ) → p < length program.code → (IsMarked ms p ↔ IsReached program p))

-- the marks with that of the place that a jump names set
abbrev pub with_target : Option ℕ → List Bool → List Bool
with_target None ms = ms
with_target (Some q) ms = slice_set ms q true

abbrev pub with_next : Bool → ℕ → List Bool → List Bool
with_next true p ms = slice_set ms (p + 1) true
with_next false p ms = ms

-- the marks once the places before i have passed theirs on
pub record Marks (program : Program) (i : ℕ) (ms : List Bool) : Type 0 where
  pub long : length ms ≡ length program.code
  pub first : 0 < length program.code → IsMarked ms 0
  pub sound : (p : ℕ) → IsMarked ms p → IsReached program p
  pub closed : (p q : ℕ) → p < i → IsMarked ms p → Leads program p q → q < length program.code → IsMarked ms q
  pub forward : (p q : ℕ) (o : Operation) → p < i → IsMarked ms p → slice_get program.code p ≡ Some o →
      target program o ≡ Some q → p < q

-- the shape that a table has at a place
abbrev pub Has : List (Option (List Kind)) → ℕ → List Kind → Type 0
Has table p ks = slice_get table p ≡ Some (Some ks)

-- The places At that the table has were given this shape, and no other place was changed.
pub record Takes (old : List (Option (List Kind))) (At : ℕ → Type 0) (r : List Kind)
    (new : List (Option (List Kind))) : Type 0 where
  pub long : length new ≡ length old
  pub offered : (q : ℕ) → At q → q < length old → Has new q r
  pub kept : (p : ℕ) (ks : List Kind) → Has old p ks → Has new p ks
  pub only : (p : ℕ) (ks : List Kind) → Has new p ks → Has old p ks ⊎ (At p × (ks ≡ r))

-- One of the places At has another shape.
pub record Clashes (old : List (Option (List Kind))) (At : ℕ → Type 0) (r : List Kind) : Type 0 where
  pub place : ℕ
  pub named : At place
  pub other : List Kind
  pub there : Has old place other
  pub differs : other ≢ r

-- the table once the places before i have passed theirs on
pub record Shaping (program : Program) (i : ℕ) (table : List (Option (List Kind))) : Type 0 where
  pub long : length table ≡ length program.code
  pub first : 0 < length program.code → Has table 0 []
  pub reached : (p : ℕ) (ks : List Kind) → Has table p ks → IsReached program p
  pub shallow : (p : ℕ) (ks : List Kind) → Has table p ks → length ks ≤ 32
  pub forced : (p : ℕ) (ks : List Kind) → Has table p ks → (shape : ℕ → List Kind) → IsAssignment program shape →
      shape p ≡ ks
  pub passed : (p : ℕ) (ks : List Kind) (o : Operation) → p < i → Has table p ks → slice_get program.code p ≡ Some o →
      (r : List Kind) × (after o ks ≡ Some r) × (length r ≤ 32) ×
      ((q : ℕ) → Follows program o p q → q < length program.code → Has table q r)

-- the cost of the place that a jump names, 0 where there is none
abbrev pub by_target : Option ℕ → List ℕ → ℕ
by_target None costs = 0
by_target (Some q) costs = slice_index_or costs q 0

abbrev pub by_next : Bool → ℕ → List ℕ → ℕ
by_next true p costs = slice_index_or costs (p + 1) 0
by_next false p costs = 0

-- the places on the longest path from a place on, by the costs of its successors; places past the end cost 0
abbrev pub cost_at : Program → Operation → ℕ → List ℕ → ℕ
cost_at program o p costs = 1 + max (by_next (goes_on o) p costs) (by_target (target program o) costs)

-- the cost of each reached place from i on is the number of places on the longest path from it
pub record Costs (program : Program) (i : ℕ) (costs : List ℕ) : Type 0 where
  pub long : length costs ≡ length program.code
  pub small : (p : ℕ) → p < length program.code → slice_index_or costs p 0 + p ≤ length program.code
  pub some : (p : ℕ) → i ≤ p → p < length program.code → IsReached program p → 1 ≤ slice_index_or costs p 0
  pub upper : (p q : ℕ) → i ≤ p → IsReached program p → Leads program p q → q < length program.code →
      slice_index_or costs q 0 + 1 ≤ slice_index_or costs p 0
  pub attained : (p : ℕ) → i ≤ p → p < length program.code → IsReached program p → (slice_index_or costs p 0 ≡ 1) ⊎
      ((q : ℕ) × (q < length program.code) × Leads program p q ×
      (slice_index_or costs q 0 + 1 ≡ slice_index_or costs p 0))

-- the costs in steps of the reached places from i on
abbrev pub AreCostsFrom : Program → ℕ → (ℕ → ℕ) → Type 0
AreCostsFrom program i cost = (p : ℕ) (o : Operation) → i ≤ p → IsReached program p → slice_get program.code p ≡ Some o →
    cost p ≡ cost_by program cost p o

-- the cost of each place by a table; places past the end cost 0
abbrev pub cost_in : List ℕ → ℕ → ℕ
cost_in costs p = slice_index_or costs p 0

-- more than any budget: the table has it for this cost and all greater ones
abbrev pub too_much : ℕ
too_much = 1000001

-- the table has the cost of each reached place from i on, or too_much where that is less
pub record Costing (program : Program) (i : ℕ) (costs : List ℕ) : Type 0 where
  pub long : length costs ≡ length program.code
  pub small : (p : ℕ) → cost_in costs p ≤ too_much
  pub there : (cost : ℕ → ℕ) × AreCostsFrom program i cost
  pub are : (cost : ℕ → ℕ) → AreCostsFrom program i cost → (p : ℕ) → i ≤ p → p < length program.code →
      IsReached program p → cost_in costs p ≡ min (cost p) too_much

-- The jump at this place goes to a place of another procedure.
pub record JumpsOut (program : Program) (p : ℕ) : Type 0 where
  pub operation : Operation
  pub here : slice_get program.code p ≡ Some operation
  pub to : ℕ
  pub jumps : jump_target operation ≡ Some to
  pub out : procedure_of program to ≡ procedure_of program p → ⊥
