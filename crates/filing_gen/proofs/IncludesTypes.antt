-- The code of includes has a type and sound operands, and no more operations than its weight.
use Rattle.std.proofs.Common.{◌≡◌, ℕ, zero, suc, ◌+◌, ◌≤◌, ◌<◌, List, [], ◌∷◌, Bool, true, false, Option, Some, None, refl, arith}
use Rattle.filing_verify.specs.declared.kind.Kind.TheVariants.{Truth}
use Rattle.sieve_meaning.specs.declared.run_fault.RunFault.TheVariants.{NestingTooDeep}
use Rattle.filing_flow.specs.Structure.{SetMark, Fail, Flow, action, sequence, block, size, Bounds, IsSound}
use Rattle.filing_flow.specs.Types.{Shape, HasType}
use Rattle.sieve_meaning.specs.Program.{Include, Commands}
use Rattle.sieve_meaning.specs.Meaning.{ScriptName, script_named, is_among, Library}
use Rattle.sieve_meaning.specs.Weight.{weight, included_weight, unless_missing, unless_active}
use Rattle.filing_gen.specs.BlockCode.{flow}
use Rattle.filing_gen.specs.Levels.{flow_at_level}
use Rattle.filing_procedures.specs.Slots.{Slots, HasSlots}
use Rattle.filing_gen.specs.IncludeCode.{once_flow, active_flow, found_flow, including_flow, included_flow, is_passed}
use Rattle.filing_gen.proofs.Types.{flow_typed, flow_small, flow_sound, IncludesTyped, IncludesSmall, IncludesSound}

-- TYPES

pub once_typed : (once : Bool) (slot : ℕ) (a : Flow) (es : List Shape) → ((es : List Shape) → HasType a es [] [])
    → HasType (once_flow once slot a) es [] []
once_typed true slot a es h = (Truth ∷ [], (refl, omega arith, omega arith), ([], (refl, omega arith, refl), h ([] ∷ es)))
once_typed false slot a es h = h es

active_typed : (active once : Bool) (a : Flow) (es : List Shape) → HasType a es [] [] → HasType (active_flow active once a) es [] []
active_typed true true a es h = refl
active_typed true false a es h = (refl, omega arith, omega arith)
active_typed false once a es h = h

found_typed : (o : Option Commands) (passed : Bool) (go : Commands → Flow) (es : List Shape)
    → ((x : Commands) → HasType (go x) es [] []) → HasType (found_flow o passed go) es [] []
found_typed None true go es h = refl
found_typed None false go es h = (refl, omega arith, omega arith)
found_typed (Some x) passed go es h = h x

pub including_typed : (lib : Library) (slot : Slots) (main chain : List ScriptName) (a : Commands → Flow) (i : Include)
    → ((x : Commands) (es : List Shape) → HasType (a x) es [] []) → (es : List Shape)
    → HasType (including_flow lib slot main chain a i) es [] []
including_typed lib slot main chain a i h es =
    found_typed (lib.find (script_named i)) (is_passed main i) _ es
    (λ x. active_typed (is_among chain (script_named i)) i.once _ es (once_typed i.once (slot (script_named i)) (a x) es (h x)))

pub included_typed : (lib : Library) (slot : Slots) (main : List ScriptName) (left : ℕ) (chain : List ScriptName)
    → IncludesTyped (included_flow lib slot main left chain)
included_typed lib slot main zero chain i es =
    including_typed lib slot main chain (λ script. action (Fail NestingTooDeep)) i (λ x es.
    (refl, omega arith, omega arith)) es
included_typed lib slot main (suc left) chain i es =
    including_typed lib slot main chain (λ script.
    block (sequence (action (SetMark (slot (script_named i))))
    (flow (included_flow lib slot main left (script_named i ∷ chain)) 0 script))) i
    (λ x es. (
      [],
      (refl, omega arith, omega arith),
      flow_typed (included_flow lib slot main left (script_named i ∷ chain))
          (included_typed lib slot main left (script_named i ∷ chain)) zero x ([] ∷ es) refl,
    )) es

pub entered_typed : (lib : Library) (slots : Slots) (main : List ScriptName) (left : ℕ) (chain : List ScriptName)
    (slot : ℕ) (script : Commands) (es : List Shape)
    → HasType (flow_at_level lib slots main left chain slot script) es [] []
entered_typed lib slots main zero chain slot script es = (refl, omega arith, omega arith)
entered_typed lib slots main (suc left) chain slot script es = (
  [],
  (refl, omega arith, omega arith),
  flow_typed (included_flow lib slots main left chain) (included_typed lib slots main left chain) zero script ([]
      ∷ es) refl,
)

-- SIZES

once_small : (once : Bool) (slot n : ℕ) (a : Flow) → size a ≤ n → size (once_flow once slot a) ≤ n + 2
once_small true slot n a h = omega (arith, h)
once_small false slot n a h = omega (arith, h)

active_small : (active once : Bool) (a : Flow) (n : ℕ) → size a ≤ 4 + n → size (active_flow active once a) ≤ 4 + unless_active active n
active_small true true a n h = omega arith
active_small true false a n h = omega arith
active_small false once a n h = h

found_small : (o : Option Commands) (passed : Bool) (go : Commands → Flow) (w : Commands → ℕ)
    → ((x : Commands) → size (go x) ≤ 4 + w x) → size (found_flow o passed go) ≤ 4 + unless_missing o w
found_small None true go w h = omega arith
found_small None false go w h = omega arith
found_small (Some x) passed go w h = h x

-- where an entry takes at most two operations and what it adds to the weight
pub including_small : (lib : Library) (slot : Slots) (main chain : List ScriptName) (a : Commands → Flow) (w : Commands
    → ℕ) (i : Include) → ((x : Commands) → size (a x) ≤ 2 + w x)
    → size (including_flow lib slot main chain a i) ≤ 4 + unless_missing (lib.find (script_named i)) (λ script.
    unless_active (is_among chain (script_named i)) (w script))
including_small lib slot main chain a w i h =
    found_small (lib.find (script_named i)) (is_passed main i) (λ script.
    active_flow (is_among chain (script_named i)) i.once (once_flow i.once (slot (script_named i)) (a script)))
    (λ script. unless_active (is_among chain (script_named i)) (w script))
    (λ x. active_small (is_among chain (script_named i)) i.once (once_flow i.once (slot (script_named i)) (a x)) (w x)
    (omega (arith, once_small i.once (slot (script_named i)) (2 + w x) (a x) (h x))))

pub nothing_there : (o : Option Commands) (b : Bool) → unless_missing o (λ script. unless_active b 0) ≡ 0
nothing_there None b = refl
nothing_there (Some x) true = refl
nothing_there (Some x) false = refl

pub included_small : (lib : Library) (slot : Slots) (main : List ScriptName) (left : ℕ) (chain : List ScriptName)
    → IncludesSmall (included_flow lib slot main left chain) (included_weight lib left chain)
included_small lib slot main zero chain i =
    omega (
      arith,
      including_small lib slot main chain (λ script. action (Fail NestingTooDeep)) (λ x. 0) i (λ x.
          omega arith),
      nothing_there (lib.find (script_named i)) (is_among chain (script_named i)),
    )
included_small lib slot main (suc left) chain i =
    including_small lib slot main chain (λ script.
    block (sequence (action (SetMark (slot (script_named i))))
    (flow (included_flow lib slot main left (script_named i ∷ chain)) 0 script))) (λ script.
    weight (included_weight lib left (script_named i ∷ chain)) script) i
    (λ x. omega (
      arith,
      flow_small (included_flow lib slot main left (script_named i ∷ chain)) (included_weight lib left (script_named i
          ∷ chain)) (included_small lib slot main left (script_named i ∷ chain)) 0 x,
    ))

-- OPERANDS

once_sound : (bounds : Bounds) (once : Bool) (slot : ℕ) (a : Flow) → slot < bounds.slots → IsSound bounds a → IsSound bounds (once_flow once slot a)
once_sound bounds true slot a lt h = (lt, (tt, h))
once_sound bounds false slot a lt h = h

active_sound : (bounds : Bounds) (active once : Bool) (a : Flow) → IsSound bounds a → IsSound bounds (active_flow active once a)
active_sound bounds true true a h = tt
active_sound bounds true false a h = omega arith
active_sound bounds false once a h = h

found_sound : (bounds : Bounds) (lib : Library) (s : ScriptName) (o : Option Commands) → lib.find s ≡ o
    → (passed : Bool) (go : Commands → Flow) → ((x : Commands) → lib.find s ≡ Some x → IsSound bounds (go x))
    → IsSound bounds (found_flow o passed go)
found_sound bounds lib s None at true go h = tt
found_sound bounds lib s None at false go h = omega arith
found_sound bounds lib s (Some x) at passed go h = h x at

pub including_sound : (bounds : Bounds) (lib : Library) (slot : Slots) → HasSlots lib slot bounds.slots
    → (main chain : List ScriptName) (a : Commands → Flow) (i : Include)
    → ((x : Commands) → slot (script_named i) < bounds.slots → IsSound bounds (a x))
    → IsSound bounds (including_flow lib slot main chain a i)
including_sound bounds lib slot has main chain a i h =
    found_sound bounds lib (script_named i) (lib.find (script_named i)) refl (is_passed main i) (λ script.
    active_flow (is_among chain (script_named i)) i.once (once_flow i.once (slot (script_named i)) (a script)))
    (λ x at. active_sound bounds (is_among chain (script_named i)) i.once
    (once_flow i.once (slot (script_named i)) (a x)) (once_sound bounds i.once (slot (script_named i)) (a x)
    (has.inside (script_named i) x at) (h x (has.inside (script_named i) x at))))

pub included_sound : (bounds : Bounds) (lib : Library) (slot : Slots) → HasSlots lib slot bounds.slots
    → (main : List ScriptName) (left : ℕ) (chain : List ScriptName)
    → IncludesSound bounds (included_flow lib slot main left chain)
included_sound bounds lib slot has main zero chain i = including_sound bounds lib slot has main chain (λ script.
    action (Fail NestingTooDeep)) i (λ x lt. omega arith)
included_sound bounds lib slot has main (suc left) chain i =
    including_sound bounds lib slot has main chain (λ script.
    block (sequence (action (SetMark (slot (script_named i))))
    (flow (included_flow lib slot main left (script_named i ∷ chain)) 0 script))) i
    (λ x lt. (
      lt,
      flow_sound bounds (included_flow lib slot main left (script_named i ∷ chain))
          (included_sound bounds lib slot has main left (script_named i ∷ chain)) 0 x,
    ))
