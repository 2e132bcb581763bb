-- The code of a procedure has a type and sound operands.
use Rattle.std.proofs.Common.{◌≡◌, ◌+◌, ◌<◌, ℕ, zero, suc, List, [], ◌∷◌, Bool, true, false, Option, Some, None}
use Rattle.std.proofs.Common.{option_map, length, cond, refl, arith}
use Rattle.sieve_meaning.specs.Program.{Commands}
use Rattle.sieve_meaning.specs.Meaning.{ScriptName, script_named, Library}
use Rattle.sieve_meaning.specs.Procedures.{Procedure, is_shared}
use Rattle.filing_flow.specs.Structure.{Bounds, IsSound}
use Rattle.filing_flow.specs.Types.{Shape, HasType}
use Rattle.filing_flow.specs.Procedures.{AreSound, AreTyped}
use Rattle.filing_gen.specs.BlockCode.{script_flow}
use Rattle.filing_procedures.specs.Slots.{Slots, HasSlots}
use Rattle.filing_procedures.specs.ProcedureCode.{number_of}
use Rattle.filing_gen.specs.Procedures.{call_flow, call_entry, calling_flow, procedure_flows}
use Rattle.filing_gen.proofs.IncludesTypes.{including_typed, including_sound}
use Rattle.filing_gen.proofs.Types.{flow_typed, flow_sound, IncludesTyped, IncludesSound}

module _ (lib : Library) where
  -- a number is found among the procedures
  pub number_below : (later : List Procedure) (e : Procedure) (n : ℕ) → number_of lib later e ≡ Some n → n < length later
  number_below [] e n at = absurd (cc at)
  number_below (p ∷ later) e n at = by (is_shared lib p e) (number_of lib later e) n at (number_below later e)
    where
      by : (b : Bool) (o : Option ℕ) (n : ℕ) → cond b (Some 0) (option_map suc o) ≡ Some n
          → ((m : ℕ) → o ≡ Some m → m < length later) → n < length (p ∷ later)
      by true o n at inside = let is : 0 ≡ n = cc at in omega (arith, is)
      by false None n at inside = absurd (cc at)
      by false (Some m) n at inside = let is : suc m ≡ n = cc at in let below = inside m refl in omega (arith, is, below)

module _ (lib : Library) (slot : Slots) (main : List ScriptName) (own : ℕ) (later : List Procedure) where
  call_typed : (number : Option ℕ) (es : List Shape) → HasType (call_flow own number) es [] []
  call_typed None es = (refl, omega arith, omega arith)
  call_typed (Some n) es = (refl, omega arith, omega arith)

  entry_typed : (left : ℕ) (chain : List ScriptName) (s : ScriptName) (x : Commands) (es : List Shape)
      → HasType (call_entry lib slot own later left chain s x) es [] []
  entry_typed zero chain s x es = (refl, omega arith, omega arith)
  entry_typed (suc left) chain s x es = (
    [],
    (refl, omega arith, omega arith),
    call_typed (number_of lib later (record { script = x; left = left; chain = s ∷ chain })) es,
  )

  pub calling_typed : (p : Procedure) → IncludesTyped (calling_flow lib slot main own later p)
  calling_typed p i es =
      including_typed lib slot main p.chain (call_entry lib slot own later p.left p.chain (script_named i)) i (λ x es.
      entry_typed p.left p.chain (script_named i) x es) es

  pub procedure_typed : (p : Procedure) (es : List Shape) → HasType (script_flow (calling_flow lib slot main own later p) p.script) ([] ∷ es) [] []
  procedure_typed p es = flow_typed (calling_flow lib slot main own later p) (calling_typed p) 0 p.script ([] ∷ es) refl

  module _ (bounds : Bounds) (has : HasSlots lib slot bounds.slots) (from : bounds.own ≡ own) (enough : own + length later < bounds.procedures) where
    call_sound : (number : Option ℕ) → ((n : ℕ) → number ≡ Some n → n < length later) → IsSound bounds (call_flow own number)
    call_sound None inside = omega arith
    call_sound (Some n) inside = let below = inside n refl in (omega (arith, from), omega (arith, enough, below))

    entry_sound : (left : ℕ) (chain : List ScriptName) (s : ScriptName) (x : Commands) → slot s < bounds.slots
        → IsSound bounds (call_entry lib slot own later left chain s x)
    entry_sound zero chain s x lt = omega arith
    entry_sound (suc left) chain s x lt =
        let e : Procedure = record { script = x; left = left; chain = s ∷ chain } in
        (lt, call_sound (number_of lib later e) (number_below lib later e))

    calling_sound : (p : Procedure) → IncludesSound bounds (calling_flow lib slot main own later p)
    calling_sound p i =
        including_sound bounds lib slot has main p.chain (call_entry lib slot own later p.left p.chain (script_named i))
        i (λ x lt. entry_sound p.left p.chain (script_named i) x lt)

    pub procedure_sound : (p : Procedure) → IsSound bounds (script_flow (calling_flow lib slot main own later p) p.script)
    procedure_sound p = flow_sound bounds (calling_flow lib slot main own later p) (calling_sound p) 0 p.script

module _ (lib : Library) (slot : Slots) (main : List ScriptName) where
  pub procedures_typed : (own : ℕ) (ps : List Procedure) → AreTyped (procedure_flows lib slot main own ps)
  procedures_typed own [] = tt
  procedures_typed own (p ∷ ps) = (procedure_typed lib slot main own ps p [], procedures_typed (suc own) ps)

  pub procedures_sound : (slots count own : ℕ) (ps : List Procedure) → HasSlots lib slot slots → own + length ps ≡ count
      → AreSound slots count own (procedure_flows lib slot main own ps)
  procedures_sound slots count own [] has e = tt
  procedures_sound slots count own (p ∷ ps) has e = (
    procedure_sound lib slot main own ps (record { slots = slots; own = own; procedures = count }) has refl (omega (arith, e)) p,
    procedures_sound slots count (suc own) ps has (omega (arith, e)),
  )
