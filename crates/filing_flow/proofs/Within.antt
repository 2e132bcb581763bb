-- The operations of sound and typed code are in range, and their jumps stay within the code.
use Rattle.std.proofs.Common.{◌≡◌, ℕ, zero, suc, ◌+◌, ◌<◌, ◌≤◌, List, ◌∷◌, length, Bool, true, false, Some, None, refl, subst, arith, inl, inr}
use Rattle.std.specs.Prelude.{slice_get}
use Rattle.std.proofs.lemmas.Bool.{cases_lt}
use Rattle.std.proofs.lemmas.Option.{slice_get_within}
use Rattle.filing_image.specs.declared.instruction.Operation.{Operation}
use Rattle.filing_image.specs.declared.instruction.Operation.TheVariants.{PushTrue, PushFalse, Not, Values, Join, Match, Pop, Exists, Size, Number}
use Rattle.filing_image.specs.declared.instruction.Operation.TheVariants.{Less, Jump, Marked, Mark, File, Keep, Discard, Stop, Fault, Call}
use Rattle.filing_image.specs.Program.{Program, first_places}
use Rattle.filing_verify.specs.Flow.{jump_target}
use Rattle.filing_verify.specs.Well.{InRange}
use Rattle.sieve_meaning.specs.RunFaults.{number_of}
use Rattle.sieve_meaning.proofs.RunFaultLemmas.{number_at_most_five}
use Rattle.filing_flow.specs.Structure.{Action, Push, Negate, ValuesOf, JoinTwo, MatchKey, Drop, HasField, PushSize, PushNumber, IsLess, IsMarked}
use Rattle.filing_flow.specs.Structure.{SetMark, FileInto, SetKept, SetCancelled, End, Fail, CallTo, Flow, nothing, action, sequence, block, leave}
use Rattle.filing_flow.specs.Structure.{leave_if, size, Bounds, IsSoundAction, IsSound}
use Rattle.filing_flow.specs.Code.{places_in, IsWritten, Stands, end_at, jump_when}
use Rattle.filing_flow.specs.Types.{Shape, shape_at, HasType}

-- The operation is in range. Its jump goes no further than to a place, and it calls procedures after a number.
pub record Within (p : Program) (own last : ℕ) (o : Operation) : Type 0 where
  pub in_range : InRange p o
  pub jumps : (q : ℕ) → jump_target o ≡ Some q → q ≤ last
  pub calls : (b : ℕ) → o ≡ Call b → own < b

module _ (p : Program) (bounds : Bounds) (slots : bounds.slots
    ≡ p.slots) (procedures : bounds.procedures ≤ length (first_places p)) (last : ℕ) (inside : last < length p.code)
  where
    -- an operation with no jump and no call
    plain : (o : Operation) → InRange p o → jump_target o ≡ None → ((b : ℕ) → o ≡ Call b → ⊥) → Within p bounds.own last o
    plain o in_range no_jump no_call =
        record { in_range = in_range; jumps = λ q to. absurd (cc (to, no_jump)); calls = λ b is. absurd (no_call b is) }

    text_there : (b : ℕ) (t : List ℕ) → slice_get p.texts b ≡ Some t → b < length p.texts
    text_there b t e = slice_get_within p.texts b t e

    action_within : (x : Action) (o : Operation) → IsSoundAction bounds x → IsWritten (places_in p.texts p.numbers) x o → Within p bounds.own last o
    action_within (Push true) o ok w = rw w (plain PushTrue tt refl (λ b e. cc))
    action_within (Push false) o ok w = rw w (plain PushFalse tt refl (λ b e. cc))
    action_within Negate o ok w = rw w (plain Not tt refl (λ b e. cc))
    action_within (ValuesOf name) o ok (b, is, t) = rw is (plain (Values b) (text_there b name t) refl (λ b e. cc))
    action_within JoinTwo o ok w = rw w (plain Join tt refl (λ b e. cc))
    action_within (MatchKey a key) o ok (b, is, t) = rw is (plain (Match a b) (ok, text_there b key t) refl (λ b e. cc))
    action_within Drop o ok w = rw w (plain Pop tt refl (λ b e. cc))
    action_within (HasField name) o ok (b, is, t) = rw is (plain (Exists b) (text_there b name t) refl (λ b e. cc))
    action_within PushSize o ok w = rw w (plain Size tt refl (λ b e. cc))
    action_within (PushNumber n) o ok (b, is, t) = rw is (plain (Number b) (slice_get_within p.numbers b n t) refl (λ b e. cc))
    action_within IsLess o ok w = rw w (plain Less tt refl (λ b e. cc))
    action_within (IsMarked b) o ok w = rw w (plain (Marked b) (omega (arith, ok, slots)) refl (λ b e. cc))
    action_within (SetMark b) o ok w = rw w (plain (Mark b) (omega (arith, ok, slots)) refl (λ b e. cc))
    action_within (FileInto a path) o ok (b, is, t) = rw is (plain (File a b) (ok, text_there b path t) refl (λ b e. cc))
    action_within SetKept o ok w = rw w (plain Keep tt refl (λ b e. cc))
    action_within SetCancelled o ok w = rw w (plain Discard tt refl (λ b e. cc))
    action_within End o ok w = rw w (plain Stop tt refl (λ b e. cc))
    action_within (Fail fault) o ok w = rw w (plain (Fault (number_of fault)) (ok, number_at_most_five fault) refl (λ b e. cc))
    action_within (CallTo b) o ok w =
        rw w (record {
          in_range = omega (arith, ok.1, procedures);
          jumps = λ q to. absurd cc;
          calls = λ d is.
              let same : b ≡ d = cc in rw (← same) ok.0;
        })

    -- the ends of the blocks around are no further than the last place
    abbrev pub EndsInside : List ℕ → List Shape → Type 0
    EndsInside ends es = (n : ℕ) (k : Shape) → shape_at es n ≡ Some k → end_at ends n ≤ last

    ends_block : (b : ℕ) (ends : List ℕ) (k : Shape) (es : List Shape) → b ≤ last → EndsInside ends es → EndsInside (b ∷ ends) (k ∷ es)
    ends_block b ends k es le h zero j e = le
    ends_block b ends k es le h (suc n) j e = h n j e

    jump_within : (b : ℕ) → b ≤ last → Within p bounds.own last (Jump b)
    jump_within b le = record {
      in_range = omega (arith, le, inside);
      jumps = λ q to. let same : b ≡ q = cc in
          rw (← same) le;
      calls = λ d is. absurd cc;
    }

    leave_if_within : (t : Bool) (b : ℕ) → b ≤ last → Within p bounds.own last (jump_when t b)
    leave_if_within true b le = record {
      in_range = omega (arith, le, inside);
      jumps = λ q to. let same : b ≡ q = cc in
          rw (← same) le;
      calls = λ d is. absurd cc;
    }
    leave_if_within false b le = record {
      in_range = omega (arith, le, inside);
      jumps = λ q to. let same : b ≡ q = cc in
          rw (← same) le;
      calls = λ d is. absurd cc;
    }

    -- each operation from here to there
    abbrev pub AllWithin : (from to : ℕ) → Type 0
    AllWithin from to = (q : ℕ) (o : Operation) → from ≤ q → q < to → slice_get p.code q ≡ Some o → Within p bounds.own last o

    one : (pc : ℕ) (o : Operation) → slice_get p.code pc ≡ Some o → Within p bounds.own last o → AllWithin pc (pc + 1)
    one pc o at h q x low high found =
        let here : pc ≡ q = omega (arith, low, high) in
        let same : o ≡ x = cc (at, found, here) in
        subst (λ (y : Operation). Within p bounds.own last y) same h

    pub flow_within : (a : Flow) (ends : List ℕ) (pc : ℕ) (es : List Shape) (i o : Shape) → HasType a es i o
        → IsSound bounds a → Stands (places_in p.texts p.numbers) p.code a ends pc → pc + size a ≤ last
        → EndsInside ends es → AllWithin pc (pc + size a)
    flow_within nothing ends pc es i o d ok h le ends_in = λ q x low high found. absurd (omega (arith, low, high))
    flow_within (action x) ends pc es i o d ok (op, at, w) le ends_in = one pc op at (action_within x op ok w)
    flow_within (sequence a b) ends pc es i o d ok h le ends_in =
        let front = flow_within a ends pc es i d.0 d.1 ok.0 h.0 (omega (arith, le)) ends_in in
        let back = flow_within b ends (pc + size a) es d.0 o d.2 ok.1 h.1 (omega (arith, le)) ends_in in
        λ q x low high found. elim (cases_lt q (pc + size a)) [
          | inl below ↦ front q x low below found
          | inr from ↦ back q x from (omega (arith, high)) found
        ]
    flow_within (block a) ends pc es i o d ok h le ends_in =
        flow_within a ((pc + size a) ∷ ends) pc (o ∷ es) i o d ok h le (ends_block (pc + size a) ends o es le ends_in)
    flow_within (leave n) ends pc es i o d ok h le ends_in = one pc _ h (jump_within (end_at ends n) (ends_in n i d.1))
    flow_within (leave_if t n) ends pc es i o d ok h le ends_in = one pc _ h (leave_if_within t (end_at ends n) (ends_in n o d.2))
