-- Includes by what they come to.
use Rattle.std.proofs.Common.{◌≡◌, ℕ, zero, suc, ◌+◌, ◌<◌, ◌^◌, List, [], ◌∷◌, Bool, true, false, Option, Some, None}
use Rattle.std.proofs.Common.{length, ◌⊎◌, inl, inr, refl, sym, ap, ◌∙◌, subst, arith}
use Rattle.filing_image.specs.declared.instruction.Operation.TheVariants.{Marked, Mark, JumpIf}
use Rattle.sieve_meaning.specs.declared.run_fault.RunFault.{RunFault}
use Rattle.sieve_meaning.specs.declared.run_fault.RunFault.TheVariants.{NestingTooDeep}
use Rattle.filing_flow.specs.Structure.{IsMarked, SetMark, Fail, Flow, action, sequence, block, leave_if, size}
use Rattle.filing_flow.specs.Code.{end_at}
use Rattle.filing_flow.specs.Types.{Shape, HasType}
use Rattle.sieve_meaning.specs.Program.{Include, Commands}
use Rattle.sieve_meaning.specs.Meaning.{ScriptName, script_named, is_among, Library}
use Rattle.sieve_meaning.specs.Weight.{weight, included_weight, unless_missing, unless_active}
use Rattle.filing_gen.specs.declared.output.Output.{Output}
use Rattle.filing_gen.specs.BlockCode.{flow}
use Rattle.filing_gen.specs.Adds.{Puts, Emits}
use Rattle.filing_gen.specs.declared.finding.Finding.{Finding}
use Rattle.filing_gen.specs.declared.finding.Finding.TheVariants.{Pass, Fault}
use Rattle.filing_gen.specs.Scopes.{judgement_of}
use Rattle.filing_procedures.specs.Slots.{Slots}
use Rattle.filing_gen.specs.IncludeCode.{is_passed, once_flow, active_flow, found_flow, included_flow}
use Rattle.filing_gen.specs.Levels.{Judgement, Passes, Fails, Enters, judgement_by, judgement, judgement_flow}
use Rattle.filing_gen.specs.Levels.{judgement_weight, flow_at_level, weight_at_level}
use Rattle.filing_gen.specs.Ends.{no_place, IsEnded}
use Rattle.filing_gen.proofs.Emitted.{emits_sequence, action_emitted, leave_if_emitted, grows, put_grows}
use Rattle.filing_gen.proofs.EndedBlocks.{block_ended}
use Rattle.filing_gen.proofs.Types.{IncludesTyped, flow_typed}
use Rattle.filing_gen.proofs.IncludesTypes.{once_typed}

-- CODE

pub flow_cases : (o : Option Commands) (passed active once : Bool) (slot : ℕ) (enter : Commands → Flow)
    → found_flow o passed (λ script. active_flow active once (once_flow once slot (enter script)))
    ≡ judgement_flow (judgement_by o passed active once) once slot enter
flow_cases None true active once slot enter = refl
flow_cases None false active once slot enter = refl
flow_cases (Some x) passed true true slot enter = refl
flow_cases (Some x) passed true false slot enter = refl
flow_cases (Some x) passed false once slot enter = refl

pub flow_judged : (lib : Library) (slots : Slots) (main : List ScriptName) (left : ℕ) (chain : List ScriptName) (i : Include)
    → included_flow lib slots main left chain i
    ≡ judgement_flow (judgement lib main chain i) i.once (slots (script_named i))
    (flow_at_level lib slots main left (script_named i ∷ chain) (slots (script_named i)))
flow_judged lib slots main zero chain i =
    flow_cases (lib.find (script_named i)) (is_passed main i) (is_among chain (script_named i)) i.once
    (slots (script_named i)) (λ script. action (Fail NestingTooDeep))
flow_judged lib slots main (suc left) chain i =
    flow_cases (lib.find (script_named i)) (is_passed main i) (is_among chain (script_named i)) i.once (slots (script_named i))
    (λ script. block
    (sequence (action (SetMark (slots (script_named i))))
    (flow (included_flow lib slots main left (script_named i ∷ chain)) 0 script)))

-- WEIGHT

no_weight : (j : Judgement) → judgement_weight j (λ script. 0) ≡ 0
no_weight Passes = refl
no_weight (Fails fault) = refl
no_weight (Enters script) = refl

pub weight_cases : (o : Option Commands) (passed active once : Bool) (enter : Commands → ℕ)
    → unless_missing o (λ script. unless_active active (enter script))
    ≡ judgement_weight (judgement_by o passed active once) enter
weight_cases None true active once enter = refl
weight_cases None false active once enter = refl
weight_cases (Some x) passed true true enter = refl
weight_cases (Some x) passed true false enter = refl
weight_cases (Some x) passed false once enter = refl

pub weight_judged : (lib : Library) (main : List ScriptName) (left : ℕ) (chain : List ScriptName) (i : Include)
    → included_weight lib left chain i
    ≡ judgement_weight (judgement lib main chain i) (weight_at_level lib left (script_named i ∷ chain))
weight_judged lib main zero chain i = sym (no_weight (judgement lib main chain i))
weight_judged lib main (suc left) chain i =
    weight_cases (lib.find (script_named i)) (is_passed main i) (is_among chain (script_named i)) i.once (λ script.
    weight (included_weight lib left (script_named i ∷ chain)) script)

-- BY WHAT THE CODE FINDS

module _ (lib : Library) (slots : Slots) (main : List ScriptName) (left : ℕ) (chain : List ScriptName) (i : Include) where
  pub flow_told : (j : Judgement) → j ≡ judgement lib main chain i
      → included_flow lib slots main left chain i
      ≡ judgement_flow j i.once (slots (script_named i)) (flow_at_level lib slots main left (script_named i
      ∷ chain) (slots (script_named i)))
  flow_told j is = flow_judged lib slots main left chain i
      ∙ ap (λ (k : Judgement).
      judgement_flow k i.once (slots (script_named i)) (flow_at_level lib slots main left (script_named i
      ∷ chain) (slots (script_named i)))) (sym is)

  pub weight_told : (j : Judgement) → j ≡ judgement lib main chain i
      → included_weight lib left chain i ≡ judgement_weight j (weight_at_level lib left (script_named i ∷ chain))
  weight_told j is = weight_judged lib main left chain i
      ∙ ap (λ (k : Judgement). judgement_weight k (weight_at_level lib left (script_named i ∷ chain))) (sym is)

  -- where no script is entered
  pub nothing_weighed : (f : Finding) → judgement_of f ≡ judgement lib main chain i
      → (f ≡ Pass) ⊎ ((fault : RunFault) × (f ≡ Fault fault)) → included_weight lib left chain i ≡ 0
  nothing_weighed f is (inl at) = weight_told Passes (sym (ap judgement_of at) ∙ is)
  nothing_weighed f is (inr at) = weight_told (Fails at.0) (sym (ap judgement_of at.1) ∙ is)

  -- where a script is entered
  module _ (script : Commands) (is : Enters script ≡ judgement lib main chain i) where
    pub entry_weight : included_weight lib left chain i ≡ weight_at_level lib left (script_named i ∷ chain) script
    entry_weight = weight_told (Enters script) is

    module _ (slot : ℕ) (at : slot ≡ slots (script_named i)) where
      entry_flow : included_flow lib slots main left chain i
          ≡ once_flow i.once slot (flow_at_level lib slots main left (script_named i ∷ chain) slot script)
      entry_flow = flow_told (Enters script) is
          ∙ ap (λ (n : ℕ). once_flow i.once n (flow_at_level lib slots main left (script_named i ∷ chain) n script))
          (sym at)

      pub plain_entry : i.once ≡ false
          → included_flow lib slots main left chain i
          ≡ flow_at_level lib slots main left (script_named i ∷ chain) slot script
      plain_entry once = entry_flow
          ∙ ap (λ (b : Bool). once_flow b slot (flow_at_level lib slots main left (script_named i ∷ chain) slot script))
          once

      pub once_entry : i.once ≡ true
          → included_flow lib slots main left chain i
          ≡ once_flow true slot (flow_at_level lib slots main left (script_named i ∷ chain) slot script)
      once_entry once = entry_flow ∙ ap (λ (b : Bool). once_flow b slot (flow_at_level lib slots main left (script_named i ∷ chain) slot script)) once

-- EMISSION

-- the entry of a script under `:once`, after a jump past it where it is marked
module _ (x y z w : Output) (slot : ℕ) (a : Flow) (test : Puts x y (Marked slot)) (jump : Puts y z (JumpIf no_place))
    (h : (ends : List ℕ) → Emits z w a ends) where
  pub once_long : length w.code.items ≡ length x.code.items + size (once_flow true slot a)
  once_long =
      omega (arith, (put_grows x y (Marked slot) test).code, (put_grows y z (JumpIf no_place) jump).code, (grows z w a [] (h [])).code)

  pub once_emitted : (u : Output) (start : ℕ) → ((es : List Shape) → HasType a es [] []) → start ≡ length x.code.items
      → length w.code.items < 2 ^ 16 → IsEnded start (length w.code.items) w u
      → (ends : List ℕ) → Emits x u (once_flow true slot a) ends
  once_emitted u start typed begins few is ends =
      block_ended x w u (sequence (action (IsMarked slot)) (sequence (leave_if true 0) a)) ends [] (once_typed true slot a [] typed)
      (emits_sequence x y w (action (IsMarked slot)) (sequence (leave_if true 0) a) (no_place
      ∷ []) (action_emitted x y (Marked slot) (IsMarked slot) test refl (no_place ∷ []))
      (emits_sequence y z w (leave_if true 0) a (no_place ∷ []) (leave_if_emitted y z true no_place 0 (no_place ∷ []) jump refl)
      (h (no_place ∷ [])))) few (subst (λ (n : ℕ). IsEnded n (length w.code.items) w u) begins is)

-- a script that is marked and run, where its `return` goes to its end
pub entry_emitted : (x y z u : Output) (slot : ℕ) (g : Include → Flow) → IncludesTyped g → (script : Commands)
    → Puts x y (Mark slot) → ((n : ℕ) (ends : List ℕ) → end_at ends n ≡ no_place → Emits y z (flow g n script) ends)
    → length z.code.items < 2 ^ 16 → IsEnded (length x.code.items) (length z.code.items) z u
    → (ends : List ℕ) → Emits x u (block (sequence (action (SetMark slot)) (flow g 0 script))) ends
entry_emitted x y z u slot g typed script mark h few is ends =
    block_ended x z u (sequence (action (SetMark slot)) (flow g 0 script)) ends [] (
      [],
      (refl, omega arith, omega arith),
      flow_typed g typed zero script ([] ∷ []) refl,
    )
    (emits_sequence x y z (action (SetMark slot)) (flow g 0 script) (no_place
    ∷ []) (action_emitted x y (Mark slot) (SetMark slot) mark refl (no_place ∷ [])) (h 0 (no_place ∷ []) refl)) few
    is
