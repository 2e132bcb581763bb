-- The steps of the first procedure are at most the path weight of the main script, where each call counts the steps of its
-- procedure.
use Rattle.std.proofs.Common.{◌≡◌, ℕ, zero, suc, ◌+◌, ◌*◌, ◌≤◌, List, [], ◌∷◌, length, Bool, true, false, cond, Option}
use Rattle.std.proofs.Common.{Some, None, sym, ap, subst, arith}
use Rattle.std.specs.Prelude.{nat_eq, slice_index}
use Rattle.std.proofs.lemmas.Bool.{eq-eqb, false_from_ne_true, eqb-true}
use Rattle.sieve_meaning.specs.Program.{Test, always, negated, all_of, any_of, has_all, over, under, header, Tests}
use Rattle.sieve_meaning.specs.Program.{no_test, test_then, Include, Command, require, keep, discard, stop, return}
use Rattle.sieve_meaning.specs.Program.{file_into, branch, include, Commands, no_command, command_then, Branches}
use Rattle.sieve_meaning.specs.Program.{no_branch, otherwise, if_then}
use Rattle.sieve_meaning.specs.Meaning.{ScriptName, script_named, is_among, main_names, Library}
use Rattle.sieve_meaning.specs.Weight.{test_weight, tests_weight, weight, weight_one, branches_weight, unless_missing, unless_active}
use Rattle.sieve_meaning.specs.Procedures.{Procedure, procedures, path_weight}
use Rattle.filing_flow.specs.Structure.{SetMark, Flow, action, sequence}
use Rattle.filing_flow.specs.Procedures.{flow_steps, steps_by}
use Rattle.filing_procedures.specs.Slots.{Slots}
use Rattle.filing_gen.specs.Names.{each_once, others_once}
use Rattle.filing_table.specs.Comparison.{comparison}
use Rattle.filing_gen.specs.BlockCode.{values_flow, keys_flow, names_flow, test_flow, tests_flow, flow, flow_one, branches_flow, script_flow}
use Rattle.filing_gen.specs.IncludeCode.{once_flow, active_flow, found_flow, including_flow, is_passed}
use Rattle.filing_gen.specs.Procedures.{call_flow, call_entry, calling_flow, procedure_flows, shared_flows, path_at, called_path, path_weights}
use Rattle.filing_gen.proofs.IncludesTypes.{nothing_there}
use Rattle.filing_gen.proofs.Names.{once_fewer, others_fewer}
use Rattle.filing_gen.proofs.PathLemmas.{path_first}

module _ (calls : ℕ → ℕ) where
  -- SCRIPTS

  values_steps : (ns : List (List ℕ)) → flow_steps calls (values_flow ns) ≤ 2 * length ns
  values_steps [] = omega arith
  values_steps (n ∷ ns) = omega (arith, values_steps ns)

  keys_steps : (a : ℕ) (ks : List (List ℕ)) → flow_steps calls (keys_flow a ks) ≤ 2 * length ks
  keys_steps a [] = omega arith
  keys_steps a (k ∷ ks) = omega (arith, keys_steps a ks)

  names_steps : (ns : List (List ℕ)) → flow_steps calls (names_flow ns) ≤ 2 * length ns
  names_steps [] = omega arith
  names_steps (n ∷ ns) = omega (arith, names_steps ns)

  mutual
    test_steps : (t : Test) → flow_steps calls (test_flow t) + 1 ≤ test_weight t
    test_steps (always b) = omega arith
    test_steps (negated t) = omega (arith, test_steps t)
    test_steps (all_of ts) = omega (arith, tests_steps false ts)
    test_steps (any_of ts) = omega (arith, tests_steps true ts)
    test_steps (has_all ns) = omega (arith, names_steps (each_once ns), once_fewer ns)
    test_steps (over n) = omega arith
    test_steps (under n) = omega arith
    test_steps (header m c n ns k ks) = omega (arith, values_steps (others_once n ns), others_fewer n ns, keys_steps (comparison m c) ks)

    tests_steps : (b : Bool) (ts : Tests) → flow_steps calls (tests_flow b ts) ≤ tests_weight ts
    tests_steps b no_test = omega arith
    tests_steps b (test_then t ts) = omega (arith, test_steps t, tests_steps b ts)

  abbrev IncludesSteps : (Include → Flow) → (Include → ℕ) → Type 0
  IncludesSteps g w = (i : Include) → flow_steps calls (g i) ≤ 4 + w i

  module _ (g : Include → Flow) (w : Include → ℕ) (few : IncludesSteps g w) where
    mutual
      script_steps : (n : ℕ) (xs : Commands) → flow_steps calls (flow g n xs) ≤ weight w xs
      script_steps n no_command = omega arith
      script_steps n (command_then x xs) = omega (arith, one_steps n x, script_steps n xs)

      one_steps : (n : ℕ) (x : Command) → flow_steps calls (flow_one g n x) ≤ weight_one w x
      one_steps n require = omega arith
      one_steps n keep = omega arith
      one_steps n discard = omega arith
      one_steps n stop = omega arith
      one_steps n return = omega arith
      one_steps n (file_into copy path) = omega arith
      one_steps n (branch bs) = branches_steps (suc n) bs
      one_steps n (include i) = few i

      branches_steps : (n : ℕ) (bs : Branches) → flow_steps calls (branches_flow g n bs) ≤ branches_weight w bs
      branches_steps n no_branch = omega arith
      branches_steps n (otherwise xs) = omega (arith, script_steps n xs)
      branches_steps n (if_then t xs bs) = omega (arith, test_steps t, script_steps (suc n) xs, branches_steps n bs)

  -- INCLUDES

  once_steps : (once : Bool) (slot n : ℕ) (a : Flow) → flow_steps calls a ≤ n → flow_steps calls (once_flow once slot a) ≤ n + 2
  once_steps true slot n a h = omega (arith, h)
  once_steps false slot n a h = omega (arith, h)

  active_steps : (active once : Bool) (a : Flow) (n : ℕ) → flow_steps calls a ≤ 4 + n
      → flow_steps calls (active_flow active once a) ≤ 4 + unless_active active n
  active_steps true true a n h = omega arith
  active_steps true false a n h = omega arith
  active_steps false once a n h = h

  found_steps : (o : Option Commands) (passed : Bool) (go : Commands → Flow) (w : Commands → ℕ)
      → ((x : Commands) → flow_steps calls (go x) ≤ 4 + w x)
      → flow_steps calls (found_flow o passed go) ≤ 4 + unless_missing o w
  found_steps None true go w h = omega arith
  found_steps None false go w h = omega arith
  found_steps (Some x) passed go w h = h x

  -- where an entry takes at most two steps and what it adds to the path
  including_steps : (lib : Library) (slot : Slots) (main chain : List ScriptName) (a : Commands → Flow) (w : Commands
      → ℕ) (i : Include) → ((x : Commands) → flow_steps calls (a x) ≤ 2 + w x)
      → flow_steps calls (including_flow lib slot main chain a i) ≤ 4 + unless_missing (lib.find (script_named i))
      (λ script. unless_active (is_among chain (script_named i)) (w script))
  including_steps lib slot main chain a w i h =
      found_steps (lib.find (script_named i)) (is_passed main i) (λ script.
      active_flow (is_among chain (script_named i)) i.once (once_flow i.once (slot (script_named i)) (a script)))
      (λ script. unless_active (is_among chain (script_named i)) (w script))
      (λ x. active_steps (is_among chain (script_named i)) i.once (once_flow i.once (slot (script_named i)) (a x)) (w x)
      (omega (arith, once_steps i.once (slot (script_named i)) (2 + w x) (a x) (h x))))

  -- PROCEDURES

  module _ (lib : Library) (slot : Slots) (main : List ScriptName) (own : ℕ) (later : List Procedure) (paths : List ℕ)
      (within : (n : ℕ) → calls (own + suc n) ≤ slice_index paths n) where
    call_steps : (number : Option ℕ) → flow_steps calls (call_flow own number) ≤ 1 + path_at paths number
    call_steps None = omega arith
    call_steps (Some n) = omega (arith, within n)

    marked_steps : (slot : ℕ) (number : Option ℕ)
        → flow_steps calls (sequence (action (SetMark slot)) (call_flow own number)) ≤ 2 + path_at paths number
    marked_steps slot number = let one = call_steps number in omega (arith, one)

    entry_steps : (left : ℕ) (chain : List ScriptName) (i : Include)
        → flow_steps calls
        (including_flow lib slot main chain (call_entry lib slot own later left chain (script_named i)) i) ≤ 4 +
        called_path lib later paths left chain i
    entry_steps zero chain i =
        let h = including_steps lib slot main chain (call_entry lib slot own later zero chain (script_named i)) (λ x. 0) i (λ x. omega arith) in
        omega (arith, h, nothing_there (lib.find (script_named i)) (is_among chain (script_named i)))
    entry_steps (suc left) chain i =
        including_steps lib slot main chain (call_entry lib slot own later (suc left) chain (script_named i)) _ i (λ x.
        marked_steps (slot (script_named i)) _)

    procedure_steps : (p : Procedure)
        → flow_steps calls (script_flow (calling_flow lib slot main own later p) p.script) ≤ weight
        (called_path lib later paths p.left p.chain) p.script
    procedure_steps p =
        script_steps (calling_flow lib slot main own later p) (called_path lib later paths p.left p.chain) (λ i.
        entry_steps p.left p.chain i) 0 p.script

module _ (lib : Library) (slot : Slots) (main : List ScriptName) where
  -- each procedure takes at most its path weight
  steps_within : (own : ℕ) (ps : List Procedure) (n : ℕ)
      → steps_by own (procedure_flows lib slot main own ps) (own + n) ≤ slice_index (path_weights lib ps) n
  steps_within own [] n = omega arith
  steps_within own (p ∷ later) zero =
      let calls = steps_by (suc own) (procedure_flows lib slot main (suc own) later) in
      let a = script_flow (calling_flow lib slot main own later p) p.script in
      let is : nat_eq (own + 0) own ≡ true = eq-eqb (own + 0) own (omega arith) in
      let h = procedure_steps calls lib slot main own later (path_weights lib later) (λ m. let k =
      steps_within (suc own) later m in
      subst (λ (b : ℕ). calls b ≤ slice_index (path_weights lib later) m) (omega arith) k) p in
      subst (λ (b : Bool).
      cond b (flow_steps calls a + 1) (calls (own + 0)) ≤ weight
      (called_path lib later (path_weights lib later) p.left p.chain) p.script + 1) (sym is) (omega (arith, h))
  steps_within own (p ∷ later) (suc n) =
      let calls = steps_by (suc own) (procedure_flows lib slot main (suc own) later) in
      let a = script_flow (calling_flow lib slot main own later p) p.script in
      let other : nat_eq (own + suc n) own ≡ false =
      false_from_ne_true (nat_eq (own + suc n) own) (λ h.
      absurd (let same = eqb-true (own + suc n) own h in omega (arith, same))) in
      let h = steps_within (suc own) later n in
      subst (λ (b : Bool). cond b (flow_steps calls a + 1) (calls (own + suc n)) ≤ slice_index (path_weights lib later) n) (sym other)
      (subst (λ (b : ℕ). calls b ≤ slice_index (path_weights lib later) n) (omega arith) h)

pub shared_steps : (lib : Library) (slot : Slots) (known_as : Option (List ℕ)) (main : Commands)
    → steps_by 0 (shared_flows lib slot known_as main) 0 ≤ path_weight lib known_as main
shared_steps lib slot known_as main =
    let first = ap (λ (ws : List ℕ). slice_index ws 0) (path_first lib known_as main) in
    let h = steps_within lib slot (main_names known_as) 0 (procedures lib known_as main) 0 in
    omega (arith, h, first)
