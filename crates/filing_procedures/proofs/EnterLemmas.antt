-- What an include of a procedure enters, by what is found.
use Rattle.std.proofs.Common.{◌≡◌, ℕ, suc, ◌+◌, ◌-◌, ◌<◌, ◌≤◌, List, [], ◌∷◌, ◌++◌, length, map, filter, filter_map, flat_map, drop, get_or}
use Rattle.std.proofs.Common.{Bool, true, false, not, cond, Option, Some, None, refl, sym, ap, ◌∙◌, arith, length-append}
use Rattle.std.specs.List.{list_any, cons_option}
use Rattle.std.proofs.lemmas.List.{get_or_default}
use Rattle.sieve_check.proofs.Strings.{drop_at}
use Rattle.sieve_meaning.specs.Program.{Commands}
use Rattle.sieve_meaning.specs.Meaning.{ScriptName, is_among, Library}
use Rattle.sieve_meaning.specs.Procedures.{holds_if_there, once, included_names, Procedure, is_shared, entered_if, entry, called_by}
use Rattle.sieve_meaning.specs.Scripts.{script_of}
use Rattle.sieve_meaning.specs.declared.scripts.ScriptName as code
use Rattle.sieve_meaning.proofs.ProcedureLemmas.{AllOf, IsEntered, shared_along, all_entered, are_entered}
use Rattle.filing_procedures.specs.IncludedScripts.{is_there}
use Rattle.filing_procedures.specs.ProcedureCode.{procedure_of, with_procedure, with_procedures, entered_by}
use Rattle.filing_procedures.specs.declared.procedure.Procedure as made
use Rattle.filing_procedures.proofs.OnceLemmas.{filter_all, puts, puts_once}

module _ (lib : Library) (left : ℕ) (chain : List ScriptName) (s : ScriptName) where
  pub active_entered : is_among chain s ≡ true → entry lib left chain s ≡ None
  active_entered h = ap (λ (b : Bool). entered_if (lib.find s) b left (s ∷ chain)) h ∙ by (lib.find s)
    where
      by : (o : Option Commands) → entered_if o true left (s ∷ chain) ≡ None
      by None = refl
      by (Some x) = refl

  pub missing_entered : lib.find s ≡ None → entry lib left chain s ≡ None
  missing_entered h = ap (λ (o : Option Commands). entered_if o (is_among chain s) left (s ∷ chain)) h

  pub there_entered : (x : Commands) → lib.find s ≡ Some x → is_among chain s ≡ false
      → entry lib left chain s ≡ Some (record { script = x; left = left; chain = s ∷ chain })
  there_entered x at out = ap (λ (o : Option Commands). entered_if o (is_among chain s) left (s ∷ chain)) at
      ∙ ap (λ (b : Bool). entered_if (Some x) b left (s ∷ chain)) out

module _ (lib : Library) (ps : List Procedure) (o : Option Procedure) where
  pub none_added : o ≡ None → ps ≡ with_procedure lib ps o
  none_added h = ap (with_procedure lib ps) (sym h)

  module _ (e : Procedure) (is : o ≡ Some e) where
    pub made_before : list_any (λ p. is_shared lib p e) ps ≡ true → ps ≡ with_procedure lib ps o
    made_before h = ap (λ (b : Bool). cond b ps (ps ++ e ∷ [])) (sym h) ∙ ap (with_procedure lib ps) (sym is)

    pub one_added : list_any (λ p. is_shared lib p e) ps ≡ false → ps ++ e ∷ [] ≡ with_procedure lib ps o
    one_added h = ap (λ (b : Bool). cond b ps (ps ++ e ∷ [])) (sym h) ∙ ap (with_procedure lib ps) (sym is)

    pub no_room : list_any (λ p. is_shared lib p e) ps ≡ false → (room : ℕ) → room ≤ length ps → room < length (with_procedure lib ps o)
    no_room h room full = let long : length (with_procedure lib ps o) ≡ length ps + 1 = ap length (sym (one_added h))
        ∙ length-append ps (e ∷ []) in omega (arith, long, full)

pub same_procedure : (p q : Procedure) → p.script ≡ q.script → p.left ≡ q.left → p.chain ≡ q.chain → p ≡ q
same_procedure p q script left chain =
    let parts : (p.script, p.left, p.chain) ≡ (q.script, q.left, q.chain) = cc in
    ap (λ (t : Commands × ℕ × List ScriptName). record { script = t.0; left = t.1; chain = t.2 }) parts

-- IN TURN

module _ (lib : Library) where
  with_append : (ps es fs : List Procedure) → with_procedures lib ps (es ++ fs) ≡ with_procedures lib (with_procedures lib ps es) fs
  with_append ps [] fs = refl
  with_append ps (e ∷ es) fs = with_append (with_procedure lib ps (Some e)) es fs

  with_option : (ps : List Procedure) (o : Option Procedure) (es : List Procedure)
      → with_procedures lib ps (cons_option o es) ≡ with_procedures lib (with_procedure lib ps o) es
  with_option ps None es = refl
  with_option ps (Some e) es = refl

  one_longer : (ps : List Procedure) (e : Procedure) → length ps ≤ length (with_procedure lib ps (Some e))
  one_longer ps e = by (list_any (λ p. is_shared lib p e) ps)
    where
      by : (b : Bool) → length ps ≤ length (cond b ps (ps ++ e ∷ []))
      by true = omega arith
      by false = let long = length-append ps (e ∷ []) in omega (arith, long)

  longer : (ps es : List Procedure) → length ps ≤ length (with_procedures lib ps es)
  longer ps [] = omega arith
  longer ps (e ∷ es) = let one = one_longer ps e in let rest = longer (with_procedure lib ps (Some e)) es in omega (arith, one, rest)

  module _ (left : ℕ) (chain : List ScriptName) where
    abbrev enters : List ScriptName → List Procedure
    enters names = filter_map (entry lib left chain) names

    -- what is not there is not entered
    pub there_alone : (names : List ScriptName) → enters (filter (is_there lib) names) ≡ enters names
    there_alone [] = refl
    there_alone (s ∷ ss) = by (lib.find s) refl (there_alone ss)
      where
        by : (o : Option Commands) → lib.find s ≡ o → enters (filter (is_there lib) ss) ≡ enters ss
            → enters (filter (is_there lib) (s ∷ ss)) ≡ enters (s ∷ ss)
        by None at rest =
            ap (λ (o : Option Commands).
            enters (cond (holds_if_there o (λ script. true)) (s ∷ filter (is_there lib) ss)
            (filter (is_there lib) ss))) at
            ∙ rest ∙ ap (λ (o : Option Procedure). cons_option o (enters ss)) (sym (missing_entered lib left chain s at))
        by (Some x) at rest =
            ap (λ (o : Option Commands).
            enters (cond (holds_if_there o (λ script. true)) (s ∷ filter (is_there lib) ss)
            (filter (is_there lib) ss))) at
            ∙ ap (cons_option (entry lib left chain s)) rest

    module _ (ps all : List Procedure) (names : List code.ScriptName) (i : ℕ) (name : code.ScriptName)
        (below : i < length names) (is : name
        ≡ get_or names i name) (before : with_procedures lib ps (enters (map script_of (drop i names))) ≡ all) where
      abbrev one_more : List Procedure
      one_more = with_procedure lib ps (entry lib left chain (script_of name))

      -- after one more name
      pub name_turn : with_procedures lib one_more (enters (map script_of (drop (i + 1) names))) ≡ all
      name_turn =
          sym (with_option ps (entry lib left chain (script_of name)) (enters (map script_of (drop (i + 1) names))))
          ∙ ap (λ (ns : List code.ScriptName). with_procedures lib ps (enters (map script_of ns))) (sym (drop_at names i name below is)) ∙ before

      full_then : (room : ℕ) → room < length one_more → room < length all
      full_then room full = let more = longer one_more (enters (map script_of (drop (i + 1) names))) in omega (arith, full, more, ap length name_turn)

    pub name_full : (ps all : List Procedure) (names : List code.ScriptName) (i : ℕ) (d : code.ScriptName)
        → i < length names → with_procedures lib ps (enters (map script_of (drop i names))) ≡ all
        → (room : ℕ) → room < length (with_procedure lib ps (entry lib left chain (script_of (get_or names i d)))) → room < length all
    name_full ps all names i d below before room full =
        full_then ps all names i (get_or names i d) below (get_or_default names i d (get_or names i d) below) before
        room full

  abbrev enter_all : List Procedure → List Procedure
  enter_all ps = flat_map (entered_by lib) ps

  module _ (ps all : List Procedure) (callers : List made.Procedure) (i : ℕ) (caller : made.Procedure)
      (below : i < length callers) (is : caller ≡ get_or callers i caller)
      (before : with_procedures lib ps (enter_all (map procedure_of (drop i callers))) ≡ all) where
    abbrev more : List Procedure
    more = with_procedures lib ps (entered_by lib (procedure_of caller))

    -- after one more procedure
    pub caller_turn : with_procedures lib more (enter_all (map procedure_of (drop (i + 1) callers))) ≡ all
    caller_turn =
        sym (with_append ps (entered_by lib (procedure_of caller)) (enter_all (map procedure_of (drop (i + 1) callers))))
        ∙ ap (λ (qs : List made.Procedure). with_procedures lib ps (enter_all (map procedure_of qs)))
        (sym (drop_at callers i caller below is)) ∙ before

    pub caller_full : (room : ℕ) → room < length more → room < length all
    caller_full room full = let rest = longer more (enter_all (map procedure_of (drop (i + 1) callers))) in
        omega (arith, full, rest, ap length caller_turn)

  -- A LEVEL

  as_puts : (ps es : List Procedure) → with_procedures lib ps es ≡ puts (is_shared lib) (λ p. true) ps es
  as_puts ps [] = refl
  as_puts ps (e ∷ es) = as_puts (with_procedure lib ps (Some e)) es
      ∙ ap (λ (qs : List Procedure).
      puts (is_shared lib) (λ p. true) qs es) (turned (list_any (λ p. is_shared lib p e) ps))
    where
      turned : (b : Bool) → cond b ps (ps ++ e ∷ []) ≡ cond (not b) (ps ++ e ∷ []) ps
      turned true = refl
      turned false = refl

  same_entered : (left : ℕ) (ps : List Procedure) → AllOf (λ p. p.left ≡ suc left) ps → enter_all ps ≡ all_entered lib left ps
  same_entered left [] h = refl
  same_entered left (p ∷ ps) h =
      let e : p.left - 1 ≡ left = omega (arith, h.0) in
      ap (λ (n : ℕ). filter_map (entry lib n p.chain) (included_names p.script) ++ enter_all ps) e
      ∙ ap (λ (qs : List Procedure). filter_map (entry lib left p.chain) (included_names p.script)
      ++ qs) (same_entered left ps h.1)

  pub called_are : (left : ℕ) (ps : List Procedure) → AllOf (λ p. p.left ≡ suc left) ps
      → with_procedures lib [] (enter_all ps) ≡ called_by lib left ps
  called_are left ps h =
      ap (with_procedures lib []) (same_entered left ps h)
      ∙ as_puts [] (all_entered lib left ps)
      ∙ puts_once (is_shared lib) (λ p. true) (IsEntered lib left) (shared_along lib left) (λ x z px pz like.
      refl) (all_entered lib left ps) (are_entered lib left ps)
      ∙ filter_all (λ p. true) (λ p. refl) (once (is_shared lib) (all_entered lib left ps))
