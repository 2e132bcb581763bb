-- The procedures of a main script, level by level.
use Rattle.std.proofs.Common.{◌≡◌, ℕ, zero, suc, ◌+◌, ◌-◌, ◌<◌, ◌≤◌, List, [], ◌∷◌, ◌++◌, length, map, take, drop, Option, Some, None, IfSome}
use Rattle.std.proofs.Common.{MatchOption, Vec, Global, sym, ap, ◌∙◌, subst, arith, append_assoc, length-append, length-drop}
use Rattle.std.specs.List.{All}
use Rattle.std.proofs.lemmas.List.{map-append, length-map, take-append-drop, take_all}
use Rattle.std.proofs.lemmas.Option.{MatchOption-at_none, MatchOption-at_some}
use Rattle.std.proofs.lemmas.List.Elements.{All-nil, All-cons, All-head, All-tail, All-append, All-weaker, All-same, All-drop}
use Rattle.std.proofs.Math.Seq.{drop-append_seam, take-append_seam}
use Rattle.sieve_meaning.specs.Program.{Commands}
use Rattle.sieve_meaning.specs.Meaning.{Library}
use Rattle.sieve_meaning.specs.Procedures.{Procedure, called_by, led_to, main_procedure, procedures}
use Rattle.sieve_meaning.proofs.ProcedureLemmas.{AllOf, called_left}
use Rattle.sieve_library.specs.Libraries.{Scripts, library_of}
use Rattle.filing_procedures.specs.ProcedureCode.{procedure_of, HasKey, IsEntered, HaveKeys, AreProcedures}
use Rattle.filing_procedures.specs.declared.procedure.Procedure as code

abbrev HasLeft : ℕ → code.Procedure → Type 0
HasLeft n p = p.key.left ≡ n

pub lefts_from : (n : ℕ) (ps : List code.Procedure) → All (HasLeft n) ps → AllOf (λ p. p.left ≡ n) (map procedure_of ps)
lefts_from n [] h = tt
lefts_from n (p ∷ ps) h = (All-head (HasLeft n) p ps h, lefts_from n ps (All-tail (HasLeft n) p ps h))

lefts_to : (n : ℕ) (ps : List code.Procedure) → AllOf (λ p. p.left ≡ n) (map procedure_of ps) → All (HasLeft n) ps
lefts_to n [] h = All-nil (HasLeft n)
lefts_to n (p ∷ ps) h = All-cons (HasLeft n) p ps h.0 (lefts_to n ps h.1)

-- KEYS

module _ (l : Scripts) where
  pub all_keys : (ps : List code.Procedure) → HaveKeys l ps → All (HasKey l) ps
  all_keys [] h = All-nil (HasKey l)
  all_keys (p ∷ ps) h = All-cons (HasKey l) p ps h.0 (All-weaker (IsEntered l) (HasKey l) (λ q e. e.of) ps h.1)

  entered_keys : (ps : List code.Procedure) → All (IsEntered l) ps → HaveKeys l ps
  entered_keys [] h = tt
  entered_keys (p ∷ ps) h = ((All-head (IsEntered l) p ps h).of, All-tail (IsEntered l) p ps h)

  more_keys : (ps next : List code.Procedure) → HaveKeys l ps → All (IsEntered l) next → HaveKeys l (ps ++ next)
  more_keys [] next h k = entered_keys next k
  more_keys (p ∷ ps) next h k = (h.0, All-append (IsEntered l) ps next h.1 k)

  -- those after a number of them have their keys too
  pub keys_after : (n : ℕ) (ps : List code.Procedure) → HaveKeys l ps → HaveKeys l (drop n ps)
  keys_after zero ps h = h
  keys_after (suc n) [] h = tt
  keys_after (suc n) (p ∷ ps) h = entered_keys (drop n ps) (All-drop (IsEntered l) n ps h.1)

-- LEVELS

led_longer : (lib : Library) (left : ℕ) (ps : List Procedure) → length ps ≤ length (led_to lib left ps)
led_longer lib zero ps = omega arith
led_longer lib (suc left) ps = let long = length-append ps (led_to lib left (called_by lib left ps)) in omega (arith, long)

-- a number of levels are made, whose last begins at `first`
pub record AreLevels (l : Scripts) (known_as : Option (List ℕ)) (main : Commands) (count first : ℕ) (ps : List code.Procedure) : Type 0 where
  pub few : length ps ≤ 256
  pub inside : first ≤ length ps
  pub keys : HaveKeys l ps
  pub level : All (HasLeft (7 - count)) (drop first ps)
  pub are : map procedure_of (take first ps) ++ led_to (library_of l) (7 - count) (map procedure_of (drop first ps))
      ≡ procedures (library_of l) known_as main

pub first_level : (l : Scripts) (known_as : Option (List ℕ)) (main : Commands) (p : code.Procedure) → HasKey l p
    → procedure_of p ≡ main_procedure known_as main → AreLevels l known_as main 0 0 (p ∷ [])
unfolding procedures
first_level l known_as main p key is = record {
  few = omega arith;
  inside = omega arith;
  keys = (key, All-nil (IsEntered l));
  level = All-cons (HasLeft 7) p [] (ap (λ (q : Procedure). q.left) is) (All-nil (HasLeft 7));
  are = ap (λ (q : Procedure). led_to (library_of l) 7 (q ∷ [])) is;
}

module _ {l : Scripts} {known_as : Option (List ℕ)} {main : Commands} {count first : ℕ} {ps : List code.Procedure}
    (before : AreLevels l known_as main count first ps) (open_level : count < 7) where
  abbrev left : ℕ
  left = 7 - (count + 1)

  abbrev last : List Procedure
  last = map procedure_of (drop first ps)

  left_is : 7 - count ≡ suc left
  left_is = omega (arith, open_level)

  lefts : All (HasLeft (suc left)) (drop first ps)
  lefts = subst (λ (n : ℕ). All (HasLeft n) (drop first ps)) left_is before.level

  two_parts : map procedure_of (take first ps) ++ last ≡ map procedure_of ps
  two_parts = sym (map-append procedure_of (take first ps) (drop first ps)) ∙ ap (map procedure_of) (take-append-drop first ps)

  all_made : map procedure_of (take first ps)
      ++ (last ++ led_to (library_of l) left (called_by (library_of l) left last))
      ≡ procedures (library_of l) known_as main
  all_made = ap (λ (n : ℕ). map procedure_of (take first ps) ++ led_to (library_of l) n last) (sym left_is) ∙ before.are

  pub no_level : ((n : ℕ) → All (HasLeft (suc n)) (drop first ps)
      → 256 - length ps < length (called_by (library_of l) n last))
      → 256 < length (procedures (library_of l) known_as main)
  no_level more =
      let called = called_by (library_of l) left last in
      let room : 256 - length ps < length called = more left lefts in
      let rest : length called ≤ length (led_to (library_of l) left called) = led_longer (library_of l) left called in
      let outer = length-append (map procedure_of (take first ps)) (last ++ led_to (library_of l) left called) in
      let inner = length-append last (led_to (library_of l) left called) in
      let long = length-append (map procedure_of (take first ps)) last in
      let few = before.few in
      omega (arith, few, room, rest, outer, inner, long, ap length two_parts, length-map ps procedure_of, ap length all_made)

  module _ (next : List code.Procedure) (entered : All (IsEntered l) next) (made : (n : ℕ)
      → All (HasLeft (suc n)) (drop first ps)
      → map procedure_of next ≡ called_by (library_of l) n last) (few : length next ≤ 256 - length ps) where
    behind : drop (length ps) (ps ++ next) ≡ next
    behind = drop-append_seam ps next

    pub next_level : AreLevels l known_as main (count + 1) (length ps) (ps ++ next)
    next_level = record {
      few = let long = length-append ps next in omega (arith, before.few, few, long);
      inside = let long = length-append ps next in omega (arith, long);
      keys = more_keys l ps next before.keys entered;
      level = All-same (HasLeft left) (drop (length ps) (ps ++ next)) next behind
          (lefts_to left next (subst (AllOf (λ (p : Procedure). p.left ≡ left)) (sym (made left lefts)) (called_left (library_of l) left last)));
      are =
          ap (λ (qs : List code.Procedure). map procedure_of qs
          ++ led_to (library_of l) left (map procedure_of (drop (length ps) (ps ++ next))))
          (take-append_seam ps next)
          ∙ ap (λ (qs : List code.Procedure). map procedure_of ps ++ led_to (library_of l) left (map procedure_of qs)) behind
          ∙ ap (λ (qs : List Procedure). map procedure_of ps ++ led_to (library_of l) left qs) (made left lefts)
          ∙ ap (λ (qs : List Procedure). qs ++ led_to (library_of l) left (called_by (library_of l) left last)) (sym two_parts)
          ∙ append_assoc (map procedure_of (take first ps)) last (led_to (library_of l) left (called_by (library_of l) left last))
          ∙ all_made;
    }

  -- the level as it stands in a slice
  module _ {slice : List code.Procedure} (is : slice ≡ drop first ps) where
    pub slice_left : All (λ p. 0 < p.key.left) slice
    slice_left =
        All-same (λ (p : code.Procedure). 0 < p.key.left) slice (drop first ps) is
        (All-weaker (HasLeft (7 - count)) (λ (p : code.Procedure). 0 < p.key.left) (λ p h.
        omega (arith, h, open_level)) (drop first ps) before.level)

    pub slice_keys : All (HasKey l) slice
    slice_keys = All-same (HasKey l) slice (drop first ps) is (All-drop (HasKey l) first ps (all_keys l ps before.keys))

    -- what a call of `called` answers
    abbrev Answered : (room : ℕ) → Option (Vec code.Procedure Global) → Type 0
    Answered room o = (n : ℕ) → All (HasLeft (suc n)) slice
        → MatchOption o (room < length (called_by (library_of l) n (map procedure_of slice))) (λ next.
        map procedure_of next.items ≡ called_by (library_of l) n (map procedure_of slice))

    at_level : (room : ℕ) (o : Option (Vec code.Procedure Global)) → Answered room o → (n : ℕ)
        → All (HasLeft (suc n)) (drop first ps)
        → MatchOption o (room < length (called_by (library_of l) n last)) (λ next. map procedure_of next.items
        ≡ called_by (library_of l) n last)
    at_level room o answered n same =
        subst (λ (qs : List code.Procedure).
        MatchOption o (room < length (called_by (library_of l) n (map procedure_of qs))) (λ next.
        map procedure_of next.items ≡ called_by (library_of l) n (map procedure_of qs))) is
        (answered n (All-same (HasLeft (suc n)) slice (drop first ps) is same))

    pub none_answered : (room : ℕ) → room ≡ 256 - length ps → (o : Option (Vec code.Procedure Global))
        → Answered room o → o ≡ None → 256 < length (procedures (library_of l) known_as main)
    none_answered room room_is o answered none =
        no_level (λ n same.
        let full : room < length (called_by (library_of l) n last) =
        MatchOption-at_none (room < length (called_by (library_of l) n last))
        (λ (next : Vec code.Procedure Global). map procedure_of next.items ≡ called_by (library_of l) n last) none
        (at_level room o answered n same) in
        omega (arith, full, room_is))

    pub some_answered : (room : ℕ) → room ≡ 256 - length ps → (o : Option (Vec code.Procedure Global))
        → Answered room o → IfSome o (λ next. All (IsEntered l) next.items)
        → IfSome o (λ next. length next.items ≤ room)
        → (next : Vec code.Procedure Global) → o ≡ Some next → (end : ℕ) → end ≡ length ps
        → (new : List code.Procedure) → new ≡ ps ++ next.items → AreLevels l known_as main (count + 1) end new
    some_answered room room_is o answered each few next some end end_is new new_is =
        let entered : All (IsEntered l) next.items =
        subst (λ (a : Option (Vec code.Procedure Global)). IfSome a (λ v. All (IsEntered l) v.items)) some each in
        let fits : length next.items ≤ room = subst (λ (a : Option (Vec code.Procedure Global)). IfSome a (λ v. length v.items ≤ room)) some few in
        let made : (n : ℕ) → All (HasLeft (suc n)) (drop first ps)
        → map procedure_of next.items ≡ called_by (library_of l) n last = λ n same.
        MatchOption-at_some (room < length (called_by (library_of l) n last)) (λ (v : Vec code.Procedure Global).
        map procedure_of v.items ≡ called_by (library_of l) n last) next some (at_level room o answered n same) in
        subst (λ (qs : List code.Procedure). AreLevels l known_as main (count + 1) end qs) (sym new_is)
        (subst (λ (n : ℕ). AreLevels l known_as main (count + 1) n (ps ++ next.items)) (sym end_is)
        (next_level next.items entered made (omega (arith, fits, room_is))))

-- after seven levels
pub all_levels : {l : Scripts} {known_as : Option (List ℕ)} {main : Commands} {first : ℕ} {ps : List code.Procedure}
    → AreLevels l known_as main 7 first ps → AreProcedures l known_as main ps
all_levels {first = first} {ps} levels = record {
  are = sym (ap (map procedure_of) (take-append-drop first ps)) ∙ map-append procedure_of (take first ps) (drop first ps) ∙ levels.are;
  keys = levels.keys;
}

pub slice_is : (first : ℕ) (xs ps : List code.Procedure) → xs ≡ ps → take (length xs - first) (drop first xs) ≡ drop first ps
slice_is first xs ps is = take_all (length xs - first) (drop first xs) (omega (arith, length-drop first xs)) ∙ ap (drop first) is
