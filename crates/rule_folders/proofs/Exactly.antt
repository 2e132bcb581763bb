-- The scripts of a walk are exactly those that the program reaches.
use Rattle.std.proofs.Common.{
  ◌≡◌,
  ◌⊎◌,
  inl,
  inr,
  ℕ,
  Bool,
  true,
  false,
  cond,
  List,
  [],
  ◌∷◌,
  ◌++◌,
  Option,
  Some,
  None,
  Vec,
  map,
  filter,
  refl,
  sym,
  ap,
  ◌∙◌,
  subst,
  append_assoc,
  arith,
  length,
  ◌<◌,
}
use Rattle.std.specs.declared.alloc.Global.{Global}
use Rattle.std.specs.List.{AllByRecursion, Contains}
use Rattle.std.specs.Option.{IsSome}
use Rattle.std.proofs.lemmas.List.{append-nil}
use Rattle.std.proofs.lemmas.List.Elements.{All-contains, All-contains_itself, All-from_recursion, recursion_from_All, Contains-get_or}
use Rattle.std.proofs.lemmas.Option.{get_or_from_slice_get, slice_get_within}
use Rattle.tool_findings.specs.declared.circles.Edge.{Edge}
use Rattle.tool_findings.specs.Commands.{Include}
use Rattle.rule_folders.specs.Includes.{Leads}
use Rattle.rule_folders.specs.Reading.{Entry, Read, octets_of}
use Rattle.rule_folders.specs.Reached.{
  Answers,
  AreEdges,
  AreExactly,
  AreFollowed,
  AreLedTo,
  Follows,
  IsEdge,
  IsFollowed,
  IsMissing,
  IsMissingAt,
  IsReached,
  included,
  is_found,
  itself,
  read_of,
}
use Rattle.rule_folders.proofs.Scans.{one_leads}

at_in : {X : Type 0} (P : X → Type 0) (xs : List X) (x : X) → AllByRecursion P xs → Contains xs x → P x
at_in P xs x h at = All-contains P xs x (All-from_recursion P xs h) at

of_map : {X Y : Type 0} (f : X → Y) (P : Y → Type 0) (xs : List X) → AllByRecursion (λ x. P (f x)) xs → AllByRecursion P (map f xs)
of_map f P [] h = tt
of_map f P (x ∷ xs) h = (h.0, of_map f P xs h.1)

through_map : {X Y : Type 0} (f : X → Y) (P : Y → Type 0) (xs : List X) → AllByRecursion P (map f xs) → AllByRecursion (λ x. P (f x)) xs
through_map f P [] h = tt
through_map f P (x ∷ xs) h = (h.0, through_map f P xs h.1)

in_map : {X Y : Type 0} (f : X → Y) (xs : List X) (x : X) → Contains xs x → Contains (map f xs) (f x)
in_map f xs x at = at_in (λ y. Contains (map f xs) (f y)) xs x
    (through_map f (Contains (map f xs)) xs (recursion_from_All (Contains (map f xs)) (map f xs) (All-contains_itself (map f xs)))) at

kept_step : {X : Type 0} (P : X → Type 0) (b : Bool) (x : X) (xs : List X) → P x → AllByRecursion P xs → AllByRecursion P (cond b (x ∷ xs) xs)
kept_step P true x xs h k = (h, k)
kept_step P false x xs h k = k

kept : {X : Type 0} (P : X → Type 0) (p : X → Bool) (xs : List X) → AllByRecursion P xs → AllByRecursion P (filter p xs)
kept P p [] h = tt
kept P p (x ∷ xs) h = kept_step P (p x) x (filter p xs) h.0 (kept P p xs h.1)

abbrev IsThere : (List ℕ → Option (Option (List ℕ))) → Entry → Type 0
IsThere files t = files t.path ≡ Some t.text

turned : (files : List ℕ → Option (Option (List ℕ))) (ts : List Entry) → AllByRecursion (λ t. Answers files (read_of t)) ts
    → AllByRecursion (IsThere files) ts
turned files [] k = tt
turned files (t ∷ ts) k = (sym k.0, turned files ts k.1)

-- what was found is there
there : (files : List ℕ → Option (Option (List ℕ))) (others : List Entry) (reads : List Read) → map read_of others ≡ filter is_found reads
    → AllByRecursion (Answers files) reads → AllByRecursion (IsThere files) others
there files others reads e h = turned files others
    (through_map read_of (Answers files) others (subst (AllByRecursion (Answers files)) (sym e) (kept (Answers files) is_found reads h)))

module _ (place : List ℕ → Bool → Option (List ℕ)) (files : List ℕ → Option (Option (List ℕ))) (start : List ℕ) where
  abbrev IsFine : Entry → Type 0
  IsFine t = IsReached place files start t.path × (files t.path ≡ Some t.text)

  fine_push : (before : List Entry) (t : Entry) → AllByRecursion IsFine before → IsFine t → AllByRecursion IsFine (before ++ t ∷ [])
  fine_push [] t h k = (k, tt)
  fine_push (s ∷ ss) t h k = (h.0, fine_push ss t h.1 k)

  -- each script that one before it includes is reached
  reach : (before ts : List Entry) → AllByRecursion IsFine before → AllByRecursion (IsThere files) ts → AreLedTo place before ts
      → AllByRecursion IsFine (before ++ ts)
  reach before [] fine h led = subst (AllByRecursion IsFine) (sym (append-nil before)) fine
  reach before (t ∷ ts) fine h led =
      let by = led.0 in
      let s = by.0 in
      let i = by.2.0 in
      let f = at_in IsFine before s fine by.1 in
      let here : IsFine t = (included s.path t.path s.text i f.0 f.1 by.2.1 by.2.4 (subst IsSome (sym h.0) refl), h.0) in
      subst (AllByRecursion IsFine) (append_assoc before (t ∷ []) ts)
      (reach (before ++ t ∷ []) ts (fine_push before t fine here) h.1 led.1)

  only_reached : (ss : List Entry) → AllByRecursion IsFine ss → AllByRecursion (λ (e : Entry). IsReached place files start e.path) ss
  only_reached [] h = tt
  only_reached (s ∷ ss) h = (h.0.0, only_reached ss h.1)

  module _ (reads : List Read) (scripts : List Entry) where
    followed_each : (ss : List Entry) (vs : List (Vec Edge Global)) → AreFollowed place reads scripts ss vs
        → AllByRecursion (λ s. (edges : List Edge) × IsFollowed place reads scripts s edges) ss
    followed_each [] vs h = tt
    followed_each (s ∷ ss) [] h = absurd h
    followed_each (s ∷ ss) (v ∷ vs) h = ((v.items, h.0), followed_each ss vs h.1)

    edge_each : (xs : List Include) (edges : List Edge) → AreEdges place reads scripts xs edges
        → AllByRecursion (λ i. IsMissing place reads i ⊎ ((e : Edge) × IsEdge place scripts i e)) xs
    edge_each [] edges h = tt
    edge_each (i ∷ xs) [] h = (inl h.0, edge_each xs [] h.1)
    edge_each (i ∷ xs) (e ∷ edges) (inl h) = (inl h.0, edge_each xs (e ∷ edges) h.1)
    edge_each (i ∷ xs) (e ∷ edges) (inr h) = (inr (e, h.0), edge_each xs edges h.1)

    not_missing : (o : Option (List ℕ)) (to : List ℕ) (g : Bool) → AllByRecursion (Answers files) reads → o ≡ Some to → IsSome (files to)
        → IsMissingAt place o g reads → ⊥
    not_missing None to g h e some m = absurd cc
    not_missing (Some p) to g h e some m =
        let r : Read = record { path = p; is_global = g; answer = None } in
        let none : None ≡ files p = at_in (Answers files) reads r h m in
        let same : p ≡ to = cc in
        let lost : IsSome {T = Option (List ℕ)} None = subst IsSome (sym (none ∙ ap files same)) some in
        absurd (let x : false ≡ true = lost in cc)

    -- what is reached is in the answer
    back : (edges : List (Vec Edge Global)) → AllByRecursion (Answers files) reads → AllByRecursion (IsThere files) scripts
        → AreFollowed place reads scripts scripts edges → ((t : Entry) × Contains scripts t × (t.path ≡ start))
        → (q : List ℕ) → IsReached place files start q → (t : Entry) × Contains scripts t × (t.path ≡ q)
    back edges h all followed first q itself = first
    back edges h all followed first q (included from to text i r is_text has at some) =
        let s = back edges h all followed first from r in
        let f = at_in (λ s. (es : List Edge) × IsFollowed place reads scripts s es) scripts s.0 (followed_each scripts edges followed) s.1 in
        let texts : s.0.text ≡ text =
        let a : files from ≡ Some s.0.text = subst (λ p. files p ≡ Some s.0.text) s.2 (at_in (IsThere files) scripts s.0 all s.1) in cc in
        let leads : Leads (octets_of text) f.1.0 = subst (λ t. Leads (octets_of t) f.1.0) texts f.1.1 in
        let is_in = subst (λ l. Contains l i) (one_leads (octets_of text) has.0 f.1.0 has.1 leads) has.2 in
        elim (at_in (λ j. IsMissing place reads j ⊎ ((e : Edge) × IsEdge place scripts j e)) f.1.0 i (edge_each f.1.0 f.0 f.1.2) is_in) [
          | inl m ↦ absurd (not_missing (place i.name i.is_global) to i.is_global h at some m)
          | inr e ↦ let t = e.1.0.0 in
              let within = slice_get_within scripts e.0.to t e.1.0.1 in (
                t,
                subst (Contains scripts) (get_or_from_slice_get scripts e.0.to t t e.1.0.1) (Contains-get_or scripts e.0.to t within),
                let a : place i.name i.is_global ≡ Some t.path = e.1.0.2 in cc,
              )
        ]

-- the law
pub exactly : (place : List ℕ → Bool → Option (List ℕ)) (program : Entry) (reads : List Read) (scripts : List Entry) (edges : List (Vec Edge Global))
    (files : List ℕ → Option (Option (List ℕ))) → Follows place program reads scripts edges → files program.path ≡ Some program.text
    → AllByRecursion (Answers files) reads
    → AreExactly place files program.path scripts
exactly place program reads scripts edges files w is_text h =
    let walk = w.walk in
    let found = there files walk.others reads walk.found h in
    let all : AllByRecursion (IsThere files) scripts = subst (AllByRecursion (IsThere files)) (sym walk.first) (is_text, found) in
    let fine : AllByRecursion (IsFine place files program.path) scripts =
    subst (AllByRecursion (IsFine place files program.path)) (sym walk.first)
    (reach place files program.path (program ∷ []) walk.others ((itself, is_text), tt) found walk.led) in
    let first : Contains scripts program = subst (λ l. Contains l program) (sym walk.first)
    (0, (let lt : 0 < length (program ∷ walk.others) = omega arith in lt), refl) in
    record {
      texts = all;
      paths = λ path. (
        λ at. at_in (IsReached place files program.path) (map (λ (e : Entry). e.path) scripts) path
            (of_map (λ (e : Entry). e.path) (IsReached place files program.path) scripts (only_reached place files program.path scripts fine)) at,
        λ r. let t = back place files program.path reads scripts edges h all w.followed (program, first, refl) path r in
            subst (Contains (map (λ (e : Entry). e.path) scripts)) t.2 (in_map (λ (e : Entry). e.path) scripts t.0 t.1),
      );
    }
