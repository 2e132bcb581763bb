-- What a walk keeps at each step.
use Rattle.std.proofs.Common.{
  ◌≡◌,
  ◌<◌,
  ◌+◌,
  arith,
  length,
  take,
  get_or,
  inl,
  inr,
  ℕ,
  Bool,
  List,
  [],
  ◌∷◌,
  ◌++◌,
  Option,
  Some,
  None,
  Vec,
  map,
  filter,
  refl,
  sym,
  ap,
  ◌∙◌,
  subst,
  append_assoc,
}
use Rattle.std.specs.declared.alloc.Global.{Global}
use Rattle.std.specs.List.{AllByRecursion, Contains, IsDistinct}
use Rattle.std.specs.Str.{bytes_eq}
use Rattle.std.specs.Cmp.Lexicographic.{nat_list_eq_equiv}
use Rattle.std.proofs.lemmas.List.{append-nil, map_push, take_more, take-append-le}
use Rattle.std.proofs.lemmas.List.Elements.{Contains-append_left, Contains-append_right, filter-append}
use Rattle.std.proofs.lemmas.Map.Keys.{IsDistinct-push}
use Rattle.tool_findings.specs.declared.circles.Edge.{Edge}
use Rattle.tool_findings.specs.Commands.{Include}
use Rattle.rule_folders.specs.Reading.{Entry, Makes, Read, number_at, octets}
use Rattle.rule_folders.specs.Reached.{
  AreEdges,
  AreFollowed,
  AreLedTo,
  HasInclude,
  Includes,
  IsAskedBy,
  IsEdge,
  IsFollowed,
  IsMissing,
  IsMissingAt,
  IsWalk,
  is_found,
  read_of,
}
use Rattle.rule_folders.specs.Steps.{Goes, IsEdgeOf, with_edge}
use Rattle.rule_folders.proofs.Numbers.{apart, at_more}

alone_once : (path : List ℕ) → IsDistinct bytes_eq (path ∷ [])
unfolding IsDistinct
alone_once path = (tt, tt)

module _ (place : List ℕ → Bool → Option (List ℕ)) where
  led_more : (before ts : List Entry) (t s : Entry) → AreLedTo place before ts → Contains (before ++ ts) s → Includes place s t
      → AreLedTo place before (ts ++ t ∷ [])
  led_more before [] t s h at inc = ((s, subst (λ l. Contains l s) (append-nil before) at, inc), tt)
  led_more before (u ∷ ts) t s h at inc =
      (h.0, led_more (before ++ u ∷ []) ts t s h.1 (subst (λ l. Contains l s) (sym (append_assoc before (u ∷ []) ts)) at) inc)

  asked_grow : (es fs : List Entry) (reads : List Read) → AllByRecursion (IsAskedBy place es) reads
      → AllByRecursion (IsAskedBy place (es ++ fs)) reads
  asked_grow es fs [] h = tt
  asked_grow es fs (r ∷ reads) h = ((h.0.0, Contains-append_left es fs h.0.0 h.0.1, h.0.2), asked_grow es fs reads h.1)

  asked_push : (es : List Entry) (reads : List Read) (r : Read) → AllByRecursion (IsAskedBy place es) reads → IsAskedBy place es r
      → AllByRecursion (IsAskedBy place es) (reads ++ r ∷ [])
  asked_push es [] r h k = (k, tt)
  asked_push es (q ∷ reads) r h k = (h.0, asked_push es reads r h.1 k)

  -- a script more, which one of the others includes
  pub walk_more : (program : Entry) (reads : List Read) (es : List Entry) (t s : Entry) → IsWalk place program reads es
      → number_at t.path es ≡ None → Contains es s → Includes place s t → IsWalk place program (reads ++ read_of t ∷ []) (es ++ t ∷ [])
  walk_more program reads es t s w new at inc = record {
    others = w.others ++ t ∷ [];
    first = ap (λ l. l ++ t ∷ []) w.first;
    led = led_more (program ∷ []) w.others t s w.led (subst (λ l. Contains l s) w.first at) inc;
    once = subst (IsDistinct bytes_eq) (sym (map_push (λ (e : Entry). e.path) es t))
        (IsDistinct-push nat_list_eq_equiv (map (λ (e : Entry). e.path) es) t.path w.once (apart t.path es new));
    found = map_push read_of w.others t ∙ ap (λ l. l ++ read_of t ∷ []) w.found
        ∙ sym (filter-append is_found reads (read_of t ∷ []));
    asked = asked_push (es ++ t ∷ []) reads (read_of t) (asked_grow es (t ∷ []) reads w.asked)
        (s, Contains-append_left es (t ∷ []) s at, (inc.0, inc.1, inc.4, inc.3));
  }

  -- a script that one of the others includes, and that is not there
  pub walk_missing : (program : Entry) (reads : List Read) (es : List Entry) (path : List ℕ) (s : Entry) (i : Include)
      → IsWalk place program reads es → Contains es s → HasInclude (octets s) i → place i.name i.is_global ≡ Some path
      → IsWalk place program (reads ++ (record { path = path; is_global = i.is_global; answer = None }) ∷ []) es
  walk_missing program reads es path s i w at has is = record {
    others = w.others;
    first = w.first;
    led = w.led;
    once = w.once;
    found = w.found ∙ sym (append-nil (filter is_found reads))
        ∙ sym (filter-append is_found reads ((record { path = path; is_global = i.is_global; answer = None }) ∷ []));
    asked = asked_push es reads (record { path = path; is_global = i.is_global; answer = None }) w.asked (s, at, (i, has, is, refl));
  }

  missing_left_at : (o : Option (List ℕ)) (g : Bool) (rs more : List Read) → IsMissingAt place o g rs → IsMissingAt place o g (rs ++ more)
  missing_left_at None g rs more h = tt
  missing_left_at (Some p) g rs more h = Contains-append_left rs more (record { path = p; is_global = g; answer = None }) h

  missing_right_at : (o : Option (List ℕ)) (g : Bool) (rs more : List Read) → IsMissingAt place o g more → IsMissingAt place o g (rs ++ more)
  missing_right_at None g rs more h = tt
  missing_right_at (Some p) g rs more h = Contains-append_right rs more (record { path = p; is_global = g; answer = None }) h

  pub missing_left : (rs more : List Read) (i : Include) → IsMissing place rs i → IsMissing place (rs ++ more) i
  missing_left rs more i = missing_left_at (place i.name i.is_global) i.is_global rs more

  pub missing_right : (rs more : List Read) (i : Include) → IsMissing place more i → IsMissing place (rs ++ more) i
  missing_right rs more i = missing_right_at (place i.name i.is_global) i.is_global rs more

  edge_more : (es fs : List Entry) (i : Include) (e : Edge) → IsEdge place es i e → IsEdge place (es ++ fs) i e
  edge_more es fs i e h = ((h.0.0, at_more es fs e.to h.0.0 h.0.1, h.0.2), h.1, h.2)

  -- more reads and more scripts change no edges
  pub edges_grow : (rs more : List Read) (es fs : List Entry) (xs : List Include) (edges : List Edge) → AreEdges place rs es xs edges
      → AreEdges place (rs ++ more) (es ++ fs) xs edges
  edges_grow rs more es fs [] [] h = tt
  edges_grow rs more es fs [] (e ∷ edges) h = h
  edges_grow rs more es fs (i ∷ xs) [] h = (missing_left rs more i h.0, edges_grow rs more es fs xs [] h.1)
  edges_grow rs more es fs (i ∷ xs) (e ∷ edges) (inl h) = inl (missing_left rs more i h.0, edges_grow rs more es fs xs (e ∷ edges) h.1)
  edges_grow rs more es fs (i ∷ xs) (e ∷ edges) (inr h) = inr (edge_more es fs i e h.0, edges_grow rs more es fs xs edges h.1)

  -- one more include, which is missing or an edge
  pub push_missing : (rs : List Read) (es : List Entry) (xs : List Include) (edges : List Edge) (i : Include) → AreEdges place rs es xs edges
      → IsMissing place rs i → AreEdges place rs es (xs ++ i ∷ []) edges
  push_missing rs es [] [] i h m = (m, tt)
  push_missing rs es [] (e ∷ edges) i h m = absurd h
  push_missing rs es (j ∷ xs) [] i h m = (h.0, push_missing rs es xs [] i h.1 m)
  push_missing rs es (j ∷ xs) (e ∷ edges) i (inl h) m = inl (h.0, push_missing rs es xs (e ∷ edges) i h.1 m)
  push_missing rs es (j ∷ xs) (e ∷ edges) i (inr h) m = inr (h.0, push_missing rs es xs edges i h.1 m)

  pub push_edge : (rs : List Read) (es : List Entry) (xs : List Include) (edges : List Edge) (i : Include) (e : Edge)
      → AreEdges place rs es xs edges → IsEdge place es i e → AreEdges place rs es (xs ++ i ∷ []) (edges ++ e ∷ [])
  push_edge rs es [] [] i e h m = inr (m, tt)
  push_edge rs es [] (d ∷ edges) i e h m = absurd h
  push_edge rs es (j ∷ xs) [] i e h m = inl (h.0, push_edge rs es xs [] i e h.1 m)
  push_edge rs es (j ∷ xs) (d ∷ edges) i e (inl h) m = inl (h.0, push_edge rs es xs (d ∷ edges) i e h.1 m)
  push_edge rs es (j ∷ xs) (d ∷ edges) i e (inr h) m = inr (h.0, push_edge rs es xs edges i e h.1 m)

  -- reads before them change no edges
  pub edges_after : (rs more : List Read) (es : List Entry) (xs : List Include) (edges : List Edge) → AreEdges place more es xs edges
      → AreEdges place (rs ++ more) es xs edges
  edges_after rs more es [] [] h = tt
  edges_after rs more es [] (e ∷ edges) h = h
  edges_after rs more es (i ∷ xs) [] h = (missing_right rs more i h.0, edges_after rs more es xs [] h.1)
  edges_after rs more es (i ∷ xs) (e ∷ edges) (inl h) = inl (missing_right rs more i h.0, edges_after rs more es xs (e ∷ edges) h.1)
  edges_after rs more es (i ∷ xs) (e ∷ edges) (inr h) = inr (h.0, edges_after rs more es xs edges h.1)

  edge_of_at : (o : Option Edge) (rs more : List Read) (es : List Entry) (i : Include) → IsEdgeOf place more es i o →
      IsEdgeOf place (rs ++ more) es i o
  edge_of_at None rs more es i h = missing_right rs more i h
  edge_of_at (Some e) rs more es i h = h

  push_at : (o : Option Edge) (rs : List Read) (es : List Entry) (xs : List Include) (edges : List Edge) (i : Include)
      → AreEdges place rs es xs edges → IsEdgeOf place rs es i o → AreEdges place rs es (xs ++ i ∷ []) (with_edge edges o)
  push_at None rs es xs edges i h m = push_missing rs es xs edges i h m
  push_at (Some e) rs es xs edges i h m = push_edge rs es xs edges i e h m

  -- the edges of includes, and then what one more include is
  pub edges_then : (o : Option Edge) (rs more : List Read) (es fs : List Entry) (xs : List Include) (edges : List Edge) (i : Include)
      → AreEdges place rs es xs edges → IsEdgeOf place more (es ++ fs) i o
      → AreEdges place (rs ++ more) (es ++ fs) (xs ++ i ∷ []) (with_edge edges o)
  edges_then o rs more es fs xs edges i h m =
      push_at o (rs ++ more) (es ++ fs) xs edges i (edges_grow rs more es fs xs edges h) (edge_of_at o rs more (es ++ fs) i m)

  pub followed_grow : (rs more : List Read) (es fs ss : List Entry) (vs : List (Vec Edge Global)) → AreFollowed place rs es ss vs
      → AreFollowed place (rs ++ more) (es ++ fs) ss vs
  followed_grow rs more es fs [] [] h = tt
  followed_grow rs more es fs [] (v ∷ vs) h = h
  followed_grow rs more es fs (s ∷ ss) [] h = h
  followed_grow rs more es fs (s ∷ ss) (v ∷ vs) h =
      ((h.0.0, h.0.1, edges_grow rs more es fs h.0.0 v.items h.0.2), followed_grow rs more es fs ss vs h.1)

  pub followed_push : (rs : List Read) (es ss : List Entry) (vs : List (Vec Edge Global)) (s : Entry) (v : Vec Edge Global)
      → AreFollowed place rs es ss vs → IsFollowed place rs es s v.items → AreFollowed place rs es (ss ++ s ∷ []) (vs ++ v ∷ [])
  followed_push rs es [] [] s v h k = (k, tt)
  followed_push rs es [] (w ∷ vs) s v h k = absurd h
  followed_push rs es (r ∷ ss) [] s v h k = absurd h
  followed_push rs es (r ∷ ss) (w ∷ vs) s v h k = (h.0, followed_push rs es ss vs s v h.1 k)

  pub followed_none : (rs : List Read) (es : List Entry) (n : ℕ) (vs : List (Vec Edge Global)) → n ≡ 0 → vs ≡ []
      → AreFollowed place rs es (take n es) vs
  followed_none rs es n vs e f =
      subst (λ m. AreFollowed place rs es (take m es) vs) (sym e) (subst (AreFollowed place rs es []) (sym f) tt)

  -- one script more is followed
  pub followed_then : (rs more : List Read) (es fs : List Entry) (n : ℕ) (vs : List (Vec Edge Global)) (s : Entry) (v : Vec Edge Global)
      → n < length es → get_or es n s ≡ s → AreFollowed place rs es (take n es) vs → IsFollowed place more (es ++ fs) s v.items
      → AreFollowed place (rs ++ more) (es ++ fs) (take (n + 1) (es ++ fs)) (vs ++ v ∷ [])
  followed_then rs more es fs n vs s v lt at h k =
      let front : take (n + 1) (es ++ fs) ≡ take n es ++ s ∷ [] =
      take-append-le (n + 1) es fs (omega arith) ∙ take_more es n s lt ∙ ap (λ x. take n es ++ x ∷ []) at in
      subst (λ l. AreFollowed place (rs ++ more) (es ++ fs) l (vs ++ v ∷ [])) (sym front)
      (followed_push (rs ++ more) (es ++ fs) (take n es) vs s v (followed_grow rs more es fs (take n es) vs h)
      (k.0, k.1, edges_after rs more (es ++ fs) k.0 v.items k.2))

  -- a program alone
  pub walk_alone : (program : Entry) (es : List Entry) → es ≡ program ∷ [] → IsWalk place program [] es
  walk_alone program es e = record {
    others = [];
    first = e;
    led = tt;
    once = subst (λ l. IsDistinct bytes_eq (map (λ (x : Entry). x.path) l)) (sym e) (alone_once program.path);
    found = refl;
    asked = tt;
  }

module _ {S : Type 0} (made : S → List Read → Type 0) (place : S → List ℕ → Bool → Option (List ℕ)) where
  pub makes_then : (a b c : S) (xs ys : List Read) → Makes made a b xs → Makes made b c ys → Makes made a c (xs ++ ys)
  makes_then a b c xs ys h k done m = subst (made c) (append_assoc done xs ys) (k (done ++ xs) (h done m))

  -- no step
  pub goes_none : (a : S) (es : List Entry) (Of : Entry → Type 0) → Goes made place a a es es Of []
  goes_none a es Of = record {
    calls = λ done h. subst (made a) (sym (append-nil done)) h;
    places = refl;
    added = [];
    more = sym (append-nil es);
    walk = λ p s e of at w. subst (λ l. IsWalk (place a) p l es) (sym (append-nil e)) w;
  }

  -- a step after others
  pub goes_then : (a b c : S) (xs ys zs : List Entry) (Of Next : Entry → Type 0) (rs ts : List Read) → Goes made place a b xs ys Of rs
      → Goes made place b c ys zs Next ts → ((s : Entry) → Of s → Contains xs s → Next s) → Goes made place a c xs zs Of (rs ++ ts)
  goes_then a b c xs ys zs Of Next rs ts g h next = record {
    calls = makes_then a b c rs ts g.calls h.calls;
    places = h.places ∙ g.places;
    added = g.added ++ h.added;
    more = h.more ∙ ap (λ l. l ++ h.added) g.more ∙ append_assoc xs g.added h.added;
    walk = λ p s e of at w.
        subst (λ l. IsWalk (place a) p l zs) (append_assoc e rs ts)
        (subst (λ f. IsWalk f p ((e ++ rs) ++ ts) zs) g.places
        (h.walk p s (e ++ rs) (next s of at) (subst (λ l. Contains l s) (sym g.more) (Contains-append_left xs g.added s at))
        (subst (λ f. IsWalk f p (e ++ rs) ys) (sym g.places) (g.walk p s e of at w))));
  }

  -- a step for scripts of which something else holds
  pub goes_for : (a b : S) (xs ys : List Entry) (Of Other : Entry → Type 0) (rs : List Read) → Goes made place a b xs ys Of rs
      → ((s : Entry) → Other s → Contains xs s → Of s) → Goes made place a b xs ys Other rs
  goes_for a b xs ys Of Other rs g of = record {
    calls = g.calls;
    places = g.places;
    added = g.added;
    more = g.more;
    walk = λ p s e other at w. g.walk p s e (of s other at) at w;
  }
