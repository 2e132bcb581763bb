-- Messages that are looked at one after the other.
use Rattle.std.proofs.Common.{◌≡◌, ◌<◌, ◌+◌, suc, ℕ, List, [], ◌∷◌, ◌++◌, map, take, drop, get_or, length, refl, sym, ap, ◌∙◌, subst, append_assoc}
use Rattle.std.proofs.lemmas.List.{append-nil, map_push, map-append, take_more}
use Rattle.std.proofs.Math.Seq.{split_at}
use Rattle.std.proofs.lemmas.Grind.{flat_map-append}
use Rattle.std.specs.List.{flat_map}
use Rattle.mail_intake.specs.declared.tally.Tally.{Tally}
use Rattle.mail_intake.specs.Calls.{Call, Makes}
use Rattle.mail_intake.specs.Fates.{AreThoseOf, Ending, Fate, IsTally, after_all, at_capture, at_move, course, last_course, name_of}
use Rattle.mail_intake.specs.Folders.{Folders, IsEndIn, IsFateIn, Lead, left_by}
use Rattle.mail_intake.specs.Intakes.{Passes}
use Rattle.mail_intake.specs.Telling.{Memory}

-- calls, and then others
pub makes_then : {M : Type 0} (made : M → List Call → Type 0) (a b c : M) (xs ys : List Call) → Makes made a b xs → Makes made b c ys
    → Makes made a c (xs ++ ys)
makes_then made a b c xs ys h k done m = subst (made c) (append_assoc done xs ys) (k (done ++ xs) (h done m))

-- one fate more, and what then holds
pub lead_more : (P Q : Folders → Type 0) (x : Fate) → ((g : Folders) → P g → IsFateIn g x × Q (left_by x g)) → (fates : List Fate) (f : Folders)
    → Lead P fates f → Lead Q (fates ++ x ∷ []) f
lead_more P Q x to [] f h = to f h
lead_more P Q x to (y ∷ ys) f h = (h.0, lead_more P Q x to ys (left_by y f) h.1)

pub lead_weaker : (P Q : Folders → Type 0) → ((g : Folders) → P g → Q g) → (fates : List Fate) (f : Folders) → Lead P fates f → Lead Q fates f
lead_weaker P Q to [] f h = to f h
lead_weaker P Q to (y ∷ ys) f h = (h.0, lead_weaker P Q to ys (left_by y f) h.1)

head_is : {X : Type 0} (x y : X) (xs ys : List X) → x ∷ xs ≡ y ∷ ys → x ≡ y
head_is x y xs ys e = cc

-- an ending at a message, after others
ends_after : (fates : List Fate) (names rest : List (List ℕ)) (name : List ℕ) (e : Ending) → map name_of fates ≡ names
    → AreThoseOf (name ∷ []) [] e → AreThoseOf (names ++ name ∷ rest) fates e
ends_after fates names rest name after_all all h = absurd cc
ends_after fates names rest name (at_capture n octets) all h =
    (rest, ap (λ l. l ++ n ∷ rest) all ∙ ap (λ m. names ++ m ∷ rest) (head_is n name h.0 [] h.1))
ends_after fates names rest name (at_move n octets how) all h =
    (rest, ap (λ l. l ++ n ∷ rest) all ∙ ap (λ m. names ++ m ∷ rest) (head_is n name h.0 [] h.1))

-- the names of the messages so far and of the next one, and the rest of the names
pub names_more : {X : Type 0} (f : X → List ℕ) (xs : List X) (i : ℕ) (x : X) (n : List ℕ) → x ≡ get_or xs i x → n ≡ f x → i < length xs
    → map f (take (i + 1) xs) ≡ map f (take i xs) ++ n ∷ []
names_more f xs i x n at is lt =
    ap (map f) (take_more xs i x lt) ∙ map_push f (take i xs) (get_or xs i x)
    ∙ ap (λ m. map f (take i xs) ++ m ∷ []) (ap f (sym at) ∙ sym is)

pub names_split : {X : Type 0} (f : X → List ℕ) (xs : List X) (i : ℕ) (x : X) (n : List ℕ) → x ≡ get_or xs i x → n ≡ f x → i < length xs
    → map f xs ≡ map f (take i xs) ++ n ∷ map f (drop (suc i) xs)
names_split f xs i x n at is lt =
    ap (map f) (split_at xs i x lt) ∙ map-append f (take i xs) (get_or xs i x ∷ drop (suc i) xs)
    ∙ ap (λ m. map f (take i xs) ++ m ∷ map f (drop (suc i) xs)) (ap f (sym at) ∙ sym is)

module _ {M : Type 0} (made : M → List Call → Type 0) (has : M → Folders → Type 0) (memory : Memory) (day : ℕ) where
  -- no message was looked at
  pub passes_none : (old : M) (t : Tally) → IsTally [] t → Passes made has memory day old old [] after_all t
  passes_none old t counts = record {
    fates = [];
    order = refl;
    calls = λ done h. subst (made old) (sym (append-nil done)) h;
    counts = counts;
    folders = λ f h. (tt, h);
  }

  -- one more was
  pub passes_more : (old mid new : M) (names : List (List ℕ)) (name : List ℕ) (t u : Tally) (x : Fate)
      → Passes made has memory day old mid names after_all t → name_of x ≡ name → Makes made mid new (course memory day x)
      → ((f : Folders) → has mid f → IsFateIn f x × has new (left_by x f))
      → ((fates : List Fate) → IsTally fates t → IsTally (fates ++ x ∷ []) u)
      → Passes made has memory day old new (names ++ name ∷ []) after_all u
  passes_more old mid new names name t u x p is_name calls folders counts = record {
    fates = p.fates ++ x ∷ [];
    order = map_push name_of p.fates x ∙ ap (λ l. l ++ name_of x ∷ []) p.order ∙ ap (λ n. names ++ n ∷ []) is_name;
    calls = subst (Makes made old new)
        (ap (λ l. l ++ course memory day x) (append-nil (flat_map (course memory day) p.fates))
        ∙ ap (λ l. flat_map (course memory day) p.fates ++ l) (sym (append-nil (course memory day x)))
        ∙ sym (flat_map-append (course memory day) p.fates (x ∷ []))
        ∙ sym (append-nil (flat_map (course memory day) (p.fates ++ x ∷ []))))
        (makes_then made old mid new _ _ p.calls calls);
    counts = counts p.fates p.counts;
    folders = λ f h. lead_more (λ g. Unit {0} × has mid g) (λ g. Unit {0} × has new g) x
        (λ g k. let next = folders g k.1 in (next.0, (tt, next.1))) p.fates f (p.folders f h);
  }

  -- the intake ended at the next one
  pub passes_end : (old mid new : M) (names rest : List (List ℕ)) (name : List ℕ) (t : Tally) (e : Ending)
      → Passes made has memory day old mid names after_all t → AreThoseOf (name ∷ []) [] e
      → Makes made mid new (last_course memory day e) → ((f : Folders) → has mid f → IsEndIn f e × has new f)
      → Passes made has memory day old new (names ++ name ∷ rest) e t
  passes_end old mid new names rest name t e p at calls folders = record {
    fates = p.fates;
    order = ends_after p.fates names rest name e p.order at;
    calls = subst (Makes made old new)
        (ap (λ l. l ++ last_course memory day e) (append-nil (flat_map (course memory day) p.fates)))
        (makes_then made old mid new _ _ p.calls calls);
    counts = p.counts;
    folders = λ f h. lead_weaker (λ g. Unit {0} × has mid g) (λ g. IsEndIn g e × has new g) (λ g k. folders g k.1) p.fates f (p.folders f h);
  }
