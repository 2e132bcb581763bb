-- Records that are destroyed one after another.
use Rattle.std.proofs.Common.{◌≡◌, ℕ, ℤ, Bool, true, false, not, ◌||◌, cond, List, [], ◌∷◌, ◌++◌, map, find}
use Rattle.std.proofs.Common.{Option, Some, None, Result, Ok, Err, refl, sym, ap, ap₂, ◌∙◌, subst, arith}
use Rattle.std.proofs.lemmas.Bool.Decides.{nat_tests}
use Rattle.class_plan.specs.Plans.{schedule_at}
use Rattle.record_archive.specs.Archive.{Archive, Record, record_at, has_number, is_held, destroys, is_by_any}
use Rattle.record_archive.specs.Archive.{due_of, from_1970, destroy_by, destroy_on, destruction_of, without}
use Rattle.record_archive.specs.Calls.{Makes}
use Rattle.record_archive.specs.declared.fault.ArchiveRefusal.{ArchiveRefusal}
use Rattle.record_archive.specs.declared.fault.ArchiveRefusal.TheVariants as refusal
use Rattle.record_choice.specs.Disposals.{Certificate, IsCertificate, Destroys, HandsOver, is_one_of, with_destroyed, DestroysThese}

-- ---- one record

-- the record of a number has it
pub found_has : (n : ℕ) (rs : List Record) (r : Record) → find (has_number n) rs ≡ Some r → r.number ≡ n
found_has n [] r e = absurd cc
found_has n (x ∷ xs) r e = go (has_number n x) refl e (found_has n xs r)
  where
    go : (b : Bool) → has_number n x ≡ b → cond b (Some x) (find (has_number n) xs) ≡ Some r
        → (find (has_number n) xs ≡ Some r → r.number ≡ n) → r.number ≡ n
    go true h e more = let same : x.number ≡ n = grind (arith, nat_tests, h) in let is : x ≡ r = cc in ap (λ (y : Record). y.number) (sym is) ∙ same
    go false h e more = more e

abbrev judged : Archive → Record → (b c d f : Bool) → Result Archive ArchiveRefusal
judged a r b c d f = cond b (Err refusal.Destroyed) (cond c (Err refusal.Held) (cond d (Err refusal.NotForDestruction)
    (cond f (Err refusal.NotDue) (Ok (without a r)))))

made_live : (P : Archive → Type 0) (a : Archive) (r : Record) (b c d f : Bool) → Makes P (judged a r b c d f) → b ≡ false
made_live P a r true c d f h = absurd h
made_live P a r false c d f h = refl

-- a record that the command destroys was live
pub was_live : (P : Archive → Type 0) (a : Archive) (n : ℕ) (day : ℤ) (r : Record) → record_at a n ≡ Some r → Makes P (destroy_on a n day)
    → r.destroyed ≡ false
was_live P a n day r at h =
    made_live P a r r.destroyed (is_held a n) (not (destroys (schedule_at a.plan r.path))) (not (is_by_any (from_1970 day) (due_of a r)))
    (subst (λ o. Makes P (destroy_by a n (from_1970 day) o)) at h)

made_more : (P Q : Archive → Type 0) (a : Archive) (r : Record) (b c d f : Bool) → (P (without a r) → Q (without a r))
    → Makes P (judged a r b c d f) → Makes Q (judged a r b c d f)
made_more P Q a r true c d f to h = absurd h
made_more P Q a r false true d f to h = absurd h
made_more P Q a r false false true f to h = absurd h
made_more P Q a r false false false true to h = absurd h
made_more P Q a r false false false false to h = to h

-- more is true of what the command makes
pub makes_more : (P Q : Archive → Type 0) (a : Archive) (n : ℕ) (day : ℤ) (r : Record) → record_at a n ≡ Some r
    → (P (without a r) → Q (without a r)) → Makes P (destroy_on a n day) → Makes Q (destroy_on a n day)
makes_more P Q a n day r at to h =
    subst (λ o. Makes Q (destroy_by a n (from_1970 day) o)) (sym at)
    (made_more P Q a r r.destroyed (is_held a n) (not (destroys (schedule_at a.plan r.path))) (not (is_by_any (from_1970 day) (due_of a r))) to
    (subst (λ o. Makes P (destroy_by a n (from_1970 day) o)) at h))

-- ---- one after another

makes_weaker : (P Q : Archive → Type 0) → ((a : Archive) → P a → Q a) → (r : Result Archive ArchiveRefusal) → Makes P r → Makes Q r
makes_weaker P Q to (Ok b) h = to b h
makes_weaker P Q to (Err f) h = h

pub destroys_weaker : (P Q : Archive → Type 0) → ((a : Archive) → P a → Q a) → (day : ℤ) (ns : List ℕ) (cs : List Certificate) (a : Archive)
    → Destroys P day ns cs a → Destroys Q day ns cs a
destroys_weaker P Q to day [] [] a h = to a h
destroys_weaker P Q to day [] (c ∷ cs) a h = absurd h
destroys_weaker P Q to day (n ∷ ns) [] a h = absurd h
destroys_weaker P Q to day (n ∷ ns) (c ∷ cs) a h =
    (h.0, makes_weaker (Destroys P day ns cs) (Destroys Q day ns cs) (λ b k. destroys_weaker P Q to day ns cs b k) (destroy_on a n day) h.1)

-- one more after these
pub destroys_more : (P Q : Archive → Type 0) (day : ℤ) (ns : List ℕ) (cs : List Certificate) (n : ℕ) (c : Certificate) (a : Archive)
    → ((b : Archive) → P b → IsCertificate b n c × Makes Q (destroy_on b n day))
    → Destroys P day ns cs a → Destroys Q day (ns ++ n ∷ []) (cs ++ c ∷ []) a
destroys_more P Q day [] [] n c a to h =
    let x = to a h in (x.0, makes_weaker Q (Destroys Q day [] []) (λ b k. k) (destroy_on a n day) x.1)
destroys_more P Q day [] (d ∷ ds) n c a to h = absurd h
destroys_more P Q day (m ∷ ms) [] n c a to h = absurd h
destroys_more P Q day (m ∷ ms) (d ∷ ds) n c a to h = (
  h.0,
  makes_weaker (Destroys P day ms ds) (Destroys Q day (ms ++ n ∷ []) (ds ++ c ∷ []))
      (λ b k. destroys_more P Q day ms ds n c b to k) (destroy_on a m day) h.1,
)

pub hands_more : {K : Type 0} (hands : K → K → Certificate → Type 0) (old : K) (cs : List Certificate) (next new : K) (c : Certificate)
    → HandsOver hands old cs next → hands next new c → HandsOver hands old (cs ++ c ∷ []) new
hands_more hands old [] next new c h one = (new, subst (λ k. hands k new c) (sym h) one, refl)
hands_more hands old (d ∷ ds) next new c h one = (h.0, h.1, hands_more hands h.0 ds next new c h.2 one)

-- ---- each of these and no other

abbrev marked : Bool → Record → Record
marked b r = cond b (destruction_of r) r

number_kept : (b : Bool) (r : Record) → (marked b r).number ≡ r.number
number_kept true r = refl
number_kept false r = refl

marked_again : (b c : Bool) (r : Record) → marked c (marked b r) ≡ marked (b || c) r
marked_again true true r = refl
marked_again true false r = refl
marked_again false c r = refl

-- one is destroyed, and then others
then_these : (n : ℕ) (ns : List ℕ) (rs : List Record)
    → with_destroyed ns (map (λ (r : Record). marked (has_number n r) r) rs) ≡ with_destroyed (n ∷ ns) rs
then_these n ns [] = refl
then_these n ns (r ∷ rs) =
    ap₂ ◌∷◌
    (ap (λ k. marked (is_one_of ns k) (marked (has_number n r) r)) (number_kept (has_number n r) r)
    ∙ marked_again (has_number n r) (is_one_of ns r.number) r) (then_these n ns rs)

none_marked : (rs : List Record) → rs ≡ with_destroyed [] rs
none_marked [] = refl
none_marked (r ∷ rs) = ap (λ l. r ∷ l) (none_marked rs)

abbrev OneGone : Archive → ℕ → Result Archive ArchiveRefusal → Type 0
OneGone a n (Ok b) = b.records ≡ map (λ (r : Record). marked (has_number n r) r) a.records
OneGone a n (Err f) = Unit {0}

one_gone : (a : Archive) (n : ℕ) (day : Option ℕ) (o : Option Record) → record_at a n ≡ o → OneGone a n (destroy_by a n day o)
one_gone a n day None e = tt
one_gone a n day (Some r) e =
    go r.destroyed (is_held a n) (not (destroys (schedule_at a.plan r.path))) (not (is_by_any day (due_of a r)))
  where
    go : (b c d f : Bool) → OneGone a n (judged a r b c d f)
    go true c d f = tt
    go false true d f = tt
    go false false true f = tt
    go false false false true = tt
    go false false false false = ap (λ k. map (λ (x : Record). marked (has_number k x) x) a.records) (found_has n a.records r e)

-- what is left of an archive
abbrev Left : List ℕ → Archive → Archive → Type 0
Left ns a b = b.records ≡ with_destroyed ns a.records

-- EACH OF THESE AND NO OTHER
pub destroys_these : (day : ℤ) (ns : List ℕ) (cs : List Certificate) (a : Archive) → DestroysThese day ns cs a
destroys_these day [] [] a h = none_marked a.records
destroys_these day [] (c ∷ cs) a h = absurd h
destroys_these day (n ∷ ns) [] a h = absurd h
destroys_these day (n ∷ ns) (c ∷ cs) a h =
    (h.0, go (destroy_on a n day) (one_gone a n (from_1970 day) (record_at a n) refl) (λ b k. destroys_these day ns cs b k) h.1)
  where
    go : (r : Result Archive ArchiveRefusal) → OneGone a n r → ((b : Archive) → DestroysThese day ns cs b)
        → Makes (Destroys (λ b. Unit {0}) day ns cs) r → Makes (Destroys (Left (n ∷ ns) a) day ns cs) r
    go (Ok b) e others k =
        destroys_weaker (Left ns b) (Left (n ∷ ns) a)
        (λ d x. x ∙ ap (with_destroyed ns) e ∙ then_these n ns a.records) day ns cs b (others b k)
    go (Err f) e others k = absurd k
