-- What deeds make of an archive, case by case.
use Rattle.std.proofs.Common.{◌≡◌, ◌≢◌, ◌≤◌, ◌<◌, ◌+◌, ◌==◌, ◌^◌, nat_le, ℕ, Bool, true, false, not}
use Rattle.std.proofs.Common.{cond, List, [], ◌∷◌, ◌++◌, length, Option, Some, None, Result, Ok, Err, IfErr}
use Rattle.std.proofs.Common.{refl, sym, ap, subst, ◌∙◌, arith, find, ◌⊎◌, inl, inr}
use Rattle.std.proofs.lemmas.Bool.Decides.{nat_tests}
use Rattle.class_plan.specs.declared.faults.PlanFault.{PlanFault}
use Rattle.class_plan.specs.declared.schedules.Schedule.{Schedule}
use Rattle.class_plan.specs.Plans.{Listing, IsPlan, keeps, schedule_at}
use Rattle.class_plan.specs.Changes.{addition}
use Rattle.record_archive.specs.Archive.{Archive, Record, record_at, is_held, is_held_by, is_by_any}
use Rattle.record_archive.specs.Archive.{due_of, destroys, destroy, destroy_by, without, with_hold, without_hold}
use Rattle.record_archive.specs.Archive.{hold_one, release_one, next_number, has_number, has_room, after_capture, capture, records_of, plan_answer}
use Rattle.record_archive.specs.declared.fault.ArchiveRefusal.TheVariants as refusal
use Rattle.record_history.specs.Events.{Deed, Seal, Filing, Held, FoundHold, Released, ClassAdded, PlanReplaced, FoundPlan, Captured}
use Rattle.record_history.specs.Lines.{seal_text}
use Rattle.record_history.specs.Replay.{after, made}
use Rattle.record_judge.specs.Sealed.{IsDone, IsMisdeed, MayGo}
use Rattle.record_judge.specs.declared.faults.Misdeed.{Misdeed}
use Rattle.record_judge.specs.declared.faults.Misdeed.TheVariants as misdeed

-- a deed that does what another does, where that fails for no memory alone
pub done_as : {X : Type 0} (deed other : Deed) (old new : Archive) (r : Result X Misdeed) → after deed old ≡ after other old
    → IfErr r (λ m. m ≡ misdeed.NoMemory) → IsDone other old new r → IsDone deed old new r
done_as deed other old new (Ok x) same cause done = same ∙ done
done_as deed other old new (Err m) same cause done = subst (IsMisdeed deed old) (sym cause) tt

-- ---- holds

pub held_nowhere : (a : Archive) (name : List ℕ) (n : ℕ) → record_at a n ≡ None → after (Held name n) a ≡ None
held_nowhere a name n is = ap (λ o. made (hold_one a name n o)) is

pub held_destroyed : (a : Archive) (name : List ℕ) (n : ℕ) (r : Record) → record_at a n ≡ Some r → r.destroyed ≡ true
    → after (Held name n) a ≡ None
held_destroyed a name n r is gone = ap (λ o. made (hold_one a name n o)) is ∙ rw gone refl

pub held_twice : (a : Archive) (name : List ℕ) (n : ℕ) (r : Record) → record_at a n ≡ Some r → is_held_by a name n ≡ true
    → after (Held name n) a ≡ None
held_twice a name n r is there = ap (λ o. made (hold_one a name n o)) is ∙ go r.destroyed (is_held_by a name n) there
  where
    go : (d h : Bool) → h ≡ true → made (cond d (Err refusal.Destroyed) (cond h (Err refusal.HoldThere) (Ok (with_hold a name n)))) ≡ None
    go true h e = refl
    go false true e = refl
    go false false e = absurd (let x = e in cc)

pub held_done : (a : Archive) (name : List ℕ) (n : ℕ) (r : Record) → record_at a n ≡ Some r → r.destroyed ≡ false → is_held_by a name n ≡ false
    → after (Held name n) a ≡ after (FoundHold name n) a
held_done a name n r is live free = ap (λ o. made (hold_one a name n o)) is ∙ rw (live, free) refl

pub released_nowhere : (a : Archive) (name : List ℕ) (n : ℕ) → record_at a n ≡ None → after (Released name n) a ≡ None
released_nowhere a name n is = ap (λ o. made (release_one a name n o)) is

pub released_free : (a : Archive) (name : List ℕ) (n : ℕ) → is_held_by a name n ≡ false → after (Released name n) a ≡ None
released_free a name n free = go (record_at a n)
  where
    go : (o : Option Record) → made (release_one a name n o) ≡ None
    go None = refl
    go (Some r) = rw free refl

pub released_done : (a : Archive) (name : List ℕ) (n : ℕ) (r : Record) → record_at a n ≡ Some r → is_held_by a name n ≡ true
    → after (Released name n) a ≡ Some (without_hold a name n)
released_done a name n r is there = ap (λ o. made (release_one a name n o)) is ∙ rw there refl

-- ---- plans

pub class_added : (a : Archive) (q : List ℕ) (p : Listing) → addition a.plan q ≡ Ok p → after (ClassAdded q) a ≡ Some (record a { plan = p })
class_added a q p is = ap (λ o. made (plan_answer a o)) is

pub class_refused : (a : Archive) (q : List ℕ) (f : PlanFault) → addition a.plan q ≡ Err f → after (ClassAdded q) a ≡ None
class_refused a q f is = ap (λ o. made (plan_answer a o)) is

pub plan_replaced : (a : Archive) (p : Listing) → keeps a.plan p ≡ true → after (PlanReplaced p) a ≡ Some (record a { plan = p })
plan_replaced a p is = rw is refl

pub plan_kept : (a : Archive) (p : Listing) → keeps a.plan p ≡ false → after (PlanReplaced p) a ≡ None
plan_kept a p is = rw is refl

-- ---- the same, as the code comes to them

pub held_as_found : {X : Type 0} (a b : Archive) (name : List ℕ) (n : ℕ) (r : Record) (result : Result X Misdeed) → record_at a n ≡ Some r
    → r.destroyed ≡ false → is_held_by a name n ≡ false → IfErr result (λ m. m ≡ misdeed.NoMemory) → IsDone (FoundHold name n) a b result
    → IsDone (Held name n) a b result
held_as_found a b name n r result is live free cause done =
    done_as (Held name n) (FoundHold name n) a b result (held_done a name n r is live free) cause done

-- a plan that is none, or no memory for it
pub plan_missing : (p : Listing) (a : Archive) (m : Misdeed) → (m ≡ misdeed.NoMemory) ⊎ ((m ≡ misdeed.NoPlan) × (IsPlan p → ⊥))
    → IsMisdeed (PlanReplaced p) a m
plan_missing p a m (inl is) = subst (IsMisdeed (PlanReplaced p) a) (sym is) tt
plan_missing p a m (inr h) = subst (IsMisdeed (PlanReplaced p) a) (sym h.0) (p, (inl refl, h.1))

pub plan_unfound : (p : Listing) (a : Archive) (m : Misdeed) → (m ≡ misdeed.NoMemory) ⊎ ((m ≡ misdeed.NoPlan) × (IsPlan p → ⊥))
    → IsMisdeed (FoundPlan p) a m
plan_unfound p a m (inl is) = subst (IsMisdeed (FoundPlan p) a) (sym is) tt
plan_unfound p a m (inr h) = subst (IsMisdeed (FoundPlan p) a) (sym h.0) (p, (inr refl, h.1))

-- ---- captures

pub captured_elsewhere : (a : Archive) (first : ℕ) (seal : Seal) (day : ℕ) (filing : Option Filing) (paths : List (List ℕ))
    → (first ≡ next_number a → ⊥) → after (Captured first seal day filing paths) a ≡ None
captured_elsewhere a first seal day filing paths other = go (first == next_number a) refl
  where
    go : (b : Bool) → (first == next_number a) ≡ b → cond b (made (capture a (seal_text seal) day paths)) None ≡ None
    go true e = absurd (other (grind (arith, nat_tests, e)))
    go false e = refl

same_number : (n : ℕ) → (n == n) ≡ true
same_number n = grind (arith, nat_tests)

captured_here : (a : Archive) (first : ℕ) (seal : Seal) (day : ℕ) (filing : Option Filing) (paths : List (List ℕ)) → first ≡ next_number a
    → after (Captured first seal day filing paths) a ≡ made (capture a (seal_text seal) day paths)
captured_here a first seal day filing paths is = rw (is, same_number (next_number a)) refl

-- no path, no capture
pub captured_nothing : (a : Archive) (first : ℕ) (seal : Seal) (day : ℕ) (filing : Option Filing) → first ≡ next_number a
    → after (Captured first seal day filing []) a ≡ Some a
captured_nothing a first seal day filing is = captured_here a first seal day filing [] is

pub captured_full : (a : Archive) (first : ℕ) (seal : Seal) (day : ℕ) (filing : Option Filing) (paths : List (List ℕ)) → first ≡ next_number a
    → 0 < length paths → 4294967296 < next_number a + length paths → after (Captured first seal day filing paths) a ≡ None
captured_full a first seal day filing [] is some full = absurd (omega (arith, some))
captured_full a first seal day filing (q ∷ qs) is some full =
    captured_here a first seal day filing (q ∷ qs) is ∙ go (has_room a (q ∷ qs)) refl
  where
    go : (b : Bool) → has_room a (q ∷ qs) ≡ b → made (cond b (Ok (after_capture a (seal_text seal) day (q ∷ qs))) (Err refusal.Full)) ≡ None
    go true e = absurd (grind (arith, nat_tests, e, full))
    go false e = refl

pub captured_done : (a b : Archive) (first : ℕ) (seal : Seal) (day : ℕ) (filing : Option Filing) (paths : List (List ℕ)) → first ≡ next_number a
    → 0 < length paths → next_number a + length paths ≤ 4294967296
    → b ≡ record a {
      messages = a.messages ++ record { number = first; body = seal_text seal } ∷ [];
      records = a.records ++ records_of first first day paths;
    }
    → after (Captured first seal day filing paths) a ≡ Some b
captured_done a b first seal day filing [] is some room same = absurd (omega (arith, some))
captured_done a b first seal day filing (q ∷ qs) is some room same =
    captured_here a first seal day filing (q ∷ qs) is ∙ go (has_room a (q ∷ qs)) refl
  where
    go : (c : Bool) → has_room a (q ∷ qs) ≡ c → made (cond c (Ok (after_capture a (seal_text seal) day (q ∷ qs))) (Err refusal.Full)) ≡ Some b
    go true e = sym (ap (λ x. Some x) (same ∙ ap (λ n. record a {
      messages = a.messages ++ record { number = n; body = seal_text seal } ∷ [];
      records = a.records ++ records_of n n day (q ∷ qs);
    }) is))
    go false e = absurd (grind (arith, nat_tests, e, room))

-- ---- destructions

pub gone_nowhere : (a : Archive) (n day : ℕ) → record_at a n ≡ None → made (destroy a n day) ≡ None
gone_nowhere a n day is = ap (λ o. made (destroy_by a n (Some day) o)) is

-- what stands against the destruction of a record that is there
pub gone_refused : (a : Archive) (n day : ℕ) (r : Record) → record_at a n ≡ Some r
    → (r.destroyed ≡ true) ⊎ ((is_held a n ≡ true) ⊎ ((destroys (schedule_at a.plan r.path) ≡ false) ⊎ (is_by_any (Some day) (due_of a r) ≡ false)))
    → made (destroy a n day) ≡ None
gone_refused a n day r is against =
    ap (λ o. made (destroy_by a n (Some day) o)) is
    ∙ go r.destroyed (is_held a n) (destroys (schedule_at a.plan r.path)) (is_by_any (Some day) (due_of a r)) against
  where
    go : (b1 b2 b3 b4 : Bool) → (b1 ≡ true) ⊎ ((b2 ≡ true) ⊎ ((b3 ≡ false) ⊎ (b4 ≡ false)))
        → made (cond b1 (Err refusal.Destroyed) (cond b2 (Err refusal.Held) (cond (not b3) (Err refusal.NotForDestruction)
        (cond (not b4) (Err refusal.NotDue) (Ok (without a r)))))) ≡ None
    go true b2 b3 b4 h = refl
    go false true b3 b4 h = refl
    go false false false b4 h = refl
    go false false true false h = refl
    go false false true true (inl h) = absurd (let x = h in cc)
    go false false true true (inr (inl h)) = absurd (let x = h in cc)
    go false false true true (inr (inr (inl h))) = absurd (let x = h in cc)
    go false false true true (inr (inr (inr h))) = absurd (let x = h in cc)

pub gone_destroyed : (a : Archive) (n day : ℕ) (r : Record) → record_at a n ≡ Some r → r.destroyed ≡ true → made (destroy a n day) ≡ None
gone_destroyed a n day r is h = gone_refused a n day r is (inl h)

pub gone_held : (a : Archive) (n day : ℕ) (r : Record) → record_at a n ≡ Some r → is_held a n ≡ true → made (destroy a n day) ≡ None
gone_held a n day r is h = gone_refused a n day r is (inr (inl h))

pub gone_kept : (a : Archive) (n day : ℕ) (r : Record) → record_at a n ≡ Some r → destroys (schedule_at a.plan r.path) ≡ false
    → made (destroy a n day) ≡ None
gone_kept a n day r is h = gone_refused a n day r is (inr (inr (inl h)))

pub gone_later : (a : Archive) (n day : ℕ) (r : Record) → record_at a n ≡ Some r → is_by_any (Some day) (due_of a r) ≡ false
    → made (destroy a n day) ≡ None
gone_later a n day r is h = gone_refused a n day r is (inr (inr (inr h)))

pub gone_done : (a : Archive) (n day : ℕ) (r : Record) → record_at a n ≡ Some r → r.destroyed ≡ false → is_held a n ≡ false
    → destroys (schedule_at a.plan r.path) ≡ true → is_by_any (Some day) (due_of a r) ≡ true → destroy a n day ≡ Ok (without a r)
gone_done a n day r is live free destroyed due =
    ap (destroy_by a n (Some day)) is ∙ rw (live, free, destroyed, due) refl

-- the record that is found has the number
number_in : (n : ℕ) (r : Record) (rs : List Record) → find (has_number n) rs ≡ Some r → r.number ≡ n
number_in n r [] h = absurd (let x = h in cc)
number_in n r (x ∷ rs) h = one (number_in n r rs) (x.number == n) refl h
  where
    one : (find (has_number n) rs ≡ Some r → r.number ≡ n) → (b : Bool) → (x.number == n) ≡ b
        → cond b (Some x) (find (has_number n) rs) ≡ Some r → r.number ≡ n
    one again true e h = let same : x ≡ r = cc in subst (λ y. y.number ≡ n) same (grind (arith, nat_tests, e))
    one again false e h = again h

pub may_go : (a : Archive) (n day : ℕ) (r : Record) → record_at a n ≡ Some r → r.destroyed ≡ false → is_held a n ≡ false
    → destroys (schedule_at a.plan r.path) ≡ true → is_by_any (Some day) (due_of a r) ≡ true → MayGo a n day r.message
may_go a n day r is live free destroyed due = record {
  row = r;
  number = number_in n r a.records is;
  message_is = refl;
  goes = gone_done a n day r is live free destroyed due;
}

-- by which a destruction is judged
pub ruleset destruction_laws = (gone_nowhere, gone_destroyed, gone_held, gone_kept, gone_later, may_go)

-- by which a hold is placed
pub ruleset hold_laws = (held_nowhere, held_destroyed, held_twice, held_as_found)
