-- Commands of the archive drop no class of the plan.
use Rattle.std.proofs.Common.{◌≡◌, ℕ, List, [], ◌∷◌, Bool, true, false, not, cond, ◌&&◌, Option, Some, None, is_some}
use Rattle.std.proofs.Common.{Result, Ok, Err, if◌then◌else◌, Ordering, Less, Equal, Greater, nat_cmp, refl, ap, sym}
use Rattle.std.proofs.Common.{◌∙◌, subst, rules}
use Rattle.std.specs.List.{list_all}
use Rattle.std.specs.Ordering.{match_ordering}
use Rattle.std.specs.Cmp.Lexicographic.{slice_cmp}
use Rattle.std.specs.Str.{bytes_eq}
use Rattle.class_plan.specs.Changes.{addition, speaks_against, with_class}
use Rattle.class_plan.specs.Faults.{answer, first_fault}
use Rattle.class_plan.specs.Plans.{Listing, Row, row_at, has, keeps, open_row, schedule_at, with_row}
use Rattle.class_plan.specs.declared.faults.PlanFault.{PlanFault}
use Rattle.class_plan.specs.declared.faults.PlanFault.TheVariants.{PathDropped}
use Rattle.record_archive.specs.Archive.{Record, Archive, add_class, capture, after_capture, has_room, destroy}
use Rattle.record_archive.specs.Archive.{destroy_one, destroys, due_of, hold, hold_one, is_by, is_held, is_held_by}
use Rattle.record_archive.specs.Archive.{plan_answer, record_at, release, release_one, revise, with_hold, without}
use Rattle.record_archive.specs.Archive.{without_hold}
use Rattle.record_archive.specs.declared.fault.ArchiveRefusal.{ArchiveRefusal}
use Rattle.record_archive.specs.declared.fault.ArchiveRefusal.TheVariants as fault

ok_is : (a b : Archive) → ◌≡◌ {A = Result Archive ArchiveRefusal} (Ok a) (Ok b) → a ≡ b
ok_is a b e = cc

-- ---- the plan stays

pub hold_stays : (a b : Archive) (name : List ℕ) (n : ℕ) → hold a name n ≡ Ok b → b.plan ≡ a.plan
hold_stays a b name n e = go (record_at a n) e
  where
    two : (x y : Bool) → (if x then Err fault.Destroyed else if y then Err fault.HoldThere else Ok (with_hold a name n)) ≡ Ok b → b.plan ≡ a.plan
    two true y e = absurd cc
    two false true e = absurd cc
    two false false e = ap (λ (x : Archive). x.plan) (sym (ok_is (with_hold a name n) b e))

    go : (r : Option Record) → hold_one a name n r ≡ Ok b → b.plan ≡ a.plan
    go None e = absurd cc
    go (Some r) e = two r.destroyed (is_held_by a name n) e

pub release_stays : (a b : Archive) (name : List ℕ) (n : ℕ) → release a name n ≡ Ok b → b.plan ≡ a.plan
release_stays a b name n e = go (record_at a n) e
  where
    one : (x : Bool) → (if x then Ok (without_hold a name n) else Err fault.NoHold) ≡ Ok b → b.plan ≡ a.plan
    one true e = ap (λ (x : Archive). x.plan) (sym (ok_is (without_hold a name n) b e))
    one false e = absurd cc

    go : (r : Option Record) → release_one a name n r ≡ Ok b → b.plan ≡ a.plan
    go None e = absurd cc
    go (Some r) e = one (is_held_by a name n) e

pub destroy_stays : (a b : Archive) (n day : ℕ) → destroy a n day ≡ Ok b → b.plan ≡ a.plan
destroy_stays a b n day e = go (record_at a n) e
  where
    four : (r : Record) (w x y z : Bool)
        → (if w then Err fault.Destroyed else if x then Err fault.Held else if not y then Err fault.NotForDestruction
        else if not z then Err fault.NotDue else Ok (without a r)) ≡ Ok b → b.plan ≡ a.plan
    four r true x y z e = absurd cc
    four r false true y z e = absurd cc
    four r false false false z e = absurd cc
    four r false false true false e = absurd cc
    four r false false true true e = ap (λ (x : Archive). x.plan) (sym (ok_is (without a r) b e))

    go : (r : Option Record) → destroy_one a n day r ≡ Ok b → b.plan ≡ a.plan
    go None e = absurd cc
    go (Some r) e = four r r.destroyed (is_held a n) (destroys (schedule_at a.plan r.path)) (is_by day (due_of a r)) e

pub captured_plan : (a b : Archive) (body : List ℕ) (day : ℕ) (classes : List (List ℕ)) → capture a body day classes ≡ Ok b → b.plan ≡ a.plan
captured_plan a b body day classes e = go (has_room a classes) e
  where
    same : (qs : List (List ℕ)) → (after_capture a body day qs).plan ≡ a.plan
    same [] = refl
    same (q ∷ qs) = refl

    go : (r : Bool) → (if r then Ok (after_capture a body day classes) else Err fault.Full) ≡ Ok b → b.plan ≡ a.plan
    go true e = ap (λ (x : Archive). x.plan) (sym (ok_is (after_capture a body day classes) b e)) ∙ same classes
    go false e = absurd cc

-- ---- the plan has its classes still

pub same_keeps : (a b : Archive) (q : List ℕ) → b.plan ≡ a.plan → has a.plan.rows q ≡ true → has b.plan.rows q ≡ true
same_keeps a b q same there = ap (λ (p : Listing). has p.rows q) same ∙ there

found_after : (b : Bool) (r : Row) (rest : Option Row) → is_some rest ≡ true → is_some (cond b (Some r) rest) ≡ true
found_after true r rest h = refl
found_after false r rest h = h

found_still : (b : Bool) (r s : Row) (rest more : Option Row) → (is_some rest ≡ true → is_some more ≡ true)
    → is_some (cond b (Some r) rest) ≡ true → is_some (cond b (Some s) more) ≡ true
found_still true r s rest more on h = refl
found_still false r s rest more on h = on h

-- a row that is put in the place of another, with the path of that one
abbrev changed : Row → Row → Row
changed r x = record { path = x.path; is_open = r.is_open; schedule = r.schedule }

-- a class that is there is there still after a row is put
has_more : (r : Row) (rows : List Row) (q : List ℕ) → has rows q ≡ true → has (with_row r rows) q ≡ true
has_more r [] q h = absurd cc
has_more r (x ∷ xs) q h = go (slice_cmp nat_cmp r.path x.path) (has_more r xs q)
  where
    go : (o : Ordering) → (has xs q ≡ true → has (with_row r xs) q ≡ true)
        → has (match_ordering o (r ∷ x ∷ xs) (changed r x ∷ xs) (x ∷ with_row r xs)) q ≡ true
    go Less more = found_after (bytes_eq q r.path) r (row_at q (x ∷ xs)) h
    go Equal more = found_still (bytes_eq q x.path) x (changed r x) (row_at q xs) (row_at q xs) (λ there. there) h
    go Greater more = found_still (bytes_eq q x.path) x x (row_at q xs) (row_at q (with_row r xs)) more h

answered : (o : Option PlanFault) (a b : Listing) → answer o a ≡ Ok b → b ≡ a
answered None a b e = cc
answered (Some f) a b e = absurd cc

pub added_keeps : (a b : Archive) (path q : List ℕ) → add_class a path ≡ Ok b → has a.plan.rows q ≡ true → has b.plan.rows q ≡ true
added_keeps a b path q made there = go (addition a.plan path) refl made
  where
    go : (r : Result Listing PlanFault) → addition a.plan path ≡ r → plan_answer a r ≡ Ok b → has b.plan.rows q ≡ true
    go (Err f) is e = absurd cc
    go (Ok p) is e =
        let plan : b.plan ≡ p = ap (λ (x : Archive). x.plan) (sym (ok_is (record a { plan = p }) b e)) in
        let new : p ≡ with_class a.plan path = answered (first_fault (speaks_against a.plan path)) (with_class a.plan path) p is in
        ap (λ (x : Listing). has x.rows q) (plan ∙ new) ∙ has_more (open_row path) a.plan.rows q there

same_path : (q r : List ℕ) → bytes_eq q r ≡ true → q ≡ r
same_path q r h = search rules

has_kept : (K : List ℕ → Bool) (rows : List Row) (q : List ℕ) → has rows q ≡ true → list_all (λ (r : Row). K r.path) rows ≡ true → K q ≡ true
has_kept K [] q h all = absurd cc
has_kept K (x ∷ rows) q h all = go (bytes_eq q x.path) refl h (has_kept K rows q)
  where
    both : (a b : Bool) → (a && b) ≡ true → (a ≡ true) × (b ≡ true)
    both true true e = (refl, refl)
    both true false e = absurd cc
    both false b e = absurd cc

    go : (b : Bool) → bytes_eq q x.path ≡ b → is_some (cond b (Some x) (row_at q rows)) ≡ true
        → (has rows q ≡ true → list_all (λ (r : Row). K r.path) rows ≡ true → K q ≡ true) → K q ≡ true
    go true e row_at more = subst (λ z. K z ≡ true) (sym (same_path q x.path e)) (both (K x.path) _ all).0
    go false e row_at more = more row_at (both (K x.path) _ all).1

pub revised_keeps : (a b : Archive) (p : Listing) (q : List ℕ) → revise a p ≡ Ok b → has a.plan.rows q ≡ true → has b.plan.rows q ≡ true
revised_keeps a b p q made there = go (keeps a.plan p) refl made
  where
    go : (k : Bool) → keeps a.plan p ≡ k → (if k then Ok (record a { plan = p }) else Err (fault.Plan PathDropped)) ≡ Ok b → has b.plan.rows q ≡ true
    go false is e = absurd cc
    go true is e =
        let plan : b.plan ≡ p = ap (λ (x : Archive). x.plan) (sym (ok_is (record a { plan = p }) b e)) in
        ap (λ (x : Listing). has x.rows q) plan ∙ has_kept (has p.rows) a.plan.rows q there is
