-- The store after a capture.
use Rattle.std.proofs.Common.{◌≡◌, ◌<◌, ◌≤◌, ◌+◌, ◌-◌, ◌^◌, ℕ, Bool, true, false, ◌&&◌, List, [], ◌∷◌, length, Ok, refl}
use Rattle.std.proofs.Common.{sym, ap, subst, subst₂, ◌∙◌, arith, IsTrue, true≢false}
use Rattle.std.specs.List.{AllByRecursion, list_all}
use Rattle.std.proofs.lemmas.List.Elements.{All-from_recursion}
use Rattle.class_plan.specs.Plans.{has}
use Rattle.sqlite.specs.Store.{Ghosts}
use Rattle.sqlite.specs.Tree.{Trees}
use Rattle.sqlite.specs.Effect.{Database}
use Rattle.sqlite.specs.State.{HasCleanDisk, IsLive, Survives}
use Rattle.sqlite.specs.Held.{Held, state}
use Rattle.sqlite.proofs.StateLemmas.{survives_weaker}
use Rattle.record_tables.specs.Rows.{Due}
use Rattle.record_tables.specs.Changes.{Turns, TurnsAlone}
use Rattle.record_tables.specs.Companions.{MakesBoth}
use Rattle.record_tables.specs.Steps.{CommitsWhole}
use Rattle.record_archive.specs.Archive.{Archive, Line, next_number, records_of, after_capture, capture_lines, capture}
use Rattle.record_archive.specs.Archive.{has_room, AreClasses, IsArchive}
use Rattle.record_store.specs.Captures.{with_captured, ArePast, lines_of, dues_of_lines}
use Rattle.record_adoption.specs.Counts.{count_at, only_at}
use Rattle.record_adoption.specs.Keeping.{StoresArchive}
use Rattle.record_store.specs.Companions.{IsReady, KeepsBoth, LeavesBoth, LeavesBothWhere}
use Rattle.record_store.specs.Stores.{StandsFor, Becomes}
use Rattle.record_store.specs.declared.store.Store.{Store}
use Rattle.record_store.proofs.CommandLemmas.{stands_both, brought_both, leaves_both}
use Rattle.record_store.proofs.CaptureLemmas.{captured_is_archive, past_captured, stores_captured, count_captured, next_after, lines_are}

both : (a b : Bool) → (a && b) ≡ true → (a ≡ true) × (b ≡ true)
both true b h = (refl, h)
both false b h = absurd (true≢false (sym h))

each_listed : (is_listed : List ℕ → Bool) (qs : List (List ℕ)) → list_all is_listed qs ≡ true
    → AllByRecursion (λ q. is_listed q ≡ true) qs
each_listed is_listed [] h = tt
each_listed is_listed (q ∷ qs) h =
    let two = both (is_listed q) (list_all is_listed qs) h in
    (two.0, each_listed is_listed qs two.1)

-- what a caller gives for a capture
pub record Given {S : Type 0} (store : Store S) (d n : ℕ) (ps : List (List ℕ)) (ds : List Due) : Type 0 where
  pub some : 0 < length ps
  pub room : n + length ps ≤ 2 ^ 32
  pub first : n ≡ store.next
  pub classes : AreClasses store.plan ps
  pub day : d ≤ 84005
  pub dues : ds ≡ dues_of_lines (lines_of store.plan n d ps)

abbrev Captures : Database → Database → List ℕ → ℕ → ℕ → List (List ℕ) → List Due → Type 0
Captures was db body day n ps ds = Turns was db (ArePast n ds) (with_captured (record { number = n; body = body }) (records_of n n day ps) ds)

module _ {S : Type 0} (g : Ghosts S) (old : Store S) (a : Archive) (s : StandsFor g old a) (day n : ℕ)
    (ps : List (List ℕ)) (ds : List Due) (given : Given old day n ps ds) where
  numbered : n ≡ next_number a
  numbered = given.first ∙ s.next

  by_plan : ds ≡ dues_of_lines (lines_of a.plan (next_number a) day ps)
  by_plan = given.dues ∙ (λ i. dues_of_lines (lines_of (s.plan i) (numbered i) day ps))

  room_is : next_number a + length ps ≤ 2 ^ 32
  room_is = omega (arith, given.room, numbered)

  turns_so : (was db : Database) (body : List ℕ) → Captures was db body day n ps ds
      → Captures was db body day (next_number a) ps (dues_of_lines (lines_of a.plan (next_number a) day ps))
  turns_so was db body turns =
      subst (λ l. Captures was db body day (next_number a) ps l) by_plan (subst (λ k.
      Captures was db body day k ps ds) numbered turns)

-- a capture and its companion
abbrev CapturesBoth : (Database → Type 0) → (Database → Database → Type 0) → List ℕ → ℕ → ℕ → List (List ℕ) → List Due
    → Database → Database → Type 0
CapturesBoth Needs Brings body day n ps ds was db = MakesBoth (λ was db. TurnsAlone was db (ArePast n ds)
    (with_captured (record { number = n; body = body }) (records_of n n day ps) ds)) Needs Brings was db

pub keeps_captured : {S : Type 0} (g : Ghosts S) (old : Store S) (a : Archive) → StandsFor g old a
    → (body : List ℕ) (day n : ℕ) (ps : List (List ℕ)) (ds : List Due) → Given old day n ps ds
    → (was db : Database) → StoresArchive was a → Captures was db body day n ps ds → StoresArchive db (after_capture a body day ps)
keeps_captured g old a s body day n [] ds given was db kept turns = absurd (omega (arith, given.some))
keeps_captured g old a s body day n (q ∷ qs) ds given was db kept turns =
    stores_captured a body day q qs s.archive was db kept (turns_so g old a s day n (q ∷ qs) ds given was db body turns)

archive_captured : {S : Type 0} (g : Ghosts S) (old : Store S) (a : Archive) → StandsFor g old a
    → (body : List ℕ) (day n : ℕ) (ps : List (List ℕ)) (ds : List Due) → Given old day n ps ds → IsArchive (after_capture a body day ps)
archive_captured g old a s body day n [] ds given = absurd (omega (arith, given.some))
archive_captured g old a s body day n (q ∷ qs) ds given =
    let classes = subst (λ p. AreClasses p (q ∷ qs)) s.plan given.classes in
    captured_is_archive a body day q qs s.archive given.day (room_is g old a s day n (q ∷ qs) ds given)
    (All-from_recursion (λ p. has a.plan.rows p ≡ true) (q ∷ qs) (each_listed (has a.plan.rows) (q ∷ qs) classes))

past_allowed : {S : Type 0} (g : Ghosts S) (old : Store S) (a : Archive) → StandsFor g old a
    → (body : List ℕ) (day n : ℕ) (ps : List (List ℕ)) (ds : List Due) → Given old day n ps ds
    → (was : Database) → (kept : StoresArchive was a) → ArePast n ds kept.tables
past_allowed g old a s body day n [] ds given was kept = absurd (omega (arith, given.some))
past_allowed g old a s body day n (q ∷ qs) ds given was kept =
    let P : ℕ → List Due → Type 0 = λ k l. ArePast k l kept.tables in
    subst₂ P (sym (numbered g old a s day n (q ∷ qs) ds given)) (sym (by_plan g old a s day n (q ∷ qs) ds given))
    (past_captured a body day q qs s.archive was kept)

pub stands_captured : {S : Type 0} (g : Ghosts S) (Needs : Database → Type 0) (Brings : Database → Database → Type 0) (old new : Store S)
    (a : Archive) → StandsFor g old a → IsReady g Needs old
    → (body : List ℕ) (day n : ℕ) (ps : List (List ℕ)) (ds : List Due) → Given old day n ps ds
    → new.conn.in_transaction ≡ false → new.plan ≡ old.plan → new.next ≡ n + length ps
    → ((m : ℕ) → count_at new.held m ≡ count_at old.held m) → ((m : ℕ) → count_at new.others m ≡ count_at old.others m + only_at n (length ps - 1) m)
    → (HasCleanDisk (state g new.conn) → HasCleanDisk (state g old.conn))
    → (HasCleanDisk (state g new.conn) → IsTrue (state g new.conn).is_open → IsTrue (state g old.conn).is_open)
    → (HasCleanDisk (state g new.conn) → CapturesBoth Needs Brings body day n ps ds (state g old.conn).now (state g new.conn).now)
    → StandsFor g new (after_capture a body day ps)
stands_captured g Needs Brings old new a s ready body day n [] ds given idle plan next held others falls opened turns =
    absurd (omega (arith, given.some))
stands_captured g Needs Brings old new a s ready body day n (q ∷ qs) ds given idle plan next held others falls opened turns =
    let same = numbered g old a s day n (q ∷ qs) ds given in
    let further : length (q ∷ qs) - 1 ≡ length qs = omega arith in
    stands_both g old a (after_capture a body day (q ∷ qs)) (ArePast n ds)
    (with_captured (record { number = n; body = body }) (records_of n n day (q ∷ qs)) ds) Needs Brings s ready new
    (archive_captured g old a s body day n (q ∷ qs) ds given) idle (plan ∙ s.plan)
    (next ∙ ap (λ k. k + length (q ∷ qs)) same ∙ sym (next_after a body day q qs))
    (λ m. held m ∙ s.held m)
    (λ m. others m ∙ (λ i. s.others m i + only_at (same i) (further i) m) ∙ sym (count_captured a body day q qs s.archive m))
    falls opened turns (λ was db kept turn. keeps_captured g old a s body day n (q ∷ qs) ds given was db kept turn)

pub brought_captured : {S : Type 0} (g : Ghosts S) (Needs : Database → Type 0) (Brings : Database → Database → Type 0) (old : Store S)
    (new : Held S) (a : Archive) (s : StandsFor g old a) → IsReady g Needs old
    → (body : List ℕ) (day n : ℕ) (ps : List (List ℕ)) (ds : List Due) → Given old day n ps ds
    → (HasCleanDisk (state g new) → HasCleanDisk (state g old.conn))
    → (HasCleanDisk (state g new) → IsTrue (state g new).is_open → IsTrue (state g old.conn).is_open)
    → (HasCleanDisk (state g new) → IsTrue (state g new).is_open)
    → (HasCleanDisk (state g new) → CapturesBoth Needs Brings body day n ps ds (state g old.conn).now (state g new).now)
    → HasCleanDisk (state g new) → IsTrue (state g old.conn).is_open × Brings (state g old.conn).now (state g new).now
brought_captured g Needs Brings old new a s ready body day n ps ds given falls opened is_open made =
    brought_both g old a a (ArePast n ds) (with_captured (record { number = n; body = body }) (records_of n n day ps) ds) Needs Brings s ready new
    (λ was kept. past_allowed g old a s body day n ps ds given was kept) falls opened is_open made

pub leaves_captured : {S : Type 0} (g : Ghosts S) (Needs : Database → Type 0) (Brings : Database → Database → Type 0) (old : Store S)
    (new : Held S) (a : Archive) → StandsFor g old a → IsReady g Needs old
    → (body : List ℕ) (day n : ℕ) (ps : List (List ℕ)) (ds : List Due) → Given old day n ps ds
    → IsLive (state g old.conn) → CommitsWhole g old.conn new (CapturesBoth Needs Brings body day n ps ds)
    → Survives (state g old.conn) (state g new)
    (λ (trees : Trees). IsTrue (state g old.conn).is_open → Unit {0}
    → KeepsBoth Brings (state g old.conn).now trees (after_capture a body day ps))
leaves_captured g Needs Brings old new a s ready body day n ps ds given live made =
    leaves_both g old a (after_capture a body day ps) (ArePast n ds)
    (with_captured (record { number = n; body = body }) (records_of n n day ps) ds) Needs Brings s ready new Unit
    (λ legal. archive_captured g old a s body day n ps ds given)
    (λ was kept legal. past_allowed g old a s body day n ps ds given was kept)
    (λ was db kept legal turn. keeps_captured g old a s body day n ps ds given was db kept turn) live made

-- ---- the command

pub has_its_room : (a : Archive) (ps : List (List ℕ)) → next_number a + length ps ≤ 2 ^ 32 → has_room a ps ≡ true
has_its_room a [] h = refl
has_its_room a (q ∷ qs) h = grind arith

pub is_captured : (a : Archive) (body : List ℕ) (day : ℕ) (ps : List (List ℕ)) → has_room a ps ≡ true
    → capture a body day ps ≡ Ok (after_capture a body day ps)
is_captured a body day ps h = rw h refl

pub obeys_captured : {S : Type 0} (g : Ghosts S) (new : Store S) (a : Archive) (body : List ℕ) (day : ℕ)
    (ps : List (List ℕ)) (lines : List Line) → next_number a + length ps ≤ 2 ^ 32
    → StandsFor g new (after_capture a body day ps) → lines ≡ lines_of a.plan (next_number a) day ps
    → Becomes g new (capture a body day ps) × (lines ≡ capture_lines a day ps)
obeys_captured g new a body day ps lines room s told = (
  subst (Becomes g new) (sym (is_captured a body day ps (has_its_room a ps room))) s,
  told
      ∙ sym (lines_are a (next_number a) (next_number a) day ps),
)

-- where there is no class, nothing is captured
pub obeys_nowhere : {S : Type 0} (g : Ghosts S) (new : Store S) (a : Archive) (body : List ℕ) (day : ℕ)
    (ps : List (List ℕ)) (lines : List Line) → length ps ≡ 0 → lines ≡ [] → StandsFor g new a
    → Becomes g new (capture a body day ps) × (lines ≡ capture_lines a day ps)
obeys_nowhere g new a body day [] lines none is s = (s, is)
obeys_nowhere g new a body day (q ∷ qs) lines none is s = absurd (omega (arith, none))

pub leaves_command : {S : Type 0} (g : Ghosts S) (Needs : Database → Type 0) (Brings : Database → Database → Type 0) (old new : Store S)
    (body : List ℕ) (day : ℕ) (ps : List (List ℕ)) → old.next + length ps ≤ 2 ^ 32
    → LeavesBothWhere g Needs Brings old new (λ a. Unit {0}) (λ a. after_capture a body day ps)
    → LeavesBoth g Needs Brings old new (λ a. capture a body day ps)
leaves_command g Needs Brings old new body day ps room made a s ready is_open =
    survives_weaker (state g old.conn) (state g new.conn) _ _
    (λ clean trees left. (
      after_capture a body day ps,
      is_captured a body day ps (has_its_room a ps (omega (arith, room, s.next))),
      left is_open tt,
    ))
    (made a s ready)
