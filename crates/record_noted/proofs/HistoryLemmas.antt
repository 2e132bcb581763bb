-- A store beside which a history is kept.
use Rattle.std.proofs.Common.{◌≡◌, ◌≤◌, ◌<◌, ◌+◌, ◌^◌, ◌⊎◌, nat_le, ℕ, List, [], ◌∷◌, ◌++◌, length}
use Rattle.std.proofs.Common.{Ok, Err, Result, true, false, refl, sym, ap, subst, ◌∙◌, arith, inl, inr, IsTrue}
use Rattle.std.specs.Prelude.{IfOk, OnOk}
use Rattle.std.specs.Result.{IsErr, IsErrAnd}
use Rattle.std.proofs.lemmas.Bool.{cases_Bool, false≢true}
use Rattle.std.proofs.lemmas.Bool.Decides.{nat_tests}
use Rattle.std.proofs.lemmas.List.{length-append}
use Rattle.sqlite.specs.Store.{Ghosts}
use Rattle.sqlite.specs.Effect.{Database}
use Rattle.sqlite.specs.State.{State, HasCleanDisk, Survives}
use Rattle.sqlite.specs.Tree.{Trees}
use Rattle.sqlite.specs.Held.{state}
use Rattle.sqlite.proofs.StateLemmas.{survives_weaker}
use Rattle.record_tables.specs.Events.{new_event, StoresEvents, IsPastEvents, KeepsEvents, NotesEvent}
use Rattle.record_history.specs.Chain.{mark_after, chain_from}
use Rattle.record_history.specs.Events.{Event, Deed}
use Rattle.record_history.specs.Lines.{line_of}
use Rattle.record_history.specs.Laws.{Told, TellsInLines}
use Rattle.record_archive.specs.Archive.{Archive, capture, next_number}
use Rattle.record_archive.specs.Calls.{Makes}
use Rattle.record_archive.specs.Faults.{WhereRefused, is_trouble}
use Rattle.record_archive.specs.declared.fault.ArchiveRefusal.{ArchiveRefusal}
use Rattle.record_store.specs.Faults.{StoreFault}
use Rattle.record_store.specs.Stores as store
use Rattle.record_store.specs.Stores.{StandsFor, ObeysRows, Behaves, Falls}
use Rattle.record_store.specs.Companions.{IsReady, Brought, FailsStill, LeavesBoth}
use Rattle.record_noted.specs.Histories.{rows_from, rows_of, MovesOn, StandsWith, StandsTold, Becomes, Obeys, Leaves, Notes, NotesAll}
use Rattle.record_noted.specs.Histories.{DoesTold, IsTold}
use Rattle.record_noted.specs.declared.store.NotedStore.{NotedStore}

-- a state that nothing has changed
pub survives_itself : (s : State) (P : Trees → Type 0) → Survives s s P
survives_itself s P = record {
  clean = omega arith;
  shield = λ h. h;
  counts = omega arith;
  limit = refl;
  closes = λ clean is_open. inl is_open;
  crash = λ clean db h. inl h;
}

-- ---- more lines

pub chain_append : (mark : List ℕ) (ls ks : List (List ℕ)) → chain_from mark (ls ++ ks) ≡ chain_from (chain_from mark ls) ks
chain_append mark [] ks = refl
chain_append mark (x ∷ ls) ks = chain_append (mark_after mark x) ls ks

pub rows_append : (n : ℕ) (mark : List ℕ) (ls ks : List (List ℕ)) (k : ℕ) → k ≡ n + length ls
    → rows_from n mark (ls ++ ks) ≡ rows_from n mark ls ++ rows_from k (chain_from mark ls) ks
rows_append n mark [] ks k is = let same : n ≡ k = omega (arith, is) in ap (λ m. rows_from m mark ks) same
rows_append n mark (x ∷ ls) ks k is =
    ap (λ rows. new_event n x (mark_after mark x) ∷ rows) (rows_append (n + 1) (mark_after mark x) ls ks k (omega (arith, is)))

pub rows_past : (n : ℕ) (mark : List ℕ) (ls : List (List ℕ)) (k : ℕ) → n + length ls ≤ k → IsPastEvents k (rows_from n mark ls)
rows_past n mark [] k low = tt
rows_past n mark (x ∷ ls) k low = (omega (arith, low), rows_past (n + 1) (mark_after mark x) ls k (omega (arith, low)))

-- the rows of a history with lines more
pub rows_of_more : {S : Type 0} (g : Ghosts S) (old : NotedStore S) (a : Archive) (ls lines : List (List ℕ)) → StandsWith g old a ls
    → rows_of ls ++ rows_from old.next old.mark.items lines ≡ rows_of (ls ++ lines)
rows_of_more g old a ls lines r =
    ap (λ m. rows_of ls ++ rows_from old.next m lines) r.mark ∙ sym (rows_append 1 [] ls lines old.next (omega (arith, r.next)))

-- ---- a call that is refused

-- the store after a refusal
pub stands_still : {S : Type 0} (g : Ghosts S) (old new : NotedStore S) (a : Archive) (ls : List (List ℕ)) → StandsWith g old a ls
    → StandsFor g new.store a → new.next ≡ old.next → new.mark ≡ old.mark
    → (HasCleanDisk (state g new.store.conn) → HasCleanDisk (state g old.store.conn))
    → (HasCleanDisk (state g new.store.conn) → IsTrue (state g new.store.conn).is_open
    → IsTrue (state g old.store.conn).is_open × ((state g new.store.conn).now ≡ (state g old.store.conn).now))
    → StandsWith g new a ls
stands_still g old new a ls r stands number mark falls still = record {
  stands = stands;
  next = number ∙ r.next;
  mark = ap (λ m. m.items) mark ∙ r.mark;
  lines = λ clean is_open.
      let it = still clean is_open in
      subst (λ db. StoresEvents db (rows_of ls)) (sym it.1) (r.lines (falls clean) it.0);
}

-- trouble is no refusal of the archive
no_refusal : (f : StoreFault) (Holds : ArchiveRefusal → Type 0) → is_trouble f ≡ true → WhereRefused Holds f
no_refusal f Holds trouble r is = absurd (let e = ap is_trouble is in let t = trouble in cc)

-- what `?` passes on
passed_on : {S X : Type 0} (g : Ghosts S) (old new : NotedStore S) (result : Result X StoreFault) (f : StoreFault)
    (command : Archive → Result Archive ArchiveRefusal) (Answers : Archive → X → Type 0) (lines : List (List ℕ)) → IsErr result
    → IsErrAnd result (λ x. x ≡ f)
    → ((a : Archive) (ls : List (List ℕ)) → StandsWith g old a ls → StandsWith g new a ls
    × (HasCleanDisk (state g new.store.conn) → WhereRefused (λ r. command a ≡ Err r) f)) → Obeys g old new result command Answers lines
passed_on {X = X} g old new (Err e) f command Answers lines is same h =
    let P : StoreFault → Type 0 = λ x. let r : Result X StoreFault = Err x in Obeys g old new r command Answers lines in subst P (sym same) h
passed_on g old new (Ok x) f command Answers lines is same h = absurd (false≢true is)

-- the store refuses, or the archive
refused_noted : {S X : Type 0} (g : Ghosts S) (old new : NotedStore S) (result : Result X StoreFault) (f : StoreFault)
    (command : Archive → Result Archive ArchiveRefusal) (Answers : Archive → X → Type 0) (lines : List (List ℕ)) → IsErr result
    → IsErrAnd result (λ x. x ≡ f)
    → ((a : Archive) → StandsFor g old.store a → StandsFor g new.store a
    × (HasCleanDisk (state g new.store.conn) → WhereRefused (λ r. command a ≡ Err r) f))
    → FailsStill {X = X} g old.store new.store (Err f)
    → (HasCleanDisk (state g new.store.conn) → HasCleanDisk (state g old.store.conn)) → new.next ≡ old.next → new.mark ≡ old.mark
    → Obeys g old new result command Answers lines
refused_noted g old new result f command Answers lines is same obeys still falls number mark =
    passed_on g old new result f command Answers lines is same (λ a ls r.
    let done = obeys a r.stands in
    (stands_still g old new a ls r done.0 number mark falls (λ clean is_open. still a r.stands clean is_open), done.1))

-- there is no mark for the lines
unmarked : {S X : Type 0} (g : Ghosts S) (old : NotedStore S) (result : Result X StoreFault) (f : StoreFault)
    (command : Archive → Result Archive ArchiveRefusal) (Answers : Archive → X → Type 0) (lines : List (List ℕ)) → IsErr result
    → IsErrAnd result (λ x. x ≡ f) → is_trouble f ≡ true → Obeys g old old result command Answers lines
unmarked g old result f command Answers lines is same trouble =
    passed_on g old old result f command Answers lines is same (λ a ls r. (r, λ clean. no_refusal f _ trouble))

-- a refusal promises nothing of a success
never_done : {X : Type 0} (result : Result X StoreFault) (P : Type 0) → IsErr result → OnOk result P
never_done (Err e) P is = tt
never_done (Ok x) P is = absurd (false≢true is)

-- the call is refused before the store is asked
pub all_unmarked : {S X : Type 0} (g : Ghosts S) (old : NotedStore S) (result : Result X StoreFault) (f : StoreFault)
    (command : Archive → Result Archive ArchiveRefusal) (Answers : Archive → X → Type 0) (lines : List (List ℕ)) → IsErr result
    → IsErrAnd result (λ x. x ≡ f) → is_trouble f ≡ true → NotesAll g old old result command Answers lines
all_unmarked g old result f command Answers lines is same trouble = record {
  was_clean = λ clean. clean;
  obeys = unmarked g old result f command Answers lines is same trouble;
  «open» = λ clean. never_done result _ is;
  crash = λ a ls r is_open. survives_itself (state g old.store.conn) _;
}

-- ---- a call that notes its lines

-- what a companion needs is there, and by what it brings these lines more are stored
pub record Lengthens {S : Type 0} (g : Ghosts S) (old : NotedStore S) (Needs : Database → Type 0) (Adds : Database → Database → Type 0)
    (lines : List (List ℕ)) (a : Archive) (ls : List (List ℕ)) : Type 0 where
  pub ready : IsReady g Needs old.store
  pub noted : (was db : Database) → Adds was db → StoresEvents was (rows_of ls) → StoresEvents db (rows_of (ls ++ lines))

module _ {S : Type 0} (g : Ghosts S) (old : NotedStore S) (Needs : Database → Type 0) (Adds : Database → Database → Type 0)
    (lines : List (List ℕ))
    (longer : (a : Archive) (ls : List (List ℕ)) → StandsWith g old a ls → Lengthens g old Needs Adds lines a ls) where
  stands_added : (new : NotedStore S) (a b : Archive) (ls : List (List ℕ)) → StandsWith g old a ls → StandsFor g new.store b
      → (HasCleanDisk (state g new.store.conn) → HasCleanDisk (state g old.store.conn))
      → (HasCleanDisk (state g new.store.conn) → IsTrue (state g old.store.conn).is_open
      × Adds (state g old.store.conn).now (state g new.store.conn).now)
      → MovesOn old.next old.mark.items lines new.next new.mark.items → StandsWith g new b (ls ++ lines)
  stands_added new a b ls r stands falls brought ends = record {
    stands = stands;
    next = omega (arith, ends.next_is, length-append ls lines, r.next);
    mark = ends.mark_is ∙ ap (λ m. chain_from m lines) r.mark ∙ sym (chain_append [] ls lines);
    lines = λ clean is_open.
        let it = brought clean in
        (longer a ls r).noted (state g old.store.conn).now (state g new.store.conn).now it.1 (r.lines (falls clean) it.0);
  }

  obeys_added : {X : Type 0} (new : NotedStore S) (x : X) (command : Archive → Result Archive ArchiveRefusal)
      (Answers : Archive → X → Type 0)
      → (IsReady g Needs old.store → ObeysRows g old.store new.store (Ok x) command Answers)
      → Brought {X = X} g Needs Adds old.store new.store (Ok x)
      → (HasCleanDisk (state g new.store.conn) → HasCleanDisk (state g old.store.conn))
      → MovesOn old.next old.mark.items lines new.next new.mark.items → Obeys g old new (Ok x) command Answers lines
  obeys_added new x command Answers obeys brought falls ends clean a ls r =
      let done = obeys (longer a ls r).ready clean a r.stands in
      (go (command a) done.0, done.1)
    where
      go : (o : Result Archive ArchiveRefusal) → store.Becomes g new.store o → Becomes g old new o (ls ++ lines)
      go (Ok b) stands = stands_added new a b ls r stands falls (λ clean. brought a r.stands (longer a ls r).ready clean) ends
      go (Err f) none = none

  leaves_added : (new : NotedStore S) (command : Archive → Result Archive ArchiveRefusal)
      → LeavesBoth g Needs Adds old.store new.store command → Leaves g old new command lines
  leaves_added new command left a ls r is_open =
      let made = left a r.stands (longer a ls r).ready is_open in
      survives_weaker (state g old.store.conn) (state g new.store.conn) _ _
      (λ clean trees it.
      let back : HasCleanDisk (state g old.store.conn) = omega (arith, made.clean, clean) in (
        it.0,
        it.1,
        record {
          kept = it.2.kept;
          lines = (longer a ls r).noted (state g old.store.conn).now it.2.kept.db it.2.brought (r.lines back is_open);
        },
      ))
      made

  -- the call succeeds
  pub all_done : {X : Type 0} (new : NotedStore S) (x : X) (command : Archive → Result Archive ArchiveRefusal)
      (Answers : Archive → X → Type 0)
      → (IsReady g Needs old.store → ObeysRows g old.store new.store (Ok x) command Answers)
      → Brought {X = X} g Needs Adds old.store new.store (Ok x) → Behaves {X = X} g old.store new.store (Ok x)
      → LeavesBoth g Needs Adds old.store new.store command
      → MovesOn old.next old.mark.items lines new.next new.mark.items → NotesAll g old new (Ok x) command Answers lines
  all_done new x command Answers obeys brought behaves left ends = record {
    was_clean = behaves.falls;
    obeys = obeys_added new x command Answers obeys brought behaves.falls ends;
    «open» = behaves.«open»;
    crash = leaves_added new command left;
  }

  -- the call is refused by the store or the archive
  pub all_refused : {X : Type 0} (new : NotedStore S) (result : Result X StoreFault) (f : StoreFault)
      (command : Archive → Result Archive ArchiveRefusal) (Answers : Archive → X → Type 0) → IsErr result → IsErrAnd result (λ x. x ≡ f)
      → ((a : Archive) → StandsFor g old.store a → StandsFor g new.store a
      × (HasCleanDisk (state g new.store.conn) → WhereRefused (λ r. command a ≡ Err r) f))
      → FailsStill {X = X} g old.store new.store (Err f) → Falls g old.store new.store
      → LeavesBoth g Needs Adds old.store new.store command
      → new.next ≡ old.next → new.mark ≡ old.mark → NotesAll g old new result command Answers lines
  all_refused new result f command Answers is same obeys still falls left number ends = record {
    was_clean = falls;
    obeys = refused_noted g old new result f command Answers lines is same obeys still falls number ends;
    «open» = λ clean. never_done result _ is;
    crash = leaves_added new command left;
  }

-- ---- a call that notes one line

-- the history is one line longer in the tables
one_longer : {S : Type 0} (g : Ghosts S) (old : NotedStore S) (line mark : List ℕ) → mark ≡ mark_after old.mark.items line → (a : Archive)
    (ls : List (List ℕ)) → StandsWith g old a ls
    → Lengthens g old KeepsEvents (NotesEvent (new_event old.next line mark)) (line ∷ []) a ls
one_longer g old line mark marked a ls r = record {
  ready = λ clean is_open. (r.lines clean is_open).stands;
  noted = λ was db notes events.
      let past : IsPastEvents old.next (rows_of ls) = rows_past 1 [] ls old.next (omega (arith, r.next)) in
      let rows : rows_of ls ++ new_event old.next line mark ∷ [] ≡ rows_of (ls ++ line ∷ []) =
      ap (λ m. rows_of ls ++ new_event old.next line m ∷ []) marked ∙ rows_of_more g old a ls (line ∷ []) r in
      subst (StoresEvents db) rows (notes (rows_of ls) events past);
}

-- the call succeeds
pub notes_done : {S X : Type 0} (g : Ghosts S) (old : NotedStore S) (line mark : List ℕ) (marked : mark ≡ mark_after old.mark.items line)
    (new : NotedStore S) (x : X) (command : Archive → Result Archive ArchiveRefusal) (Answers : Archive → X → Type 0)
    → (IsReady g KeepsEvents old.store → ObeysRows g old.store new.store (Ok x) command Answers)
    → Brought {X = X} g KeepsEvents (NotesEvent (new_event old.next line mark)) old.store new.store (Ok x)
    → Behaves {X = X} g old.store new.store (Ok x)
    → LeavesBoth g KeepsEvents (NotesEvent (new_event old.next line mark)) old.store new.store command
    → new.next ≡ old.next + 1 → new.mark.items ≡ mark → Notes g old new (Ok x) command Answers line
notes_done g old line mark marked new x command Answers obeys brought behaves left number ends =
    all_done g old KeepsEvents (NotesEvent (new_event old.next line mark)) (line ∷ []) (one_longer g old line mark marked) new x command Answers
    obeys brought behaves left (record { next_is = number; mark_is = ends ∙ marked })

-- the call is refused by the store or the archive
pub notes_refused : {S X : Type 0} (g : Ghosts S) (old : NotedStore S) (line mark : List ℕ) (marked : mark ≡ mark_after old.mark.items line)
    (new : NotedStore S) (result : Result X StoreFault) (f : StoreFault) (command : Archive → Result Archive ArchiveRefusal)
    (Answers : Archive → X → Type 0) → IsErr result → IsErrAnd result (λ x. x ≡ f)
    → ((a : Archive) → StandsFor g old.store a → StandsFor g new.store a
    × (HasCleanDisk (state g new.store.conn) → WhereRefused (λ r. command a ≡ Err r) f))
    → FailsStill {X = X} g old.store new.store (Err f) → Falls g old.store new.store
    → LeavesBoth g KeepsEvents (NotesEvent (new_event old.next line mark)) old.store new.store command
    → new.next ≡ old.next → new.mark ≡ old.mark → Notes g old new result command Answers line
notes_refused g old line mark marked =
    all_refused g old KeepsEvents (NotesEvent (new_event old.next line mark)) (line ∷ []) (one_longer g old line mark marked)

-- the call is refused before the store is asked
pub notes_unmarked : {S X : Type 0} (g : Ghosts S) (old : NotedStore S) (result : Result X StoreFault) (f : StoreFault)
    (command : Archive → Result Archive ArchiveRefusal) (Answers : Archive → X → Type 0) (line : List ℕ) → IsErr result
    → IsErrAnd result (λ x. x ≡ f) → is_trouble f ≡ true → Notes g old old result command Answers line
notes_unmarked g old result f command Answers line = all_unmarked g old result f command Answers (line ∷ [])

-- a capture that succeeds found a number left
pub has_number_left : (a b : Archive) (body : List ℕ) (day : ℕ) (paths : List (List ℕ)) → 0 < length paths → capture a body day paths ≡ Ok b
    → next_number a ≤ 4294967295
has_number_left a b body day [] some made = absurd (omega (arith, some))
has_number_left a b body day (q ∷ qs) some made = go (cases_Bool (nat_le (next_number a + length (q ∷ qs)) (2 ^ 32)))
  where
    go : IsTrue (nat_le (next_number a + length (q ∷ qs)) (2 ^ 32)) ⊎ (nat_le (next_number a + length (q ∷ qs)) (2 ^ 32) ≡ false)
        → next_number a ≤ 4294967295
    go (inl fits) = grind (arith, nat_tests, fits)
    go (inr full) = absurd (let e = rw full at made in cc)

-- ---- a history that explains the archive

pub told : {S X : Type 0} (g : Ghosts S) (old new : NotedStore S) (result : Result X StoreFault)
    (command : Archive → Result Archive ArchiveRefusal) (Answers : Archive → X → Type 0) (line : List ℕ) (deed : Archive → Deed) (e : Event)
    → line ≡ line_of old.next e → ((a b : Archive) → StandsFor g old.store a → command a ≡ Ok b → e.deed ≡ deed a) → TellsInLines deed command
    → Notes g old new result command Answers line → IsTold g old new result command
told {S} {X} g old new result command Answers line deed e is same tells notes = record {
  does = does result notes.obeys;
  crash = λ (a : Archive) s is_open.
      survives_weaker (state g old.store.conn) (state g new.store.conn) _ _ (λ clean trees it. (
        it.0,
        it.1,
        (s.0 ++ line ∷ [], it.2, one_more a it.0 s.0 s.1 s.2 it.1),
      )) (notes.crash a s.0 s.1 is_open);
}
  where
    one_more : (a b : Archive) (ls : List (List ℕ)) → StandsWith g old a ls → Told a ls → command a ≡ Ok b → Told b (ls ++ line ∷ [])
    one_more a b ls r was made =
        subst (λ l. Told b (ls ++ l ∷ [])) (sym (is ∙ ap (λ n. line_of n e) r.next)) (tells e a b ls was made (same a b r.stands made))

    step : (a : Archive) (ls : List (List ℕ)) → StandsWith g old a ls → Told a ls → (o : Result Archive ArchiveRefusal) → command a ≡ o
        → Becomes g old new o (ls ++ line ∷ []) → Makes (StandsTold g new) o
    step a ls r was (Ok b) made stands = (ls ++ line ∷ [], stands, one_more a b ls r was made)
    step a ls r was (Err f) made none = none

    does : (r : Result X StoreFault) → Obeys g old new r command Answers (line ∷ []) → DoesTold g old new r command
    does (Ok x) obeys = λ clean (a : Archive) s. step a s.0 s.1 s.2 (command a) refl (obeys clean a s.0 s.1).0
    does (Err f) obeys = λ (a : Archive) s. let kept = obeys a s.0 s.1 in ((s.0, kept.0, s.2), kept.1)

-- ---- a history begins

pub if_ok : {T E : Type 0} {P Q : T → Type 0} (r : Result T E) → ((x : T) → P x → Q x) → IfOk r P → IfOk r Q
if_ok (Ok x) f p = f x p
if_ok (Err e) f p = tt
