-- A command that is judged first and then done.
use Rattle.std.proofs.Common.{◌≡◌, ◌-◌, ℕ, false, true, refl, sym, subst, ◌∙◌, arith, IsTrue, Result, Ok, Err}
use Rattle.std.specs.Result.{IsErr, IsErrAnd}
use Rattle.std.proofs.lemmas.Bool.{false≢true}
use Rattle.sqlite.specs.Store.{Ghosts}
use Rattle.sqlite.specs.Tree.{Trees}
use Rattle.sqlite.specs.Effect.{Database}
use Rattle.sqlite.specs.State.{HasCleanDisk, IsLive, Survives}
use Rattle.sqlite.specs.Held.{Held, state}
use Rattle.sqlite.specs.declared.error.Error.{Error}
use Rattle.sqlite.specs.declared.error.Error.TheVariants.{SqliteFailure}
use Rattle.sqlite.specs.declared.error.ErrorCode.TheVariants.{OutOfMemory}
use Rattle.sqlite.proofs.StateLemmas.{survives_then, survives_weaker}
use Rattle.record_tables.specs.Rows.{Tables}
use Rattle.record_tables.specs.Changes.{Always, Turns, TurnsAlone}
use Rattle.record_tables.specs.Companions.{MakesBoth}
use Rattle.record_tables.specs.Steps.{CommitsNothing, CommitsWhole}
use Rattle.record_tables.proofs.CompanionLemmas.{turns_both}
use Rattle.record_reads.specs.Lookups.{Looks}
use Rattle.record_archive.specs.Archive.{Archive, IsArchive, next_number}
use Rattle.record_adoption.specs.Counts.{count_at}
use Rattle.record_store.specs.Faults.{StoreFault, fault_of}
use Rattle.record_archive.specs.Faults.{WhereRefused, is_trouble}
use Rattle.class_plan.specs.Plans.{Listing}
use Rattle.record_adoption.specs.Keeping.{StoresArchive, live_count, hold_count}
use Rattle.record_store.specs.Stores.{StandsFor, StaysStill, Obeys, Leaves, LeavesAll}
use Rattle.record_store.specs.Companions.{IsReady, KeepsBoth}
use Rattle.record_archive.specs.declared.fault.ArchiveRefusal.{ArchiveRefusal}
use Rattle.record_store.specs.declared.store.Store.{Store}

-- a refusal of `sqlite` comes from the world
pub is_trouble-fault_of : (e : Error) → is_trouble (fault_of e) ≡ true
is_trouble-fault_of (SqliteFailure OutOfMemory) = refl
is_trouble-fault_of e = refl

-- the archive, the database or the memory refuses
pub obeys_refused : {S X : Type 0} (g : Ghosts S) (old new : Store S) (result : Result X StoreFault) (f : StoreFault)
    (command : Archive → Result Archive ArchiveRefusal) (Answers : Archive → X → Type 0)
    → IsErr result → IsErrAnd result (λ x. x ≡ f) → ((a : Archive) → StandsFor g old a → StandsFor g new a
    × WhereRefused (λ r. command a ≡ Err r) f) → Obeys g old new result command Answers
obeys_refused {X = X} g old new (Err e) f command Answers is same h = let P : StoreFault
    → Type 0 = λ x. Obeys {X = X} g old new (Err x) command Answers in subst P (sym same) h
obeys_refused g old new (Ok x) f command Answers is same h = absurd (false≢true is)

-- a disk that is clean after a call was clean before it
pub fell : {S : Type 0} (g : Ghosts S) (old new : Held S) (P : Trees → Type 0) → Survives (state g old) (state g new) P
    → HasCleanDisk (state g new) → HasCleanDisk (state g old)
fell g old new P one clean = omega (arith, one.clean, clean)

-- the same store with a plan that is equal
pub stands_planned : {S : Type 0} (g : Ghosts S) (old : Store S) (p : Listing) (a : Archive) → p ≡ old.plan
    → StandsFor g old a → StandsFor g (record old { plan = p }) a
stands_planned g old p a same s = record {
  idle = s.idle;
  plan = same ∙ s.plan;
  next = s.next;
  held = s.held;
  others =
      s.others;
  archive = s.archive;
  rows = s.rows;
}

-- the command is refused by its judge
pub leaves_refused : {S : Type 0} (g : Ghosts S) (old new : Store S) (command : Archive → Result Archive ArchiveRefusal)
    → LeavesAll g old new → Leaves g old new command
leaves_refused g old new command looked a s is_open =
    survives_weaker (state g old.conn) (state g new.conn) _ _ (λ _ db none. absurd (none is_open)) (looked a s)

-- nothing of it is committed
pub leaves_nothing : {S : Type 0} (g : Ghosts S) (old new : Store S) (command : Archive → Result Archive ArchiveRefusal)
    → CommitsNothing g old.conn new.conn → Leaves g old new command
leaves_nothing g old new command none a s is_open =
    survives_weaker (state g old.conn) (state g new.conn) _ _ (λ _ db no. absurd no) none

-- two looks, the second on a connection that the first left open
pub leaves_on : {S : Type 0} (g : Ghosts S) (old mid new : Store S) → ((a : Archive) → StandsFor g old a → StandsFor g mid a)
    → LeavesAll g old mid → (HasCleanDisk (state g mid.conn) → IsTrue (state g old.conn).is_open
    → IsTrue (state g mid.conn).is_open) → LeavesAll g mid new → LeavesAll g old new
leaves_on g old mid new kept looked opened last a s =
    let two = last a (kept a s) in
    let back : HasCleanDisk (state g new.conn) → HasCleanDisk (state g mid.conn) = λ clean. omega (arith, two.clean, clean) in
    survives_then (state g old.conn) (state g mid.conn) (state g new.conn) _ _ _ (λ _ db none.
    none) (λ clean db none is_open. none (opened (back clean) is_open)) (looked a s) two

pub leaves_then : {S : Type 0} (g : Ghosts S) (old mid new : Store S) → ((a : Archive) → StandsFor g old a → StandsFor g mid a)
    → LeavesAll g old mid → (HasCleanDisk (state g mid.conn) → IsTrue (state g mid.conn).is_open) → LeavesAll g mid new → LeavesAll g old new
leaves_then g old mid new kept looked opened last = leaves_on g old mid new kept looked (λ clean _. opened clean) last

-- the same store after a look at its tables
pub stands_looked : {S : Type 0} (g : Ghosts S) (old new : Store S) (a : Archive) → StandsFor g old a
    → Looks g old.conn new.conn → new.plan ≡ old.plan → new.next ≡ old.next
    → ((n : ℕ) → count_at new.held n ≡ count_at old.held n) → ((m : ℕ) → count_at new.others m ≡ count_at old.others m) → StandsFor g new a
stands_looked g old new a s looks plan next held others = record {
  idle = looks.idle s.idle;
  plan = plan ∙ s.plan;
  next = next ∙ s.next;
  held = λ n. held n ∙ s.held n;
  others = λ m. others m ∙ s.others m;
  archive = s.archive;
  rows = λ clean is_open.
      let it = looks.still s.idle (λ was. (s.rows (looks.falls clean) was).stored.schema) clean is_open in
      subst (λ db. StoresArchive db a) (sym it.1) (s.rows (looks.falls clean) it.0);
}

pub still_looked : {S : Type 0} (g : Ghosts S) (old : Store S) (new : Held S) → Looks g old.conn new → (a : Archive)
    → StandsFor g old a → HasCleanDisk (state g new) → IsTrue (state g new).is_open
    → IsTrue (state g old.conn).is_open × ((state g new).now ≡ (state g old.conn).now)
still_looked g old new looks a s clean is_open =
    looks.still s.idle (λ was. (s.rows (looks.falls clean) was).stored.schema) clean is_open

-- two looks
pub still_then : {S : Type 0} (g : Ghosts S) (old mid new : Store S) → ((a : Archive) → StandsFor g old a → StandsFor g mid a)
    → (HasCleanDisk (state g new.conn) → HasCleanDisk (state g mid.conn)) → StaysStill g old mid → StaysStill g mid new
    → StaysStill g old new
still_then g old mid new stands falls one two = λ (a : Archive) s clean is_open.
    let last = two a (stands a s) clean is_open in
    let first = one a s (falls clean) last.0 in
    (first.0, last.1 ∙ first.1)

pub leaves_looked : {S : Type 0} (g : Ghosts S) (old new : Store S) (a : Archive) → StandsFor g old a → Looks g old.conn new.conn
    → Survives (state g old.conn) (state g new.conn) (λ _. IsTrue (state g old.conn).is_open → ⊥)
leaves_looked g old new a s looks = survives_weaker (state g old.conn) (state g new.conn) _ _ (λ clean db none is_open.
    none (s.rows (looks.falls clean) is_open).stored.schema) looks.survives

-- ---- a transaction of a change and its companion

module _ {S : Type 0} (g : Ghosts S) (old : Store S) (a b : Archive) (Allows : Tables → Type 0) (change : Tables → Tables)
    (Needs : Database → Type 0) (Brings : Database → Database → Type 0) (s : StandsFor g old a) (ready : IsReady g Needs old) where
  abbrev pub Both : Database → Database → Type 0
  Both was db = MakesBoth (λ was db. TurnsAlone was db Allows change) Needs Brings was db

  -- the store after a transaction that succeeded
  pub stands_both : (new : Store S) → IsArchive b
      → new.conn.in_transaction ≡ false → new.plan ≡ b.plan → new.next ≡ next_number b
      → ((n : ℕ) → count_at new.held n ≡ hold_count b n) → ((m : ℕ) → count_at new.others m ≡ live_count b m - 1)
      → (HasCleanDisk (state g new.conn) → HasCleanDisk (state g old.conn))
      → (HasCleanDisk (state g new.conn) → IsTrue (state g new.conn).is_open → IsTrue (state g old.conn).is_open)
      → (HasCleanDisk (state g new.conn) → Both (state g old.conn).now (state g new.conn).now)
      → ((was db : Database) → StoresArchive was a → Turns was db Allows change → StoresArchive db b)
      → StandsFor g new b
  stands_both new archive idle plan next held others falls opened made stores = record {
    idle = idle;
    plan = plan;
    next = next;
    held = held;
    others = others;
    archive = archive;
    rows = λ clean is_open.
        stores (state g old.conn).now (state g new.conn).now (s.rows (falls clean) (opened clean is_open))
        ((turns_both _ _ Allows change Needs Brings (made clean)).turns (ready (falls clean) (opened clean is_open)));
  }

  -- what the companion brings is brought about
  pub brought_both : (new : Held S) → ((was : Database) → (kept : StoresArchive was a) → Allows kept.tables)
      → (HasCleanDisk (state g new) → HasCleanDisk (state g old.conn))
      → (HasCleanDisk (state g new) → IsTrue (state g new).is_open → IsTrue (state g old.conn).is_open)
      → (HasCleanDisk (state g new) → IsTrue (state g new).is_open)
      → (HasCleanDisk (state g new) → Both (state g old.conn).now (state g new).now)
      → HasCleanDisk (state g new) → IsTrue (state g old.conn).is_open × Brings (state g old.conn).now (state g new).now
  brought_both new allows falls opened is_open made clean =
      let was = opened clean (is_open clean) in
      let kept = s.rows (falls clean) was in (
        was,
        (turns_both _ _ Allows change Needs Brings (made clean)).brought (ready (falls clean) was) kept.tables kept.stored kept.keyed
            (allows (state g old.conn).now kept),
      )

  -- what a crash leaves of a transaction
  pub leaves_both : (new : Held S) (Legal : Type 0) → (Legal → IsArchive b)
      → ((was : Database) → (kept : StoresArchive was a) → Legal → Allows kept.tables)
      → ((was db : Database) → StoresArchive was a → Legal → Turns was db Allows change → StoresArchive db b)
      → IsLive (state g old.conn) → CommitsWhole g old.conn new Both
      → Survives (state g old.conn) (state g new)
      (λ (trees : Trees). IsTrue (state g old.conn).is_open → Legal → KeepsBoth Brings (state g old.conn).now trees b)
  leaves_both new Legal archive allows stores live made =
      survives_weaker (state g old.conn) (state g new) _ _
      (λ clean trees left is_open legal.
      let was = (state g old.conn).now in
      let back : HasCleanDisk (state g old.conn) = omega (arith, made.clean, clean) in
      let kept = s.rows back is_open in
      let both = turns_both was left.0 Allows change Needs Brings left.1 in
      let turns = both.turns (ready back is_open) in
      let allowed = allows was kept legal in
      record {
        kept = record {
          db = left.0;
          same = left.2;
          sound = turns.sound (live is_open).0 kept.tables kept.stored kept.keyed allowed;
          stored = stores was left.0 kept legal turns;
          archive = archive legal;
        };
        brought = both.brought (ready back is_open) kept.tables kept.stored kept.keyed allowed;
      })
      made

-- the store after a transaction that was refused
pub stands_refused : {S : Type 0} (g : Ghosts S) (old new : Store S) (a : Archive) → StandsFor g old a
    → new.conn.in_transaction ≡ false → new.plan ≡ old.plan → new.next ≡ old.next
    → ((n : ℕ) → count_at new.held n ≡ count_at old.held n) → ((m : ℕ) → count_at new.others m ≡ count_at old.others m)
    → (HasCleanDisk (state g new.conn) → HasCleanDisk (state g old.conn))
    → (HasCleanDisk (state g new.conn) → IsTrue (state g new.conn).is_open → IsTrue (state g old.conn).is_open)
    → (HasCleanDisk (state g new.conn) → IsTrue (state g new.conn).is_open → (state g new.conn).now ≡ (state g old.conn).now) → StandsFor g new a
stands_refused g old new a s idle plan next held others falls opened same = record {
  idle = idle;
  plan = plan ∙ s.plan;
  next = next ∙ s.next;
  held = λ n. held n ∙ s.held n;
  others = λ m. others m ∙ s.others m;
  archive = s.archive;
  rows = λ clean is_open. subst (λ db. StoresArchive db a) (sym (same clean is_open)) (s.rows (falls clean) (opened clean is_open));
}

-- tables that turn into themselves store what they stored
pub stores_same : (a : Archive) (was db : Database) → StoresArchive was a → Turns was db Always (λ t. t) → StoresArchive db a
stores_same a was db s turns =
    let made = turns.stored s.tables s.stored s.keyed tt in
    record { tables = s.tables; stored = made.0; keyed = made.1; keeps = s.keeps; dues = s.dues }
