-- What a session at a desk leads to.
use Rattle.std.proofs.Common.{◌≡◌, ℕ, false, zero, IsTrue, sym, subst, ◌∙◌, arith, List, Result, Ok, Err, inl, inr, refl}
use Rattle.std.specs.Prelude.{OnOk, IsErrOf}
use Rattle.std.proofs.lemmas.Bool.{false≢true}
use Rattle.sqlite.specs.Store.{Ghosts}
use Rattle.sqlite.specs.Tree.{Trees}
use Rattle.sqlite.specs.Held.{Held, state}
use Rattle.sqlite.specs.State.{HasCleanDisk}
use Rattle.sqlite.specs.Recovery.{Image}
use Rattle.sqlite.specs.Files.{HoldsDatabase, file_state, over_files}
use Rattle.sqlite.specs.WalFiles.{outcomes}
use Rattle.sqlite_disk.specs.declared.Disk.{Ghosts as DiskGhosts}
use Rattle.sqlite_store.specs.declared.store.FileStore.{FileStore}
use Rattle.record_store.specs.Stores.{Fate, Left, ShutAfter, FateKeeps, MayMeet, StandsFor, TreesKeep}
use Rattle.record_store.specs.declared.store.Store.{Store}
use Rattle.record_archive.specs.Archive.{Archive}
use Rattle.record_archive.specs.Calls.{Keeper}
use Rattle.desk_commands.specs.Answers.{Answer}
use Rattle.desk_commands.specs.Calls.{Calls, Leads}
use Rattle.desk_commands.specs.Standing.{Standing, Step, opening}
use Rattle.session_protocol.specs.Done.{HasDone}
use Rattle.session_protocol.specs.Crashes.{IsLeftOf, RunsLeave}
use Rattle.session_protocol.specs.Laws.{Refines}
use Rattle.session_protocol.specs.Session.{Item, Session, Run, IsServed, IsAnswered, IsCut, IsCutInAnswer, IsCutInEnding}
use Rattle.session_protocol.specs.declared.session.ServeFault.{ServeFault}
use Rattle.session_protocol.specs.declared.session.ServeFault.TheVariants.{Read, Write}
use Rattle.record_adoption.specs.Keeping.{StoresArchive}
use Rattle.record_files.specs.Closing.{HoldsBy, HoldsNow}
use Rattle.record_files.specs.Files.{KeepsAt}
use Rattle.record_files.proofs.ArchiveLemmas.{holds_alike, keeps_now}
use Rattle.session_files.specs.Sessions.{EndsAt, IsTold, LeadsTo, Represents}
use Rattle.session_files.specs.declared.session.EndedSession.{EndedSession}

module _ {D : Type 0} (keeper : Keeper D Standing) where
  -- what a session at desks has written
  pub DeskTold : Result (Unit {0}) ServeFault → Session → D → (old written : List ℕ) → D → Type 0
  DeskTold (Ok u) session s old written new = IsServed (Calls keeper) session s old written new
  DeskTold (Err Read) session s old written new = IsAnswered (Calls keeper) session s old written new
  DeskTold (Err Write) session s old written new = IsCut (Calls keeper) session s old written new

  -- from the clauses of `serve`
  pub desk_told : (result : Result (Unit {0}) ServeFault) (session : Session) (s : D) (old written : List ℕ) (new : D)
      → OnOk result (IsServed (Calls keeper) session s old written new)
      → (IsErrOf result Read → IsAnswered (Calls keeper) session s old written new)
      → (IsErrOf result Write → IsCut (Calls keeper) session s old written new)
      → DeskTold result session s old written new
  unfolding DeskTold
  desk_told (Ok u) session s old written new ok unheard unsaid = ok
  desk_told (Err Read) session s old written new ok unheard unsaid = unheard refl
  desk_told (Err Write) session s old written new ok unheard unsaid = unsaid refl

  -- by the law of sessions over the states that desks represent
  pub told_refines :
      ((session : Session) (old written : List ℕ) → Refines keeper
      (λ desk. IsServed (Calls keeper) session desk old written) (λ s. IsServed Step session s old written))
      → ((session : Session) (old written : List ℕ) → Refines keeper
      (λ desk. IsAnswered (Calls keeper) session desk old written) (λ s. IsAnswered Step session s old written))
      → ((session : Session) (old written : List ℕ) → Refines keeper
      (λ desk. IsCutInAnswer (Calls keeper) session desk old written) (λ s. IsCutInAnswer Step session s old written))
      → ((session : Session) (old written : List ℕ) → Refines keeper
      (λ desk. IsCutInEnding (Calls keeper) session desk old written) (λ s. IsCutInEnding Step session s old written))
      → (result : Result (Unit {0}) ServeFault) (session : Session) (old written : List ℕ) (desk new : D)
      → DeskTold result session desk old written new → keeper.clean new
      → keeper.clean desk × ((s : Standing) → keeper.stands desk s → Leads keeper new (IsTold result session old written s))
  unfolding DeskTold
  told_refines served answered in_answer in_ending (Ok u) session old written desk new told ok = served session old written desk new told ok
  told_refines served answered in_answer in_ending (Err Read) session old written desk new told ok = answered session old written desk new told ok
  told_refines served answered in_answer in_ending (Err Write) session old written desk new (inl told) ok =
      let led = in_answer session old written desk new told ok in
      (led.0, λ s there. let l = led.1 s there in record { to = l.to; is_one = inl l.is_one; there = l.there })
  told_refines served answered in_answer in_ending (Err Write) session old written desk new (inr told) ok =
      let led = in_ending session old written desk new told ok in
      (led.0, λ s there. let l = led.1 s there in record { to = l.to; is_one = inr l.is_one; there = l.there })

  -- the same for what was done, whatever the streams know
  pub done_refines :
      ((items : List Item) (answers : List Answer) → Refines keeper (λ desk. Run (Calls keeper) desk items answers)
      (λ s. Run Step s items answers))
      → (Heard : List Item → Type 0) (Said : List Answer → Type 0) (desk new : D)
      → HasDone (Calls keeper) Heard Said desk new → keeper.clean new
      → keeper.clean desk × ((s : Standing) → keeper.stands desk s → Leads keeper new (HasDone Step Heard Said s))
  done_refines law Heard Said desk new it ok =
      let led = law it.items it.answers desk new it.run ok in (
        led.0,
        λ s there.
            let l = led.1 s there in
            let reached : HasDone Step Heard Said s l.to = record {
              items = it.items;
              answers = it.answers;
              run = l.is_one;
              few = it.few;
              heard = it.heard;
              said = it.said;
            } in
            record { to = l.to; is_one = reached; there = l.there },
      )

  -- the same with what a crash leaves of it, where each crash before it leaves the archive of the state
  pub leaves_refines :
      ((items : List Item) (answers : List Answer) → Refines keeper (λ desk. Run (Calls keeper) desk items answers)
      (λ s. Run Step s items answers)) → RunsLeave keeper
      → (Heard : List Item → Type 0) (Said : List Answer → Type 0) (desk new : D)
      → HasDone (Calls keeper) Heard Said desk new → keeper.clean new
      → (s : Standing) → keeper.stands desk s
      → ((image : keeper.remains) → keeper.may_leave desk image → keeper.keeps image s.office.archive)
      → (to : Standing) × (reached : HasDone Step Heard Said s to)
      × ((image : keeper.remains) → keeper.may_leave new image → IsLeftOf keeper.keeps image s reached.items reached.answers)
  leaves_refines law crash Heard Said desk new it ok s there start =
      let l = (law it.items it.answers desk new it.run ok).1 s there in
      let reached : HasDone Step Heard Said s l.to = record {
        items = it.items;
        answers = it.answers;
        run = l.is_one;
        few = it.few;
        heard = it.heard;
        said = it.said;
      } in (
        l.to,
        reached,
        λ image may. elim (crash it.items it.answers desk new it.run ok s there image may) [
          | inl before ↦ record {
            count = zero;
            done = s;
            run = refl;
            undone = before.1;
            to = s;
            one_more = inl refl;
            kept = start image before.0;
          }
          | inr left ↦ left
        ],
      )

-- what is left keeps the archive in another way
pub left_in : {I J : Type 0} (keeps : I → Archive → Type 0) (holds : J → Archive → Type 0) (image : I) (other : J)
    → ((a : Archive) → keeps image a → holds other a) → (s : Standing) (items : List Item) (answers : List Answer)
    → IsLeftOf keeps image s items answers → IsLeftOf holds other s items answers
left_in keeps holds image other each s items answers left = record {
  count = left.count;
  done = left.done;
  run = left.run;
  undone = left.undone;
  to = left.to;
  one_more = left.one_more;
  kept = each left.to.office.archive left.kept;
}

-- what may become of an open store whose crash leaves one archive
pub met_first : {S : Type 0} (g : Ghosts S) (store : Store S) (a : Archive) → IsTrue (state g store.conn).is_open
    → ((trees : Trees) → (state g store.conn).may_leave trees → TreesKeep trees a)
    → (fate : Fate) → MayMeet g store fate → FateKeeps fate a
met_first g store a on leaves (Left trees) may = leaves trees may
met_first g store a on leaves (ShutAfter n) may = elim may.1 [
  | inl closed ↦ absurd (false≢true (sym closed ∙ on))
  | inr more ↦ omega (arith, more)
]

-- files that hold trees which keep an archive
pub keeps_left : (image : Image) (trees : Trees) (a : Archive) → HoldsDatabase image trees → TreesKeep trees a → KeepsAt a image
keeps_left image trees a held kept = record {
  db = kept.db;
  sound = kept.sound;
  held = ∣ subst (HoldsDatabase image) kept.same held ∣₁;
  has = (kept.stored, kept.archive);
}

-- what a store represents, its connection does
pub represents : {S : Type 0} (g : Ghosts S) (store : Store S) (conn : Held S) → conn ≡ store.conn → (a : Archive)
    → StandsFor g store a → Represents g conn a
represents {S} g store conn same a stands =
    let Idle : Held S → Type 0 = λ h. h.in_transaction ≡ false in
    let Rows : Held S → Type 0 = λ h. HasCleanDisk (state g h) → IsTrue (state g h).is_open → StoresArchive (state g h).now a in
    record {
      idle = subst Idle (sym same) stands.idle;
      archive = stands.archive;
      rows = subst Rows (sym same) stands.rows;
    }

-- a disk that is clean under a connection is clean under it by another name
pub clean_alike : {S : Type 0} (g : Ghosts S) (conn other : Held S) → conn ≡ other → HasCleanDisk (state g conn)
    → HasCleanDisk (state g other)
clean_alike {S} g conn other same = let Clean : Held S → Type 0 = λ h. HasCleanDisk (state g h) in subst Clean same

-- a session that leads to a desk ends at the connection of its store
pub ends_at : {S D : Type 0} (g : Ghosts S) (keeper : Keeper D Standing) (desk : D) (store : Store S) (conn : Held S)
    → conn ≡ store.conn → ((s : Standing) → keeper.stands desk s → StandsFor g store s.office.archive) → (a : Archive)
    (Reaches : Standing → Standing → Type 0) → Leads keeper desk (Reaches (opening a)) → EndsAt g conn a Reaches
ends_at g keeper desk store conn same of_store a Reaches led = record {
  to = led.to;
  reached = led.is_one;
  stored = represents g store conn same led.to.office.archive (of_store led.to led.there);
}

-- an image that holds the database of a connection keeps the archive that the connection represents
pub keeps_open : {D : Type 0} {g : DiskGhosts D} (conn : Held (FileStore D g)) (a : Archive) → Represents over_files conn a
    → HasCleanDisk (file_state conn) → (image : Image) → HoldsNow (file_state conn) image → KeepsAt a image
keeps_open conn a is = keeps_now conn conn refl a is.archive is.rows

-- a session that ends at a connection leads to its files, however they are closed
pub leads_to : {D : Type 0} (g : DiskGhosts D) (conn : Held (FileStore D g)) (a : Archive) (Reaches : Standing → Standing → Type 0)
    (ended : EndedSession D) → EndsAt over_files conn a Reaches → HasCleanDisk (file_state conn)
    → (conn.in_transaction ≡ false → (image : Image) → outcomes g ended.files.log ended.files.db image
    → HoldsBy ended.closing (HoldsNow (file_state conn)) image) → LeadsTo g ended a Reaches
leads_to g conn a Reaches ended ends clean holds = record {
  to = ends.to;
  reached = ends.reached;
  kept = λ image may. holds_alike ended.closing (HoldsNow (file_state conn)) (KeepsAt ends.to.office.archive)
      (keeps_open conn ends.to.office.archive ends.stored clean) image (holds ends.stored.idle image may);
}
