-- What is known of a history once its store is opened for a purpose.
use Rattle.std.specs.Prelude.{◌≡◌, ◌==◌, ◌&&◌, ◌||◌, ℕ, Bool, true, false, List, length, is_some, codes}
use Rattle.sqlite.specs.Store.{Ghosts}
use Rattle.sqlite.specs.State.{HasCleanDisk}
use Rattle.sqlite.specs.Held.{state}
use Rattle.record_tables.specs.Events.{StoresEvents}
use Rattle.record_tables.specs.Tables.{Lacks}
use Rattle.record_archive.specs.Archive.{Archive}
use Rattle.record_history.specs.Events.{Event}
use Rattle.record_store.specs.Stores.{StandsFor}
use Rattle.record_store.specs.declared.store.Store.{Store}
use Rattle.record_noted.specs.Histories.{StandsWith, rows_of}
use Rattle.record_noted.specs.declared.store.NotedStore.{NotedStore}
use Rattle.record_noted.specs.declared.opening.Opened.{Opened}
use Rattle.record_noted.specs.declared.opening.Opened.TheVariants.{Noted, Plain}
use Rattle.cli_history.specs.Findings.{is_open_at, is_unaccepted}
use Rattle.cli_history.specs.Made.{IsMadeBy, IsMadeOf}
use Rattle.cli_history.specs.Reasons.{changes, ends, lacks_reason}
use Rattle.cli_history.specs.Replays.{AreSeals, Replays, Tell, required_after}
use Rattle.cli_history.specs.Walks.{ForArchive, Looks}
use Rattle.cli_history.specs.declared.author.Author.{Author}
use Rattle.cli_history.specs.declared.opening.Purpose.{Purpose}
use Rattle.cli_history.specs.declared.replaying.Replayed.{Replayed}
use Rattle.cli_history.specs.declared.restating.Ready.{Ready}
use Rattle.cli_history.specs.declared.restating.Sight.{Sight}
use Rattle.cli_history.specs.declared.seals.Seals.{Seals}

-- A HISTORY WAS DONE AGAIN FOR A PURPOSE, and the store only looked at: the lines that it had are those that were done again, the
-- archive is what they make, and no reason is lacking
pub record IsSeen {S : Type 0} (g : Ghosts S) (purpose : Purpose) (author : Author) (old new : NotedStore S) (r : Replayed) : Type 0 where
  pub looks : Looks g old new
  pub replays : ForArchive g old new (λ a ls. Replays purpose r ls)
  pub made : ForArchive g old new (λ a ls. IsMadeBy r.judge.archive a)
  pub has_reason : lacks_reason purpose r.requires_reasons author.reason.now ≡ false

-- what is seen of a history before a change: it is known who makes the change; and where no other program has changed the
-- archive, the store was only looked at
pub record IsSight {S : Type 0} (g : Ghosts S) (purpose : Purpose) (author : Author) (old new : NotedStore S) (s : Sight) : Type 0 where
  pub has_name : is_some author.name ≡ true
  pub seen : is_some s.changes ≡ false → IsSeen g purpose author old new s.replayed

-- where all that is there was not restated, the history is as it was seen
pub record StaysReady {S : Type 0} (noted : NotedStore S) (s : Sight) (ready : Ready S) : Type 0 where
  pub unchanged : ready.is_restated ≡ false → is_some s.changes ≡ false
  pub noted_is : ready.is_restated ≡ false → ready.noted ≡ noted
  pub replayed_is : ready.is_restated ≡ false → ready.replayed ≡ s.replayed

-- what can end the keeping of records is refused where all was restated just now, and where something that was found is not
-- accepted
abbrev pub is_refused : Purpose → {S : Type 0} → Ready S → Bool
is_refused purpose ready = ends purpose && (ready.is_restated || is_open_at ready.replayed.findings.stage)

-- A HISTORY IS READY for a change
pub record IsReady {S : Type 0} (g : Ghosts S) (purpose : Purpose) (author : Author) (old : NotedStore S) (ready : Ready S) : Type 0 where
  pub has_name : is_some author.name ≡ true
  pub goes : is_refused purpose ready ≡ false
  pub seen : ready.is_restated ≡ false → IsSeen g purpose author old ready.noted ready.replayed

-- THE HISTORY OF THESE LINES LETS RECORDS END: the store stands for the archive beside them, which is what they make, nothing that
-- they tell was found is unaccepted, no reason is lacking, and the seals are those that they tell
pub record LetsEnd {S : Type 0} (g : Ghosts S) (author : Author) (noted : NotedStore S) (seals : Seals) (a : Archive)
    (ls : List (List ℕ)) : Type 0 where
  pub stands : StandsWith g noted a ls
  pub made : IsMadeOf ls a
  pub events : List Event
  pub tell : Tell ls events
  pub accepted : is_unaccepted events ≡ false
  pub has_reason : (required_after false events && (length author.reason.now == 0)) ≡ false
  pub seals_are : AreSeals seals events

-- what is opened of a store with a history: it is known who changes the archive; and where the purpose can end the keeping of
-- records, the history that the store has lets them end
pub record OpensNoted {S : Type 0} (g : Ghosts S) (purpose : Purpose) (author : Author) (store : Store S) (seals : Seals)
    (noted : NotedStore S) : Type 0 where
  pub has_name : changes purpose ≡ true → is_some author.name ≡ true
  pub lets_end : ends purpose ≡ true → HasCleanDisk (state g noted.store.conn) → (a : Archive) → (ls : List (List ℕ)) → StandsFor g store a →
      StoresEvents (state g store.conn).now (rows_of ls) → LetsEnd g author noted seals a ls

-- WHAT IS OPENED FOR A PURPOSE of a store: the store as it was, where its database has no table of events
abbrev pub OpensFor : {S : Type 0} → Ghosts S → Purpose → Author → Store S → Seals → Opened S → Type 0
OpensFor g purpose author store seals (Noted noted) = OpensNoted g purpose author store seals noted
OpensFor g purpose author store seals (Plain same) = (same ≡ store) × Lacks (state g store.conn).now.schema (codes "event")
