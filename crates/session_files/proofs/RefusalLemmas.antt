-- Why files that hold an archive were not opened.
use Rattle.std.proofs.Common.{◌≡◌, ◌⊎◌, List, true, false, Option, Some, None, IfSome, refl, sym, ap}
use Rattle.std.proofs.Common.{subst, ◌∙◌, inl, inr, arith}
use Rattle.std.proofs.Math.Logic.{∥∥₁_elim}
use Rattle.sqlite_disk.specs.declared.Files.{Files}
use Rattle.sqlite_disk.specs.declared.calls.Calls as calls
use Rattle.sqlite_disk.specs.declared.start.Start as start
use Rattle.sqlite_disk.specs.declared.modelled.Modelled.{Modelled}
use Rattle.sqlite_disk.specs.Modelled.{start_of}
use Rattle.sqlite_disk.specs.Events.{Event, replay}
use Rattle.sqlite_std_file.specs.File.{IsFresh}
use Rattle.sqlite_std_file.specs.declared.host.Host.{Host}
use Rattle.sqlite.specs.Recovery.{Image}
use Rattle.sqlite.specs.WalFiles.{image_at}
use Rattle.sqlite.specs.Files.{IsCleanLeft, IsNothing, HoldsDatabase, FailsToOpenFiles, LeavesFiles, image_of}
use Rattle.sqlite.specs.Tree.{Trees}
use Rattle.sqlite.specs.declared.error.Error.{Error}
use Rattle.sqlite.specs.declared.file.Leftover.{Leftover}
use Rattle.record_archive.specs.Archive.{Archive}
use Rattle.record_files.specs.Files.{FindsAt, system_file}
use Rattle.session_files.specs.Refusals.{RefusalHasCause, IsRefusedBySystem}
use Rattle.session_files.specs.declared.session.NoSession.TheVariants.{Unopened}

-- the files recover to a database, or none has been made yet
is_wanted : (image : Image) (a : Archive) → FindsAt image a → ¬ (((db : Trees) × HoldsDatabase image db) ⊎ IsNothing image) → ⊥
is_wanted image a (inl held) never = ∥∥₁_elim held.held (λ x y. absurd x) (λ there. never (inl (held.db.trees, there)))
is_wanted image a (inr none) never = never (inr none.0)

module _ {S : Type 0} {g : calls.Ghosts Host} (first : start.Ghosts S) (history : (host : Host) → g.history host ≡ host.log.events) where
  -- a file that was just opened reads as what it held
  seen_first : (f : Modelled Host S g first) (is_log : _) → IsFresh is_log f → (system_file first).seen f ≡ start_of first f
  seen_first f is_log fresh = ap (λ (events : List Event). (replay (start_of first f) events).seen) (history f.calls ∙ fresh.1)

  pub image_first : (files : Files (Modelled Host S g first)) → IsFresh true files.log → IsFresh false files.db
      → image_of (system_file first) files ≡ image_at first
  image_first files log db =
      let logged : (system_file first).seen files.log ≡ first.log = seen_first files.log true log ∙ rw log.0 refl in
      let stored : (system_file first).seen files.db ≡ first.db = seen_first files.db false db ∙ rw db.0 refl in
      λ i. record { log = logged i; db = stored i }

  pub has_cause : (e : Error) (left : Option (Leftover (Modelled Host S g first) (system_file first))) → (left ≡ None → IsRefusedBySystem e)
      → IfSome left (λ left. (files : Files (Modelled Host S g first)) × IsFresh true files.log × IsFresh false files.db
      × (IsCleanLeft left → FailsToOpenFiles files left e × LeavesFiles files left))
      → (a : Archive) → FindsAt (image_at first) a → RefusalHasCause (Unopened e left)
  has_cause e None unopened cause a found = unopened refl
  has_cause e (Some left) unopened cause a found = λ clean.
      let Wanted : Image → Type 0 = λ image. ((db : Trees) × HoldsDatabase image db) ⊎ IsNothing image in
      elim (cause.3 clean).0 [
        | inl memory ↦ inl memory
        | inr other ↦ elim other [
          | inl refused ↦ absurd (is_wanted (image_at first) a found (λ wanted.
              refused.1 (subst Wanted (sym (image_first cause.0 cause.1 cause.2)) wanted)))
          | inr rest ↦ elim rest [ inl fault ↦ inr (inl (omega (arith, fault.1))) | inr full ↦ inr (inr full) ]
        ]
      ]
