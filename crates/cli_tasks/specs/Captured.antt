-- Which messages are captured already in the volumes of an archive.
use Rattle.std.specs.Prelude.{◌≡◌, ℕ, ◌+◌, zero, suc, List, Some}
use Rattle.sqlite.specs.State.{HasCleanDisk}
use Rattle.sqlite.specs.Store.{Ghosts}
use Rattle.sqlite.specs.Held.{Held, state}
use Rattle.record_archive.specs.Archive.{Archive}
use Rattle.record_known.specs.declared.known.Known.{Known}
use Rattle.record_noted.specs.Histories.{rows_of}
use Rattle.record_store.specs.Stores.{StandsFor}
use Rattle.record_store.specs.declared.store.Store.{Store}
use Rattle.cli_history.specs.Captures.{AreCaptured}
use Rattle.cli_history.specs.Walks.{KeepsLinesIn}
use Rattle.cli_changes.specs.ImportRounds.{KnowsAlso}
use Rattle.cli_changes.specs.declared.import_rounds.ImportRounds.{ImportRounds}
use Rattle.cli_tasks.specs.Works.{InVolume}

-- IT IS SEEN WHICH MESSAGES ARE CAPTURED FOR AN OFFICER: those that all events of a store tell, of which this is left
abbrev pub ShowsCaptured : {S : Type 0} → Ghosts S → (officer : List ℕ) → (before : Store S) → (after : Held S) → Known → Type 0
ShowsCaptured g officer before after known = HasCleanDisk (state g after) → (a : Archive) → (ls : List (List ℕ)) → StandsFor g before a
    → KeepsLinesIn g before ls → AreCaptured officer known (rows_of ls)

module _ {S : Type 0} (g : Ghosts S) (IsAt : (path : List ℕ) → Store S → Type 0) (folder officer : List ℕ) where
  -- what a volume has is known too
  abbrev pub KnowsVolume : (volume : ℕ) → (before after : ImportRounds) → Type 0
  KnowsVolume v before after = (known : Known) × InVolume IsAt folder v (λ b a. ShowsCaptured g officer b a known)
      × KnowsAlso (Some v) known before after

  -- THE SAME OF SO MANY VOLUMES from one on, one after another, upwards
  abbrev pub KnowsVolumes : (from count : ℕ) → (before after : ImportRounds) → Type 0
  KnowsVolumes from zero before after = after ≡ before
  KnowsVolumes from (suc n) before after = (mid : ImportRounds) × KnowsVolumes from n before mid × KnowsVolume (from + n) mid after
