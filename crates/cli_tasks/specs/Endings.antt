-- Ledgers of volumes that are judged before the keeping of records ends in any of them.
use Rattle.std.specs.Prelude.{◌≡◌, ◌==◌, ℕ, Bool, true, not, List, length}
use Rattle.sqlite.specs.Store.{Ghosts}
use Rattle.command_lines.specs.declared.archives.histories.Attribution.{Attribution}
use Rattle.cli_history.specs.declared.opening.Purpose.TheVariants.{Ending}
use Rattle.record_store.specs.declared.store.Store.{Store}
use Rattle.cli_tasks.specs.Commands.{ChangesAsTold}
use Rattle.cli_tasks.specs.Works.{InVolume}
use Rattle.cli_tasks.specs.declared.volume_changes.Listed.{Listed}

-- records of a volume were listed
abbrev pub is_any_in : Listed → Bool
is_any_in l = not (length l.numbers.items == 0)

module _ {S : Type 0} (g : Ghosts S) (IsAt : (path : List ℕ) → Store S → Type 0) (folder : List ℕ) (told : Attribution) where
  -- THE LEDGER OF A VOLUME IS JUDGED: it is opened as where the keeping of records can end, by an author whom the command line tells, and left
  -- as it is
  abbrev pub JudgesEndingIn : (volume : ℕ) → Type 0
  JudgesEndingIn v = InVolume IsAt folder v (λ before after. ChangesAsTold g told before after Ending (λ old new seals. new ≡ old))

  -- the same of a volume in which records were listed
  abbrev pub JudgesWhereAny : Listed → Type 0
  JudgesWhereAny l = is_any_in l ≡ true → JudgesEndingIn l.volume
