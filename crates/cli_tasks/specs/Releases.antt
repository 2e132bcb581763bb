-- The end of a hold on all records of an archive of volumes that have it.
use Rattle.std.specs.Prelude.{◌≡◌, ℕ, Bool, true, List, All, map}
use Rattle.std.specs.List.{list_any}
use Rattle.sqlite.specs.Store.{Ghosts}
use Rattle.command_lines.specs.declared.archives.histories.Attribution.{Attribution}
use Rattle.cli_history.specs.declared.opening.Purpose.TheVariants.{Ending}
use Rattle.record_store.specs.declared.store.Store.{Store}
use Rattle.record_volumes.specs.Rows.{numbers_to}
use Rattle.cli_tasks.specs.Changes.{EndsListed, ListsHeld}
use Rattle.cli_tasks.specs.Commands.{ChangesAsTold, well}
use Rattle.cli_tasks.specs.Endings.{JudgesWhereAny, is_any_in}
use Rattle.cli_tasks.specs.Works.{InVolume}
use Rattle.cli_tasks.specs.declared.volume_changes.Listed.{Listed}

abbrev pub is_any_listed : List Listed → Bool
is_any_listed ls = list_any is_any_in ls

-- the records that have the hold were listed in a volume
abbrev pub ListsIn : {S : Type 0} (g : Ghosts S) (IsAt : (path : List ℕ) → Store S → Type 0) (folder name : List ℕ) → Listed → Type 0
ListsIn g IsAt folder name l = InVolume IsAt folder l.volume (λ before after. ListsHeld g name before after l.numbers.items)

-- they were in each volume, in the order of these
pub record ListsEach {S : Type 0} (g : Ghosts S) (IsAt : (path : List ℕ) → Store S → Type 0) (folder name : List ℕ) (last : ℕ)
    (listed : List Listed) : Type 0 where
  pub are : map (λ (l : Listed). l.volume) listed ≡ numbers_to last
  pub each : All (ListsIn g IsAt folder name) listed

module _ {S : Type 0} (g : Ghosts S) (IsAt : (path : List ℕ) → Store S → Type 0) (folder : List ℕ) (told : Attribution) where
  -- the hold is ended on each record of a volume that has it, which are those of these numbers, by an author whom the command line tells
  abbrev pub EndsIn : (name : List ℕ) → (volume : ℕ) → (numbers : List ℕ) → Type 0
  EndsIn name v ns =
      InVolume IsAt folder v (λ before after. ChangesAsTold g told before after Ending (λ old new seals. EndsListed g old new well name ns))

  -- the same in a volume where records were listed
  abbrev pub EndsWhereAny : (name : List ℕ) → Listed → Type 0
  EndsWhereAny name l = is_any_in l ≡ true → EndsIn name l.volume l.numbers.items

  -- THE HOLD OF A NAME IS ENDED ON EACH RECORD THAT HAS IT, of which there is one at least: those that were listed in each volume, once the
  -- ledgers of these were judged
  pub record ReleasesOver (name : List ℕ) (last : ℕ) : Type 0 where
    pub listed : List Listed
    pub shown : ListsEach g IsAt folder name last listed
    pub some : is_any_listed listed ≡ true
    pub judged : All (JudgesWhereAny g IsAt folder told) listed
    pub ended : All (EndsWhereAny name) listed
