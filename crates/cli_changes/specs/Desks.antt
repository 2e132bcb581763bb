-- A desk over an archive, with the rules by which mail is filed.
use Rattle.std.specs.Prelude.{◌≡◌, ◌⊎◌, true, Option, Some, None, Result, Ok, Err, is_ok}
use Rattle.cli_console.specs.declared.failure.Failure.{Failure}
use Rattle.cli_console.specs.declared.failure.Failure.TheVariants.{NoMemory}
use Rattle.cli_sources.specs.Setting.{SetsRules, StopsSetting}
use Rattle.cli_sources.specs.declared.fault.RulesFault.{RulesFault}
use Rattle.cli_sources.specs.declared.reading.Rules.{Rules}
use Rattle.desk_commands.specs.Calls.{Calls}
use Rattle.desk_commands.specs.Standing.{opening}
use Rattle.filing_desk.specs.Standing.{StandsFor, desk_keeper}
use Rattle.filing_desk.specs.declared.deliveries.OnFault.{OnFault}
use Rattle.filing_desk.specs.declared.desk.Desk.{Desk}
use Rattle.record_archive.specs.Archive.{Archive}
use Rattle.record_archive.specs.Calls.{Keeper}
use Rattle.cli_changes.specs.Endings.{IsExcused}
use Rattle.cli_changes.specs.declared.rules.FilingRules.{FilingRules}

module _ {A : Type 0} (keeper : Keeper A Archive) where
  -- a desk over what keeps an archive, with no script yet
  pub record IsFresh (store : A) (desk : Desk A) : Type 0 where
    pub over : desk.store ≡ store
    pub opens : (a : Archive) → keeper.stands store a → StandsFor keeper desk (opening a)

  -- THESE RULES ARE SET at a desk by its calls, in order. Where one is refused none is made after it, and that is a failure unless mail may
  -- go to `unfiled` then.
  abbrev pub AreSet : Rules → OnFault → (old new : Desk A) → Result (Unit {0}) Failure → Type 0
  AreSet rules on_fault old new done = (SetsRules (Calls (desk_keeper keeper)) rules old new × (is_ok done ≡ true))
      ⊎ ((fault : RulesFault) × StopsSetting (Calls (desk_keeper keeper)) rules fault old new × IsExcused fault on_fault done)

  -- the same of rules that are at fault: nothing is set
  abbrev pub IsSet : Option Rules → OnFault → (old new : Desk A) → Result (Unit {0}) Failure → Type 0
  IsSet None on_fault old new done = (new ≡ old) × (is_ok done ≡ true)
  IsSet (Some rules) on_fault old new done = AreSet rules on_fault old new done

  -- A DESK OVER AN ARCHIVE, with these rules
  abbrev pub IsDeskOf : FilingRules → (store : A) → Desk A → Type 0
  IsDeskOf filing store desk = (fresh : Desk A) × IsFresh store fresh × IsSet filing.rules filing.on_fault fresh desk (Ok tt)

  -- WHERE THERE IS NONE, the archive is given back as it was, for want of memory, or as the calls left it that set the rules
  abbrev pub IsGivenBack : FilingRules → (store back : A) → Failure → Type 0
  IsGivenBack filing store back failure = ((back ≡ store) × (failure ≡ NoMemory))
      ⊎ ((fresh : Desk A) × (desk : Desk A) × IsFresh store fresh × IsSet filing.rules filing.on_fault fresh desk (Err failure)
      × (back ≡ desk.store))
