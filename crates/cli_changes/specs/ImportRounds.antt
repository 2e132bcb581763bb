-- The rounds of an import, one for each volume into which it captures.
use Rattle.std.specs.Prelude.{◌≡◌, ℕ, false, Option, None}
use Rattle.record_known.specs.declared.known.Known.{Known}
use Rattle.mail_import.specs.Known.{KnowsNone, Puts}
use Rattle.mail_import.specs.Tallies.{no_messages, one_more}
use Rattle.cli_changes.specs.declared.import_rounds.ImportRounds.{ImportRounds}
use Rattle.cli_changes.specs.declared.import_rounds.Reached.{Reached}

-- at the first message of the first source
abbrev pub at_start : Reached
at_start = record { sources = 0; before = 0; messages = 0 }

-- A SOURCE IS DONE: the messages so far are those of the sources that are done
abbrev pub next_source : Reached → Reached
next_source r = record { sources = one_more r.sources; before = r.messages; messages = r.messages }

-- NO ROUND WAS MADE: nothing is known, counted or said
pub record IsBeginning (rounds : ImportRounds) : Type 0 where
  pub known : KnowsNone rounds.progress.known
  pub tally : rounds.progress.tally ≡ no_messages
  pub has_begun : rounds.has_begun ≡ false
  pub reached : rounds.reached ≡ at_start
  pub files : rounds.files ≡ None
  pub has_spoken : rounds.has_spoken ≡ false

-- WHAT A STORE HAS IS KNOWN TOO, and all else is as it was
pub record KnowsAlso (volume : Option ℕ) (known : Known) (before after : ImportRounds) : Type 0 where
  pub puts : Puts (record { volume = volume; known = known }) before.progress.known after.progress.known
  pub rest : after ≡ record before { progress = record before.progress { known = after.progress.known } }
