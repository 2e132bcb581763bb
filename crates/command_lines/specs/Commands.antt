-- What the subcommands of `mailfile-store` ask for.
use Rattle.std.specs.Prelude.{◌≡◌, ℕ, List, codes, Some, option_map}
use Rattle.clap.specs.declared.parser.matches.Found.{Found}
use Rattle.command_lines.specs.Asked.{is_given, value_in, values_in}
use Rattle.clap.specs.Matches.{subcommand_name_of}
use Rattle.clap.specs.Simple.{subcommand_of, subcommand_rows_of}
use Rattle.clap.specs.Walk.{rows_of}
use Rattle.clap.specs.declared.parser.matches.ArgMatches.{ArgMatches}
use Rattle.command_lines.specs.Captures.{IsDeliver, IsImport, IsIntake}
use Rattle.command_lines.specs.Changes.{IsDispose, IsHolding, IsRefile, IsRelease}
use Rattle.command_lines.specs.Numbers.{AreTyped}
use Rattle.command_lines.specs.Readings.{IsExport, IsList, IsReport, IsShow, IsWhy}
use Rattle.command_lines.specs.StoreTable.{store_app}
use Rattle.command_lines.specs.Stores.{IsCheck, IsCopy, IsCreate, IsPlan, IsTitles}
use Rattle.command_lines.specs.Tasks.{IsHistory, IsTold}
use Rattle.command_lines.specs.declared.archives.Command.{Command}
use Rattle.command_lines.specs.declared.archives.Command.TheVariants as command
use Rattle.command_lines.specs.declared.archives.CommandLine.{CommandLine}

-- HOLDS ARE LISTED
abbrev pub IsHolds : Found → Command → Type 0
IsHolds found (command.Holds is_json) = is_json ≡ is_given found (codes "json")
IsHolds found other = ⊥

-- CERTIFICATES ARE PRINTED of the numbers that are typed
abbrev pub IsCertificates : Found → Command → Type 0
IsCertificates found (command.Certificates numbers) = AreTyped (values_in found (codes "chosen")) numbers
IsCertificates found other = ⊥

-- A COMMAND IS WHAT THE SUBCOMMAND OF A NAME ASKS FOR by the words that were found
pub data IsCommand (name : List ℕ) (found : Found) (c : Command) : Type 0 where
  create : name ≡ codes "create" → IsCreate found c → IsCommand name found c
  plan : name ≡ codes "plan" → IsPlan found c → IsCommand name found c
  deliver : name ≡ codes "deliver" → IsDeliver found c → IsCommand name found c
  intake : name ≡ codes "intake" → IsIntake found c → IsCommand name found c
  «import» : name ≡ codes "import" → IsImport found c → IsCommand name found c
  list : name ≡ codes "list" → IsList found c → IsCommand name found c
  show : name ≡ codes "show" → IsShow found c → IsCommand name found c
  export : name ≡ codes "export" → IsExport found c → IsCommand name found c
  copy : name ≡ codes "copy" → IsCopy found c → IsCommand name found c
  check : name ≡ codes "check" → IsCheck found c → IsCommand name found c
  why : name ≡ codes "why" → IsWhy found c → IsCommand name found c
  hold : name ≡ codes "hold" → IsHolding found c → IsCommand name found c
  release : name ≡ codes "release" → IsRelease found c → IsCommand name found c
  refile : name ≡ codes "refile" → IsRefile found c → IsCommand name found c
  dispose : name ≡ codes "dispose" → IsDispose found c → IsCommand name found c
  report : name ≡ codes "report" → IsReport found c → IsCommand name found c
  holds : name ≡ codes "holds" → IsHolds found c → IsCommand name found c
  titles : name ≡ codes "titles" → IsTitles found c → IsCommand name found c
  history : name ≡ codes "history" → IsHistory found c → IsCommand name found c
  certificates : name ≡ codes "certificates" → IsCertificates found c → IsCommand name found c

-- A COMMAND LINE: the store, who makes a change, and what the subcommand of a name asks for
pub record IsLine (name : List ℕ) (found : Found) (line : CommandLine) : Type 0 where
  pub store : value_in found (codes "store") ≡ Some line.store.now
  pub told : IsTold found line.attribution
  pub command : IsCommand name found line.command

-- THE COMMAND LINE OF WHAT `clap` FOUND: of the subcommand that it met, with the words that it found there
abbrev pub IsLineOf : ArgMatches → CommandLine → Type 0
IsLineOf matches line =
    (name : List ℕ) × (found : Found) × (subcommand_name_of matches ≡ Some name)
    × (option_map (λ p. p.1) (subcommand_rows_of matches) ≡ Some (rows_of found)) × IsLine name found line

-- WHAT IS READ: the command line of some words that `clap` found
abbrev pub IsRead : CommandLine → Type 0
IsRead line = (matches : ArgMatches) × IsLineOf matches line

-- THE COMMAND LINE OF WORDS THAT ARE TYPED: of the subcommand that they name, with the words that stand after its name, as the words of
-- `mailfile-store` have it
abbrev pub IsReadOf : (words : List (List ℕ)) → CommandLine → Type 0
IsReadOf words line =
    (name : List ℕ) × (found : Found) × (subcommand_of store_app words ≡ Some (name, rows_of found)) × IsLine name found line
