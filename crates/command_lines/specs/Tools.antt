-- What the subcommands of `mailfile-tool` ask for.
use Rattle.std.specs.Prelude.{◌≡◌, ℕ, ◌&&◌, ◌==◌, Bool, true, false, pos, int_lt, List, length, map, codes, Option, Some, None, IfSome, option_map, if◌then◌else◌}
use Rattle.jiff.specs.Types.{Date}
use Rattle.clap.specs.Matches.{subcommand_name_of}
use Rattle.clap.specs.Simple.{subcommand_of, subcommand_rows_of}
use Rattle.clap.specs.Walk.{rows_of}
use Rattle.clap.specs.declared.parser.matches.ArgMatches.{ArgMatches}
use Rattle.clap.specs.declared.parser.matches.Found.{Found}
use Rattle.session_words.specs.Words.{number_up_to}
use Rattle.command_lines.specs.Asked.{is_given, text_of, value_in, values_in}
use Rattle.command_lines.specs.Days.{IsDay}
use Rattle.command_lines.specs.ToolTable.{tool_app}
use Rattle.command_lines.specs.declared.tools.Check.{Check}
use Rattle.command_lines.specs.declared.tools.Command.{Command}
use Rattle.command_lines.specs.declared.tools.Command.TheVariants as command
use Rattle.command_lines.specs.declared.tools.Explain.{Explain}
use Rattle.command_lines.specs.declared.tools.Explain.TheVariants as explained
use Rattle.command_lines.specs.declared.tools.Folders.{Folders}
use Rattle.command_lines.specs.declared.tools.Format.{Format}
use Rattle.command_lines.specs.declared.tools.Format.TheVariants as format
use Rattle.command_lines.specs.declared.tools.Place.{Place}
use Rattle.command_lines.specs.declared.tools.Place.TheVariants as place
use Rattle.command_lines.specs.declared.tools.Rules.{Rules}
use Rattle.command_lines.specs.declared.tools.Rules.TheVariants as rules
use Rattle.command_lines.specs.declared.tools.Why.{Why}

-- ---- where scripts are

-- the folders of scripts that can be included, if they are given
pub record AreFolders (found : Found) (folders : Folders) : Type 0 where
  pub personal : text_of folders.personal ≡ value_in found (codes "personal")
  pub global : text_of folders.global ≡ value_in found (codes "global")

-- WHERE SCRIPTS ARE: in the folder of all rules where that is given, and else where their paths say
abbrev pub IsPlace : Found → Place → Type 0
IsPlace found (place.Rules folder) = value_in found (codes "rules") ≡ Some folder.now
IsPlace found (place.Folders folders) = (value_in found (codes "rules") ≡ None) × AreFolders found folders

abbrev pub is_apart : Place → Bool
is_apart (place.Folders folders) = true
is_apart (place.Rules folder) = false

-- ---- the subcommands

-- COMMANDS ARE FRAMED: those of the file that is typed, if one is
abbrev pub IsFrame : Found → Command → Type 0
IsFrame found (command.Frame file) = text_of file ≡ value_in found (codes "file")
IsFrame found other = ⊥

-- WHAT IS EXPLAINED: all numbers rather than one, one rather than replies; a number is one of 0 to 255
abbrev pub IsExplained : Found → Explain → Type 0
IsExplained found explained.Numbers = is_given found (codes "numbers") ≡ true
IsExplained found (explained.Number word number) =
    (is_given found (codes "numbers") ≡ false) × (value_in found (codes "number") ≡ Some word.now)
    × (number ≡ number_up_to 255 word.now)
IsExplained found (explained.Replies script) =
    (is_given found (codes "numbers") ≡ false) × (value_in found (codes "number") ≡ None)
    × (text_of script ≡ value_in found (codes "script"))

abbrev pub IsExplain : Found → Command → Type 0
IsExplain found (command.Explain asked) = IsExplained found asked
IsExplain found other = ⊥

-- WHAT IS JUDGED: the files that are typed, at least one unless there is a folder of all rules
pub record IsChecked (found : Found) (checked : Check) : Type 0 where
  pub files : map (λ s. s.now) checked.files.items ≡ values_in found (codes "files")
  pub plan : text_of checked.plan ≡ value_in found (codes "plan")
  pub place : IsPlace found checked.place
  pub some : (is_apart checked.place && (length checked.files.items == 0)) ≡ false

abbrev pub IsCheck : Found → Command → Type 0
IsCheck found (command.Check checked) = IsChecked found checked
IsCheck found other = ⊥

pub record Compiles (found : Found) (path new : List ℕ) (at : Place) : Type 0 where
  pub script : value_in found (codes "script") ≡ Some path
  pub place : IsPlace found at
  pub image : value_in found (codes "image") ≡ Some new

-- A SCRIPT IS COMPILED to the image that is typed
abbrev pub IsCompile : Found → Command → Type 0
IsCompile found (command.Compile script at image) = Compiles found script.now image.now at
IsCompile found other = ⊥

-- AN IMAGE IS SHOWN
abbrev pub IsDump : Found → Command → Type 0
IsDump found (command.Dump image) = value_in found (codes "image") ≡ Some image.now
IsDump found other = ⊥

-- how it is said: by steps rather than as JSON
abbrev pub format_in : Found → Format
format_in found =
    if is_given found (codes "steps") then format.Steps
    else if is_given found (codes "json") then format.Json
    else format.Lines

-- WHAT FILES A MESSAGE: an image, beside which the message alone is typed, or a script, which is typed before the message
abbrev pub AreRules : Found → (message : List ℕ) → Rules → Type 0
AreRules found message (rules.Image image) =
    (value_in found (codes "image") ≡ Some image.now) × (value_in found (codes "message") ≡ None)
    × (value_in found (codes "script") ≡ Some message)
AreRules found message (rules.Script script at format) =
    (value_in found (codes "image") ≡ None) × (value_in found (codes "message") ≡ Some message)
    × (value_in found (codes "script") ≡ Some script.now) × IsPlace found at × (format ≡ format_in found)

-- the day of a capture, if it is given: of 1970 to 2199
pub record IsCaptureDay (found : Found) (given : Option Date) : Type 0 where
  pub day : IsDay (value_in found (codes "day")) given
  pub last : IfSome given (λ d. int_lt (pos 2199) d.year ≡ false)

pub record IsAsked (found : Found) (why : Why) : Type 0 where
  pub by : AreRules found why.message.now why.by
  pub plan : text_of why.plan ≡ value_in found (codes "plan")
  pub day : IsCaptureDay found why.day

-- IT IS SAID WHY A MESSAGE IS FILED where it is
abbrev pub IsWhy : Found → Command → Type 0
IsWhy found (command.Why why) = IsAsked found why
IsWhy found other = ⊥

pub record Receives (found : Found) (folder : List ℕ) (named : List (List ℕ)) : Type 0 where
  pub rules : value_in found (codes "rules") ≡ Some folder
  pub domains : named ≡ values_in found (codes "domains")

-- RECIPIENTS ARE WRITTEN: those of the folder of all rules, in the domains that are typed
abbrev pub IsRecipients : Found → Command → Type 0
IsRecipients found (command.Recipients folder domains) = Receives found folder.now (map (λ s. s.now) domains.items)
IsRecipients found other = ⊥

-- A COMMAND IS WHAT THE SUBCOMMAND OF A NAME ASKS FOR by the words that were found
pub data IsCommand (name : List ℕ) (found : Found) (c : Command) : Type 0 where
  frame : name ≡ codes "frame" → IsFrame found c → IsCommand name found c
  explain : name ≡ codes "explain" → IsExplain found c → IsCommand name found c
  check : name ≡ codes "check" → IsCheck found c → IsCommand name found c
  compile : name ≡ codes "compile" → IsCompile found c → IsCommand name found c
  dump : name ≡ codes "dump" → IsDump found c → IsCommand name found c
  why : name ≡ codes "why" → IsWhy found c → IsCommand name found c
  recipients : name ≡ codes "recipients" → IsRecipients found c → IsCommand name found c

-- THE COMMAND OF WHAT `clap` FOUND: of the subcommand that it met, with the words that it found there
abbrev pub IsFound : ArgMatches → Command → Type 0
IsFound matches c =
    (name : List ℕ) × (found : Found) × (subcommand_name_of matches ≡ Some name)
    × (option_map (λ p. p.1) (subcommand_rows_of matches) ≡ Some (rows_of found)) × IsCommand name found c

-- THE COMMAND OF WORDS THAT ARE TYPED: what the subcommand asks for that they name, with the words that stand after its name, as the
-- words of `mailfile-tool` have it
abbrev pub IsToolRead : (words : List (List ℕ)) → Command → Type 0
IsToolRead words c =
    (name : List ℕ) × (found : Found) × (subcommand_of tool_app words ≡ Some (name, rows_of found)) × IsCommand name found c
