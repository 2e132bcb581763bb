-- What is asked of how mail is captured.
use Rattle.std.specs.Prelude.{◌≡◌, ℕ, pos, ◌*ℤ◌, Bool, List, codes, Option, Some, None, map, nat_lt, if◌then◌else◌}
use Rattle.jiff.specs.Types.{Date}
use Rattle.jiff.specs.Words.{epoch_day}
use Rattle.clap.specs.declared.parser.matches.Found.{Found}
use Rattle.session_words.specs.Words.{greatest_number, number_up_to}
use Rattle.command_lines.specs.Asked.{is_given, value_in, values_in}
use Rattle.command_lines.specs.Days.{day_typed, named}
use Rattle.command_lines.specs.declared.archives.Command.{Command}
use Rattle.command_lines.specs.declared.archives.Command.TheVariants as command
use Rattle.command_lines.specs.declared.archives.Filing.{Filing}
use Rattle.command_lines.specs.declared.archives.Moment.{Moment}
use Rattle.command_lines.specs.declared.archives.Moment.TheVariants as moment
use Rattle.command_lines.specs.declared.archives.Telling.{Telling}
use Rattle.command_lines.specs.declared.archives.imports.Dating.{Dating}
use Rattle.command_lines.specs.declared.archives.imports.Dating.TheVariants as dating
use Rattle.command_lines.specs.declared.archives.imports.Import.{Import}

-- the second is the first one of a day, in UTC
abbrev pub IsFirstSecond : Date → ℕ → Type 0
IsFirstSecond day second = pos second ≡ epoch_day day *ℤ pos 86400

-- the second is the first one of the day that a word is
abbrev pub IsSecondOfDay : (word : List ℕ) → ℕ → Type 0
IsSecondOfDay word second = (day : Date) × (day_typed word ≡ Some (named day)) × IsFirstSecond day second

abbrev pub IsSecondBy : (number : Option ℕ) → (word : List ℕ) → ℕ → Type 0
IsSecondBy (Some n) word second = second ≡ n
IsSecondBy None word second = IsSecondOfDay word second

-- THE SECOND THAT A WORD IS, since 1970: a number of seconds, or else a day, of which it is the first one
abbrev pub IsSecond : (word : List ℕ) → ℕ → Type 0
IsSecond word second = IsSecondBy (number_up_to greatest_number word) word second

abbrev pub IsMomentOf : (word : List ℕ) → Moment → Type 0
IsMomentOf word moment.Unnamed = ⊥
IsMomentOf word moment.Now = word ≡ codes "now"
IsMomentOf word (moment.At second) = IsSecond word second

-- THE MOMENT OF A CAPTURE that a word is, if it is given
abbrev pub IsMoment : (word : Option (List ℕ)) → Moment → Type 0
IsMoment None at = at ≡ moment.Unnamed
IsMoment (Some word) at = IsMomentOf word at

abbrev pub positive : Option ℕ → Option ℕ
positive None = None
positive (Some n) = if nat_lt 0 n then Some n else None

-- how long the work on a message may take, in seconds: a minute where nothing is said, and at most a day
abbrev pub limit_typed : (word : Option (List ℕ)) → Option ℕ
limit_typed None = Some 60
limit_typed (Some word) = positive (number_up_to 86400 word)

-- HOW MAIL IS FILED
pub record IsFiling (found : Found) (filing : Filing) : Type 0 where
  pub rules : value_in found (codes "rules") ≡ Some filing.rules.now
  pub officer : value_in found (codes "officer") ≡ Some filing.officer.now
  pub unfiled : filing.unfiled_on_fault ≡ is_given found (codes "unfiled-on-fault")
  pub moment : IsMoment (value_in found (codes "at")) filing.moment
  pub limit : limit_typed (value_in found (codes "limit")) ≡ Some filing.limit

pub record Delivers (found : Found) (filing : Filing) (is_as_is : Bool) : Type 0 where
  pub filed : IsFiling found filing
  pub as_is : is_as_is ≡ is_given found (codes "as-is")

-- A MESSAGE IS CAPTURED from standard input
abbrev pub IsDeliver : Found → Command → Type 0
IsDeliver found (command.Deliver filing is_as_is) = Delivers found filing is_as_is
IsDeliver found other = ⊥

pub record TakesIn (found : Found) (folder : List ℕ) (filing : Filing) (telling : Telling) : Type 0 where
  pub maildir : value_in found (codes "maildir") ≡ Some folder
  pub filed : IsFiling found filing
  pub quiet : telling.is_quiet ≡ is_given found (codes "quiet")
  pub times : telling.has_times ≡ is_given found (codes "times")

-- NEW MESSAGES ARE CAPTURED from a Maildir
abbrev pub IsIntake : Found → Command → Type 0
IsIntake found (command.Intake maildir filing telling) = TakesIn found maildir.now filing telling
IsIntake found other = ⊥

-- what gives the moment of a message's capture
abbrev pub IsDating : (word : List ℕ) → Dating → Type 0
IsDating word dating.Received = word ≡ codes "received"
IsDating word dating.Date = word ≡ codes "date"
IsDating word dating.Now = word ≡ codes "now"
IsDating word (dating.On day) = day_typed word ≡ Some (named day)

-- the same of a word that must be given
abbrev pub IsDated : (word : Option (List ℕ)) → Dating → Type 0
IsDated None given = ⊥
IsDated (Some word) given = IsDating word given

-- WHAT IS IMPORTED
pub record Imports (found : Found) (asked : Import) : Type 0 where
  pub sources : map (λ s. s.now) asked.sources.items ≡ values_in found (codes "sources")
  pub filed : IsFiling found asked.filing
  pub dated : IsDated (value_in found (codes "dated")) asked.dating
  pub quiet : asked.is_quiet ≡ is_given found (codes "quiet")
  pub verbose : asked.is_verbose ≡ is_given found (codes "verbose")
  pub again : asked.is_again ≡ is_given found (codes "again")

-- OLD MAIL IS CAPTURED
abbrev pub IsImport : Found → Command → Type 0
IsImport found (command.Import asked) = Imports found asked
IsImport found other = ⊥
