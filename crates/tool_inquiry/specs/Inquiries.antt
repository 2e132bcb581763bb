-- What an inquiry is about, and its outcome.
use Rattle.std.specs.Prelude.{◌≡◌, ◌<◌, ℕ, List, [], ◌∷◌, ◌++◌, length, map, Option, Some, None, string_bytes}
use denote.Ref.{Bor}
use Rattle.sha2.specs.Sha256.{sha256}
use Rattle.hex.specs.Hex.{encode_lower}
use Rattle.class_plan.specs.Plans.{is_open_in}
use Rattle.mail_case.specs.Message.{case_of}
use Rattle.sieve_library.specs.Libraries.{library_of, program_in}
use Rattle.sieve_meaning.specs.Case.{Facts}
use Rattle.sieve_meaning.specs.Meaning.{Library}
use Rattle.sieve_meaning.specs.Program.{Commands}
use Rattle.sieve_meaning.specs.TooHeavy as heavy
use Rattle.sieve_meaning.specs.Outcome as meaning
use Rattle.sieve_meaning.specs.declared.outcome.Outcome.{Outcome}
use Rattle.sieve_evaluator.specs.Case.{facts_of}
use Rattle.tool_report.specs.declared.report.Digest.{Digest}
use Rattle.tool_report.specs.declared.report.Report.{Report}
use Rattle.tool_inquiry.specs.Names.{name_of}
use Rattle.tool_inquiry.specs.Files.{script_in}
use Rattle.tool_inquiry.specs.declared.answers.Inquiry.{Inquiry}
use Rattle.tool_inquiry.specs.declared.faults.InquiryFault.{InquiryFault}
use Rattle.tool_inquiry.specs.declared.faults.InquiryFault.TheVariants.{Full, TooLong, NoMemory}
use Rattle.tool_inquiry.specs.declared.scripts.Scripts.{Scripts}
use Rattle.tool_inquiry.specs.declared.scripts.ScriptFile.{ScriptFile}

-- what an include finds
abbrev pub library_in : Scripts → Library
library_in s = library_of s.library

-- the name that the main script is known by
abbrev pub main_name : Scripts → Option (List ℕ)
main_name s = Some (name_of (string_bytes s.main.path))

-- what the main script says
abbrev pub program_of : Scripts → Commands
program_of s = program_in (script_in s.main)

-- the main script is too heavy to be run
abbrev pub IsTooHeavy : Scripts → Type 0
IsTooHeavy s = heavy.IsTooHeavy (library_in s) (main_name s) (program_of s)

-- what a run can learn of the message, by the open classes of the plan
abbrev pub facts_asked : Inquiry → Facts
facts_asked q = case_of q.message.now (is_open_in q.plan.now)

-- what a session captures the message in by these scripts
abbrev pub outcome_asked : Inquiry → Outcome
outcome_asked q = meaning.outcome (facts_asked q) (library_in q.scripts.now) (main_name q.scripts.now) (program_of q.scripts.now)

-- the name of a file and the SHA-256 of its octets in hexadecimal digits
abbrev pub Sum : Type 0
Sum = List ℕ × List ℕ

abbrev pub sum_of : (name octets : List ℕ) → Sum
sum_of name octets = (name, encode_lower (sha256 octets))

abbrev pub script_sum : ScriptFile → Sum
script_sum f = sum_of (string_bytes f.path) f.text.items

-- a plan's, where it has a text
abbrev pub plan_sums : Option (Bor (List ℕ) × Bor (List ℕ)) → List Sum
plan_sums None = []
plan_sums (Some p) = sum_of p.0.now p.1.now ∷ []

-- those of all that a run is about: the main script, the others, the plan, and the message
abbrev pub sums_asked : Inquiry → List Sum
sums_asked q = script_sum q.scripts.now.main ∷ (map script_sum q.scripts.now.others.items
    ++ (plan_sums q.plan_text ++ (sum_of q.message_name.now q.message.now ∷ [])))

abbrev pub sum_in : Digest → Sum
sum_in d = (string_bytes d.path, string_bytes d.sha256)

-- a report has the outcome of an inquiry, and shows what it is about
pub record IsReportOn (q : Inquiry) (r : Report) : Type 0 where
  pub outcome : r.outcome.now ≡ outcome_asked q
  pub case : facts_of r.case.now ≡ facts_asked q
  pub plan : r.plan.now ≡ q.plan.now
  pub message : r.message.now ≡ q.message.now
  pub moment : r.moment ≡ q.moment
  pub sums : map sum_in r.digests.now ≡ sums_asked q

-- the message is longer than a session takes, or there was no memory
abbrev pub IsRefusalOf : (message : List ℕ) → InquiryFault → Type 0
IsRefusalOf message (Full path) = ⊥
IsRefusalOf message TooLong = 8388608 < length message
IsRefusalOf message NoMemory = Unit {0}
