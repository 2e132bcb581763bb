-- The octets of replies. Each line ends with LF.
use Rattle.std.specs.Prelude.{ℕ, List, [], ◌∷◌, ◌++◌, Bool, true, false, Option, Some, None, codes, decimal, flat_map, map, if◌then◌else◌}
use Rattle.sieve_meaning.specs.declared.outcome.Outcome.{Outcome}
use Rattle.sieve_meaning.specs.declared.run_fault.RunFault.{RunFault}
use Rattle.sieve_meaning.specs.RunFaults.{number_of}
use Rattle.record_archive.specs.Archive.{Line}
use Rattle.record_archive.specs.Lines.{line_view}
use Rattle.record_archive.specs.declared.line.Line as code
use Rattle.desk_commands.specs.Answers.{Answer, done, dry_run, begun, running, ended, captured, listed, refused}
use Rattle.session_protocol.specs.Dates.{due_octets}
use Rattle.session_protocol.specs.declared.reply.Reply.{Reply}
use Rattle.session_protocol.specs.declared.reply.Reply.TheVariants as reply

abbrev pub class_octets : List ℕ → List ℕ
class_octets path = codes "class " ++ path ++ codes "\n"

-- a line for each class, in their order
abbrev pub classes_octets : List (List ℕ) → List ℕ
classes_octets [] = codes "discarded\n"
classes_octets (path ∷ paths) = flat_map class_octets (path ∷ paths)

abbrev pub fault_octets : RunFault → List ℕ
fault_octets fault = codes "fault " ++ decimal (number_of fault) ++ codes "\n"

abbrev pub faults_octets : Option RunFault → List ℕ
faults_octets (Some fault) = fault_octets fault
faults_octets None = []

-- the fault, where there is one, and then the classes
abbrev pub outcome_octets : Outcome → List ℕ
outcome_octets o = faults_octets o.fault ++ classes_octets o.classes

abbrev pub ticket_octets : (ticket budget : ℕ) → List ℕ
ticket_octets ticket budget = codes "ticket " ++ decimal ticket ++ codes " budget " ++ decimal budget ++ codes "\n"

-- the steps of a capture so far, and whether it has come to its end
abbrev pub turn_octets : (ended : Bool) → (steps : ℕ) → List ℕ
turn_octets true steps = codes "ended " ++ decimal steps ++ codes "\n"
turn_octets false steps = codes "running " ++ decimal steps ++ codes "\n"

abbrev pub head_octets : (number : ℕ) → (path : List ℕ) → List ℕ
head_octets number path = codes "record " ++ decimal number ++ codes " class " ++ path ++ codes " due "

-- a record's number, its class and its due date
abbrev pub record_octets : Line → List ℕ
record_octets l = head_octets l.number l.path ++ (due_octets l.due ++ codes "\n")

-- a line for each record, in their order
abbrev pub list_octets : List Line → List ℕ
list_octets lines = flat_map record_octets lines

abbrev pub records_octets : List Line → List ℕ
records_octets [] = codes "discarded\n"
records_octets (line ∷ lines) = list_octets (line ∷ lines)

-- the fault, where there is one, and then the records
abbrev pub capture_octets : (fault : Option RunFault) → List Line → List ℕ
capture_octets fault lines = faults_octets fault ++ records_octets lines

-- the number, and the offset where there is one
abbrev pub refused_octets : ℕ → Option ℕ → List ℕ
refused_octets number None = codes "refused " ++ decimal number ++ codes "\n"
refused_octets number (Some offset) = codes "refused " ++ decimal number ++ codes " at " ++ decimal offset ++ codes "\n"

abbrev pub reply_octets : Answer → List ℕ
reply_octets done = codes "ok\n"
reply_octets (dry_run o) = outcome_octets o
reply_octets (begun ticket budget) = ticket_octets ticket budget
reply_octets (running steps) = turn_octets false steps
reply_octets (ended steps) = turn_octets true steps
reply_octets (captured fault lines) = capture_octets fault lines
reply_octets (listed lines) = list_octets lines ++ codes "ok\n"
reply_octets (refused number offset) = refused_octets number offset

-- the answer that a reply represents
abbrev pub answer_of : Reply → Answer
answer_of reply.Done = done
answer_of (reply.DryRun o) = dry_run o
answer_of (reply.Begun ticket budget) = begun ticket budget
answer_of (reply.Turned t) = if t.ended then ended t.steps else running t.steps
answer_of (reply.Captured c) = captured c.fault (map line_view c.lines.items)
answer_of (reply.Listed lines) = listed (map line_view lines.items)
answer_of (reply.Refused r) = refused r.number r.offset

-- a line as the program has it
abbrev pub line_octets : code.Line → List ℕ
line_octets l = record_octets (line_view l)
