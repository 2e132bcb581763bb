-- The results of a desk's calls, as answers.
use Rattle.std.specs.Prelude.{ℕ, map, if◌then◌else◌, Result, Ok, Err, Vec}
use Rattle.std.specs.declared.alloc.Global.{Global}
use Rattle.record_archive.specs.Lines.{line_view}
use Rattle.record_archive.specs.declared.line.Line as code
use Rattle.sieve_meaning.specs.declared.outcome.Outcome.{Outcome}
use Rattle.desk_commands.specs.Answers.{Answer, done, dry_run, begun, running, ended, captured, listed}
use Rattle.desk_commands.specs.Faults.{refused_by}
use Rattle.desk_commands.specs.declared.fault.DeskFault.{DeskFault}
use Rattle.desk_commands.specs.declared.results.Turn.{Turn}
use Rattle.desk_commands.specs.declared.results.Capture.{Capture}

-- a call without a result answers that it was done
abbrev pub answer_of_done : Result (Unit {0}) DeskFault → Answer
answer_of_done (Ok u) = done
answer_of_done (Err f) = refused_by f

abbrev pub answer_of_outcome : Result Outcome DeskFault → Answer
answer_of_outcome (Ok o) = dry_run o
answer_of_outcome (Err f) = refused_by f

abbrev pub answer_of_ticket : Result (ℕ × ℕ) DeskFault → Answer
answer_of_ticket (Ok t) = begun t.0 t.1
answer_of_ticket (Err f) = refused_by f

abbrev pub answer_of_turn : Result Turn DeskFault → Answer
answer_of_turn (Ok t) = if t.ended then ended t.steps else running t.steps
answer_of_turn (Err f) = refused_by f

abbrev pub answer_of_capture : Result Capture DeskFault → Answer
answer_of_capture (Ok c) = captured c.fault (map line_view c.lines.items)
answer_of_capture (Err f) = refused_by f

abbrev pub answer_of_lines : Result (Vec code.Line Global) DeskFault → Answer
answer_of_lines (Ok lines) = listed (map line_view lines.items)
answer_of_lines (Err f) = refused_by f
