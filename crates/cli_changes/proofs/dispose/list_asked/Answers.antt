use Rattle.std.proofs.Common.{◌∙◌, subst}
use Rattle.record_archive.specs.Archive.{Archive}
use Rattle.cli_console.specs.Sinks.{Writes}
use Rattle.cli_changes.specs.DueLines.{due_lines}
use Rattle.cli_changes.specs.Runs.{altered}
use Rattle.cli_changes.proofs.dispose.list_asked.Goals as goal

pub returns-clause-listed : goal.returns-clause-listed
returns-clause-listed g c = λ clean (a : Archive) s.
    let asked = c.in_ok-asked.asked in
    let writes = Writes g.K.Sink.written c.args.sink.now c.write_lines.new.sink in
    record {
      these = asked;
      are = c.in_ok-asked.ensures.told clean a s;
      listed = subst (λ lines. writes (due_lines c.args.volume (altered asked.runs.items) lines)) c.as_slice.ensures.value
          (subst (λ ns. writes (due_lines c.args.volume ns c.as_slice.result.now)) (c.as_slice-2.ensures.value ∙ c.in_ok-asked.ensures.altered)
          c.in_ok-write_lines.ensures);
    }
