use Rattle.std.proofs.Common.{ℕ, List, None, subst}
use Rattle.record_archive.specs.Archive.{Archive}
use Rattle.record_noted.specs.Histories.{rows_of}
use Rattle.cli_history.specs.Printed.{LeavesUnmet}
use Rattle.cli_history.proofs.PrintingLaws.{history_written}
use Rattle.cli_history.proofs.printing.history_to.Goals as goal

pub returns-clause-prints : goal.returns-clause-prints
returns-clause-prints g c = λ clean (a : Archive) (ls : List (List ℕ)) stands.
    history_written g.K.Sink.written None c.args.asked.now c.args.sink c.new-text.result c.add_history.new.self c.in_ok-output.output
    (rows_of ls) c.new-text.ensures (c.in_ok-printing.ensures.added clean a ls stands) c.in_ok-output.ensures

pub returns-clause-judged : goal.returns-clause-judged
returns-clause-judged g c = λ clean (a : Archive) (ls : List (List ℕ)) stands. c.in_ok-printing.ensures.judged clean a ls stands

pub returns-clause-met : goal.returns-clause-met
returns-clause-met g c = λ clean (a : Archive) (ls : List (List ℕ)) stands.
    subst (λ j. LeavesUnmet c.args.asked.now j (rows_of ls) c.in_ok-printing.printing.missing.rest.items) c.new-text.ensures.json
    (c.in_ok-printing.ensures.met clean a ls stands)
