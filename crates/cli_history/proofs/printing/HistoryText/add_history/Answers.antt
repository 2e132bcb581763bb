use Rattle.std.proofs.Common.{[], ℕ, List}
use Rattle.record_archive.specs.Archive.{Archive}
use Rattle.record_noted.specs.Histories.{rows_of}
use Rattle.cli_history.proofs.PrintingLaws.{history_added, history_met}
use Rattle.cli_history.proofs.printing.HistoryText.add_history.Goals as goal

pub returns-clause-added : goal.returns-clause-added
returns-clause-added g c = λ clean (a : Archive) (ls : List (List ℕ)) stands.
    history_added g.K.Sink.written c.args.volume c.args.asked.now c.in_ok-printing.printing c.print_all.new.self c.args.self.now
    c.begin.new.self c.print_all.new.text (rows_of ls) c.in_ok-begin.ensures c.in_ok-printing.ensures.asked c.in_ok-printing.ensures.volume
    c.in_ok-printing.ensures.there (c.in_ok-print_all.ensures.printed clean a ls stands)

pub returns-clause-judged : goal.returns-clause-judged
returns-clause-judged g c = λ clean (a : Archive) (ls : List (List ℕ)) stands.
    (c.in_ok-print_all.ensures.printed clean a ls stands).watched [] c.in_ok-printing.ensures.judged

pub returns-clause-met : goal.returns-clause-met
returns-clause-met g c = λ clean (a : Archive) (ls : List (List ℕ)) stands.
    history_met g.K.Sink.written c.args.asked.now c.in_ok-printing.printing c.print_all.new.self c.args.self.now c.begin.new.self
    c.print_all.new.text (rows_of ls) c.in_ok-begin.ensures c.in_ok-printing.ensures.asked c.in_ok-printing.ensures.there
    c.in_ok-printing.ensures.typed (c.in_ok-print_all.ensures.printed clean a ls stands)
