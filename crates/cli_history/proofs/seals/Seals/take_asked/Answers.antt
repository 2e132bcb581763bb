use Rattle.std.proofs.Common.{◌≡◌, ◌∙◌, false, rules, sym}
use Rattle.std.proofs.lemmas.Bool.{false≢true}
use Rattle.record_reads.specs.Events.{event_of}
use Rattle.cli_history.proofs.OneSealLemmas.{seal_passed}
use Rattle.cli_history.proofs.seals.Seals.take_asked.Goals as goal

pub returns-then-is_asked-clause-takes : goal.returns-then-is_asked-clause-takes
returns-then-is_asked-clause-takes c = λ only. c.take_row.ensures.takes

pub returns-then-is_asked-clause-seal : goal.returns-then-is_asked-clause-seal
returns-then-is_asked-clause-seal c = λ message enough. c.take_row.ensures.seal message

pub returns-clause-takes : goal.returns-clause-takes
returns-clause-takes c = λ only. absurd (false≢true (sym c.if-is_asked.false ∙ c.is_asked.ensures.all only))

pub returns-clause-seal : goal.returns-clause-seal
returns-clause-seal c = λ message enough.
    seal_passed message (event_of c.args.row.now) c.args.self.now (c.is_asked.ensures.passed message enough c.if-is_asked.false)
