use Rattle.std.proofs.Common.{◌==◌, ◌∙◌, ap, not}
use Rattle.jiff.specs.Words.{epoch_day}
use Rattle.record_archive.specs.Archive.{Archive}
use Rattle.cli_changes.proofs.MeantLaws.{listed_any}
use Rattle.cli_changes.proofs.dispose.write_asked.Goals as goal

pub returns-clause-any : goal.returns-clause-any
returns-clause-any g c = λ clean (a : Archive) s.
    ap not (c.is_empty.ensures ∙ ap (λ k. k == 0) c.in_ok-asked.asked.lines.ok.0)
    ∙ listed_any a (epoch_day c.args.day) c.args.numbers.now c.in_ok-asked.asked.lines.items (c.in_ok-asked.ensures.told clean a s).lines

pub returns-clause-may_go : goal.returns-clause-may_go
returns-clause-may_go g c = λ clean (a : Archive) s. (c.in_ok-asked.ensures.told clean a s).may_go
