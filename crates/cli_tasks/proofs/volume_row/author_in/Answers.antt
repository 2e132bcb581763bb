use Rattle.std.proofs.Common.{ap, subst, sym}
use Rattle.cli_history.specs.declared.author.Author.{Author}
use Rattle.cli_tasks.specs.Commands.{IsTold}
use Rattle.cli_tasks.proofs.volume_row.author_in.Goals as goal

pub returns-clause-volume : goal.returns-clause-volume
returns-clause-volume c = ap (λ (a : Author). a.volume) c.in_volume.ensures

pub returns-clause-told : goal.returns-clause-told
returns-clause-told c =
    subst (λ (a : Author). IsTold c.args.told.now a) (sym c.in_volume.ensures)
    (record { name = c.in_ok-of.ensures.name; reason = c.in_ok-of.ensures.reason })
