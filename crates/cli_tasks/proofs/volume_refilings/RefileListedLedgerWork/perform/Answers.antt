use Rattle.cli_tasks.proofs.volume_refilings.RefileListedLedgerWork.perform.Goals as goal

pub returns : goal.returns
returns g c =
    let moved = c.refile_listed.ensures in
    record { noted = moved.noted; moved = record { falls = moved.falls; done = moved.done; failed = moved.failed } }
