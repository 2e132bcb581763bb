use Rattle.cli_tasks.proofs.volume_changes.ReleaseListedLedgerWork.perform.Goals as goal

pub returns : goal.returns
returns g c =
    let ended = c.release_listed.ensures in
    record { falls = ended.falls; done = ended.done; failed = ended.failed }
