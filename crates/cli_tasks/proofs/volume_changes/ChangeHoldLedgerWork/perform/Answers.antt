use Rattle.cli_tasks.proofs.volume_changes.ChangeHoldLedgerWork.perform.Goals as goal

pub returns : goal.returns
returns g c =
    let held = c.hold_found.ensures in
    record { falls = held.falls; done = held.done; failed = held.failed }
