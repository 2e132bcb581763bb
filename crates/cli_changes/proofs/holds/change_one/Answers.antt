use Rattle.std.proofs.Common.{subst, sym}
use Rattle.record_archive.specs.Calls.{CarriesOut, Quietly}
use Rattle.record_ledger.specs.Ledgers.{keeper_of}
use Rattle.cli_changes.specs.Holdings.{hold_command}
use Rattle.cli_changes.proofs.holds.change_one.Goals as goal

pub returns-in-Place : goal.returns-in-Place
returns-in-Place g c =
    subst (λ change. CarriesOut (keeper_of g.S.Store) c.args.archive.now c.hold.new.self
    (hold_command change c.args.name.now c.args.number) Quietly c.hold.result) (sym c.in-Place.is) c.hold.ensures.carries

pub returns-in-End : goal.returns-in-End
returns-in-End g c =
    subst (λ change. CarriesOut (keeper_of g.S.Store) c.args.archive.now c.release.new.self
    (hold_command change c.args.name.now c.args.number) Quietly c.release.result) (sym c.in-End.is) c.release.ensures.carries
