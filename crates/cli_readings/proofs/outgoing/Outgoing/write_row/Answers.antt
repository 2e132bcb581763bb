use Rattle.cli_readings.proofs.outgoing.Outgoing.write_row.Goals as goal

pub returns : goal.returns
returns g c = record { handed = c.in_ok-write_row.ensures; count = c.add_record.ensures }
