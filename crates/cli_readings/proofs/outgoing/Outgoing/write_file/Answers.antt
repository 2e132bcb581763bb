use Rattle.cli_readings.proofs.outgoing.Outgoing.write_file.Goals as goal

pub returns : goal.returns
returns g c = record { handed = c.in_ok-write_file.ensures; count = c.add_message.ensures }
