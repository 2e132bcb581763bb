use Rattle.mailfile_store.proofs.files.FileArchivesArchives.lend_to_fill.Goals as goal

pub returns-in-Ok : goal.returns-in-Ok
returns-in-Ok g c = record { before = c.in-Ok.archive; after = c.fill-conn.result.0; was_there = tt; made = c.fill-conn.ensures }
