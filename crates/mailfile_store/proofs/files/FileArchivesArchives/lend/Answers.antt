use Rattle.mailfile_store.proofs.files.FileArchivesArchives.lend.Goals as goal

pub returns-in-Ok : goal.returns-in-Ok
returns-in-Ok g c = record { before = c.in-Ok.archive; after = c.work-conn.result.0; was_there = tt; made = c.work-conn.ensures }
