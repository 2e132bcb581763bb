-- What is read of a record's message.
use Rattle.std.specs.Prelude.{ℕ, List, Option, None, Result, Ok, Err}
use Rattle.record_archive.specs.declared.fault.ArchiveRefusal.{ArchiveRefusal}

-- the octets, where reading the message is not refused
abbrev pub body_in : Result (Option (List ℕ)) ArchiveRefusal → Option (List ℕ)
body_in (Ok body) = body
body_in (Err refusal) = None
