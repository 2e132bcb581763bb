use Rattle.std.proofs.Common.{map, take, string_bytes}
use Rattle.mail_import.specs.Imports.{TakesAll}
use Rattle.mail_import.specs.Findings.{AreOfFiles}
use Rattle.mail_import.proofs.import.take_files.Given as goal

abbrev pub invariant-loop-path : goal.invariant-loop-path
invariant-loop-path g l =
    TakesAll g.M.OldMailroom.goes g.M.OldMailroom.has l.terms (AreOfFiles (map string_bytes (take l.path-index l.paths))) l.fn.room
    l.fn.progress l.room l.progress
