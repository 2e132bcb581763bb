use Rattle.std.proofs.Common.{List}
use Rattle.mail_import.specs.Imports.{Does}
use Rattle.mail_import.specs.Findings.{Finding}
use Rattle.mail_import.specs.Sources.{Mail}
use Rattle.mail_import.proofs.SourceLaws.{IsFound}
use Rattle.mail_import.proofs.import.take_mbox.Given as goal

abbrev pub invariant-loop-number : goal.invariant-loop-number
invariant-loop-number g l =
    (seen : List Finding)
    × Does g.M.OldMailroom.goes g.M.OldMailroom.has l.terms l.fn.room l.fn.progress seen l.room l.progress
    × ((m : Mail) → g.M.OldMailroom.has l.fn.room m → IsFound g.M.OldMailroom.left l.path l.number seen l.mbox m)
