use Rattle.std.proofs.Common.{drop}
use Rattle.filing_gen.specs.NameCode.{each_flow}
use Rattle.filing_gen.specs.Names.{others_once}
use Rattle.filing_gen.proofs.EmittedTests.{Asked}
use Rattle.filing_gen.proofs.emit_tests.emit_other_names.Given as goal

abbrev pub invariant-loop-name : goal.invariant-loop-name
invariant-loop-name l =
    Asked l.code l.initial.out l.out l.asked.lowercase.keys (drop l.name-index l.others)
    (each_flow l.code (others_once l.first l.others))
