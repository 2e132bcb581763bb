use Rattle.std.proofs.Common.{◌+◌, ◌∙◌, drop, sym}
use Rattle.filing_gen.specs.Names.{others_once}
use Rattle.filing_gen.specs.NameCode.{each_flow}
use Rattle.std.proofs.lemmas.Bool.{not-true, not-false}
use Rattle.filing_gen.proofs.EmittedTests.{NameTurn, asked_first, asked_last, name_turn}
use Rattle.filing_gen.proofs.emit_tests.emit_other_names.Goals as goal
use Rattle.filing_gen.proofs.emit_tests.emit_other_names.Goals.{In_ok-is_new}

pub loop-name-init : goal.loop-name-init
loop-name-init c =
    asked_first c.args.code c.args.out.now c.in_ok-asked.asked.lowercase.keys c.args.first.now c.args.others.now
    c.in_ok-asked.ensures

turned : (c : In_ok-is_new)
    → NameTurn c.args.code c.args.out.now c.loop-name.out c.loop-name.asked.lowercase.keys c.insert.new.self.lowercase.keys
    c.as_slice-name.result.now (drop (c.loop-name.name-index + 1) c.args.others.now)
    (each_flow c.args.code (others_once c.args.first.now c.args.others.now))
turned c =
    name_turn c.args.code c.args.out.now c.loop-name.out c.loop-name.asked.lowercase.keys c.insert.new.self.lowercase.keys
    c.args.others.now c.loop-name.name-index c.name-item.result c.loop-name-test.true c.name-item.is
    c.as_slice-name.result.now c.as_slice-name.ensures.value
    (each_flow c.args.code (others_once c.args.first.now c.args.others.now)) c.in_ok-is_new.ensures.names
    c.loop-name.invariant

pub loop-name-preserved-then-not-is_new : goal.loop-name-preserved-then-not-is_new
loop-name-preserved-then-not-is_new c =
    (turned (goal.at.loop-name-preserved-then-not-is_new c).In_ok-is_new).known
    (not-false _ (sym c.in_ok-is_new.ensures.added ∙ c.if-not-is_new.true))

pub emit_other_name-requires-clause-room : goal.emit_other_name-requires-clause-room
emit_other_name-requires-clause-room c =
    (turned (goal.at.emit_other_name-requires-clause-room c).In_ok-is_new).room
    (not-true _ (sym c.in_ok-is_new.ensures.added ∙ c.if-not-is_new.false)) c.requires

pub loop-name-preserved : goal.loop-name-preserved
loop-name-preserved c =
    (turned (goal.at.loop-name-preserved c).In_ok-is_new).written
    (not-true _ (sym c.in_ok-is_new.ensures.added ∙ c.if-not-is_new.false)) c.emit_other_name.new.out
    c.in_ok-emit_other_name.ensures

pub returns : goal.returns
returns c =
    asked_last c.args.code c.args.out.now c.loop-name.out c.loop-name.asked.lowercase.keys c.args.others.now
    c.loop-name.name-index (each_flow c.args.code (others_once c.args.first.now c.args.others.now))
    c.loop-name-test.false c.loop-name.invariant
