use Rattle.std.proofs.Common.{subst}
use Rattle.std.proofs.lemmas.Result.{on_ok_weaker}
use Rattle.filing_flow.specs.Structure.{Flow}
use Rattle.filing_gen.specs.Adds.{Emits}
use Rattle.filing_gen.proofs.EmittedTests.{flow-over, flow-under}
use Rattle.filing_gen.proofs.emit_tests.emit_size.Goals as goal

pub returns-then-has_tag : goal.returns-then-has_tag
returns-then-has_tag c =
    record {
      adds = on_ok_weaker c.emit_over.result (λ h ends.
          subst (λ (a : Flow).
          Emits c.args.out.now c.emit_over.new.out a ends) (flow-over c.args.arguments.now c.number-number.result
          c.has_tag.result c.has_tag.ensures c.if-has_tag.true c.number-number.ensures) (h ends)) c.emit_over.ensures;
    }

pub returns : goal.returns
returns c = record {
  adds =
      on_ok_weaker c.emit_under.result (λ h ends.
      subst (λ (a : Flow).
      Emits c.args.out.now c.emit_under.new.out a ends) (flow-under c.args.arguments.now c.number-number.result
      c.has_tag.result c.has_tag.ensures c.if-has_tag.false c.number-number.ensures) (h ends)) c.emit_under.ensures;
}
