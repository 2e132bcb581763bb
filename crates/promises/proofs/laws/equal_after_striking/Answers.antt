use Rattle.promises.proofs.SerialOnce.{equal_sessions}
use Rattle.promises.proofs.laws.equal_after_striking.Goals as goal

pub returns : goal.returns
returns c = λ s t x y same.
    equal_sessions (record {
      one_scan = c.one_scan.ensures;
      no_both = c.one_verdict.ensures.tokens;
      one_fault =
          c.one_verdict.ensures.refusal;
      at_most_one = c.one_tree.ensures;
    }) c.one_spelling.ensures
    c.a_run_ends_once.ensures.outcome s t x.commands y.commands x.answers y.answers x.new y.new same x.run y.run
