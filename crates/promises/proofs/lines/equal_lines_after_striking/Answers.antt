use Rattle.promises.proofs.CitedLaws.{TextsAreOne}
use Rattle.promises.proofs.KeptLines.{equal_lines, equal_octets}
use Rattle.promises.proofs.lines.equal_lines_after_striking.Goals as goal

pub returns : goal.returns
returns g c =
    let texts : TextsAreOne = record {
      one_scan = c.one_scan.ensures;
      no_both = c.one_verdict.ensures.tokens;
      one_fault = c.one_verdict.ensures.refusal;
      at_most_one = c.one_tree.ensures;
    } in
    let leads = c.sessions_refine_states.ensures.leads in
    let keeper = g.R.Registry.keeper in
    record {
      lines = equal_lines keeper leads texts c.one_spelling.ensures c.a_run_ends_once.ensures.outcome;
      octets = equal_octets keeper leads texts c.one_spelling.ensures c.a_run_ends_once.ensures.outcome;
    }
