use Rattle.std.proofs.Common.{◌≡◌, ◌<◌, length, refl, arith}
use Rattle.tool_report.proofs.NodeLemmas.{end_set}
use Rattle.tool_report.proofs.nodes.end.Goals as goal

pub returns-then-number-count : goal.returns-then-number-count
returns-then-number-count c = λ before inside part n is at.
    let within : c.args.number < length c.args.nodes.now.items = omega (arith, c.if-number-count.true, c.len-count.ensures) in
    let long : c.len-count.result ≡ length c.args.nodes.now.items = omega (arith, c.len-count.ensures) in
    end_set c.args.nodes.now.items c.args.number c.index.result.now (record {
      thing = c.index.result.now.thing;
      end =
          c.len-count.result;
    }) before inside part n within c.index.ensures refl long is at
