use Rattle.std.proofs.Common.{subst}
use Rattle.cli_console.specs.Sinks.{Writes}
use Rattle.cli_readings.specs.Lists.{HasText}
use Rattle.cli_readings.proofs.VolumeTwiceLaws.{all_pushed, next_pushed, none_pushed}
use Rattle.cli_readings.proofs.volume_twice.push_rows.Goals as goal

pub loop-row-init : goal.loop-row-init
loop-row-init g c = none_pushed g.K.Sink.written c.args.list.now

pub loop-row-preserved : goal.loop-row-preserved
loop-row-preserved g c =
    let written = g.K.Sink.written in
    next_pushed written c.args.rows.now c.loop-row.row-index c.row-item.result c.args.list.now c.loop-row.list c.push_kept.new.self
    c.loop-row-test.true c.row-item.is c.loop-row.invariant
    (subst (λ t. Writes (HasText written) c.loop-row.list c.push_kept.new.self t) c.as_slice.ensures.value c.in_ok-push_kept.ensures.text)
    c.in_ok-push_kept.ensures.count c.in_ok-push_kept.ensures.listing

pub returns : goal.returns
returns g c =
    all_pushed g.K.Sink.written c.args.rows.now c.loop-row.row-index c.args.list.now c.loop-row.list c.loop-row-test.false c.loop-row.invariant
