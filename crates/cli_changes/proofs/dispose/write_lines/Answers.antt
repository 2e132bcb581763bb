use Rattle.std.proofs.Common.{◌≤◌, ◌∙◌, arith, length, subst, take}
use Rattle.std.proofs.lemmas.List.{take_all}
use Rattle.record_choice.specs.Disposals.{is_one_of}
use Rattle.cli_console.specs.Sinks.{Writes, more_written, nothing_written}
use Rattle.cli_changes.proofs.DueListLaws.{due_more}
use Rattle.cli_changes.specs.DueLines.{due_line, due_lines}
use Rattle.cli_changes.proofs.dispose.write_lines.Goals as goal

pub loop-line-init : goal.loop-line-init
loop-line-init g c = nothing_written g.K.Sink.written c.args.sink.now

pub loop-line-preserved : goal.loop-line-preserved
loop-line-preserved g c =
    let written = g.K.Sink.written in
    let volume = c.args.volume in
    let altered = c.args.altered.now in
    let lines = c.args.lines.now in
    let at = c.loop-line.line-index in
    let line = c.line-item.result in
    let wrote = subst (λ b. Writes written c.loop-line.sink c.write_line.new.sink (due_line volume line b))
    (c.contains.ensures ∙ c.in_ok-set.ensures line.number) c.in_ok-write_line.ensures in
    subst (λ t. Writes written c.args.sink.now c.write_line.new.sink t) (due_more volume altered lines at line c.loop-line-test.true c.line-item.is)
    (more_written written c.args.sink.now c.loop-line.sink c.write_line.new.sink (due_lines volume altered (take at lines))
    (due_line volume line (is_one_of altered line.number)) c.loop-line.invariant wrote)

pub returns : goal.returns
returns g c =
    let lines = c.args.lines.now in
    let at = c.loop-line.line-index in
    let all : length lines ≤ at = omega arith in
    subst (λ l. Writes g.K.Sink.written c.args.sink.now c.loop-line.sink (due_lines c.args.volume c.args.altered.now l)) (take_all at lines all)
    c.loop-line.invariant
