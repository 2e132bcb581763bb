use Rattle.std.proofs.Common.{◌∙◌, map, refl, sym}
use Rattle.std.proofs.lemmas.Result.{on_ok_weaker}
use Rattle.record_tables.specs.Events.{Event as Row}
use Rattle.cli_history.specs.Judgements.{TakesEvent}
use Rattle.cli_history.proofs.JudgementLemmas.{whole_more}
use Rattle.cli_history.proofs.judging.Judgement.judge_row.Goals as goal

pub returns-then-is_sound-clause-judged : goal.returns-then-is_sound-clause-judged
returns-then-is_sound-clause-judged c = λ rows judged.
    let seen = record c.args.self.now { watch = c.look_at.new.self; count = c.saturating_add-self.result } in
    let whole = judged (c.in_ok-is_sound.ensures.stays c.if-is_sound.true) in
    let judges = c.in_ok-is_sound.ensures.judges (map (λ (r : Row). r.line) rows) whole.judged c.if-is_sound.true in
    on_ok_weaker c.take.result (λ (takes : TakesEvent c.args.row.now seen c.take.new.self) sound.
    whole_more c.args.row.now c.args.self.now seen c.take.new.self rows whole refl refl refl takes judges) c.take.ensures

pub returns-then-is_sound-clause-head : goal.returns-then-is_sound-clause-head
returns-then-is_sound-clause-head c =
    let seen = record c.args.self.now { watch = c.look_at.new.self; count = c.saturating_add-self.result } in
    on_ok_weaker c.take.result (λ (takes : TakesEvent c.args.row.now seen c.take.new.self). takes.head) c.take.ensures

pub returns-clause-judged : goal.returns-clause-judged
returns-clause-judged c = λ rows judged sound.
    absurd (let e = sym c.if-is_sound.false ∙ c.in_ok-is_sound.ensures.sound ∙ sound in cc)
