use Rattle.std.proofs.Common.{◌==◌, ◌∙◌, List, ap, length, sym, ℕ}
use Rattle.std.proofs.lemmas.Result.{on_ok_weaker}
use Rattle.cli_tasks.proofs.ReleaseLaws.{none_in}
use Rattle.cli_tasks.proofs.volume_endings.judge_ending_where_any.Goals as goal

pub returns-then-is_empty : goal.returns-then-is_empty
returns-then-is_empty g c = λ some.
    none_in (length c.args.listed.now.numbers.items == 0)
    (ap (λ (ns : List ℕ). length ns == 0) (sym c.as_slice-numbers.ensures.value) ∙ sym c.is_empty.ensures ∙ c.if-is_empty.true) some

pub returns : goal.returns
returns g c = on_ok_weaker c.judge_ending_in.result (λ judged some. judged) c.judge_ending_in.ensures
