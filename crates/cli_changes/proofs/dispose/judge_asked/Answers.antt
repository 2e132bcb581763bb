use Rattle.std.proofs.Common.{◌∙◌, Err, Ok, Result, sym}
use Rattle.std.specs.Prelude.{IfOk, OnOk}
use Rattle.jiff.specs.Words.{epoch_day}
use Rattle.record_archive.specs.Archive.{Archive}
use Rattle.cli_changes.proofs.RunDisposals.{asked_unaltered}
use Rattle.cli_changes.proofs.RunLaws.{none_refused}
use Rattle.cli_changes.proofs.dispose.judge_asked.Goals as goal

goes_on : {X E P Q : Type 0} (r : Result X E) → IfOk r (λ x. P) → (P → Q) → OnOk r Q
goes_on (Ok x) p to = to p
goes_on (Err e) p to = tt

pub returns-in-Refused-clause-may_go : goal.returns-in-Refused-clause-may_go
returns-in-Refused-clause-may_go g c =
    goes_on c.judge_altered.result c.judge_altered.ensures.goes_on (λ goes clean (a : Archive) s. (c.in_ok-altered.ensures.told clean a s).may_go)

pub returns-in-Refused-clause-unaltered : goal.returns-in-Refused-clause-unaltered
returns-in-Refused-clause-unaltered g c =
    goes_on c.judge_altered.result c.judge_altered.ensures.goes_on (λ goes clean (a : Archive) s refused.
    asked_unaltered c.args.seals.now a (epoch_day c.args.day) c.args.numbers.now c.in_ok-altered.field-0
    (sym (c.as_slice.ensures.value ∙ c.in_ok-altered.ensures.altered)
    ∙ none_refused c.as_slice.result.now c.args.damage refused goes) (c.in_ok-altered.ensures.told clean a s))

pub returns-clause-may_go : goal.returns-clause-may_go
returns-clause-may_go g c = λ clean (a : Archive) s. (c.in_ok-altered.ensures.told clean a s).may_go

pub returns-clause-unaltered : goal.returns-clause-unaltered
returns-clause-unaltered g c = λ clean (a : Archive) s refused. absurd cc
