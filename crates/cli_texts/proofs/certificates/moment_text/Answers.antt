use Rattle.std.proofs.Common.{string_bytes}
use Rattle.std.proofs.lemmas.Result.{IfOk-weaker}
use Rattle.cli_texts.proofs.MomentLemmas.{moment_is}
use Rattle.cli_texts.proofs.certificates.moment_text.Goals as goal

pub returns-in-Some : goal.returns-in-Some
returns-in-Some c =
    IfOk-weaker c.day_and_time.result _ _ (λ t is. moment_is c.args.moment c.in-Some.day (string_bytes t) c.in-Some.ensures.date.0
    c.in-Some.ensures.date.1 is) c.day_and_time.ensures
