use Rattle.std.proofs.Common.{inl, inr, refl, sym, ◌∙◌}
use Rattle.std.proofs.lemmas.Result.{IfOk-weaker}
use Rattle.cli_changes.proofs.intake.take_timed.Goals as goal

pub returns-then-is_none-clause-taken : goal.returns-then-is_none-clause-taken
returns-then-is_none-clause-taken g c =
    (c.in-Ok.found.0, c.in-Ok.ensures, inl (sym c.is_none.ensures ∙ c.if-is_none.true, refl, refl))

pub returns-clause-taken : goal.returns-clause-taken
returns-clause-taken g c =
    IfOk-weaker c.take_mail.result.1 _ _ (λ r takes. (c.in-Ok.found.0, c.in-Ok.ensures, inr takes)) c.take_mail.ensures.taken
