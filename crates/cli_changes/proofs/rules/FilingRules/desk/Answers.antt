use Rattle.std.proofs.Common.{refl, inl, inr}
use Rattle.cli_changes.proofs.rules.FilingRules.desk.Goals as goal

pub returns-in-Err-clause-given_back : goal.returns-in-Err-clause-given_back
returns-in-Err-clause-given_back g c = inl (c.in-Err.ensures.handed_back, refl)

pub returns-in-Ok-set-clause-desk : goal.returns-in-Ok-set-clause-desk
returns-in-Ok-set-clause-desk g c =
    (c.in-Ok.desk, record { over = c.in-Ok.ensures.over; opens = c.in-Ok.ensures.opens }, c.in-Ok-set.ensures)

pub returns-in-Err-set-clause-given_back : goal.returns-in-Err-set-clause-given_back
returns-in-Err-set-clause-given_back g c = inr (
  c.in-Ok.desk,
  c.set.new.desk,
  record { over = c.in-Ok.ensures.over; opens = c.in-Ok.ensures.opens },
  c.in-Err-set.ensures,
  c.into_store.ensures.store,
)
