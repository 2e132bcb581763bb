use Rattle.std.proofs.Common.{ap, option_map, is_some, ◌∙◌, refl}
use Rattle.class_plan.proofs.Found.{found-lookup, found-is}
use Rattle.class_plan.proofs.plans.class_at.Goals as goal

pub returns-clause-open : goal.returns-clause-open
returns-clause-open c =
    ap (option_map (λ c. c.is_open)) (c.copied.ensures ∙ c.get.ensures.value)
    ∙ found-lookup (λ c. c.is_open) (λ r. r.is_open) (λ e. refl) c.args.path.now c.args.classes.now.entries

pub returns-clause-schedule : goal.returns-clause-schedule
returns-clause-schedule c =
    ap (option_map (λ c. c.schedule)) (c.copied.ensures ∙ c.get.ensures.value)
    ∙ found-lookup (λ c. c.schedule) (λ r. r.schedule) (λ e. refl) c.args.path.now c.args.classes.now.entries

pub returns-clause-some : goal.returns-clause-some
returns-clause-some c = ap is_some (c.copied.ensures ∙ c.get.ensures.value) ∙ found-is c.args.path.now c.args.classes.now.entries
