-- The paths of classes as a plan answers them.
use Rattle.std.proofs.Common.{◌≡◌, List, [], ◌∷◌, map, refl, ap}
use Rattle.class_plan.specs.Plans.{paths_of}
use Rattle.class_plan.specs.Parts.{ClassAnswer, answer_row}

pub paths_answered : (cs : List ClassAnswer) → map (λ (c : ClassAnswer). c.0.now) cs ≡ paths_of (map answer_row cs)
paths_answered [] = refl
paths_answered (c ∷ cs) = ap (λ ps. c.0.now ∷ ps) (paths_answered cs)
