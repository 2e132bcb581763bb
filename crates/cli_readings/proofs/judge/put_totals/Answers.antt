use Rattle.std.proofs.Common.{◌≡◌, ◌∙◌, ◌++◌, ℕ, List, ap}
use Rattle.std.proofs.lemmas.List.{append_assoc}
use Rattle.cli_readings.proofs.judge.put_totals.Goals as goal

-- one line more
one_more : (old lines line now new : List ℕ) → now ≡ old ++ lines → new ≡ now ++ line → new ≡ old ++ (lines ++ line)
one_more old lines line now new is next = next ∙ ap (λ t. t ++ line) is ∙ append_assoc old lines line

pub returns : goal.returns
returns c =
    let two = one_more _ _ _ _ _ c.in_ok-put_count.ensures c.in_ok-put_count-2.ensures in
    let three = one_more _ _ _ _ _ two c.in_ok-put_count-3.ensures in
    let four = one_more _ _ _ _ _ three c.in_ok-put_count-4.ensures in
    let five = one_more _ _ _ _ _ four c.in_ok-put_count-5.ensures in
    one_more _ _ _ _ _ five c.in_ok-put_count-6.ensures
