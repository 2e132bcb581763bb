-- Parts of a buffer of octets.
use Rattle.std.proofs.Common.{◌≡◌, ℕ, ◌+◌, ◌-◌, ◌≤◌, List, length, take, drop, arith, ap, sym, ◌∙◌}
use Rattle.std.specs.Prelude.{slice_range}
use Rattle.std.proofs.lemmas.List.{drop-drop, drop-take, length-drop, length-take}

-- how many octets a part of a buffer has
pub part_length : (octets : List ℕ) (start end : ℕ) → start ≤ end → end ≤ length octets → length (slice_range octets start end) ≡ end - start
part_length octets start end below within = omega (arith, length-take (end - start) (drop start octets), length-drop start octets)

-- what is left of a part once octets are taken
pub part_left : (octets : List ℕ) (start end n : ℕ) → n ≤ end - start → slice_range octets (start + n) end ≡ drop n (slice_range octets start end)
part_left octets start end n h =
    let parts : end - start ≡ n + (end - (start + n)) = omega (arith, h) in
    ap (take (end - (start + n))) (sym (drop-drop n start octets))
    ∙ sym (drop-take n (end - (start + n)) (drop start octets))
    ∙ ap (λ k. drop n (take k (drop start octets))) (sym parts)
