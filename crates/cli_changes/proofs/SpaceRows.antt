-- When a volume is full, on worked rows.
use Rattle.std.proofs.Common.{◌≡◌, ℕ, List, [], ◌∷◌, map, true, false, refl}
use Rattle.std.specs.Prelude.{fold}
use Rattle.cli_changes.specs.Spaces.{is_full, no_end, space_as_it_is, space_of, with_message}

-- a volume of 1,000,000 octets may get 48,576 more; none, once it has its size
volumes_are_full : map (λ (messages : List ℕ). is_full (fold (λ s octets. with_message octets s) (space_of 1000000 1048576) messages))
    ([] ∷ (47552 ∷ []) ∷ (47553 ∷ []) ∷ (20000 ∷ 26528 ∷ []) ∷ (20000 ∷ 26529 ∷ []) ∷ [])
    ≡ false ∷ false ∷ true ∷ false ∷ true ∷ []
volumes_are_full = refl

-- so one message is captured wherever the last volume is not over its size, and no other one
whole_volumes_are_full : map (λ (octets : ℕ). is_full (with_message 0 (space_of octets 1048576)))
    (1047551 ∷ 1047552 ∷ 1047553 ∷ 1048576 ∷ 2000000 ∷ []) ≡ false ∷ false ∷ true ∷ true ∷ true ∷ []
whole_volumes_are_full = refl

stores_are_never_full : is_full (with_message 8388608 (with_message 8388608 no_end)) ≡ false
stores_are_never_full = refl

-- a volume as it is gets no message where it is over its size
volumes_are_full_as_they_are : map (λ (octets : ℕ). is_full (space_as_it_is octets 1048576)) (0 ∷ 1048576 ∷ 1048577 ∷ [])
    ≡ false ∷ false ∷ true ∷ []
volumes_are_full_as_they_are = refl
