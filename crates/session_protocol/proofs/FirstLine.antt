-- The first line of an input, octet by octet.
use Rattle.std.proofs.Common.{◌≡◌, ℕ, zero, suc, ◌+◌, List, [], ◌∷◌, ◌++◌, true, false, length, take, drop, ap, sym, ◌∙◌, arith, append_assoc}
use Rattle.std.specs.Prelude.{◌==◌, ◌&&◌, not, nat_le, nat_lt, if◌then◌else◌}
use Rattle.std.proofs.lemmas.List.{append-nil}
use Rattle.std.proofs.lemmas.Grind.{common_steps}
use Rattle.std.proofs.lemmas.Bool.Decides.{nat_tests}
use Rattle.session_protocol.specs.Lines.{InputLine, Whole, TooLong, line_length, cut_at, line_of}

-- the line that begins with the octets seen and goes on with the input, with room for this number of further octets
abbrev pub line_from : (room : ℕ) (seen input : List ℕ) → InputLine
line_from room seen [] = cut_at seen
line_from zero seen (x ∷ rest) = if x == 10 then Whole seen rest else TooLong rest
line_from (suc room) seen (x ∷ rest) = if x == 10 then Whole seen rest else line_from room (seen ++ x ∷ []) rest

-- the choice that `line_of` makes
abbrev choice : (place size room : ℕ) (whole long cut : InputLine) → InputLine
choice place size room whole long cut = if nat_lt place size && nat_le place room then whole else if nat_lt room size then long else cut

choice_none : (room : ℕ) (whole long cut : InputLine) → choice 0 0 room whole long cut ≡ cut
choice_none room whole long cut = grind (arith, nat_tests)

choice_first : (size room : ℕ) (whole long cut : InputLine) → choice 0 (suc size) room whole long cut ≡ whole
choice_first size room whole long cut = grind (arith, nat_tests)

choice_full : (place size : ℕ) (whole long cut : InputLine) → choice (suc place) (suc size) zero whole long cut ≡ long
choice_full place size whole long cut = grind (arith, nat_tests)

choice_more : (place size room : ℕ) (whole long cut : InputLine) → choice (suc place) (suc size) (suc room) whole long cut
    ≡ choice place size room whole long cut
choice_more place size room whole long cut = grind (arith, nat_tests)

abbrev line_at : (place room : ℕ) (seen input : List ℕ) → InputLine
line_at place room seen input =
    choice place (length input) room (Whole (seen ++ take place input) (drop (place + 1) input))
    (TooLong (drop (room + 1) input)) (cut_at (seen ++ input))

at_first : (room : ℕ) (seen : List ℕ) (x : ℕ) (rest : List ℕ) → line_at 0 room seen (x ∷ rest) ≡ Whole seen rest
at_first room seen x rest = choice_first (length rest) room _ _ _ ∙ ap (λ s. Whole s rest) (append-nil seen)

at_more : (place room : ℕ) (seen : List ℕ) (x : ℕ) (rest : List ℕ)
    → line_at (suc place) (suc room) seen (x ∷ rest) ≡ line_at place room (seen ++ x ∷ []) rest
at_more place room seen x rest =
    let joined : (ys : List ℕ) → seen ++ x ∷ ys ≡ (seen ++ x ∷ []) ++ ys = λ ys. sym (append_assoc seen (x ∷ []) ys) in
    let back : (n : ℕ) → drop (suc n + 1) (x ∷ rest) ≡ drop (n + 1) rest = λ n. grind (arith, common_steps) in
    choice_more place (length rest) room (Whole (seen ++ x ∷ take place rest) (drop (suc place + 1) (x ∷ rest)))
    (TooLong (drop (suc room + 1) (x ∷ rest))) (cut_at (seen ++ x ∷ rest))
    ∙ ap (λ s. choice place (length rest) room (Whole s (drop (suc place + 1) (x ∷ rest)))
    (TooLong (drop (suc room + 1) (x ∷ rest))) (cut_at (seen ++ x ∷ rest))) (joined (take place rest))
    ∙ ap (λ s. choice place (length rest) room (Whole ((seen ++ x ∷ []) ++ take place rest) s)
    (TooLong (drop (suc room + 1) (x ∷ rest))) (cut_at (seen ++ x ∷ rest))) (back place)
    ∙ ap (λ s. choice place (length rest) room (Whole ((seen ++ x ∷ []) ++ take place rest) (drop (place + 1) rest))
    (TooLong s) (cut_at (seen ++ x ∷ rest))) (back room)
    ∙ ap (λ s. choice place (length rest) room (Whole ((seen ++ x ∷ []) ++ take place rest) (drop (place + 1) rest))
    (TooLong (drop (room + 1) rest)) (cut_at s)) (joined rest)

one_more : (n : ℕ) → 1 + n ≡ suc n
one_more n = omega arith

line_at_is : (room : ℕ) (seen input : List ℕ) → line_at (line_length input) room seen input ≡ line_from room seen input
line_at_is room seen [] =
    choice_none room (Whole (seen ++ []) (drop (0 + 1) [])) (TooLong (drop (room + 1) [])) (cut_at (seen ++ []))
    ∙ ap cut_at (append-nil seen)
line_at_is zero seen (x ∷ rest) =
    elim (x == 10) as (λ b. line_at (if not b then 1 + line_length rest else 0) zero seen (x ∷ rest)
    ≡ (if b then Whole seen rest else TooLong rest)) [
      | true ↦ at_first zero seen x rest
      | false ↦ ap (λ n. line_at n zero seen (x ∷ rest)) (one_more (line_length rest))
          ∙ choice_full (line_length rest) (length rest) (Whole (seen
          ++ x ∷ take (line_length rest) rest) (drop (suc (line_length rest) + 1) (x ∷ rest)))
          (TooLong (drop (zero + 1) (x ∷ rest))) (cut_at (seen ++ x ∷ rest))
    ]
line_at_is (suc room) seen (x ∷ rest) =
    elim (x == 10) as (λ b. line_at (if not b then 1 + line_length rest else 0) (suc room) seen (x ∷ rest)
    ≡ (if b then Whole seen rest else line_from room (seen ++ x ∷ []) rest)) [
      | true ↦ at_first (suc room) seen x rest
      | false ↦ ap (λ n. line_at n (suc room) seen (x ∷ rest)) (one_more (line_length rest))
          ∙ at_more (line_length rest) room seen x rest ∙ line_at_is room (seen ++ x ∷ []) rest
    ]

pub line_of_is : (input : List ℕ) → line_of input ≡ line_from 512 [] input
unfolding line_of
line_of_is input = line_at_is 512 [] input
