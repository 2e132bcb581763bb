-- The numbers of refusals, and those of the faults of a run.
use Rattle.std.specs.Prelude.{ℕ, Bool, List, [], ◌∷◌, ◌==◌, ◌||◌}
use Rattle.std.specs.List.{list_any}

-- a message that comes in pieces, a script too heavy for an image
abbrev pub size_refusals : List ℕ
size_refusals = 1 ∷ 5 ∷ []

-- the text of a script
abbrev pub text_refusals : List ℕ
text_refusals = 10 ∷ 11 ∷ 12 ∷ 13 ∷ 14 ∷ 15 ∷ 16 ∷ 20 ∷ 21 ∷ []

-- the rules of well made scripts
abbrev pub check_refusals : List ℕ
check_refusals = 30 ∷ 31 ∷ 32 ∷ 33 ∷ 34 ∷ 35 ∷ 36 ∷ 37 ∷ 38 ∷ 39 ∷ 40 ∷ 41 ∷ []

-- plans
abbrev pub plan_refusals : List ℕ
plan_refusals = 50 ∷ 51 ∷ 52 ∷ 53 ∷ 54 ∷ 55 ∷ 56 ∷ 57 ∷ 58 ∷ 59 ∷ []

-- images
abbrev pub image_refusals : List ℕ
image_refusals = 60 ∷ 61 ∷ 62 ∷ 63 ∷ 64 ∷ 65 ∷ 66 ∷ []

-- lines of a session
abbrev pub session_refusals : List ℕ
session_refusals = 70 ∷ 71 ∷ 72 ∷ 73 ∷ []

-- the store
abbrev pub store_refusals : List ℕ
store_refusals = 80 ∷ 81 ∷ 82 ∷ 83 ∷ 84 ∷ 85 ∷ 86 ∷ 87 ∷ 88 ∷ 89 ∷ []

-- the desk, and no memory (99)
abbrev pub desk_refusals : List ℕ
desk_refusals = 90 ∷ 91 ∷ 92 ∷ 93 ∷ 94 ∷ 95 ∷ 96 ∷ 97 ∷ 99 ∷ []

abbrev pub run_faults : List ℕ
run_faults = 1 ∷ 2 ∷ 3 ∷ 4 ∷ 5 ∷ []

abbrev pub is_among : List ℕ → ℕ → Bool
is_among numbers number = list_any (λ n. n == number) numbers

abbrev pub is_refusal : ℕ → Bool
is_refusal n =
    is_among size_refusals n || is_among text_refusals n || is_among check_refusals n || is_among plan_refusals n
    || is_among image_refusals n || is_among session_refusals n || is_among store_refusals n || is_among desk_refusals n
