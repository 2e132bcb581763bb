-- What the words of a command line are read as, one after the other.
use Rattle.std.specs.Prelude.{◌≡◌, ℕ, List, [], ◌∷◌, if◌then◌else◌, Option, Some, None}
use Rattle.session_words.specs.Words.{is_name}

-- the steps that one TURN grants
abbrev pub greatest_count : ℕ
greatest_count = 1000000

abbrev pub name_of : List ℕ → Option (List ℕ)
name_of word = if is_name word then Some word else None

-- what is read of a word, with the words after it
abbrev pub with_rest : {A : Type 0} → Option A → (rest : List (List ℕ)) → Option (A × List (List ℕ))
with_rest (Some value) rest = Some (value, rest)
with_rest None rest = None

-- what the first word is read as, with the words after it; none where it is not of that kind, or there is no word
unfoldable pub next_as : {A : Type 0} → (read : List ℕ → Option A) → List (List ℕ) → Option (A × List (List ℕ))
next_as read [] = None
next_as read (word ∷ words) = with_rest (read word) words

-- What was taken is what the first of the old words is read as, and the new ones are those after it. Where nothing was,
-- the first word is not of that kind, or there is none.
abbrev pub TakesWord : {A : Type 0} → (read : List ℕ → Option A) → Option A → (old new : List (List ℕ)) → Type 0
TakesWord read taken old new = next_as read old ≡ with_rest taken new
