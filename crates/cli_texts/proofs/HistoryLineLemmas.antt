-- The words of a line, one after the other.
use Rattle.std.proofs.Common.{◌≡◌, ◌+◌, ◌++◌, ◌∷◌, ◌∙◌, ℕ, List, ap, sym}
use Rattle.std.proofs.lemmas.List.{append_assoc}
use Rattle.cli_texts.specs.HistoryLines.{blank_before, is_number_at, volume_before, words_in}
use Rattle.cli_texts.specs.declared.history_lines.NumberPlaces.{NumberPlaces}

-- one word more, with what stands before it
pub word_added : (volume : List ℕ) (places : NumberPlaces) (at : ℕ) (word : List ℕ) (rest : List (List ℕ)) (a b c d : List ℕ)
    → b ≡ a ++ blank_before at → c ≡ b ++ volume_before volume (is_number_at places at) → d ≡ c ++ word
    → d ++ words_in volume places (at + 1) rest ≡ a ++ words_in volume places at (word ∷ rest)
word_added volume places at word rest a b c d blank number own =
    let blanks = blank_before at in
    let front = volume_before volume (is_number_at places at) in
    let behind = words_in volume places (at + 1) rest in
    ap (λ l. l ++ behind) (own ∙ ap (λ l. l ++ word) (number ∙ ap (λ l. l ++ front) blank))
    ∙ append_assoc ((a ++ blanks) ++ front) word behind ∙ append_assoc (a ++ blanks) front (word ++ behind)
    ∙ append_assoc a blanks (front ++ (word ++ behind))
    ∙ sym (ap (λ l. a ++ l) (append_assoc (blanks ++ front) word behind ∙ append_assoc blanks front (word ++ behind)))
