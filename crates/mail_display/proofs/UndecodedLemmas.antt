-- The words of a value, and those of a message's fields, one after the other.
use Rattle.std.proofs.Common.{◌≡◌, ℕ, List, [], ◌∷◌, ◌++◌, Option, Some, None, refl, sym, ap, ◌∙◌, fold, map, flat_map}
use Rattle.std.proofs.lemmas.List.Sums.{fold-append}
use Rattle.mail_display.specs.Undecoded.{or_none, charset_at, charsets_in, words_in, with_word}

-- the words of a value in a field of that name
abbrev pub words_of : List ℕ → List ℕ → List (List ℕ × List ℕ)
words_of field value = map (λ charset. (field, charset)) (charsets_in value)

charsets-cons : (b : ℕ) (bs : List ℕ) → charsets_in (b ∷ bs) ≡ or_none (charset_at (b ∷ bs)) ++ charsets_in bs
unfolding charsets_in
charsets-cons b bs = refl

charsets-nil : charsets_in [] ≡ []
unfolding charsets_in
charsets-nil = refl

-- the words of a text by what stands at its front
words-front : (field rest bs : List ℕ) (b : ℕ) (front : Option (List ℕ)) → rest ≡ b ∷ bs → charset_at rest ≡ front
    → words_of field rest ≡ map (λ charset. (field, charset)) (or_none front ++ charsets_in bs)
words-front field rest bs b front cut at =
    ap (map (λ charset. (field, charset))) (ap charsets_in cut ∙ charsets-cons b bs
    ∙ ap (λ o. or_none o ++ charsets_in bs) (ap charset_at (sym cut) ∙ at))

-- a word stands at the front
pub with-word : (words new all : List (List ℕ × List ℕ)) (field rest bs charset : List ℕ) (b : ℕ) → rest ≡ b ∷ bs
    → charset_at rest ≡ Some charset → new ≡ with_word words (field, charset)
    → fold with_word words (words_of field rest) ≡ all → fold with_word new (words_of field bs) ≡ all
with-word words new all field rest bs charset b cut at put h =
    ap (λ w. fold with_word w (words_of field bs)) put
    ∙ sym (ap (fold with_word words) (words-front field rest bs b (Some charset) cut at)) ∙ h

-- no word stands at the front
pub with-none : (words all : List (List ℕ × List ℕ)) (field rest bs : List ℕ) (b : ℕ) → rest ≡ b ∷ bs
    → charset_at rest ≡ None → fold with_word words (words_of field rest) ≡ all → fold with_word words (words_of field bs) ≡ all
with-none words all field rest bs b cut at h =
    sym (ap (fold with_word words) (words-front field rest bs b None cut at)) ∙ h

pub with-all : (words all : List (List ℕ × List ℕ)) (field rest : List ℕ) → rest ≡ []
    → fold with_word words (words_of field rest) ≡ all → words ≡ all
with-all words all field rest cut h =
    sym (ap (λ r. fold with_word words (words_of field r)) cut
    ∙ ap (λ cs. fold with_word words (map (λ charset. (field, charset)) cs)) charsets-nil) ∙ h

-- the words of one field more
pub with-field : (words new all : List (List ℕ × List ℕ)) (fields rest : List (List ℕ × List ℕ)) (f : List ℕ × List ℕ)
    → fields ≡ f ∷ rest → new ≡ fold with_word words (words_in f) → fold with_word words (flat_map words_in fields) ≡ all
    → fold with_word new (flat_map words_in rest) ≡ all
with-field words new all fields rest f cut put h =
    ap (λ w. fold with_word w (flat_map words_in rest)) put
    ∙ sym (fold-append with_word words (words_in f) (flat_map words_in rest))
    ∙ sym (ap (λ fs. fold with_word words (flat_map words_in fs)) cut) ∙ h
