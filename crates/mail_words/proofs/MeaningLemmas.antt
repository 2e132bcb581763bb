-- The computed meaning of a word is what the word means.
use Rattle.std.proofs.Common.{◌≡◌, ℕ, zero, suc, ◌+◌, ◌*◌, ◌<◌, ◌≤◌, Bool, true, false, cond, eqb, List, [], ◌∷◌, refl, sym, ap, ◌∙◌, subst, arith}
use Rattle.std.proofs.Common.{inl, inr, Option, Some, None, ◌↔◌, eqb-true, ne_eqb, leb-true}
use Rattle.std.proofs.lemmas.Bool.{cases_Bool, and_parts, eqb-false, true≢false}
use Rattle.std.specs.Prelude.{option_map, option_and_then, nat_le, not, ◌==◌}
use Rattle.std.specs.List.{list_all}
use Rattle.base64.specs.GeneralPurpose.{IsBytes}
use Rattle.mail_words.specs.declared.quoted.Place.TheVariants.{Plain, Digit}
use Rattle.mail_words.specs.Words.{Word, IsWord, is_visible, is_text_octet, is_encoding}
use Rattle.mail_words.specs.Charsets.{charset_named, text_in}
use Rattle.mail_words.specs.Decoding.{hex_value, q_octets, octets_of, text_of}
use Rattle.mail_words.specs.Meaning.{QText, q_end, q_itself, q_space, q_escape, IsEncoding, Means, IsGood, MeaningLaw}
use Rattle.mail_words.proofs.EncodedLemmas.{b_law}

some_map : {A B : Type 0} (f : A → B) (o : Option A) (y : B) → option_map f o ≡ Some y → (x : A) × (o ≡ Some x) × (f x ≡ y)
some_map f None y e = absurd cc
some_map f (Some x) y e = (x, refl, cc)

some_then : {A B : Type 0} (f : A → Option B) (o : Option A) (y : B) → option_and_then f o ≡ Some y → (x : A) × (o ≡ Some x) × (f x ≡ Some y)
some_then f None y e = absurd cc
some_then f (Some x) y e = (x, refl, e)

-- Q text, read from the front

itself_or_space : (b : ℕ) (text octets : List ℕ) (t : Bool) → eqb b 95 ≡ t → eqb b 61 ≡ false → QText text octets
    → QText (b ∷ text) (cond t 32 b ∷ octets)
itself_or_space b text octets true space differs h = let P : ℕ → Type 0 = λ x. QText (x ∷ text) (32 ∷ octets) in
    subst P (sym (eqb-true b 95 space)) (q_space text octets h)
itself_or_space b text octets false space differs h = q_itself b text octets (eqb-false b 61 differs) (eqb-false b 95 space) h

plain_is : (b : ℕ) (text octets : List ℕ) → eqb b 61 ≡ false → q_octets Plain (b ∷ text) ≡ Some octets
    → ((more : List ℕ) → q_octets Plain text ≡ Some more → QText text more) → QText (b ∷ text) octets
unfolding q_octets
plain_is b text octets differs e rest =
    let found = some_map (λ more. cond (eqb b 95) 32 b ∷ more) (q_octets Plain text) octets (rw differs at e) in
    let P : List ℕ → Type 0 = λ o. QText (b ∷ text) o in
    subst P found.2 (itself_or_space b text found.0 (eqb b 95) refl differs (rest found.0 found.1))

moved : (b : ℕ) (text octets more : List ℕ) → eqb b 61 ≡ true → more ≡ octets → QText (61 ∷ text) more → QText (b ∷ text) octets
moved b text octets more same e h =
    let P : List ℕ → Type 0 = λ o. QText (61 ∷ text) o in
    let Q : ℕ → Type 0 = λ x. QText (x ∷ text) octets in
    subst Q (sym (eqb-true b 61 same)) (subst P e h)

escape_is : (b first second : ℕ) (text octets : List ℕ) → eqb b 61 ≡ true
    → q_octets Plain (b ∷ first ∷ second ∷ text) ≡ Some octets
    → ((more : List ℕ) → q_octets Plain text ≡ Some more → QText text more) → QText (b ∷ first ∷ second ∷ text) octets
unfolding q_octets
escape_is b first second text octets same e rest =
    let high = some_then (λ high. q_octets (Digit high) (second ∷ text)) (hex_value first) octets (rw same at e) in
    let low = some_then (λ low. option_map (λ more. (high.0 * 16 + low) ∷ more) (q_octets Plain text)) (hex_value second) octets high.2 in
    let more = some_map (λ more. (high.0 * 16 + low.0) ∷ more) (q_octets Plain text) octets low.2 in
    moved b (first ∷ second ∷ text) octets ((high.0 * 16 + low.0)
    ∷ more.0) same more.2 (q_escape first second high.0 low.0 text more.0 high.1 low.1 (rest more.0 more.1))

no_digits : (b : ℕ) (octets : List ℕ) → eqb b 61 ≡ true → q_octets Plain (b ∷ []) ≡ Some octets → ⊥
unfolding q_octets
no_digits b octets same e = let none : None ≡ Some octets = rw same at e in absurd cc

one_digit : (b first : ℕ) (octets : List ℕ) → eqb b 61 ≡ true → q_octets Plain (b ∷ first ∷ []) ≡ Some octets → ⊥
unfolding q_octets
one_digit b first octets same e =
    let high = some_then (λ high. q_octets (Digit high) []) (hex_value first) octets (rw same at e) in
    let none : None ≡ Some octets = high.2 in
    absurd cc

empty_is : (octets : List ℕ) → q_octets Plain [] ≡ Some octets → QText [] octets
unfolding q_octets
empty_is octets e = let none : [] ≡ octets = cc in let P : List ℕ → Type 0 = λ o. QText [] o in subst P none q_end

q_from : (text octets : List ℕ) → q_octets Plain text ≡ Some octets → QText text octets
q_from [] octets e = empty_is octets e
q_from (b ∷ []) octets e = elim (cases_Bool (eqb b 61)) [
  | inl same ↦ absurd (no_digits b octets same e)
  | inr differs ↦ plain_is b [] octets differs e (λ more k. q_from [] more k)
]
q_from (b ∷ first ∷ []) octets e = elim (cases_Bool (eqb b 61)) [
  | inl same ↦ absurd (one_digit b first octets same e)
  | inr differs ↦ plain_is b (first ∷ []) octets differs e (λ more k. q_from (first ∷ []) more k)
]
q_from (b ∷ first ∷ second ∷ text) octets e = elim (cases_Bool (eqb b 61)) [
  | inl same ↦ escape_is b first second text octets same e (λ more k. q_from text more k)
  | inr differs ↦ plain_is b (first ∷ second ∷ text) octets differs e (λ more k. q_from (first ∷ second ∷ text) more k)
]

q_to : {text octets : List ℕ} → QText text octets → q_octets Plain text ≡ Some octets
unfolding q_octets
q_to q_end = refl
q_to (q_itself b text octets escape space h) = rw (ne_eqb b 61 escape, ne_eqb b 95 space, q_to h) refl
q_to (q_space text octets h) = rw (q_to h) refl
q_to (q_escape first second high low text octets eh el h) = rw (eh, el, q_to h) refl

-- B or Q text, by the letter

visible_is_small : (b : ℕ) → is_text_octet b ≡ true → b < 256
visible_is_small b h =
    let visible = and_parts (is_visible b) (not (b == 63)) h in
    let high = and_parts (nat_le 33 b) (nat_le b 126) visible.0 in
    let top : b ≤ 126 = leb-true b 126 high.1 in
    omega arith

text_is_bytes : (text : List ℕ) → list_all is_text_octet text ≡ true → IsBytes text
text_is_bytes [] h i = omega arith
text_is_bytes (b ∷ text) h zero = visible_is_small b (and_parts (is_text_octet b) (list_all is_text_octet text) h).0
text_is_bytes (b ∷ text) h (suc i) = text_is_bytes text (and_parts (is_text_octet b) (list_all is_text_octet text) h).1 i

by_letter : (P : ℕ → Type 0) → P 66 → P 98 → P 81 → P 113 → (letter : ℕ) → is_encoding letter ≡ true → P letter
by_letter P upper_b lower_b upper_q lower_q letter h = elim (cases_Bool (eqb 66 letter)) [
  | inl a ↦ subst P (eqb-true 66 letter a) upper_b
  | inr not_a ↦ elim (cases_Bool (eqb 98 letter)) [
    | inl b ↦ subst P (eqb-true 98 letter b) lower_b
    | inr not_b ↦ elim (cases_Bool (eqb 81 letter)) [
      | inl c ↦ subst P (eqb-true 81 letter c) upper_q
      | inr not_c ↦ elim (cases_Bool (eqb 113 letter)) [
        | inl d ↦ subst P (eqb-true 113 letter d) lower_q
        | inr not_d ↦ absurd (true≢false (sym h ∙ rw (not_a, not_b, not_c, not_d) refl))
      ]
    ]
  ]
]

abbrev LetterLaw : List ℕ → List ℕ → ℕ → Type 0
LetterLaw text octets letter = (octets_of (record { charset = []; encoding = letter; text = text }) ≡ Some octets) ↔ IsEncoding letter text octets

letter_law : (text octets : List ℕ) (letter : ℕ) → is_encoding letter ≡ true → IsBytes text → LetterLaw text octets letter
letter_law text octets letter h bytes =
    let b = b_law text octets bytes in
    by_letter (LetterLaw text octets)
    (λ e. inl (refl, b.0 e), λ e. elim e [ inl f ↦ b.1 f.1 | inr f ↦ absurd (true≢false (sym f.0)) ])
    (λ e. inl (refl, b.0 e), λ e. elim e [ inl f ↦ b.1 f.1 | inr f ↦ absurd (true≢false (sym f.0)) ])
    (λ e. inr (refl, q_from text octets e), λ e. elim e [ inl f ↦ absurd (true≢false (sym f.0)) | inr f ↦ q_to f.1 ])
    (λ e. inr (refl, q_from text octets e), λ e. elim e [ inl f ↦ absurd (true≢false (sym f.0)) | inr f ↦ q_to f.1 ])
    letter h

octets_law : (w : Word) (octets : List ℕ) → IsWord w → (octets_of w ≡ Some octets) ↔ IsEncoding w.encoding w.text octets
octets_law w octets h = letter_law w.text octets w.encoding h.encoding (text_is_bytes w.text h.text)

-- a word

pub means_from : (w : Word) (text : List ℕ) → IsWord w → text_of w ≡ Some text → Means w text
unfolding text_of
means_from w text h e =
    let charset = some_then (λ charset. option_and_then (text_in charset) (octets_of w)) (charset_named w.charset) text e in
    let octets = some_then (text_in charset.0) (octets_of w) text charset.2 in
    record { charset = charset.0; octets = octets.0; named = charset.1; encoded = (octets_law w octets.0 h).0 octets.1; read = octets.2 }

pub means_to : (w : Word) (text : List ℕ) → IsWord w → Means w text → text_of w ≡ Some text
unfolding text_of
means_to w text h m =
    let octets : octets_of w ≡ Some m.octets = (octets_law w m.octets h).1 m.encoded in
    ap (λ c. option_and_then (λ charset. option_and_then (text_in charset) (octets_of w)) c) m.named
    ∙ ap (λ o. option_and_then (text_in m.charset) o) octets ∙ m.read

pub meaning_law : MeaningLaw
meaning_law w text h = (means_from w text h, means_to w text h)

pub bad_word : (w : Word) → IsWord w → text_of w ≡ None → IsGood w → ⊥
bad_word w h none good = let some : Some good.0 ≡ None = sym (means_to w good.0 h good.1) ∙ none in absurd cc
