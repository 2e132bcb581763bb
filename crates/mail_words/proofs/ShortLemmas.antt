-- How long a value can be.
use Rattle.std.proofs.Common.{◌≡◌, ℕ, zero, suc, ◌+◌, ◌-◌, ◌*◌, ◌≤◌, Bool, true, false, cond, List, [], ◌∷◌, ◌++◌}
use Rattle.std.proofs.Common.{length, refl, ap, arith, inl, inr, Option, Some, None}
use Rattle.std.proofs.lemmas.List.{length-append, length-take, length-drop}
use Rattle.std.proofs.lemmas.Str.{length-encode, len_utf8_bounds}
use Rattle.std.specs.Prelude.{◌&&◌}
use Rattle.std.specs.List.{list_all, prefix_len, suffix_len}
use Rattle.std.specs.Str.{encode_utf8_all}
use Rattle.mail_words.specs.declared.charset.Charset.{Charset}
use Rattle.mail_words.specs.declared.charset.Charset.TheVariants.{Ascii, Latin1, Utf8}
use Rattle.mail_words.specs.Unfolding.{is_blank, without_line_ends, without_first_blanks, without_outer_blanks}
use Rattle.mail_words.specs.Words.{Word, spelling, IsWord, first_word}
use Rattle.mail_words.specs.Charsets.{text_in}
use Rattle.mail_words.specs.Decoding.{text_of}
use Rattle.mail_words.specs.Meaning.{QText, q_end, q_itself, q_space, q_escape, IsEncoding}
use Rattle.mail_words.specs.Value.{cut_at, cut_words, display_of_word, display, value_of_body}
use Rattle.mail_words.proofs.Base64Lemmas.{length-encoded}
use Rattle.mail_words.proofs.MeaningLemmas.{means_from}
use Rattle.mail_words.proofs.SpellingLemmas.{Found, first_word-stands}

length-unfolded : (bs : List ℕ) → length (without_line_ends bs) ≤ length bs
unfolding without_line_ends
length-unfolded [] = omega arith
length-unfolded (b ∷ bs) = at _ (length-unfolded bs)
  where
    at : (t : Bool) → length (without_line_ends bs) ≤ length bs → length (cond t (without_line_ends bs) (b ∷ without_line_ends bs)) ≤ suc (length bs)
    at true h = omega arith
    at false h = omega arith

length-trimmed : (bs : List ℕ) → length (without_outer_blanks bs) ≤ length bs
length-trimmed bs =
    let front = without_first_blanks bs in
    omega (arith, length-take (length front - suffix_len is_blank front) front, length-drop (prefix_len is_blank bs) bs)

-- a word encodes no more octets than its text has
length-q : (text octets : List ℕ) → QText text octets → length octets ≤ length text
length-q _ _ q_end = omega arith
length-q _ _ (q_itself b text octets n m h) = omega (arith, length-q text octets h)
length-q _ _ (q_space text octets h) = omega (arith, length-q text octets h)
length-q _ _ (q_escape a b high low text octets e f h) = omega (arith, length-q text octets h)

length-octets : (letter : ℕ) (text octets : List ℕ) → IsEncoding letter text octets → length octets ≤ length text
length-octets letter text octets (inl h) = omega (arith, length-encoded octets, ap length h.1.1)
length-octets letter text octets (inr h) = length-q text octets h.1

-- and each is written in at most four octets
length-written : (octets : List ℕ) → length (encode_utf8_all octets) ≤ 4 * length octets
length-written [] = omega arith
length-written (b ∷ bs) = simp length-append (omega (arith, length-encode b, len_utf8_bounds b, length-written bs))

kept_octets : (t : Bool) (octets text : List ℕ) → cond t (Some octets) None ≡ Some text → length text ≤ 4 * length octets
kept_octets true octets text e = let same : octets ≡ text = cc in omega (arith, ap length same)
kept_octets false octets text e = absurd cc

length-text : (charset : Charset) (octets text : List ℕ) → text_in charset octets ≡ Some text → length text ≤ 4 * length octets
unfolding text_in
length-text Ascii octets text e = kept_octets _ octets text e
length-text Utf8 octets text e = kept_octets _ octets text e
length-text Latin1 octets text e = let same : encode_utf8_all octets ≡ text = cc in omega (arith, ap length same, length-written octets)

length-spelling : (w : Word) → length w.text ≤ length (spelling w)
length-spelling w = omega (arith, length-append w.charset (63 ∷ w.encoding ∷ 63 ∷ (w.text ++ 63 ∷ 61 ∷ [])), length-append w.text (63 ∷ 61 ∷ []))

length-word : (w : Word) (text : List ℕ) → IsWord w → text_of w ≡ Some text → length text ≤ 4 * length (spelling w)
length-word w text h e =
    let m = means_from w text h e in
    omega (arith, length-text m.charset m.octets text m.read, length-octets w.encoding w.text m.octets m.encoded, length-spelling w)

length-gap : (t : Bool) (gap : List ℕ) → length (cond t [] gap) ≤ length gap
length-gap true gap = omega arith
length-gap false gap = omega arith

-- a word as it is shown, with the gap before it and what follows it
length-shown_word : (after_good : Bool) (gap after : List ℕ) (w : Word) (o : Option (List ℕ)) (more : Bool → List ℕ)
    → IsWord w → text_of w ≡ o → ((good : Bool) → length (more good) ≤ 4 * length after)
    → length (display_of_word after_good gap w o more) ≤ 4 * (length gap + (length (spelling w) + length after))
length-shown_word after_good gap after w (Some text) more h e rest =
    let kept : List ℕ = cond (after_good && list_all is_blank gap) [] gap in
    omega (
      arith,
      length-append kept (text ++ more true),
      length-append text (more true),
      length-gap (after_good && list_all is_blank gap) gap,
      length-word w text h e,
      rest true,
    )
length-shown_word after_good gap after w None more h e rest =
    omega (arith, length-append gap (spelling w ++ more false), length-append (spelling w) (more false), rest false)

AllShort : ℕ → Type 0
AllShort n = (good : Bool) (bs : List ℕ) → length (display good (cut_words n bs).0 (cut_words n bs).1) ≤ 4 * length bs

length-cut : (n : ℕ) (after_good : Bool) (bs : List ℕ) (o : Option Found) → first_word true bs ≡ o → AllShort n
    → length (display after_good (cut_at bs o (cut_words n)).0 (cut_at bs o (cut_words n)).1) ≤ 4 * length bs
unfolding display AllShort
length-cut n after_good bs None e rest = omega arith
length-cut n after_good bs (Some f) e rest =
    let stands = first_word-stands true bs f e in
    omega (
      arith,
      length-shown_word after_good f.0 f.2 f.1 (text_of f.1) (λ good.
          display good (cut_words n f.2).0 (cut_words n f.2).1) stands.word refl (λ good. rest good f.2),
      ap length stands.joined,
      length-append f.0 (spelling f.1 ++ f.2),
      length-append (spelling f.1) f.2,
    )

length-shown : (n : ℕ) → AllShort n
unfolding cut_words display AllShort
length-shown zero = λ good bs. omega arith
length-shown (suc n) = λ good bs. length-cut n good bs (first_word true bs) refl (length-shown n)

-- a value has at most four octets for each octet of the body
pub length-value : (raw : List ℕ) → length (value_of_body raw) ≤ 4 * length raw
unfolding value_of_body AllShort
length-value raw =
    omega (
      arith,
      length-shown (length (without_outer_blanks (without_line_ends raw))) false
          (without_outer_blanks (without_line_ends raw)),
      length-trimmed (without_line_ends raw),
      length-unfolded raw,
    )
