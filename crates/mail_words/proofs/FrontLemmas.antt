-- A word at the front of a text, read part by part.
use Rattle.std.proofs.Common.{◌≡◌, ℕ, true, false, cond, List, [], ◌∷◌, length, drop, refl, sym, ap, ◌∙◌, arith, Some, None}
use Rattle.std.proofs.Math.Bool.{and-false}
use Rattle.std.specs.Prelude.{nat_lt, ◌&&◌}
use Rattle.std.specs.List.{take_while}
use Rattle.mail_words.specs.Unfolding.{is_nil}
use Rattle.mail_words.specs.Words.{is_charset_octet, is_text_octet, is_encoding, opens, closes, names_encoding, begins_with_pair, word_at}

opens_pair : (bs : List ℕ) → opens bs ≡ begins_with_pair 61 63 bs
opens_pair [] = refl
opens_pair (a ∷ []) = refl
opens_pair (a ∷ b ∷ bs) = refl

closes_pair : (bs : List ℕ) → closes bs ≡ begins_with_pair 63 61 bs
closes_pair [] = refl
closes_pair (a ∷ []) = refl
closes_pair (a ∷ b ∷ bs) = refl

-- whether the text begins as a word does up to its charset
pub front-not_open : (bs : List ℕ) → begins_with_pair 61 63 bs ≡ false → None ≡ word_at bs
unfolding word_at
front-not_open bs h = rw (opens_pair bs, h) refl

-- the parts of the text, one after another
pub record Opened (bs opened charset encoded : List ℕ) : Type 0 where
  pub begins : bs ≡ 61 ∷ 63 ∷ opened
  pub charset_is : charset ≡ take_while is_charset_octet opened
  pub following : encoded ≡ drop (length (take_while is_charset_octet opened)) opened

pub front-not_encoding : {bs opened charset encoded : List ℕ} → Opened bs opened charset encoded → names_encoding encoded ≡ false → None ≡ word_at bs
unfolding word_at
front-not_encoding {bs} {opened} {charset} {encoded} o h =
    sym (ap word_at o.begins
    ∙ (rw (← o.following, h, and-false (nat_lt 0 (length (take_while is_charset_octet opened)))) refl))

pub record Lettered (bs opened charset encoded rest text closed : List ℕ) (letter : ℕ) : Type 0 where
  pub front : Opened bs opened charset encoded
  pub named : encoded ≡ 63 ∷ letter ∷ 63 ∷ rest
  pub encoding : is_encoding letter ≡ true
  pub text_is : text ≡ take_while is_text_octet rest
  pub following : closed ≡ drop (length (take_while is_text_octet rest)) rest

pub nil_from : (xs : List ℕ) → is_nil xs ≡ true → xs ≡ []
nil_from [] h = refl
nil_from (x ∷ xs) h = absurd cc

some_octets : (xs : List ℕ) → is_nil xs ≡ false → nat_lt 0 (length xs) ≡ true
some_octets [] h = absurd cc
some_octets (x ∷ xs) h = grind arith

module _ {bs opened charset encoded rest text closed : List ℕ} {letter : ℕ}
    (l : Lettered bs opened charset encoded rest text closed letter) where
  -- the word at the front, by the tests of its parts
  word_at-parts : word_at bs ≡ cond (nat_lt 0 (length charset) && true && nat_lt 0 (length text) && closes closed)
      (Some (record { charset = charset; encoding = letter; text = text }, drop 2 closed)) None
  unfolding word_at
  word_at-parts = ap word_at l.front.begins
      ∙ (rw (← l.front.following, ← l.front.charset_is, l.named, l.encoding, ← l.following, ← l.text_is) refl)

  pub front-not_closed : begins_with_pair 63 61 closed ≡ false → None ≡ word_at bs
  front-not_closed h =
      sym (word_at-parts ∙ (rw (closes_pair closed, h, and-false (nat_lt 0 (length charset) && true && nat_lt 0 (length text))) refl))

  pub front-no_charset : is_nil charset ≡ true → None ≡ word_at bs
  front-no_charset e = sym (word_at-parts ∙ (rw (nil_from charset e) refl))

  pub front-no_text : is_nil text ≡ true → None ≡ word_at bs
  front-no_text e = sym (word_at-parts ∙ (rw (nil_from text e, and-false (nat_lt 0 (length charset) && true)) refl))

  pub front-is : {after : List ℕ} → closed ≡ 63 ∷ 61 ∷ after → is_nil charset ≡ false → is_nil text ≡ false
      → Some (record { charset = charset; encoding = letter; text = text }, after) ≡ word_at bs
  front-is e some_charset some_text =
      sym (word_at-parts ∙ (rw (some_octets charset some_charset, some_octets text some_text, e) refl))
