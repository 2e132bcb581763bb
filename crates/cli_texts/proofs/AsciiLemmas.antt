-- Texts of JSON have printable characters of ASCII alone.
use Rattle.std.proofs.Common.{◌≡◌, ◌∙◌, ap, refl, inl, inr, ℕ, zero, suc, ◌<◌, ◌/◌, ◌%◌, Bool, true, false, ◌&&◌}
use Rattle.std.proofs.Common.{List, [], ◌∷◌, ◌++◌, flat_map, chars, arith}
use Rattle.std.proofs.lemmas.Bool.{and_parts, cases_eq}
use Rattle.std.proofs.lemmas.List.Folds.{list_all-append}
use Rattle.std.proofs.lemmas.Nat.{mod_below}
use Rattle.std.specs.Char.{digit_char}
use Rattle.std.specs.Char.Escape.{encode_utf16}
use Rattle.std.specs.Cmp.Derive.{both_true}
use Rattle.std.specs.List.{list_all}
use Rattle.cli_texts.specs.Json.{unit_escape, is_printable, ascii_of, ascii_text}

abbrev are_printable : List ℕ → Bool
are_printable text = list_all is_printable text

abbrev digits_below : ℕ → Bool
digits_below zero = true
digits_below (suc n) = is_printable (digit_char n) && digits_below n

digit_below : (n : ℕ) → digits_below n ≡ true → (x : ℕ) → x < n → is_printable (digit_char x) ≡ true
digit_below zero e x lt = absurd (omega arith)
digit_below (suc n) e x lt =
    let p = and_parts _ _ e in
    elim (cases_eq x n) [ inl same ↦ rw same p.0 | inr other ↦ digit_below n p.1 x (omega arith) ]

digit : (x : ℕ) → is_printable (digit_char (x % 16)) ≡ true
digit x = digit_below 16 refl (x % 16) (mod_below x 16 (omega arith))

six : (a b c d : ℕ) → is_printable a ≡ true → is_printable b ≡ true → is_printable c ≡ true → is_printable d ≡ true
    → are_printable (92 ∷ 117 ∷ a ∷ b ∷ c ∷ d ∷ []) ≡ true
six a b c d p q r s = both_true p (both_true q (both_true r (both_true s refl)))

unit : (u : ℕ) → are_printable (unit_escape u) ≡ true
unit u =
    six (digit_char (u / 0x1000 % 16)) (digit_char (u / 0x100 % 16)) (digit_char (u / 0x10 % 16)) (digit_char (u % 16)) (digit (u / 0x1000))
    (digit (u / 0x100)) (digit (u / 0x10)) (digit u)

units : (us : List ℕ) → are_printable (flat_map unit_escape us) ≡ true
units [] = refl
units (u ∷ us) = list_all-append is_printable (unit_escape u) (flat_map unit_escape us) ∙ both_true (unit u) (units us)

character : (c : ℕ) → are_printable (ascii_of c) ≡ true
character c = go (is_printable c) refl
  where
    go : (b : Bool) → is_printable c ≡ b → are_printable (ascii_of c) ≡ true
    go true e = let is : ascii_of c ≡ c ∷ [] = rw e refl in ap are_printable is ∙ both_true e refl
    go false e =
        let is : ascii_of c ≡ flat_map unit_escape (encode_utf16 c) = rw e refl in
        ap are_printable is ∙ units (encode_utf16 c)

characters : (cs : List ℕ) → are_printable (flat_map ascii_of cs) ≡ true
characters [] = refl
characters (c ∷ cs) = list_all-append is_printable (ascii_of c) (flat_map ascii_of cs) ∙ both_true (character c) (characters cs)

pub ascii_printable : (text octets : List ℕ) → octets ≡ ascii_text text → are_printable octets ≡ true
ascii_printable text octets is = ap are_printable is ∙ characters (chars text)
