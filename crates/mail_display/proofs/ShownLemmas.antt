-- A line that is shown piece by piece.
use Rattle.std.proofs.Common.{◌≡◌, ℕ, zero, suc, ◌+◌, ◌<◌, ◌≤◌, Bool, true, false, cond, List, [], ◌∷◌, ◌++◌, length, refl}
use Rattle.std.proofs.Common.{sym, ap, ◌∙◌, arith, Option, Some, None, append_assoc, subst}
use Rattle.std.proofs.lemmas.List.{append-nil}
use Rattle.mail_display.specs.Words.{begins_word}
use Rattle.std.specs.Prelude.{IfSome}
use Rattle.mail_charsets.specs.declared.charset.Charset.TheVariants.{Utf8}
use Rattle.mail_charsets.specs.Decoding.{unread_of}
use Rattle.std.specs.Str.{is_utf8}
use Rattle.mail_display.specs.declared.decoding.ReadableWord.{ReadableWord}
use Rattle.mail_display.specs.Readable.{IsReadable}
use Rattle.mail_display.specs.Decoding.{Readable}
use Rattle.mail_display.specs.Display.{word_after_gap, unread_front, shown_piece, shown, shown_line}

-- what was shown, and the rest of the line; the two determine the whole
pub record Showing (line rest out : List ℕ) (unread : ℕ) (after : Bool) : Type 0 where
  pub turns : ℕ
  pub enough : length rest ≤ turns
  pub octets : out ++ (shown turns after rest).0 ≡ (shown_line line).0
  pub count : unread + (shown turns after rest).1 ≡ (shown_line line).1
  pub few : unread + length rest ≤ length line

pub Showing-none : (line : List ℕ) → Showing line line [] 0 false
Showing-none line = record { turns = length line; enough = omega arith; octets = refl; count = omega arith; few = omega arith }

pub shown_nil : (n : ℕ) (after : Bool) → shown n after [] ≡ ([], 0)
unfolding shown
shown_nil zero after = refl
shown_nil (suc n) after = refl

pub shown_cons : (n : ℕ) (after : Bool) (b : ℕ) (bs : List ℕ)
    → shown (suc n) after (b ∷ bs) ≡ shown_piece (word_after_gap after (b ∷ bs)) b bs (shown n)
unfolding shown
shown_cons n after b bs = refl

pub Showing-done : (line rest out : List ℕ) (unread : ℕ) (after : Bool) → rest ≡ [] → Showing line rest out unread after
    → (out ≡ (shown_line line).0) × (unread ≡ (shown_line line).1)
Showing-done line rest out unread after e h =
    let none : shown h.turns after rest ≡ ([], 0) = ap (shown h.turns after) e ∙ shown_nil h.turns after in (
      sym (append-nil out) ∙ ap (λ s. out ++ s.0) (sym none) ∙ h.octets,
      omega (arith, h.count, ap (λ s. s.1) none),
    )

-- a word is shown
pub Showing-word : (line rest bs out new : List ℕ) (unread more b : ℕ) (after : Bool) (w : Readable) → rest ≡ b ∷ bs
    → Showing line rest out unread after → Some w ≡ word_after_gap after rest → new ≡ out ++ w.octets
    → more ≡ unread + cond w.is_whole 0 1 → length w.rest < length rest → Showing line w.rest new more true
Showing-word line rest bs out new unread more b after w cut h found put counted shorter = at h.turns h.enough h.octets h.count
  where
    at : (n : ℕ) → length rest ≤ n → out ++ (shown n after rest).0 ≡ (shown_line line).0
        → unread + (shown n after rest).1 ≡ (shown_line line).1 → Showing line w.rest new more true
    at zero enough octets count = absurd (omega (arith, shorter))
    at (suc n) enough octets count =
        let piece : shown (suc n) after rest ≡ (
          w.octets ++ (shown n true w.rest).0,
          cond w.is_whole 0 1 + (shown n true w.rest).1,
        ) = ap (shown (suc n) after) cut ∙ shown_cons n after b bs
        ∙ ap (λ o. shown_piece o b bs (shown n)) (ap (word_after_gap after) (sym cut) ∙ sym found) in
        record {
          turns = n;
          enough = omega (arith, shorter);
          octets = ap (λ x. x ++ (shown n true w.rest).0) put ∙ append_assoc out w.octets (shown n true w.rest).0
              ∙ ap (λ s. out ++ s.0) (sym piece) ∙ octets;
          count = omega (arith, counted, count, ap (λ s. s.1) piece);
          few = omega (arith, h.few, shorter, counted, one w.is_whole);
        }
      where
        one : (t : Bool) → cond t 0 1 ≤ 1
        one true = omega arith
        one false = omega arith

-- an octet is shown
pub Showing-octet : (line rest bs out new : List ℕ) (unread more b : ℕ) (after : Bool) → rest ≡ b ∷ bs
    → Showing line rest out unread after → None ≡ word_after_gap after rest → new ≡ out ++ b ∷ []
    → more ≡ unread + unread_front rest → Showing line bs new more false
Showing-octet line rest bs out new unread more b after cut h none put counted = at h.turns h.enough h.octets h.count
  where
    long : length rest ≡ suc (length bs)
    long = ap length cut

    at : (n : ℕ) → length rest ≤ n → out ++ (shown n after rest).0 ≡ (shown_line line).0
        → unread + (shown n after rest).1 ≡ (shown_line line).1 → Showing line bs new more false
    at zero enough octets count = absurd (omega (arith, long))
    at (suc n) enough octets count =
        let piece : shown (suc n) after rest ≡ (
          b ∷ (shown n false bs).0,
          unread_front rest + (shown n false bs).1,
        ) = ap (shown (suc n) after) cut ∙ shown_cons n after b bs
        ∙ ap (λ o. shown_piece o b bs (shown n)) (ap (word_after_gap after) (sym cut) ∙ sym none)
        ∙ ap (λ x. (b ∷ (shown n false bs).0, unread_front x + (shown n false bs).1)) (sym cut) in
        record {
          turns = n;
          enough = omega (arith, long);
          octets = ap (λ x. x ++ (shown n false bs).0) put ∙ append_assoc out (b ∷ []) (shown n false bs).0
              ∙ ap (λ s. out ++ s.0) (sym piece) ∙ octets;
          count = omega (arith, counted, count, ap (λ s. s.1) piece);
          few = omega (arith, h.few, long, counted, one (begins_word rest));
        }
      where
        one : (t : Bool) → cond t 1 0 ≤ 1
        one true = omega arith
        one false = omega arith

-- the word that was decoded
abbrev pub readable_of : ReadableWord → Readable
readable_of w = record { octets = w.octets.items; is_whole = w.is_whole; rest = w.rest.now }

pub is_some : (o : Option Readable) (r : Option ReadableWord) (w : ReadableWord) → IsReadable o r → r ≡ Some w → Some (readable_of w) ≡ o
is_some o r w h e = let P : Option ReadableWord → Type 0 = λ x. IsReadable o x in sym (let is : P (Some w) = subst P e h in is)

pub is_none : (o : Option Readable) (r : Option ReadableWord) → IsReadable o r → r ≡ None → None ≡ o
is_none o r h e = let P : Option ReadableWord → Type 0 = λ x. IsReadable o x in sym (let is : P None = subst P e h in is)

pub is_shorter : (n : ℕ) (r : Option ReadableWord) (w : ReadableWord) → IfSome r (λ w. length w.rest.now < n) → r ≡ Some w
    → length w.rest.now < n
is_shorter n r w h e = let P : Option ReadableWord → Type 0 = λ x. IfSome x (λ w. length w.rest.now < n) in subst P e h

pub utf8_unread : (octets : List ℕ) → unread_of Utf8 octets ≤ 1
unfolding unread_of
utf8_unread octets = one (is_utf8 octets)
  where
    one : (t : Bool) → cond t 0 1 ≤ 1
    one true = omega arith
    one false = omega arith
