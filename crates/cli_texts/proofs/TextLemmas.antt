-- Octets that are a text, and octets that are none.
use Rattle.std.proofs.Common.{◌≡◌, refl, ℕ, Bool, true, false, List, IsUtf8}
use Rattle.std.specs.Prelude.{Result, Ok, Err, IfOk}
use Rattle.std.proofs.lemmas.Str.{IsUtf8-from_is_utf8, is_utf8-from_IsUtf8}
use Rattle.std.specs.Char.{is_ascii_control}
use Rattle.std.specs.List.{list_any}
use Rattle.std.specs.Str.{is_utf8}
use Rattle.cli_texts.specs.Rows.{escapes, shown_octets}
use Rattle.cli_texts.specs.Words.{words, escaped, free_words}

not_utf8 : (bs : List ℕ) → (IsUtf8 bs → ⊥) → is_utf8 bs ≡ false
not_utf8 bs stray = go (is_utf8 bs) refl
  where
    go : (b : Bool) → is_utf8 bs ≡ b → is_utf8 bs ≡ false
    go false e = e
    go true e = absurd (stray (IsUtf8-from_is_utf8 bs e))

pub text_words : (bs : List ℕ) → IsUtf8 bs → words bs ≡ free_words bs
text_words bs u = rw (is_utf8-from_IsUtf8 bs u) refl

pub escaped_words : (bs : List ℕ) → (IsUtf8 bs → ⊥) → escaped bs ≡ free_words bs
escaped_words bs stray = rw (not_utf8 bs stray) refl

pub text_shown : (bs : List ℕ) → list_any is_ascii_control bs ≡ false → IsUtf8 bs → bs ≡ shown_octets bs
text_shown bs plain u = rw (plain, is_utf8-from_IsUtf8 bs u) refl

pub escapes_shown : (bs : List ℕ) → list_any is_ascii_control bs ≡ false → (IsUtf8 bs → ⊥) → escapes bs ≡ shown_octets bs
escapes_shown bs plain stray = rw (plain, not_utf8 bs stray) refl

pub if_ok_map : {A E : Type 0} {P Q : A → Type 0} (r : Result A E) → IfOk r P → ((x : A) → P x → Q x) → IfOk r Q
if_ok_map (Ok x) h f = f x h
if_ok_map (Err e) h f = tt
