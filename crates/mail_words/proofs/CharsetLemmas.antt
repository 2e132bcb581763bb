-- Octets in a charset.
use Rattle.std.proofs.Common.{◌≡◌, ℕ, ◌+◌, ◌-◌, ◌<◌, ◌≤◌, get_or, take, Bool, true, false, cond, List, [], ◌∷◌, ◌++◌, option_map, length, drop, refl}
use Rattle.std.proofs.Common.{sym, ap, subst, ◌∙◌, append_assoc, Option, Some, None, Result, Ok, Err}
use Rattle.std.proofs.lemmas.List.{append-nil, take_more, take_all, take_rest}
use Rattle.std.specs.Prelude.{option_and_then}
use Rattle.std.specs.Char.{encode_utf8}
use Rattle.std.proofs.lemmas.Str.{IsUtf8-from_is_utf8, is_utf8-from_IsUtf8}
use Rattle.std.specs.Result.{MatchResult, is_ok}
use Rattle.std.specs.Str.{IsUtf8, is_utf8, encode_utf8_all}
use Rattle.std.proofs.Math.Seq.{drop-append_seam}
use Rattle.mail_words.specs.declared.charset.Charset.{Charset}
use Rattle.mail_words.specs.declared.charset.Charset.TheVariants.{Ascii, Latin1, Utf8}
use Rattle.mail_words.specs.Words.{Word}
use Rattle.mail_words.specs.Charsets.{charset_named, text_in, in_utf8, is_text_in, ArePut}
use Rattle.mail_words.specs.Decoding.{octets_of, text_of, IsAppended}

not_utf8 : (bs : List ℕ) (t : Bool) → is_utf8 bs ≡ t → (IsUtf8 bs → ⊥) → false ≡ is_utf8 bs
not_utf8 bs true e h = absurd (h (IsUtf8-from_is_utf8 bs e))
not_utf8 bs false e h = sym e

-- what `from_utf8` answers of some octets
pub utf8_test : {T E : Type 0} (bs : List ℕ) (P : T → Type 0) (Q : E → Type 0) (r : Result T E)
    → MatchResult r (λ s. P s × IsUtf8 bs) (λ e. (IsUtf8 bs → ⊥) × Q e) → is_ok r ≡ is_utf8 bs
utf8_test bs P Q (Ok s) h = sym (is_utf8-from_IsUtf8 bs h.1)
utf8_test bs P Q (Err e) h = not_utf8 bs (is_utf8 bs) refl h.0

-- how octets are written
pub written-nil : (charset : Charset) (old : List ℕ) → old ≡ old ++ in_utf8 charset []
written-nil Ascii old = sym (append-nil old)
written-nil Utf8 old = sym (append-nil old)
written-nil Latin1 old = sym (append-nil old)

encode-append : (xs ys : List ℕ) → encode_utf8_all (xs ++ ys) ≡ encode_utf8_all xs ++ encode_utf8_all ys
encode-append [] ys = refl
encode-append (x ∷ xs) ys = ap (λ bs. encode_utf8 x ++ bs) (encode-append xs ys)
    ∙ sym (append_assoc (encode_utf8 x) (encode_utf8_all xs) (encode_utf8_all ys))

pub written-append : (charset : Charset) (xs ys : List ℕ) → in_utf8 charset (xs ++ ys) ≡ in_utf8 charset xs ++ in_utf8 charset ys
written-append Ascii xs ys = refl
written-append Utf8 xs ys = refl
written-append Latin1 xs ys = encode-append xs ys

pub written-more : (charset : Charset) (old out new octets : List ℕ) (i : ℕ) → out ≡ old
    ++ in_utf8 charset (take i octets) → i < length octets → new ≡ out ++ in_utf8 charset (get_or octets i 0 ∷ [])
    → new ≡ old ++ in_utf8 charset (take (i + 1) octets)
written-more charset old out new octets i h l e = e ∙ ap (λ x. x ++ in_utf8 charset (get_or octets i 0 ∷ [])) h
    ∙ append_assoc old (in_utf8 charset (take i octets)) (in_utf8 charset (get_or octets i 0 ∷ []))
    ∙ ap (λ x. old ++ x) (sym (written-append charset (take i octets) (get_or octets i 0 ∷ []))
    ∙ ap (in_utf8 charset) (sym (take_more octets i 0 l)))

pub written-all : (charset : Charset) (old out octets : List ℕ) (i : ℕ) → out ≡ old ++ in_utf8 charset (take i octets)
    → length octets ≤ i → out ≡ old ++ in_utf8 charset octets
written-all charset old out octets i h l = h ∙ ap (λ x. old ++ in_utf8 charset x) (take_all i octets l)

pub ArePut-some : (charset : Charset) (old : List ℕ) (o : Option (List ℕ)) (new octets : List ℕ) → o ≡ Some octets
    → new ≡ old ++ in_utf8 charset octets → ArePut true charset old o new
ArePut-some charset old None new octets e h = absurd cc
ArePut-some charset old (Some x) new octets e h = let same : octets ≡ x = cc in h ∙ ap (λ y. old ++ in_utf8 charset y) same

pub ArePut-none : (charset : Charset) (old : List ℕ) (o : Option (List ℕ)) (new more : List ℕ) → o ≡ None → new ≡ old
    ++ more → ArePut false charset old o new
ArePut-none charset old None new more e h = (more, h)
ArePut-none charset old (Some x) new more e h = absurd cc

-- what is appended for a word
text_in-written : (charset : Charset) (octets : List ℕ)
    → text_in charset octets ≡ cond (is_text_in charset (in_utf8 charset octets)) (Some (in_utf8 charset octets)) None
unfolding text_in
text_in-written Ascii octets = refl
text_in-written Utf8 octets = refl
text_in-written Latin1 octets = refl

pub option_map-nil : (o : Option (List ℕ)) → option_map (λ more. [] ++ more) o ≡ o
option_map-nil None = refl
option_map-nil (Some x) = refl

pub IsAppended-good : (charset : Charset) (old : List ℕ) (o : Option (List ℕ)) (new : List ℕ)
    → ArePut true charset old o new → is_text_in charset (drop (length old) new) ≡ true
    → IsAppended true old (option_and_then (text_in charset) o) new
IsAppended-good charset old None new h good = absurd h
IsAppended-good charset old (Some octets) new h good =
    let tail : drop (length old) new ≡ in_utf8 charset octets = ap (drop (length old)) h ∙ drop-append_seam old (in_utf8 charset octets) in
    let read : is_text_in charset (in_utf8 charset octets) ≡ true = ap (is_text_in charset) (sym tail) ∙ good in
    let P : Option (List ℕ) → Type 0 = λ t. IsAppended true old t new in
    subst P (sym (text_in-written charset octets ∙ ap (λ t. cond t (Some (in_utf8 charset octets)) None) read)) h

pub IsAppended-unread : (charset : Charset) (old : List ℕ) (o : Option (List ℕ)) (new : List ℕ)
    → ArePut true charset old o new → is_text_in charset (drop (length old) new) ≡ false
    → IsAppended false old (option_and_then (text_in charset) o) new
IsAppended-unread charset old None new h bad = absurd h
IsAppended-unread charset old (Some octets) new h bad =
    let tail : drop (length old) new ≡ in_utf8 charset octets = ap (drop (length old)) h ∙ drop-append_seam old (in_utf8 charset octets) in
    let read : is_text_in charset (in_utf8 charset octets) ≡ false = ap (is_text_in charset) (sym tail) ∙ bad in
    let P : Option (List ℕ) → Type 0 = λ t. IsAppended false old t new in
    subst P (sym (text_in-written charset octets ∙ ap (λ t. cond t (Some (in_utf8 charset octets)) None) read)) (in_utf8 charset octets, h)

pub IsAppended-read : (charset : Charset) (old : List ℕ) (o : Option (List ℕ)) (new : List ℕ) (read : Bool)
    → ArePut true charset old o new → read ≡ is_text_in charset (drop (length old) new)
    → IsAppended read old (option_and_then (text_in charset) o) new
IsAppended-read charset old o new true h e = IsAppended-good charset old o new h (sym e)
IsAppended-read charset old o new false h e = IsAppended-unread charset old o new h (sym e)

-- a word whose charset is read and whose text is good
pub decoded-read : (w : Word) (name : List ℕ) (charset : Charset) (named : Option Charset) (old mid new whole : List ℕ)
    (start : ℕ) (good read : Bool) → name ≡ w.charset → named ≡ charset_named name → named ≡ Some charset → mid ≡ old
    → start ≡ length old → ArePut good charset mid (octets_of w) new → good ≡ true → whole ≡ new
    → read ≡ is_text_in charset (take (length whole - start) (drop start whole)) → IsAppended read old (text_of w) new
unfolding text_of
decoded-read w name charset named old mid new whole start good read en eo is em es h eg ew er =
    let known : charset_named w.charset ≡ Some charset = ap charset_named (sym en) ∙ sym eo ∙ is in
    let P : Bool → Type 0 = λ g. ArePut g charset mid (octets_of w) new in
    let Q : List ℕ → Type 0 = λ m. ArePut true charset m (octets_of w) new in
    let R : Option (List ℕ) → Type 0 = λ t. IsAppended read old t new in
    let put : ArePut true charset old (octets_of w) new = subst Q em (subst P eg h) in
    let tail : read ≡ is_text_in charset (drop (length old) new) = er
    ∙ ap (is_text_in charset) (take_rest whole start ∙ ap (drop start) ew ∙ ap (λ n. drop n new) es) in
    let same : text_of w ≡ option_and_then (text_in charset) (octets_of w) =
    ap (option_and_then (λ charset. option_and_then (text_in charset) (octets_of w))) known in
    subst R (sym same) (IsAppended-read charset old (octets_of w) new read put tail)
