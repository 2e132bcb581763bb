-- No character of a text is hidden.
use Rattle.std.proofs.Common.{◌≡◌, ◌∙◌, ℕ, zero, suc, Bool, true, false, cond, not, List, [], ◌∷◌, ◌++◌, ◌<◌, ◌/◌, ◌%◌, append-nil, refl}
use Rattle.std.proofs.Common.{sym, subst, arith}
use Rattle.std.specs.Prelude.{nat_lt, ◌&&◌, ◌||◌, ◌==◌, flat_map, length}
use Rattle.std.specs.Char.{digit_char, encode_utf8}
use Rattle.std.specs.Char.Escape.{backslash, hex_digit_at}
use Rattle.std.specs.List.{list_all}
use Rattle.std.specs.Str.{chars, encode_utf8_all}
use Rattle.std.specs.Str.Lossy.{utf8_valid_len, after_first_chunk}
use Rattle.std.proofs.lemmas.Bool.{agree_below_at, and_parts, or_parts, ltb-true}
use Rattle.std.proofs.lemmas.List.Folds.{list_all-append}
use Rattle.std.proofs.lemmas.Str.{encodes-append}
use Rattle.tool_texts.specs.Quoting.{is_hidden, is_attached, is_plain, IsShown, AreLines, needs_number, is_quoting, octet_text, scalar_text}
use Rattle.tool_texts.specs.Quoting.{number_text}
use Rattle.tool_texts.specs.Quoting.{visible_of, visible_after, visible_text, shown_of, shown_after, front_text, stray_octets}
use Rattle.tool_texts.specs.Quoting.{escaped_within, escaped_text, quoted_text}

abbrev pub AreShown : List ℕ → Type 0
AreShown cs = list_all (λ c. not (is_hidden c)) cs ≡ true

-- ---- one character

abbrev is_shown_digit : ℕ → Bool
is_shown_digit d = not (is_hidden (digit_char d))

digit_shown : (place c : ℕ) → not (is_hidden (hex_digit_at place c)) ≡ true
digit_shown place c =
    let below : c / place % 16 < 16 = omega arith in
    agree_below_at is_shown_digit (λ _. true) 16 (c / place % 16) refl below

abbrev is_control_or_shown : ℕ → Bool
is_control_or_shown c = nat_lt c 32 || not (is_hidden c)

pub printable : (c : ℕ) → c < 127 → is_control_or_shown c ≡ true
printable c lt = agree_below_at is_control_or_shown (λ _. true) 127 c refl lt

-- ---- lists of characters

shown_cons : (c : ℕ) (cs : List ℕ) → not (is_hidden c) ≡ true → AreShown cs → AreShown (c ∷ cs)
shown_cons c cs first more = rw (first, more) refl

shown_both : (cs ds : List ℕ) → AreShown cs → AreShown ds → AreShown (cs ++ ds)
shown_both cs ds first more = list_all-append (λ c. not (is_hidden c)) cs ds ∙ rw (first, more) refl

shown_cond : (b : Bool) (cs ds : List ℕ) → AreShown cs → AreShown ds → AreShown (cond b cs ds)
shown_cond true cs ds one other = one
shown_cond false cs ds one other = other

-- ---- octets and numbers

-- the letter of an octet by what its tests answer
abbrev letter : Bool → Bool → Bool → Bool → Bool → Bool → ℕ
letter a b c d e f = cond a 116 (cond b 114 (cond c 110 (cond d 39 (cond e 34 (cond f backslash 0)))))

abbrev with_letter : ℕ → List ℕ → List ℕ
with_letter s other = cond (nat_lt 0 s) (backslash ∷ s ∷ []) other

letter_shown : (a b c d e f : Bool) (other : List ℕ) → AreShown other → AreShown (with_letter (letter a b c d e f) other)
letter_shown true b c d e f other h = refl
letter_shown false true c d e f other h = refl
letter_shown false false true d e f other h = refl
letter_shown false false false true e f other h = refl
letter_shown false false false false true f other h = refl
letter_shown false false false false false true other h = refl
letter_shown false false false false false false other h = h

printed : (a b : Bool) (c : ℕ) (other : List ℕ) → (b ≡ true → (a || not (is_hidden c)) ≡ true) → AreShown other
    → AreShown (cond a other (cond b (c ∷ []) other))
printed true b c other k h = h
printed false true c other k h = shown_cons c [] (k refl) refl
printed false false c other k h = h

octet_shown : (octet : ℕ) → AreShown (octet_text octet)
unfolding octet_text
octet_shown octet =
    let one : List ℕ = hex_digit_at 1 octet ∷ [] in
    let two : List ℕ = hex_digit_at 0x10 octet ∷ one in
    let digits : List ℕ = backslash ∷ 120 ∷ two in
    let last : AreShown one = shown_cons (hex_digit_at 1 octet) [] (digit_shown 1 octet) refl in
    let are : AreShown digits = shown_cons (hex_digit_at 0x10 octet) one (digit_shown 0x10 octet) last in
    letter_shown (octet == 9) (octet == 13) (octet == 10) (octet == 39) (octet == 34) (octet == backslash)
    (cond (nat_lt octet 32) digits (cond (nat_lt octet 127) (octet ∷ []) digits))
    (printed (nat_lt octet 32) (nat_lt octet 127) octet digits (λ e. printable octet (ltb-true octet 127 e)) are)

abbrev braced : List ℕ → List ℕ
braced digits = backslash ∷ 117 ∷ 123 ∷ digits

scalar_shown : (c : ℕ) → AreShown (scalar_text c)
unfolding scalar_text
scalar_shown c =
    let d1 : List ℕ = hex_digit_at 1 c ∷ 125 ∷ [] in
    let d2 : List ℕ = hex_digit_at 0x10 c ∷ d1 in
    let d3 : List ℕ = hex_digit_at 0x100 c ∷ d2 in
    let d4 : List ℕ = hex_digit_at 0x1000 c ∷ d3 in
    let d5 : List ℕ = hex_digit_at 0x1_0000 c ∷ d4 in
    let d6 : List ℕ = hex_digit_at 0x10_0000 c ∷ d5 in
    let s1 : AreShown d1 = shown_cons (hex_digit_at 1 c) (125 ∷ []) (digit_shown 1 c) refl in
    let s2 : AreShown d2 = shown_cons (hex_digit_at 0x10 c) d1 (digit_shown 0x10 c) s1 in
    let s3 : AreShown d3 = shown_cons (hex_digit_at 0x100 c) d2 (digit_shown 0x100 c) s2 in
    let s4 : AreShown d4 = shown_cons (hex_digit_at 0x1000 c) d3 (digit_shown 0x1000 c) s3 in
    let s5 : AreShown d5 = shown_cons (hex_digit_at 0x1_0000 c) d4 (digit_shown 0x1_0000 c) s4 in
    let s6 : AreShown d6 = shown_cons (hex_digit_at 0x10_0000 c) d5 (digit_shown 0x10_0000 c) s5 in
    let t5 : List ℕ = cond (nat_lt c 0x10_0000) (braced d5) (braced d6) in
    let t4 : List ℕ = cond (nat_lt c 0x1_0000) (braced d4) t5 in
    let t3 : List ℕ = cond (nat_lt c 0x1000) (braced d3) t4 in
    let t2 : List ℕ = cond (nat_lt c 0x100) (braced d2) t3 in
    shown_cond (nat_lt c 0x10) (braced d1) t2 s1
    (shown_cond (nat_lt c 0x100) (braced d2) t3 s2
    (shown_cond (nat_lt c 0x1000) (braced d3) t4 s3
    (shown_cond (nat_lt c 0x1_0000) (braced d4) t5 s4
    (shown_cond (nat_lt c 0x10_0000) (braced d5) (braced d6) s5 s6))))

number_shown : (c : ℕ) → AreShown (number_text c)
number_shown c = shown_cond (nat_lt c 0x80) (octet_text c) (scalar_text c) (octet_shown c) (scalar_shown c)

-- ---- texts

one_shown : (numbered quoting : Bool) (c : ℕ) → (numbered ≡ false → not (is_hidden c) ≡ true)
    → AreShown (cond numbered (number_text c) (cond quoting (backslash ∷ c ∷ []) (c ∷ [])))
one_shown true quoting c k = number_shown c
one_shown false true c k = shown_cons c [] (k refl) refl
one_shown false false c k = shown_cons c [] (k refl) refl

visible_by : (numbered : Bool) (c : ℕ) → (numbered ≡ false → not (is_hidden c) ≡ true) → AreShown (cond numbered (number_text c) (c ∷ []))
visible_by true c k = number_shown c
visible_by false c k = shown_cons c [] (k refl) refl

character_shown : (a : Bool) (c : ℕ) → AreShown (shown_of a c)
unfolding shown_of
character_shown a c = one_shown (needs_number a c) (is_quoting c) c
    (λ e. let visible = (or_parts (is_hidden c) (is_attached c && not a) e).0 in rw visible refl)

characters_shown : (a : Bool) (cs : List ℕ) → AreShown (shown_after a cs)
characters_shown a [] = refl
characters_shown a (c ∷ cs) =
    shown_both (shown_of a c) (shown_after (is_plain a c) cs) (character_shown a c) (characters_shown (is_plain a c) cs)

octets_shown : (octets : List ℕ) → AreShown (flat_map octet_text octets)
octets_shown [] = refl
octets_shown (o ∷ os) = shown_both (octet_text o) (flat_map octet_text os) (octet_shown o) (octets_shown os)

within_shown : (k : ℕ) (octets : List ℕ) → AreShown (escaped_within k octets)
within_shown zero octets = characters_shown false (chars octets)
within_shown (suc k) octets =
    let stray : List ℕ = flat_map octet_text (stray_octets octets) in
    let rest : List ℕ = escaped_within k (after_first_chunk octets) in
    shown_cond (utf8_valid_len octets == length octets) (shown_after false (chars octets)) (front_text octets ++ (stray ++ rest))
    (characters_shown false (chars octets))
    (shown_both (front_text octets) (stray ++ rest) (characters_shown false _)
    (shown_both stray rest (octets_shown (stray_octets octets)) (within_shown k (after_first_chunk octets))))

pub escaped_shown : (octets : List ℕ) → AreShown (escaped_text octets)
unfolding escaped_text
escaped_shown octets = within_shown (length octets) octets

pub quoted_shown : (octets : List ℕ) → AreShown (quoted_text octets)
quoted_shown octets = shown_both (escaped_text octets) (34 ∷ []) (escaped_shown octets) refl

visible_shown : (a : Bool) (c : ℕ) → AreShown (visible_of a c)
unfolding visible_of
visible_shown a c = visible_by (needs_number a c) c
    (λ e. let visible = (or_parts (is_hidden c) (is_attached c && not a) e).0 in rw visible refl)

all_visible : (a : Bool) (cs : List ℕ) → AreShown (visible_after a cs)
all_visible a [] = refl
all_visible a (c ∷ cs) =
    shown_both (visible_of a c) (visible_after (not (needs_number a c)) cs) (visible_shown a c) (all_visible (not (needs_number a c)) cs)

pub spelled_shown : (text cs : List ℕ) → AreShown cs → text ≡ encode_utf8_all cs → IsShown text
spelled_shown text cs are is = record {
  characters = cs;
  are_shown = are;
  spelled = sym is;
}

pub escaped_is : (text octets : List ℕ) → text ≡ encode_utf8_all (escaped_text octets) → IsShown text
escaped_is text octets is = spelled_shown text (escaped_text octets) (escaped_shown octets) is

pub quoted_is : (text octets : List ℕ) → text ≡ encode_utf8_all (quoted_text octets) → IsShown text
quoted_is text octets is = spelled_shown text (quoted_text octets) (quoted_shown octets) is

pub visible_is : (text words : List ℕ) → text ≡ encode_utf8_all (visible_text words) → IsShown text
visible_is text words is = spelled_shown text (visible_text words) (all_visible false (chars words)) is

-- ---- lines

abbrev are_lines : List ℕ → Bool
are_lines cs = list_all (λ c. (c == 10) || not (is_hidden c)) cs

either : (a b : Bool) → b ≡ true → (a || b) ≡ true
either true b h = refl
either false b h = h

shown_lines : (cs : List ℕ) → AreShown cs → are_lines cs ≡ true
shown_lines [] h = refl
shown_lines (c ∷ cs) h =
    let parts = and_parts (not (is_hidden c)) (list_all (λ d. not (is_hidden d)) cs) h in
    rw (either (c == 10) (not (is_hidden c)) parts.0, shown_lines cs parts.1) refl

pub no_lines : (text : List ℕ) → text ≡ [] → AreLines text
no_lines text none = record {
  characters = [];
  are_shown = refl;
  spelled = sym none;
}

pub lines_of_shown : (text : List ℕ) → IsShown text → AreLines text
lines_of_shown text shown = record {
  characters = shown.characters;
  are_shown = shown_lines shown.characters shown.are_shown;
  spelled = shown.spelled;
}

pub line_end : AreLines (encode_utf8 10)
line_end = record {
  characters = 10 ∷ [];
  are_shown = refl;
  spelled = append-nil (encode_utf8 10);
}

pub more_lines : (before more : List ℕ) → AreLines before → AreLines more → AreLines (before ++ more)
more_lines before more a b = record {
  characters = a.characters ++ b.characters;
  are_shown = list_all-append (λ c. (c == 10) || not (is_hidden c)) a.characters b.characters ∙ rw (a.are_shown, b.are_shown) refl;
  spelled = encodes-append a.characters b.characters ∙ (λ i. a.spelled i ++ b.spelled i);
}

-- after a push, which may have failed
pub lines_after : (pushed : Bool) (before more after : List ℕ) → after ≡ cond pushed (before ++ more) before → AreLines before → AreLines more
    → AreLines after
lines_after true before more after is a b = subst AreLines (sym is) (more_lines before more a b)
lines_after false before more after is a b = subst AreLines (sym is) a
