-- Texts with one space for each run of white space, character by character.
use Rattle.std.proofs.Common.{◌≡◌, ℕ, Bool, true, false, cond, List, [], ◌∷◌, ◌++◌, refl, sym, ap, ◌∙◌, append-nil}
use Rattle.std.specs.Char.{is_whitespace, encode_utf8}
use Rattle.std.specs.Str.{encode_utf8_all}
use Rattle.std.proofs.lemmas.Str.{encodes-append}
use Rattle.mail_display.specs.Comparing.{one_space}

-- whether the last of characters is white space
abbrev ends_after : Bool → List ℕ → Bool
ends_after after [] = after
ends_after after (c ∷ cs) = ends_after (is_whitespace c) cs

abbrev pub ends_white : List ℕ → Bool
ends_white cs = ends_after false cs

ends_more : (after : Bool) (cs : List ℕ) (c : ℕ) → is_whitespace c ≡ ends_after after (cs ++ c ∷ [])
ends_more after [] c = refl
ends_more after (d ∷ ds) c = ends_more (is_whitespace d) ds c

pub white_more : (cs : List ℕ) (c : ℕ) → is_whitespace c ≡ ends_white (cs ++ c ∷ [])
white_more cs c = ends_more false cs c

-- what one more character adds, after white space or not
abbrev added : Bool → Bool → ℕ → List ℕ
added after white c = cond white (cond after [] (32 ∷ [])) (c ∷ [])

-- a character before others: whether it is white space, and whether they begin with some
abbrev put : Bool → Bool → ℕ → List ℕ → List ℕ
put white next c cs = cond white (cond next cs (32 ∷ cs)) (c ∷ cs)

put_more : (white next : Bool) (c : ℕ) (cs more : List ℕ) → put white next c (cs ++ more) ≡ put white next c cs ++ more
put_more true true c cs more = refl
put_more true false c cs more = refl
put_more false next c cs more = refl

two : (first second : Bool) (c d : ℕ) → put first second c (put second false d []) ≡ put first false c [] ++ added first second d
two true true c d = refl
two true false c d = refl
two false true c d = refl
two false false c d = refl

-- one more character
pub space_more : (cs : List ℕ) (c : ℕ) → one_space (cs ++ c ∷ []) ≡ one_space cs ++ added (ends_white cs) (is_whitespace c) c
space_more [] c = refl
space_more (x ∷ []) c = two (is_whitespace x) (is_whitespace c) x c
space_more (x ∷ y ∷ ys) c =
    ap (put (is_whitespace x) (is_whitespace y) x) (space_more (y ∷ ys) c)
    ∙ put_more (is_whitespace x) (is_whitespace y) x (one_space (y ∷ ys)) (added (ends_white (y ∷ ys)) (is_whitespace c) c)

added_is : (cs : List ℕ) (after white : Bool) (c : ℕ) (more : List ℕ) → after ≡ ends_white cs → white ≡ is_whitespace c
    → added after white c ≡ more → one_space cs ++ more ≡ one_space (cs ++ c ∷ [])
added_is cs after white c more a w is =
    ap (λ (t : List ℕ). one_space cs ++ t) (sym is ∙ ap (λ (x : Bool). added x white c) a ∙ ap (λ (x : Bool). added (ends_white cs) x c) w)
    ∙ sym (space_more cs c)

one_pushed : (t0 t1 cs : List ℕ) (after white : Bool) (c p : ℕ) → after ≡ ends_white cs → white ≡ is_whitespace c
    → added after white c ≡ p ∷ [] → t0 ≡ encode_utf8_all (one_space cs) → t1 ≡ t0 ++ encode_utf8 p
    → t1 ≡ encode_utf8_all (one_space (cs ++ c ∷ []))
one_pushed t0 t1 cs after white c p a w is same push =
    push ∙ ap (λ (t : List ℕ). t ++ encode_utf8 p) same
    ∙ ap (λ (t : List ℕ). encode_utf8_all (one_space cs) ++ t) (sym (append-nil (encode_utf8 p)))
    ∙ sym (encodes-append (one_space cs) (p ∷ []))
    ∙ ap encode_utf8_all (added_is cs after white c (p ∷ []) a w is)

-- a character that is no white space
pub kept : (t0 t1 cs : List ℕ) (after white : Bool) (c : ℕ) → after ≡ ends_white cs → white ≡ is_whitespace c
    → white ≡ false → t0 ≡ encode_utf8_all (one_space cs) → t1 ≡ t0 ++ encode_utf8 c
    → t1 ≡ encode_utf8_all (one_space (cs ++ c ∷ []))
kept t0 t1 cs after white c a w plain = one_pushed t0 t1 cs after white c c a w (ap (λ (x : Bool). added after x c) plain)

-- the first white space of a run
pub spaced : (t0 t1 cs : List ℕ) (after white : Bool) (c : ℕ) → after ≡ ends_white cs → white ≡ is_whitespace c
    → white ≡ true → after ≡ false → t0 ≡ encode_utf8_all (one_space cs) → t1 ≡ t0 ++ encode_utf8 32
    → t1 ≡ encode_utf8_all (one_space (cs ++ c ∷ []))
spaced t0 t1 cs after white c a w blank first =
    one_pushed t0 t1 cs after white c 32 a w (ap (λ (x : Bool). added after x c) blank ∙ ap (λ (x : Bool). added x true c) first)

-- more white space of a run
pub left_out : (t cs : List ℕ) (after white : Bool) (c : ℕ) → after ≡ ends_white cs → white ≡ is_whitespace c
    → white ≡ true → after ≡ true → t ≡ encode_utf8_all (one_space cs) → t ≡ encode_utf8_all (one_space (cs ++ c ∷ []))
left_out t cs after white c a w blank again same =
    same ∙ ap encode_utf8_all (sym (append-nil (one_space cs))
    ∙ added_is cs after white c [] a w (ap (λ (x : Bool). added after x c) blank ∙ ap (λ (x : Bool). added x true c) again))
