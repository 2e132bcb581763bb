-- What is escaped is inert.
use Rattle.std.proofs.Common.{◌≡◌, ℕ, Bool, true, false, List, [], ◌∷◌, ◌++◌, ◌<◌, ◌==◌, ◌&&◌, ◌||◌}
use Rattle.std.proofs.Common.{◌/◌, ◌%◌, not, arith, refl, if◌then◌else◌}
use Rattle.std.specs.Prelude.{codes}
use Rattle.cli_page.specs.Escaping.{shown_all, is_inert, is_harmless, is_hidden, is_bracket, digit_of, digit_at, mark_of}
use Rattle.std.proofs.lemmas.Bool.{and_parts, or_parts}
use Rattle.base64.proofs.Tables.{all_below_at}

-- a digit: neither an & nor any of the characters that do harm
abbrev is_digit_safe : ℕ → Bool
is_digit_safe d = is_harmless (digit_of d) && not (digit_of d == 38)

safe_digit : (d : ℕ) → d < 16 → is_digit_safe d ≡ true
safe_digit d lt = all_below_at is_digit_safe 16 d refl lt

-- such a character before an inert text
inert_more : (c : ℕ) (rest : List ℕ) → is_harmless c ≡ true → not (c == 38) ≡ true → is_inert rest ≡ true → is_inert (c ∷ rest) ≡ true
inert_more c rest harmless plain h = rw (harmless, plain, h) refl

inert_digit : (p c : ℕ) (rest : List ℕ) → is_inert rest ≡ true → is_inert (digit_at p c ∷ rest) ≡ true
inert_digit p c rest h =
    let below : c / p % 16 < 16 = omega arith in
    let parts = and_parts (is_harmless (digit_at p c)) (not (digit_at p c == 38)) (safe_digit (c / p % 16) below) in
    inert_more (digit_at p c) rest parts.0 parts.1 h

inert_mark : (c : ℕ) (rest : List ℕ) → is_inert rest ≡ true → is_inert (mark_of c ++ rest) ≡ true
inert_mark c rest h =
    let t1 : List ℕ = 0x27e9 ∷ rest in
    let t2 : List ℕ = digit_at 1 c ∷ t1 in
    let t3 : List ℕ = digit_at 16 c ∷ t2 in
    let t4 : List ℕ = digit_at 256 c ∷ t3 in
    let t5 : List ℕ = digit_at 4096 c ∷ t4 in
    let t6 : List ℕ = digit_at 65536 c ∷ t5 in
    let t7 : List ℕ = digit_at 1048576 c ∷ t6 in
    let t8 : List ℕ = 43 ∷ t7 in
    let t9 : List ℕ = 85 ∷ t8 in
    let r2 : is_inert t2 ≡ true = inert_digit 1 c t1 (inert_more 0x27e9 rest refl refl h) in
    let r4 : is_inert t4 ≡ true = inert_digit 256 c t3 (inert_digit 16 c t2 r2) in
    let r6 : is_inert t6 ≡ true = inert_digit 65536 c t5 (inert_digit 4096 c t4 r4) in
    let r8 : is_inert t8 ≡ true = inert_more 43 t7 refl refl (inert_digit 1048576 c t6 r6) in
    inert_more 0x27e8 t9 refl refl (inert_more 85 t8 refl refl r8)

-- a character that is none of the five that become entities
record IsPlain (c : ℕ) : Type 0 where
  amp : (c == 38) ≡ false
  lt : (c == 60) ≡ false
  gt : (c == 62) ≡ false
  quote : (c == 34) ≡ false
  tick : (c == 39) ≡ false

-- how a character is shown, from one test of its definition on
abbrev from_last : ℕ → List ℕ
from_last c = if is_hidden c || is_bracket c then mark_of c else c ∷ []

abbrev from_tick : ℕ → List ℕ
from_tick c = if c == 39 then codes "&#39;" else from_last c

abbrev from_quote : ℕ → List ℕ
from_quote c = if c == 34 then codes "&quot;" else from_tick c

abbrev from_gt : ℕ → List ℕ
from_gt c = if c == 62 then codes "&gt;" else from_quote c

abbrev from_lt : ℕ → List ℕ
from_lt c = if c == 60 then codes "&lt;" else from_gt c

inert_last : (b : Bool) (c : ℕ) (rest : List ℕ) → (is_hidden c || is_bracket c) ≡ b → IsPlain c → is_inert rest ≡ true
    → is_inert ((if b then mark_of c else c ∷ []) ++ rest) ≡ true
inert_last true c rest e p h = inert_mark c rest h
inert_last false c rest e p h =
    let shown = (or_parts (is_hidden c) (is_bracket c) e).0 in
    let harmless : is_harmless c ≡ true = rw (p.lt, p.gt, p.quote, p.tick, shown) refl in
    let plain : not (c == 38) ≡ true = rw p.amp refl in
    inert_more c rest harmless plain h

inert_tick : (b : Bool) (c : ℕ) (rest : List ℕ) → (c == 39) ≡ b → (c == 38) ≡ false → (c == 60) ≡ false
    → (c == 62) ≡ false → (c == 34) ≡ false → is_inert rest ≡ true
    → is_inert ((if b then codes "&#39;" else from_last c) ++ rest) ≡ true
inert_tick true c rest e a l g q h = h
inert_tick false c rest e a l g q h =
    inert_last (is_hidden c || is_bracket c) c rest refl (record { amp = a; lt = l; gt = g; quote = q; tick = e }) h

inert_quote : (b : Bool) (c : ℕ) (rest : List ℕ) → (c == 34) ≡ b → (c == 38) ≡ false → (c == 60) ≡ false
    → (c == 62) ≡ false → is_inert rest ≡ true
    → is_inert ((if b then codes "&quot;" else from_tick c) ++ rest) ≡ true
inert_quote true c rest e a l g h = h
inert_quote false c rest e a l g h = inert_tick (c == 39) c rest refl a l g e h

inert_gt : (b : Bool) (c : ℕ) (rest : List ℕ) → (c == 62) ≡ b → (c == 38) ≡ false → (c == 60) ≡ false → is_inert rest ≡ true
    → is_inert ((if b then codes "&gt;" else from_quote c) ++ rest) ≡ true
inert_gt true c rest e a l h = h
inert_gt false c rest e a l h = inert_quote (c == 34) c rest refl a l e h

inert_lt : (b : Bool) (c : ℕ) (rest : List ℕ) → (c == 60) ≡ b → (c == 38) ≡ false → is_inert rest ≡ true
    → is_inert ((if b then codes "&lt;" else from_gt c) ++ rest) ≡ true
inert_lt true c rest e a h = h
inert_lt false c rest e a h = inert_gt (c == 62) c rest refl a e h

inert_amp : (b : Bool) (c : ℕ) (rest : List ℕ) → (c == 38) ≡ b → is_inert rest ≡ true
    → is_inert ((if b then codes "&amp;" else from_lt c) ++ rest) ≡ true
inert_amp true c rest e h = h
inert_amp false c rest e h = inert_lt (c == 60) c rest refl e h

pub inert_all : (cs : List ℕ) → is_inert (shown_all cs) ≡ true
inert_all [] = refl
inert_all (c ∷ cs) = inert_amp (c == 38) c (shown_all cs) refl (inert_all cs)
