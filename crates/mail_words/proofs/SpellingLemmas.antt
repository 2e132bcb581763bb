-- A word that is found is one that is written there.
use Rattle.std.proofs.Common.{◌≡◌, ℕ, suc, ◌+◌, Bool, true, false, cond, eqb, List, [], ◌∷◌, ◌++◌, length, take, drop, refl, sym, ap, ◌∙◌, arith}
use Rattle.std.proofs.Common.{Option, Some, None, append_assoc, eqb-true, ltb-true, subst, ◌⊎◌, inl, inr}
use Rattle.std.proofs.lemmas.List.{take-append-drop}
use Rattle.std.proofs.lemmas.List.Folds.{length-prefix_len}
use Rattle.std.proofs.lemmas.Bool.{and_parts}
use Rattle.std.specs.Prelude.{option_map, slice_index, nat_lt, ◌&&◌}
use Rattle.std.specs.List.{list_all, prefix_len, take_while}
use Rattle.mail_words.specs.Spans.{StandsIn}
use Rattle.mail_words.specs.Words.{Word, spelling, IsWord, is_charset_octet, is_text_octet, is_encoding, precedes, can_follow, opens, closes}
use Rattle.mail_words.specs.Words.{names_encoding, word_at, if_followed, followed_word_at, or_later, first_word}

-- a prefix of octets that pass, and the rest
run_joined : (p : ℕ → Bool) (bs : List ℕ) → bs ≡ take_while p bs ++ drop (length (take_while p bs)) bs
run_joined p bs = sym (ap (λ n. take_while p bs ++ drop n bs) (length-prefix_len p bs) ∙ take-append-drop (prefix_len p bs) bs)

pub run_passes : (p : ℕ → Bool) (bs : List ℕ) → list_all p (take_while p bs) ≡ true
run_passes p [] = refl
run_passes p (b ∷ bs) = at (p b) refl (run_passes p bs)
  where
    at : (t : Bool) → p b ≡ t → list_all p (take_while p bs) ≡ true → list_all p (take (cond t (1 + prefix_len p bs) 0) (b ∷ bs)) ≡ true
    at true e h = let one : 1 + prefix_len p bs ≡ suc (prefix_len p bs) = omega arith in rw (one, e) h
    at false e h = refl

opens_is : (bs : List ℕ) → opens bs ≡ true → bs ≡ 61 ∷ 63 ∷ drop 2 bs
opens_is [] h = absurd cc
opens_is (a ∷ []) h = absurd cc
opens_is (a ∷ b ∷ bs) h = let parts = and_parts (eqb a 61) (eqb b 63) h in ap (λ x. x ∷ b ∷ bs) (eqb-true a 61 parts.0)
    ∙ ap (λ x. 61 ∷ x ∷ bs) (eqb-true b 63 parts.1)

closes_is : (bs : List ℕ) → closes bs ≡ true → bs ≡ 63 ∷ 61 ∷ drop 2 bs
closes_is [] h = absurd cc
closes_is (a ∷ []) h = absurd cc
closes_is (a ∷ b ∷ bs) h = let parts = and_parts (eqb a 63) (eqb b 61) h in ap (λ x. x ∷ b ∷ bs) (eqb-true a 63 parts.0)
    ∙ ap (λ x. 63 ∷ x ∷ bs) (eqb-true b 61 parts.1)

names_encoding_is : (bs : List ℕ) → names_encoding bs ≡ true → (bs ≡ 63 ∷ slice_index bs 1 ∷ 63 ∷ drop 3 bs) × (is_encoding (slice_index bs 1) ≡ true)
names_encoding_is [] h = absurd cc
names_encoding_is (a ∷ []) h = absurd cc
names_encoding_is (a ∷ b ∷ []) h = absurd cc
names_encoding_is (a ∷ b ∷ c ∷ bs) h =
    let parts = and_parts (eqb a 63 && is_encoding b) (eqb c 63) h in
    let first = and_parts (eqb a 63) (is_encoding b) parts.0 in
    (ap (λ x. x ∷ b ∷ c ∷ bs) (eqb-true a 63 first.0) ∙ ap (λ x. 63 ∷ b ∷ x ∷ bs) (eqb-true c 63 parts.1), first.1)

-- a word at the front, written there
pub record Spelled (bs : List ℕ) (w : Word) (after : List ℕ) : Type 0 where
  pub joined : bs ≡ spelling w ++ after
  pub word : IsWord w

Spelled-of : (bs : List ℕ) (w v : Word) (after rest : List ℕ) → Spelled bs w after → w ≡ v → after ≡ rest → Spelled bs v rest
Spelled-of bs w v after rest h e f = record {
  joined = h.joined ∙ ap (λ x. spelling x ++ after) e
      ∙ ap (λ x. spelling v ++ x) f;
  word = let P : Word → Type 0 = λ x. IsWord x in subst P e h.word;
}

chosen_pair : {X Y : Type 0} (t : Bool) (x : X) (y : Y) (p : X × Y) → cond t (Some (x, y)) None ≡ Some p → (t ≡ true) × (x ≡ p.0) × (y ≡ p.1)
chosen_pair true x y p h = (refl, cc, cc)
chosen_pair false x y p h = absurd cc

pub word_at-spelled : (bs : List ℕ) (found : Word × List ℕ) → word_at bs ≡ Some found → Spelled bs found.0 found.1
unfolding word_at
word_at-spelled bs found h =
    let opened = drop 2 bs in
    let charset = take_while is_charset_octet opened in
    let encoded = drop (length charset) opened in
    let rest = drop 3 encoded in
    let text = take_while is_text_octet rest in
    let closed = drop (length text) rest in
    let w : Word = record { charset = charset; encoding = slice_index encoded 1; text = text } in
    let whole = chosen_pair (opens bs && nat_lt 0 (length charset) && names_encoding encoded && nat_lt 0 (length text)
    && closes closed) w (drop 2 closed) found h in
    let four = and_parts (opens bs && nat_lt 0 (length charset) && names_encoding encoded && nat_lt 0 (length text)) (closes closed) whole.0 in
    let three = and_parts (opens bs && nat_lt 0 (length charset) && names_encoding encoded) (nat_lt 0 (length text)) four.0 in
    let two = and_parts (opens bs && nat_lt 0 (length charset)) (names_encoding encoded) three.0 in
    let one = and_parts (opens bs) (nat_lt 0 (length charset)) two.0 in
    let encoding = names_encoding_is encoded two.1 in
    let tail : rest ≡ text ++ 63 ∷ 61 ∷ drop 2 closed = run_joined is_text_octet rest ∙ ap (λ x. text ++ x) (closes_is closed four.1) in
    let front : bs ≡ 61 ∷ 63 ∷ (charset ++ 63 ∷ slice_index encoded 1 ∷ 63 ∷ (text ++ 63 ∷ 61 ∷ drop 2 closed)) =
    opens_is bs one.0 ∙ ap (λ x. 61 ∷ 63 ∷ x) (run_joined is_charset_octet opened
    ∙ ap (λ x. charset ++ x) (encoding.0 ∙ ap (λ x. 63 ∷ slice_index encoded 1 ∷ 63 ∷ x) tail)) in
    let inner : (text ++ 63 ∷ 61 ∷ []) ++ drop 2 closed ≡ text ++ 63 ∷ 61 ∷ drop 2 closed = append_assoc text (63 ∷ 61 ∷ []) (drop 2 closed) in
    let outer : spelling w
    ++ drop 2 closed ≡ 61 ∷ 63 ∷ (charset ++ 63 ∷ slice_index encoded 1 ∷ 63 ∷ ((text ++ 63 ∷ 61 ∷ [])
    ++ drop 2 closed)) =
    ap (λ x. 61 ∷ 63 ∷ x) (append_assoc charset (63 ∷ slice_index encoded 1 ∷ 63 ∷ (text
    ++ 63 ∷ 61 ∷ [])) (drop 2 closed)) in
    let spelled : Spelled bs w (drop 2 closed) = record {
      joined = front ∙ ap (λ x. 61 ∷ 63 ∷ (charset ++ 63 ∷ slice_index encoded 1 ∷ 63 ∷ x)) (sym inner) ∙ sym outer;
      word = record {
        some_charset = ltb-true 0 (length charset) one.1;
        charset = run_passes is_charset_octet opened;
        encoding = encoding.1;
        some_text = ltb-true 0 (length text) three.1;
        text = run_passes is_text_octet rest;
      };
    } in
    Spelled-of bs w found.0 (drop 2 closed) found.1 spelled whole.1 whole.2

followed-spelled : (o : Option (Word × List ℕ)) (found : Word × List ℕ) → if_followed o ≡ Some found → (o ≡ Some found) × (can_follow found.1 ≡ true)
followed-spelled None found h = absurd cc
followed-spelled (Some w) found h = at (can_follow w.1) refl h
  where
    at : (t : Bool) → can_follow w.1 ≡ t → cond t (Some w) None ≡ Some found → (Some w ≡ Some found) × (can_follow found.1 ≡ true)
    at true e k = let same : w ≡ found = cc in (k, ap (λ x. can_follow x.1) (sym same) ∙ e)
    at false e k = absurd cc

abbrev pub Found : Type 0
Found = List ℕ × Word × List ℕ

from_more : (b : ℕ) (more : Option Found) (f : Found) → option_map (λ g. (b ∷ g.0, g.1, g.2)) more ≡ Some f
    → (g : Found) × (more ≡ Some g) × (f ≡ (b ∷ g.0, g.1, g.2))
from_more b None f h = absurd cc
from_more b (Some g) f h = (g, refl, cc)

-- a word is found at the front, or later
pub step_cases : (t : Bool) (o : Option (Word × List ℕ)) (b : ℕ) (more : Option Found) (f : Found)
    → or_later (cond t o None) b more ≡ Some f
    → ((w : Word × List ℕ) × (t ≡ true) × (o ≡ Some w) × (f ≡ ([], w.0, w.1))) ⊎ ((g : Found) × (more ≡ Some g)
    × (f ≡ (b ∷ g.0, g.1, g.2)))
step_cases true (Some w) b more f h = inl (w, refl, refl, cc)
step_cases true None b more f h = inr (from_more b more f h)
step_cases false o b more f h = inr (from_more b more f h)

pub first_word-stands : (start : Bool) (bs : List ℕ) (f : Found) → first_word start bs ≡ Some f → StandsIn start bs f.0 f.1 f.2
unfolding first_word
first_word-stands start [] f h = absurd cc
first_word-stands start (b ∷ bs) f h =
    at (step_cases start (followed_word_at (b ∷ bs)) b (first_word (precedes b) bs) f h) (λ g k.
    first_word-stands (precedes b) bs g k)
  where
    at : ((w : Word × List ℕ) × (start ≡ true) × (followed_word_at (b ∷ bs) ≡ Some w)
        × (f ≡ ([], w.0, w.1))) ⊎ ((g : Found) × (first_word (precedes b) bs ≡ Some g) × (f ≡ (b ∷ g.0, g.1, g.2)))
        → ((g : Found) → first_word (precedes b) bs ≡ Some g → StandsIn (precedes b) bs g.0 g.1 g.2)
        → StandsIn start (b ∷ bs) f.0 f.1 f.2
    at (inl (w, begins, found, e)) more =
        let front = followed-spelled (word_at (b ∷ bs)) w found in
        let spelled = word_at-spelled (b ∷ bs) w front.0 in
        let P : Found → Type 0 = λ x. StandsIn start (b ∷ bs) x.0 x.1 x.2 in
        let here : P ([], w.0, w.1) = record { joined = spelled.joined; word = spelled.word; begins = begins; ends = front.1 } in
        subst P (sym e) here
    at (inr (g, found, e)) more =
        let later = more g found in
        let P : Found → Type 0 = λ x. StandsIn start (b ∷ bs) x.0 x.1 x.2 in
        let here : P (b ∷ g.0, g.1, g.2) = record {
          joined = ap (λ x. b ∷ x) later.joined;
          word = later.word;
          begins =
              later.begins;
          ends = later.ends;
        } in
        subst P (sym e) here

-- what a search that found a word says about the text
pub first_word-spelled : (bs gap after : List ℕ) (w : Word) → Some (gap, w, after) ≡ first_word true bs → bs ≡ gap ++ (spelling w ++ after)
first_word-spelled bs gap after w h = (first_word-stands true bs (gap, w, after) (sym h)).joined
