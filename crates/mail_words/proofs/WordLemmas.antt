-- The first word that stands in a folded text, looked for at each "=".
use Rattle.std.proofs.Common.{◌≡◌, ◌≢◌, ℕ, zero, suc, ◌+◌, ◌-◌, ◌<◌, ◌≤◌, Bool, true, false, cond, eqb, List, [], ◌∷◌, ◌++◌, length, take, drop, refl}
use Rattle.std.proofs.Common.{sym, ap, ◌∙◌, arith, get_or, Option, Some, None, append_assoc, ne_eqb, eqb-true, eq-eqb}
use Rattle.std.proofs.lemmas.List.{append-nil, drop_more, length-drop, drop-drop, get_or-drop, take_rest, take_more, take_all, take-append-drop}
use Rattle.std.proofs.Math.Seq.{take-add}
use Rattle.std.proofs.lemmas.Bool.{and_parts, not-true}
use Rattle.std.specs.Prelude.{option_map, not, ◌&&◌, ◌||◌}
use Rattle.std.specs.List.{list_all}
use Rattle.memchr.specs.Find.{IsFirstByte, is_byte}
use Rattle.mail_words.specs.Unfolding.{begins_with, without_line_ends}
use Rattle.mail_words.specs.Spans.{may_stand_after}
use Rattle.mail_words.specs.Words.{Word, precedes, opens, word_at, followed_word_at, or_later, first_word}
use Rattle.mail_words.proofs.FoldedLemmas.{last_is, last-snoc, unfolded-append, unfolded-before, unfolded-snoc}

abbrev pub Standing : Type 0
Standing = List ℕ × Word × List ℕ

-- a word that is found after some more octets
abbrev pub following : List ℕ → Standing → Standing
following front f = (front ++ f.0, f.1, f.2)

following-nil : (o : Option Standing) → o ≡ option_map (following []) o
following-nil None = refl
following-nil (Some f) = refl

following-cons : (b : ℕ) (front : List ℕ) (o : Option Standing)
    → option_map (λ f. (b ∷ f.0, f.1, f.2)) (option_map (following front) o) ≡ option_map (following (b ∷ front)) o
following-cons b front None = refl
following-cons b front (Some f) = refl

following-append : (xs ys : List ℕ) (o : Option Standing) → option_map (following xs) (option_map (following ys) o)
    ≡ option_map (following (xs ++ ys)) o
following-append xs ys None = refl
following-append xs ys (Some f) = ap (λ gap. Some (gap, f.1, f.2)) (sym (append_assoc xs ys f.0))

cond_none : {X : Type 0} (t : Bool) (o : Option X) → o ≡ None → cond t o None ≡ None
cond_none true o e = e
cond_none false o e = refl

-- a word begins with "=" only
opens_no : (b : ℕ) (bs : List ℕ) → eqb b 61 ≡ false → opens (b ∷ bs) ≡ false
opens_no b [] e = refl
opens_no b (c ∷ cs) e = rw e refl

no_word_at : (b : ℕ) (bs : List ℕ) → eqb b 61 ≡ false → followed_word_at (b ∷ bs) ≡ None
unfolding word_at
no_word_at b bs e = rw (opens_no b bs e) refl

-- octets without "="
abbrev is_other : ℕ → Bool
is_other b = not (eqb b 61)

skip : (xs ys : List ℕ) (start : Bool) → list_all is_other xs ≡ true
    → first_word start (xs ++ ys) ≡ option_map (following xs) (first_word (may_stand_after start xs) ys)
unfolding first_word
skip [] ys start h = following-nil (first_word start ys)
skip (b ∷ bs) ys start h =
    let parts = and_parts (is_other b) (list_all is_other bs) h in
    let here : cond start (followed_word_at (b ∷ (bs ++ ys))) None ≡ None =
    cond_none start (followed_word_at (b ∷ (bs ++ ys))) (no_word_at b (bs ++ ys) (not-true (eqb b 61) parts.0)) in
    ap (λ o. or_later o b (first_word (precedes b) (bs ++ ys))) here
    ∙ ap (option_map (λ f. (b ∷ f.0, f.1, f.2))) (skip bs ys (precedes b) parts.1)
    ∙ following-cons b bs (first_word (may_stand_after (precedes b) bs) ys)

first_word-none : (xs : List ℕ) (start : Bool) → list_all is_other xs ≡ true → first_word start xs ≡ None
unfolding first_word
first_word-none xs start h = ap (first_word start) (sym (append-nil xs)) ∙ skip xs [] start h

-- a part of octets without "=" has none
pass_cond : (t : Bool) (b : ℕ) (xs : List ℕ) → is_other b ≡ true → list_all is_other xs ≡ true → list_all is_other (cond t xs (b ∷ xs)) ≡ true
pass_cond true b xs h k = k
pass_cond false b xs h k = rw (h, k) refl

others : (k : ℕ) (xs : List ℕ) → k ≤ length xs → ((j : ℕ) → j < k → get_or xs j 0 ≢ 61) → list_all is_other (without_line_ends (take k xs)) ≡ true
unfolding without_line_ends
others zero xs h none = refl
others (suc k) [] h none = refl
others (suc k) (b ∷ bs) h none =
    pass_cond (eqb b 10 || (eqb b 13 && begins_with 10 (take k bs))) b (without_line_ends (take k bs))
    (rw (ne_eqb b 61 (none 0 (omega arith))) refl) (others k bs (omega arith) (λ j below. none (suc j) (omega arith)))

-- no word stands in the first octets of a text
pub record Searched (text : List ℕ) (from : ℕ) : Type 0 where
  pub within : from ≤ length text
  pub apart : last_is 13 (take from text) ≡ false
  pub same : first_word true (without_line_ends text)
      ≡ option_map (following (without_line_ends (take from text)))
      (first_word (may_stand_after true (without_line_ends (take from text))) (without_line_ends (drop from text)))

pub Searched-none : (text : List ℕ) → Searched text 0
unfolding without_line_ends
Searched-none text = record { within = omega arith; apart = refl; same = following-nil (first_word true (without_line_ends text)) }

may_stand-append : (start : Bool) (xs ys : List ℕ) → may_stand_after start (xs ++ ys) ≡ may_stand_after (may_stand_after start xs) ys
may_stand-append start [] ys = refl
may_stand-append start (x ∷ xs) ys = may_stand-append (precedes x) xs ys

pub may_stand-last : (xs : List ℕ) (b : ℕ) → may_stand_after true (xs ++ b ∷ []) ≡ precedes b
may_stand-last xs b = may_stand-append true xs (b ∷ [])

-- the same, where a "=" stands
pub record Placed (text : List ℕ) (place : ℕ) : Type 0 where
  pub high : place < length text
  pub at : get_or text place 0 ≡ 61
  pub same : first_word true (without_line_ends text)
      ≡ option_map (following (without_line_ends (take place text)))
      (first_word (may_stand_after true (without_line_ends (take place text))) (without_line_ends (drop place text)))

split_at : (text : List ℕ) (place : ℕ) → place < length text → get_or text place 0 ≡ 61 → drop place text ≡ 61 ∷ drop (place + 1) text
split_at text place h e = drop_more text place 0 h ∙ ap (λ b. b ∷ drop (place + 1) text) e

Placed-to : (text : List ℕ) (from k : ℕ) → Searched text from → k < length (drop from text)
    → ((j : ℕ) → j < k → get_or (drop from text) j 0 ≢ 61) → get_or (drop from text) k 0 ≡ 61 → Placed text (from + k)
Placed-to text from k h within none at =
    let rest : List ℕ = drop from text in
    let long = length-drop from text in
    let high : from + k < length text = omega (arith, h.within) in
    let place : get_or text (from + k) 0 ≡ 61 = sym (get_or-drop from text k 0) ∙ at in
    let tail : drop k rest ≡ 61 ∷ drop (k + 1) rest = split_at rest k within at in
    let cut : without_line_ends rest ≡ without_line_ends (take k rest) ++ without_line_ends (drop k rest) =
    ap without_line_ends (sym (take-append-drop k rest))
    ∙ unfolded-before (take k rest) (drop k rest) (ap (begins_with 10) tail) in
    let seen : without_line_ends (take (from + k) text) ≡ without_line_ends (take from text)
    ++ without_line_ends (take k rest) = ap without_line_ends (take-add from k text)
    ∙ unfolded-append (take from text) (take k rest) (rw h.apart refl) in
    let skipped =
    skip (without_line_ends (take k rest)) (without_line_ends (drop k rest))
    (may_stand_after true (without_line_ends (take from text))) (others k rest (omega arith) none) in
    let start : may_stand_after (may_stand_after true (without_line_ends (take from text)))
    (without_line_ends (take k rest)) ≡ may_stand_after true (without_line_ends (take (from + k) text)) =
    sym (may_stand-append true (without_line_ends (take from text)) (without_line_ends (take k rest)))
    ∙ ap (may_stand_after true) (sym seen) in
    let there : drop k rest ≡ drop (from + k) text = drop-drop k from text in
    record {
      high = high;
      at = place;
      same = h.same
          ∙ ap (λ us. option_map (following (without_line_ends (take from text)))
          (first_word (may_stand_after true (without_line_ends (take from text))) us)) cut
          ∙ ap (option_map (following (without_line_ends (take from text)))) skipped
          ∙ following-append (without_line_ends (take from text)) (without_line_ends (take k rest))
          (first_word (may_stand_after (may_stand_after true (without_line_ends (take from text)))
          (without_line_ends (take k rest))) (without_line_ends (drop k rest)))
          ∙ ap (λ xs. option_map (following xs)
          (first_word (may_stand_after (may_stand_after true (without_line_ends (take from text)))
          (without_line_ends (take k rest))) (without_line_ends (drop k rest)))) (sym seen)
          ∙ ap (λ t. option_map (following (without_line_ends (take (from + k) text)))
          (first_word t (without_line_ends (drop k rest)))) start
          ∙ ap (λ xs. option_map (following (without_line_ends (take (from + k) text)))
          (first_word (may_stand_after true (without_line_ends (take (from + k) text))) (without_line_ends xs))) there;
    }

-- a search for "=" in the rest of a text
pub Placed-found : (text : List ℕ) (from k : ℕ) → Searched text from
    → IsFirstByte (is_byte 61) (take (length text - from) (drop from text)) (Some k) → Placed text (from + k)
Placed-found text from k h found =
    let first : IsFirstByte (is_byte 61) (drop from text) (Some k) = rw (take_rest text from) at found in
    Placed-to text from k h first.0.high (λ j below same.
    first.0.before j (omega arith) below (eq-eqb (get_or (drop from text) j 0) 61 same))
    (eqb-true (get_or (drop from text) k 0) 61 first.1)

pub Searched-end : (text : List ℕ) (from : ℕ) → Searched text from
    → IsFirstByte (is_byte 61) (take (length text - from) (drop from text)) None
    → None ≡ first_word true (without_line_ends text)
Searched-end text from h found =
    let none : IsFirstByte (is_byte 61) (drop from text) None = rw (take_rest text from) at found in
    let all : take (length (drop from text)) (drop from text) ≡ drop from text = take_all (length (drop from text)) (drop from text) (omega arith) in
    let rest : list_all is_other (without_line_ends (drop from text)) ≡ true =
    ap (λ xs. list_all is_other (without_line_ends xs)) (sym all)
    ∙ others (length (drop from text)) (drop from text) (omega arith) (λ j below same.
    none j (omega arith) below (eq-eqb (get_or (drop from text) j 0) 61 same)) in
    sym (h.same ∙
    ap (option_map (following (without_line_ends (take from text))))
    (first_word-none (without_line_ends (drop from text))
    (may_stand_after true (without_line_ends (take from text))) rest))

unfolded-at : (text rest : List ℕ) (place : ℕ) → Placed text place → rest ≡ drop place text
    → without_line_ends rest ≡ 61 ∷ without_line_ends (drop (place + 1) text)
unfolding without_line_ends
unfolded-at text rest place h e = ap without_line_ends (e ∙ split_at text place h.high h.at)

pub Placed-word : (text gap rest : List ℕ) (place : ℕ) (w : Word) (after : List ℕ) → Placed text place
    → true ≡ may_stand_after true (without_line_ends gap) → gap ≡ take place text → rest ≡ drop place text
    → Some (w, after) ≡ followed_word_at (without_line_ends rest)
    → Some (without_line_ends gap, w, after) ≡ first_word true (without_line_ends text)
unfolding first_word
Placed-word text gap rest place w after h may eg er found =
    let us : List ℕ = without_line_ends (drop (place + 1) text) in
    let here : without_line_ends rest ≡ 61 ∷ us = unfolded-at text rest place h er in
    let front : followed_word_at (61 ∷ us) ≡ Some (w, after) = ap followed_word_at (sym here) ∙ sym found in
    let word : first_word true (61 ∷ us) ≡ Some ([], w, after) = ap (λ o. or_later o 61 (first_word (precedes 61) us)) front in
    let whole : first_word (may_stand_after true (without_line_ends gap)) (without_line_ends rest)
    ≡ Some ([], w, after) = ap (λ t. first_word t (without_line_ends rest)) (sym may) ∙ ap (first_word true) here
    ∙ word in
    sym (h.same ∙
    ap (λ xs. option_map (following (without_line_ends xs))
    (first_word (may_stand_after true (without_line_ends xs)) (without_line_ends (drop place text)))) (sym eg)
    ∙ ap (λ xs. option_map (following (without_line_ends gap))
    (first_word (may_stand_after true (without_line_ends gap)) (without_line_ends xs))) (sym er)
    ∙ ap (option_map (following (without_line_ends gap))) whole
    ∙ ap (λ xs. Some (xs, w, after)) (append-nil (without_line_ends gap)))

Placed-step : (text gap rest : List ℕ) (place : ℕ) → Placed text place → gap ≡ take place text → rest ≡ drop place text
    → cond (may_stand_after true (without_line_ends gap)) (followed_word_at (without_line_ends rest)) None ≡ None
    → Searched text (place + 1)
unfolding first_word
Placed-step text gap rest place h eg er none =
    let us : List ℕ = without_line_ends (drop (place + 1) text) in
    let start : Bool = may_stand_after true (without_line_ends gap) in
    let here : without_line_ends rest ≡ 61 ∷ us = unfolded-at text rest place h er in
    let no : cond start (followed_word_at (61 ∷ us)) None ≡ None = ap (λ xs. cond start (followed_word_at xs) None) (sym here) ∙ none in
    let front : take (place + 1) text ≡ gap ++ 61 ∷ [] = take_more text place 0 h.high
    ∙ ap (λ b. take place text ++ b ∷ []) h.at ∙ ap (λ xs. xs ++ 61 ∷ []) (sym eg) in
    let seen : without_line_ends (take (place + 1) text) ≡ without_line_ends gap ++ 61 ∷ [] = ap without_line_ends front
    ∙ unfolded-snoc gap 61 refl in
    let later : first_word start (61 ∷ us) ≡ option_map (following (61 ∷ [])) (first_word (precedes 61) us) =
    ap (λ o. or_later o 61 (first_word (precedes 61) us)) no in
    let next : precedes 61 ≡ may_stand_after true (without_line_ends (take (place + 1) text)) =
    sym (may_stand-last (without_line_ends gap) 61) ∙ ap (may_stand_after true) (sym seen) in
    record {
      within = omega (arith, h.high);
      apart = ap (last_is 13) front ∙ last-snoc 13 gap 61;
      same = h.same
          ∙ ap (λ xs. option_map (following (without_line_ends xs))
          (first_word (may_stand_after true (without_line_ends xs)) (without_line_ends (drop place text)))) (sym eg)
          ∙ ap (λ xs. option_map (following (without_line_ends gap)) (first_word start (without_line_ends xs))) (sym er)
          ∙ ap (λ xs. option_map (following (without_line_ends gap)) (first_word start xs)) here
          ∙ ap (option_map (following (without_line_ends gap))) later
          ∙ following-append (without_line_ends gap) (61 ∷ []) (first_word (precedes 61) us)
          ∙ ap (λ xs. option_map (following xs) (first_word (precedes 61) us)) (sym seen)
          ∙ ap (λ t. option_map (following (without_line_ends (take (place + 1) text))) (first_word t us)) next;
    }

pub Placed-no : (text gap rest : List ℕ) (place : ℕ) → Placed text place → gap ≡ take place text
    → rest ≡ drop place text → false ≡ may_stand_after true (without_line_ends gap) → Searched text (place + 1)
Placed-no text gap rest place h eg er may =
    Placed-step text gap rest place h eg er (ap (λ t. cond t (followed_word_at (without_line_ends rest)) None)
    (sym may))

pub Placed-other : (text gap rest : List ℕ) (place : ℕ) → Placed text place → gap ≡ take place text
    → rest ≡ drop place text → None ≡ followed_word_at (without_line_ends rest) → Searched text (place + 1)
Placed-other text gap rest place h eg er none =
    Placed-step text gap rest place h eg er (cond_none (may_stand_after true (without_line_ends gap))
    (followed_word_at (without_line_ends rest)) (sym none))
