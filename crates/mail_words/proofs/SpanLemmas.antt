-- The cut of a text has all words that stand in it, and no other.
use Rattle.std.proofs.Common.{◌≡◌, ℕ, zero, suc, ◌<◌, ◌≤◌, Bool, true, false, cond, eqb, List, [], ◌∷◌, ◌++◌, length, refl, sym, ap, ◌∙◌}
use Rattle.std.proofs.Common.{subst, arith, Option, Some, None, append_assoc, eqb-true, get_or}
use Rattle.std.proofs.lemmas.List.{append-nil, length-append, append_cancel_left}
use Rattle.std.proofs.lemmas.Bool.{and_parts}
use Rattle.std.specs.Prelude.{option_map, nat_lt, not, ◌==◌}
use Rattle.std.specs.List.{list_all, prefix_len}
use Rattle.std.proofs.Math.Seq.{drop-append_seam, take-append_seam}
use Rattle.mail_words.specs.Words.{Word, spelling, IsWord, is_charset_octet, is_text_octet, is_encoding, precedes}
use Rattle.mail_words.specs.Words.{can_follow, word_at, if_followed, followed_word_at, or_later, first_word}
use Rattle.mail_words.specs.Value.{Cut, cut_at, cut_words}
use Rattle.mail_words.specs.Spans.{may_stand_after, StandsIn, concatenation, IsCutOf, StandApart}
use Rattle.mail_words.proofs.SpellingLemmas.{Found, first_word-stands}

-- a prefix of octets that pass, before one that does not, is all of it
run_stops : (p : ℕ → Bool) (xs : List ℕ) (y : ℕ) (ys : List ℕ) → list_all p xs ≡ true → p y ≡ false → prefix_len p (xs ++ y ∷ ys) ≡ length xs
run_stops p [] y ys h k = rw k refl
run_stops p (x ∷ xs) y ys h k =
    let parts = and_parts (p x) (list_all p xs) h in
    rw (parts.0, run_stops p xs y ys parts.1 k) (omega arith)

some_length : (xs : List ℕ) → 0 < length xs → nat_lt 0 (length xs) ≡ true
some_length xs h = grind arith

-- the octets of a word as they are written, with the text after it
word_written : (w : Word) (after : List ℕ) → spelling w ++ after ≡ 61 ∷ 63 ∷ (w.charset ++ 63 ∷ w.encoding ∷ 63 ∷ (w.text ++ 63 ∷ 61 ∷ after))
word_written w after =
    ap (λ x. 61 ∷ 63 ∷ x) (append_assoc w.charset (63 ∷ w.encoding ∷ 63 ∷ (w.text ++ 63 ∷ 61 ∷ [])) after)
    ∙ ap (λ x. 61 ∷ 63 ∷ (w.charset ++ 63 ∷ w.encoding ∷ 63 ∷ x)) (append_assoc w.text (63 ∷ 61 ∷ []) after)

-- a word that is written is found
pub word_at-written : (w : Word) (after : List ℕ) → IsWord w
    → word_at (61 ∷ 63 ∷ (w.charset ++ 63 ∷ w.encoding ∷ 63 ∷ (w.text ++ 63 ∷ 61 ∷ after))) ≡ Some (w, after)
unfolding word_at
word_at-written w after h =
    let tail = w.text ++ 63 ∷ 61 ∷ after in
    let charset : prefix_len is_charset_octet (w.charset ++ 63 ∷ w.encoding ∷ 63 ∷ tail) ≡ length w.charset =
    run_stops is_charset_octet w.charset 63 (w.encoding ∷ 63 ∷ tail) h.charset refl in
    let text : prefix_len is_text_octet tail ≡ length w.text = run_stops is_text_octet w.text 63 (61 ∷ after) h.text refl in
    rw (
      charset,
      take-append_seam w.charset (63 ∷ w.encoding ∷ 63 ∷ tail),
      drop-append_seam w.charset (63 ∷ w.encoding ∷ 63 ∷ tail),
      text,
      take-append_seam w.text (63 ∷ 61 ∷ after),
      drop-append_seam w.text (63 ∷ 61 ∷ after),
      some_length w.charset h.some_charset,
      some_length w.text h.some_text,
      h.encoding,
    ) refl

word_at-spelling : (w : Word) (after : List ℕ) → IsWord w → word_at (spelling w ++ after) ≡ Some (w, after)
word_at-spelling w after h = ap word_at (word_written w after) ∙ word_at-written w after h

followed-written : (w : Word) (after : List ℕ) → IsWord w → can_follow after ≡ true → followed_word_at (spelling w ++ after) ≡ Some (w, after)
followed-written w after h k = ap if_followed (word_at-spelling w after h) ∙ rw k refl

-- a search finds a word no later than one that stands there
abbrev pub NoLater : Option Found → ℕ → Type 0
NoLater o n = (f : Found) × (o ≡ Some f) × (length f.0 ≤ n)

later_no : (o : Option (Word × List ℕ)) (b n : ℕ) (more : Option Found) → NoLater more n → NoLater (or_later o b more) (suc n)
later_no (Some w) b n more h = (([], w.0, w.1), refl, omega arith)
later_no None b n more h = ((b ∷ h.0.0, h.0.1, h.0.2), ap (option_map (λ f. (b ∷ f.0, f.1, f.2))) h.1, omega (arith, h.2))

pub finds : (start : Bool) (text before : List ℕ) (w : Word) (after : List ℕ) → text ≡ before ++ (spelling w ++ after)
    → IsWord w → may_stand_after start before ≡ true → can_follow after ≡ true
    → NoLater (first_word start text) (length before)
unfolding first_word
finds start text [] w after e h begins ends =
    let found : followed_word_at (spelling w ++ after) ≡ Some (w, after) = followed-written w after h ends in
    (([], w, after), ap (first_word start) e ∙ rw (begins, found) refl, omega arith)
finds start text (b ∷ before) w after e h begins ends =
    let more = finds (precedes b) (before ++ (spelling w ++ after)) before w after refl h begins ends in
    let step = later_no (cond start (followed_word_at (b ∷ before ++ (spelling w ++ after))) None) b (length before)
    (first_word (precedes b) (before ++ (spelling w ++ after))) more in
    (step.0, ap (first_word start) e ∙ step.1, step.2)

-- two ways to cut a text
cut_twice : (xs ys zs ws : List ℕ) → xs ++ ys ≡ zs ++ ws → length xs ≤ length zs → (pre : List ℕ) × (zs ≡ xs ++ pre) × (ys ≡ pre ++ ws)
cut_twice [] ys zs ws e h = (zs, refl, e)
cut_twice (x ∷ xs) ys [] ws e h = absurd (omega arith)
cut_twice (x ∷ xs) ys (z ∷ zs) ws e h =
    let first : x ≡ z = cc in
    let rest : xs ++ ys ≡ zs ++ ws = cc in
    let more = cut_twice xs ys zs ws rest (omega arith) in
    (more.0, ap (λ a. a ∷ zs) (sym first) ∙ ap (λ a. x ∷ a) more.1, more.2)

-- no word begins in octets that are no "="
skip_plain : (xs ys pre rest : List ℕ) → xs ++ ys ≡ pre ++ 61 ∷ rest → list_all (λ b. not (b == 61)) xs ≡ true
    → (more : List ℕ) × (pre ≡ xs ++ more) × (ys ≡ more ++ 61 ∷ rest)
skip_plain [] ys pre rest e h = (pre, refl, e)
skip_plain (x ∷ xs) ys [] rest e h =
    let is : x ≡ 61 = cc in
    let no : not (x == 61) ≡ true = (and_parts (not (x == 61)) (list_all (λ b. not (b == 61)) xs) h).0 in
    absurd (false_true (rw is at no))
  where
    false_true : false ≡ true → ⊥
    false_true k = absurd cc
skip_plain (x ∷ xs) ys (p ∷ pre) rest e h =
    let first : x ≡ p = cc in
    let more = skip_plain xs ys pre rest (cc) (and_parts (not (x == 61)) (list_all (λ b. not (b == 61)) xs) h).1 in
    (more.0, ap (λ a. a ∷ pre) (sym first) ∙ ap (λ a. x ∷ a) more.1, more.2)

-- nor in encoded text, which has no "?": after "=?" a charset begins, and that begins with no "="
skip_text : (xs ys pre rest : List ℕ) (c : ℕ) → xs ++ 63 ∷ 61 ∷ ys ≡ pre ++ 61 ∷ 63 ∷ c ∷ rest
    → list_all is_text_octet xs ≡ true → eqb c 61 ≡ false → (more : List ℕ) × (pre ≡ xs ++ more)
    × (63 ∷ 61 ∷ ys ≡ more ++ 61 ∷ 63 ∷ c ∷ rest)
skip_text [] ys pre rest c e h k = (pre, refl, e)
skip_text (x ∷ []) ys [] rest c e h k =
    let is : c ≡ 61 = cc in
    absurd (no_test (rw is at k))
  where
    no_test : true ≡ false → ⊥
    no_test j = absurd cc
skip_text (x ∷ y ∷ xs) ys [] rest c e h k =
    let is : y ≡ 63 = cc in
    let passes : is_text_octet y ≡ true =
    (and_parts (is_text_octet y) (list_all is_text_octet xs)
    (and_parts (is_text_octet x) (list_all is_text_octet (y ∷ xs)) h).1).0 in
    absurd (no_test (rw is at passes))
  where
    no_test : false ≡ true → ⊥
    no_test j = absurd cc
skip_text (x ∷ xs) ys (p ∷ pre) rest c e h k =
    let first : x ≡ p = cc in
    let more = skip_text xs ys pre rest c (cc) (and_parts (is_text_octet x) (list_all is_text_octet xs) h).1 k in
    (more.0, ap (λ a. a ∷ pre) (sym first) ∙ ap (λ a. x ∷ a) more.1, more.2)

-- the octets of a charset and the letter of an encoding are no "="
no_truth : false ≡ true → ⊥
no_truth k = absurd cc

charset_octet : (x : ℕ) (t : Bool) → eqb x 61 ≡ t → is_charset_octet x ≡ true → not t ≡ true
charset_octet x false e k = refl
charset_octet x true e k = let is : x ≡ 61 = eqb-true x 61 e in absurd (no_truth (rw is at k))

encoding_letter : (x : ℕ) (t : Bool) → eqb x 61 ≡ t → is_encoding x ≡ true → not t ≡ true
encoding_letter x false e k = refl
encoding_letter x true e k = let is : x ≡ 61 = eqb-true x 61 e in absurd (no_truth (rw is at k))

charset_plain : (xs : List ℕ) (e : ℕ) → list_all is_charset_octet xs ≡ true → is_encoding e ≡ true
    → list_all (λ b. not (b == 61)) (xs ++ 63 ∷ e ∷ 63 ∷ []) ≡ true
charset_plain [] e h k = rw (encoding_letter e (eqb e 61) refl k) refl
charset_plain (x ∷ xs) e h k =
    let parts = and_parts (is_charset_octet x) (list_all is_charset_octet xs) h in
    rw (charset_octet x (eqb x 61) refl parts.0, charset_plain xs e parts.1 k) refl

first_of : (p : ℕ → Bool) (xs : List ℕ) → 0 < length xs → list_all p xs ≡ true → (c : ℕ) × (cs : List ℕ) × (xs ≡ c ∷ cs) × (p c ≡ true)
first_of p [] some h = absurd (omega arith)
first_of p (x ∷ xs) some h = (x, xs, refl, (and_parts (p x) (list_all p xs) h).0)

charset_first : (c : ℕ) (t : Bool) → eqb c 61 ≡ t → is_charset_octet c ≡ true → eqb c 61 ≡ false
charset_first c false e k = e
charset_first c true e k = let is : c ≡ 61 = eqb-true c 61 e in absurd (no_truth (rw is at k))

-- no word begins within the "?=" that ends another
after_end : (m : List ℕ) (after : List ℕ) (rest : List ℕ) → 63 ∷ 61 ∷ after ≡ m ++ 61 ∷ 63 ∷ rest
    → can_follow after ≡ true → (gap : List ℕ) × (m ≡ 63 ∷ 61 ∷ gap) × (after ≡ gap ++ 61 ∷ 63 ∷ rest)
after_end [] after rest e k = let no : get_or (63 ∷ 61 ∷ after) 0 0 ≡ get_or (61 ∷ 63 ∷ rest) 0 0 =
    ap (λ x. get_or x 0 0) e in absurd (omega (arith, no))
after_end (a ∷ []) after rest e k =
    let is : after ≡ 63 ∷ rest = cc in
    absurd (no_truth (rw is at k))
after_end (a ∷ b ∷ m) after rest e k =
    let one : 63 ≡ a = cc in
    let two : 61 ≡ b = cc in
    let more : after ≡ m ++ 61 ∷ 63 ∷ rest = cc in
    (m, ap (λ x. x ∷ b ∷ m) (sym one) ∙ ap (λ x. 63 ∷ x ∷ m) (sym two), more)

-- a word that begins after the first octet of another begins at or after its end
apart : (w u : Word) (after rest : List ℕ) (b : ℕ) (more : List ℕ) → spelling w ++ after ≡ (b ∷ more)
    ++ (spelling u ++ rest) → IsWord w → IsWord u → can_follow after ≡ true → (gap : List ℕ)
    × (b ∷ more ≡ spelling w ++ gap) × (after ≡ gap ++ (spelling u ++ rest))
apart w u after rest b more e hw hu ends =
    let c = first_of is_charset_octet u.charset hu.some_charset hu.charset in
    let tail = c.1 ++ 63 ∷ u.encoding ∷ 63 ∷ (u.text ++ 63 ∷ 61 ∷ rest) in
    let second : spelling u ++ rest ≡ 61 ∷ 63 ∷ c.0 ∷ tail = word_written u rest
    ∙ ap (λ x. 61 ∷ 63 ∷ (x ++ 63 ∷ u.encoding ∷ 63 ∷ (u.text ++ 63 ∷ 61 ∷ rest))) c.2 in
    let front = 63 ∷ (w.charset ++ 63 ∷ w.encoding ∷ 63 ∷ []) in
    let both : 61 ∷ 63 ∷ (w.charset ++ 63 ∷ w.encoding ∷ 63 ∷ (w.text ++ 63 ∷ 61 ∷ after)) ≡ b ∷ more
    ++ 61 ∷ 63 ∷ c.0 ∷ tail = sym (word_written w after) ∙ e ∙ ap (λ x. b ∷ more ++ x) second in
    let first : 61 ≡ b = cc both in
    let inner : 63 ∷ (w.charset ++ 63 ∷ w.encoding ∷ 63 ∷ (w.text ++ 63 ∷ 61 ∷ after)) ≡ more ++ 61 ∷ 63 ∷ c.0 ∷ tail = cc both in
    let whole : front ++ (w.text ++ 63 ∷ 61 ∷ after) ≡ more
    ++ 61 ∷ 63 ∷ c.0 ∷ tail =
    ap (λ x. 63 ∷ x) (append_assoc w.charset (63 ∷ w.encoding ∷ 63 ∷ []) (w.text ++ 63 ∷ 61 ∷ after)) ∙ inner in
    let one = skip_plain front (w.text ++ 63 ∷ 61 ∷ after) more (63 ∷ c.0 ∷ tail) whole (charset_plain w.charset w.encoding hw.charset hw.encoding) in
    let two = skip_text w.text after one.0 tail c.0 one.2 hw.text (charset_first c.0 (eqb c.0 61) refl c.3) in
    let three = after_end two.0 after (c.0 ∷ tail) two.2 ends in
    let begun : b ∷ more ≡ 61 ∷ (front ++ (w.text ++ 63 ∷ 61 ∷ three.0)) = ap (λ x. x ∷ more) (sym first)
    ∙ ap (λ x. 61 ∷ x) (one.1 ∙ ap (λ x. front ++ x) (two.1 ∙ ap (λ x. w.text ++ x) three.1)) in
    let regroup : 61 ∷ (front ++ (w.text ++ 63 ∷ 61 ∷ three.0)) ≡ 61 ∷ 63 ∷ (w.charset
    ++ 63 ∷ w.encoding ∷ 63 ∷ (w.text ++ 63 ∷ 61 ∷ three.0)) =
    ap (λ x. 61 ∷ 63 ∷ x) (append_assoc w.charset (63 ∷ w.encoding ∷ 63 ∷ []) (w.text ++ 63 ∷ 61 ∷ three.0)) in
    (three.0, begun ∙ regroup ∙ sym (word_written w three.0), three.2 ∙ ap (λ x. three.0 ++ x) (sym second))

pub words_apart : (text : List ℕ) → StandApart text
words_apart text before w after b more u rest h k =
    let both : before ++ (spelling w ++ after) ≡ before ++ ((b ∷ more) ++ (spelling u ++ rest)) = sym h.joined
    ∙ k.joined ∙ append_assoc before (b ∷ more) (spelling u ++ rest) in
    let result = apart w u after rest b more (append_cancel_left before (spelling w ++ after) ((b ∷ more)
    ++ (spelling u ++ rest)) both) h.word k.word h.ends in
    (result.0, result.1)

-- no word begins where another ends
not_at_end : (after : List ℕ) (u : Word) (rest : List ℕ) → after ≡ spelling u ++ rest → can_follow after ≡ true → ⊥
not_at_end after u rest e k = no_truth (rw e at k)

after_more : (start : Bool) (ys : List ℕ) (b : ℕ) (bs : List ℕ) → may_stand_after start (ys ++ b ∷ bs) ≡ may_stand_after (precedes b) bs
after_more start [] b bs = refl
after_more start (y ∷ ys) b bs = after_more (precedes y) ys b bs

pub after_word : (gap : List ℕ) (w : Word) (b : ℕ) (bs : List ℕ) → may_stand_after true (gap ++ (spelling w ++ b ∷ bs))
    ≡ may_stand_after true (b ∷ bs)
after_word gap w b bs = ap (may_stand_after true) (sym (append_assoc gap (spelling w) (b ∷ bs))) ∙ after_more true (gap ++ spelling w) b bs

-- a word that stands after another
pub lifted : (text gap : List ℕ) (w : Word) (after before : List ℕ) (u : Word) (rest : List ℕ)
    → StandsIn true text gap w after → StandsIn true after before u rest
    → StandsIn true text (gap ++ (spelling w ++ before)) u rest
lifted text gap w after [] u rest h k = absurd (not_at_end after u rest k.joined h.ends)
lifted text gap w after (b ∷ bs) u rest h k = record {
  joined = h.joined ∙ ap (λ x. gap ++ (spelling w ++ x)) k.joined
      ∙ ap (λ x. gap ++ x) (sym (append_assoc (spelling w) (b ∷ bs) (spelling u ++ rest)))
      ∙ sym (append_assoc gap (spelling w ++ b ∷ bs) (spelling u ++ rest));
  word = k.word;
  begins = after_word gap w b bs ∙ k.begins;
  ends = k.ends;
}

no_part : (front : List (List ℕ × Word)) (part : List ℕ × Word) (back : List (List ℕ × Word)) → [] ≡ front ++ part ∷ back → ⊥
no_part [] part back e = absurd cc
no_part (p ∷ front) part back e = absurd cc

pub not_found : (text before : List ℕ) (w : Word) (after : List ℕ) → first_word true text ≡ None → StandsIn true text before w after → ⊥
not_found text before w after e h =
    let found = finds true text before w after h.joined h.word h.begins h.ends in
    absurd (cc (e, found.1))

none_cut : (text : List ℕ) → first_word true text ≡ None → IsCutOf text ([], text)
none_cut text e = record {
  whole = refl;
  words = λ front part back k. absurd (no_part front part back k);
  all = λ before w after h. absurd (not_found text before w after e h);
}

first_part : (text : List ℕ) (f : Found) (cut : Cut) → StandsIn true text f.0 f.1 f.2 → f.2 ≡ concatenation cut.0 cut.1
    → (part : List ℕ × Word) (back : List (List ℕ × Word)) → (f.0, f.1) ≡ part → cut.0 ≡ back
    → StandsIn true text part.0 part.1 (concatenation back cut.1)
first_part text f cut h whole part back ep eb =
    let P : List ℕ × Word → Type 0 = λ p. StandsIn true text p.0 p.1 f.2 in
    let here : P part = subst P ep h in
    let Q : List ℕ → Type 0 = λ after. StandsIn true text part.0 part.1 after in
    subst Q (whole ∙ ap (λ b. concatenation b cut.1) eb) here

later_part : (text : List ℕ) (f : Found) (p : List ℕ × Word) (front : List (List ℕ × Word)) (part : List ℕ
    × Word) (rest : List ℕ) → StandsIn true text f.0 f.1 f.2 → (f.0, f.1) ≡ p
    → StandsIn true f.2 (concatenation front part.0) part.1 rest
    → StandsIn true text (concatenation (p ∷ front) part.0) part.1 rest
later_part text f p front part rest h ep k =
    let P : List ℕ × Word → Type 0 = λ q. StandsIn true text (concatenation (q ∷ front) part.0) part.1 rest in
    subst P ep (lifted text f.0 f.1 f.2 (concatenation front part.0) part.1 rest h k)

cut_part : (text : List ℕ) (f : Found) (cut : Cut) → StandsIn true text f.0 f.1 f.2 → IsCutOf f.2 cut
    → (front : List (List ℕ × Word)) (part : List ℕ × Word) (back : List (List ℕ × Word)) → (f.0, f.1) ∷ cut.0 ≡ front
    ++ part ∷ back → StandsIn true text (concatenation front part.0) part.1 (concatenation back cut.1)
cut_part text f cut h k [] part back e =
    let first : (f.0, f.1) ≡ part = cc in
    let others : cut.0 ≡ back = cc in
    first_part text f cut h k.whole part back first others
cut_part text f cut h k (p ∷ front) part back e =
    let first : (f.0, f.1) ≡ p = cc in
    let others : cut.0 ≡ front ++ part ∷ back = cc in
    later_part text f p front part (concatenation back cut.1) h first (k.words front part back others)

abbrev IsOneOf : Cut → List ℕ → Word → Type 0
IsOneOf cut before w = (front : List (List ℕ × Word)) × (gap : List ℕ) × (back : List (List ℕ × Word))
    × (cut.0 ≡ front ++ (gap, w) ∷ back) × (before ≡ concatenation front gap)

abbrev word_or : Option (Word × List ℕ) → Word → Word
word_or None w = w
word_or (Some found) w = found.0

same_word : (w u : Word) (after rest : List ℕ) → spelling w ++ after ≡ spelling u ++ rest → IsWord w → IsWord u → w ≡ u
same_word w u after rest e hw hu =
    let both : Some (w, after) ≡ Some (u, rest) = sym (word_at-spelling w after hw) ∙ ap word_at e ∙ word_at-spelling u rest hu in
    ap (λ o. word_or o w) both

one_of : (text : List ℕ) (f : Found) (cut : Cut) → StandsIn true text f.0 f.1 f.2 → IsCutOf f.2 cut
    → (before : List ℕ) (w : Word) (after : List ℕ) → StandsIn true text before w after → (pre : List ℕ) → before ≡ f.0
    ++ pre → spelling f.1 ++ f.2 ≡ pre ++ (spelling w ++ after) → IsOneOf ((f.0, f.1) ∷ cut.0, cut.1) before w
one_of text f cut h k before w after s [] eb e =
    let same : f.1 ≡ w = same_word f.1 w f.2 after e h.word s.word in
    ([], f.0, cut.0, ap (λ x. (f.0, x) ∷ cut.0) same, eb ∙ append-nil f.0)
one_of text f cut h k before w after s (b ∷ more) eb e = at (apart f.1 w f.2 after b more e h.word s.word h.ends)
  where
    at : (gap : List ℕ) × (b ∷ more ≡ spelling f.1 ++ gap) × (f.2 ≡ gap ++ (spelling w ++ after)) → IsOneOf ((f.0, f.1) ∷ cut.0, cut.1) before w
    at ([], ep, ef) = absurd (not_at_end f.2 w after ef h.ends)
    at (c ∷ gap, ep, ef) =
        let place : before ≡ f.0 ++ (spelling f.1 ++ c ∷ gap) = eb ∙ ap (λ x. f.0 ++ x) ep in
        let begins : may_stand_after true (c ∷ gap) ≡ true = sym (after_word f.0 f.1 c gap) ∙ ap (may_stand_after true) (sym place) ∙ s.begins in
        let rest : StandsIn true f.2 (c ∷ gap) w after = record { joined = ef; word = s.word; begins = begins; ends = s.ends } in
        let found = k.all (c ∷ gap) w after rest in
        ((f.0, f.1) ∷ found.0, found.1, found.2, ap (λ x. (f.0, f.1) ∷ x) found.3, place ∙ ap (λ x. f.0 ++ (spelling f.1 ++ x)) found.4)

all_words : (text : List ℕ) (f : Found) (cut : Cut) → first_word true text ≡ Some f → StandsIn true text f.0 f.1 f.2
    → IsCutOf f.2 cut → (before : List ℕ) (w : Word) (after : List ℕ) → StandsIn true text before w after
    → IsOneOf ((f.0, f.1) ∷ cut.0, cut.1) before w
all_words text f cut e h k before w after s =
    let found = finds true text before w after s.joined s.word s.begins s.ends in
    let same : found.0 ≡ f = cc (e, found.1) in
    let long : length f.0 ≤ length before = omega (arith, found.2, ap (λ x. length x.0) same) in
    let pre = cut_twice f.0 (spelling f.1 ++ f.2) before (spelling w ++ after) (sym h.joined ∙ s.joined) long in
    one_of text f cut h k before w after s pre.0 pre.1 pre.2

some_cut : (text : List ℕ) (f : Found) (cut : Cut) → first_word true text ≡ Some f → IsCutOf f.2 cut → IsCutOf text ((f.0, f.1) ∷ cut.0, cut.1)
some_cut text f cut e k =
    let h = first_word-stands true text f e in
    record {
      whole = h.joined ∙ ap (λ x. f.0 ++ (spelling f.1 ++ x)) k.whole;
      words = cut_part text f cut h k;
      all = all_words text f cut e h k;
    }

cut_step : (n : ℕ) → ((r : List ℕ) → length r ≤ n → IsCutOf r (cut_words n r)) → (text : List ℕ) → length text ≤ suc n
    → (o : Option Found) → first_word true text ≡ o → IsCutOf text (cut_at text o (cut_words n))
cut_step n more text h None e = none_cut text e
cut_step n more text h (Some f) e =
    let stands = first_word-stands true text f e in
    some_cut text f (cut_words n f.2) e
    (more f.2 (omega (
      arith,
      ap length stands.joined,
      length-append f.0 (spelling f.1 ++ f.2),
      length-append (spelling f.1) f.2,
    )))

pub cut_of : (n : ℕ) (text : List ℕ) → length text ≤ n → IsCutOf text (cut_words n text)
unfolding cut_words first_word
cut_of zero [] h = none_cut [] refl
cut_of zero (b ∷ bs) h = absurd (omega arith)
cut_of (suc n) text h = cut_step n (λ r k. cut_of n r k) text h (first_word true text) refl
