-- A text has one cut and one value, which are computed.
use Rattle.std.proofs.Common.{◌≡◌, ℕ, zero, suc, ◌≤◌, Bool, true, false, cond, List, [], ◌∷◌, ◌++◌, length, refl, sym}
use Rattle.std.proofs.Common.{ap, ◌∙◌, subst, arith, inl, inr, Option, Some, None, append_assoc}
use Rattle.std.proofs.lemmas.List.{length-append, append_cancel_left}
use Rattle.std.specs.Prelude.{◌&&◌}
use Rattle.std.specs.List.{list_all}
use Rattle.mail_words.specs.Unfolding.{is_blank}
use Rattle.mail_words.specs.Words.{Word, spelling, IsWord, first_word}
use Rattle.mail_words.specs.Decoding.{text_of}
use Rattle.mail_words.specs.Meaning.{IsGood}
use Rattle.mail_words.specs.Value.{Cut, cut_at, cut_words, display_of_word, display, display_of_text}
use Rattle.mail_words.specs.Spans.{may_stand_after, StandsIn, concatenation, IsCutOf, IsWordShown, IsAfterGood}
use Rattle.mail_words.specs.Spans.{IsGapShown, IsShownAfter, IsShown, DisplayLaw}
use Rattle.mail_words.proofs.SpellingLemmas.{Found, first_word-stands}
use Rattle.mail_words.proofs.SpanLemmas.{finds, after_word, lifted, cut_of}
use Rattle.mail_words.proofs.MeaningLemmas.{means_from, means_to, bad_word}

abbrev Part : Type 0
Part = List ℕ × Word

-- a word that stands after another stands in the text after that one
lowered : (text gap : List ℕ) (w : Word) (after before : List ℕ) (u : Word) (rest : List ℕ)
    → StandsIn true text gap w after → StandsIn true text (gap ++ (spelling w ++ before)) u rest
    → StandsIn true after before u rest
lowered text gap w after before u rest h k = record {
  joined =
      let both : gap ++ (spelling w ++ after) ≡ gap ++ (spelling w ++ (before ++ (spelling u ++ rest))) = sym h.joined
      ∙ k.joined ∙ append_assoc gap (spelling w ++ before) (spelling u ++ rest)
      ∙ ap (λ x. gap ++ x) (append_assoc (spelling w) before (spelling u ++ rest)) in
      append_cancel_left (spelling w) after (before ++ (spelling u ++ rest)) (append_cancel_left gap (spelling w
      ++ after) (spelling w ++ (before ++ (spelling u ++ rest))) both);
  word = k.word;
  begins = begins_after before k.begins;
  ends = k.ends;
}
  where
    begins_after : (bs : List ℕ) → may_stand_after true (gap ++ (spelling w ++ bs)) ≡ true → may_stand_after true bs ≡ true
    begins_after [] e = refl
    begins_after (b ∷ bs) e = sym (after_word gap w b bs) ∙ e

too_long : (gap : List ℕ) (w : Word) (before : List ℕ) → gap ++ (spelling w ++ before) ≡ gap → ⊥
too_long gap w before e = absurd (omega (arith, ap length e, length-append gap (spelling w ++ before), length-append (spelling w) before))

-- a word of the text after the first one of a cut
abbrev IsAt : List Part → List ℕ → Word → Type 0
IsAt parts before u = (front : List Part) × (gap : List ℕ) × (back : List Part) × (parts ≡ front ++ (gap, u) ∷ back)
    × (before ≡ concatenation front gap)

after_first : (gap : List ℕ) (w : Word) (parts : List Part) (before : List ℕ) (u : Word) (front : List Part)
    (place : List ℕ) (back : List Part) → (gap, w) ∷ parts ≡ front ++ (place, u) ∷ back → gap
    ++ (spelling w ++ before) ≡ concatenation front place → IsAt parts before u
after_first gap w parts before u [] place back e f =
    let same : ◌≡◌ {A = Part} (gap, w) (place, u) = cc in
    absurd (too_long gap w before (f ∙ ap (λ p. p.0) (sym same)))
after_first gap w parts before u (p ∷ front) place back e f =
    let first : ◌≡◌ {A = Part} (gap, w) p = cc in
    let others : parts ≡ front ++ (place, u) ∷ back = cc in
    let whole : gap ++ (spelling w ++ before) ≡ gap ++ (spelling w ++ concatenation front place) = f
    ∙ ap (λ q. q.0 ++ (spelling q.1 ++ concatenation front place)) (sym first) in (
      front,
      place,
      back,
      others,
      append_cancel_left (spelling w) before (concatenation front place) (append_cancel_left gap (spelling w
          ++ before) (spelling w ++ concatenation front place) whole),
    )

-- the text after the first word of a cut has the cut's other words
rest_cut : (text gap : List ℕ) (w : Word) (parts : List Part) (last : List ℕ) → IsCutOf text ((gap, w) ∷ parts, last)
    → IsCutOf (concatenation parts last) (parts, last)
rest_cut text gap w parts last k =
    let first : StandsIn true text gap w (concatenation parts last) = k.words [] (gap, w) parts refl in
    record {
      whole = refl;
      words = λ front part back e.
          lowered text gap w (concatenation parts last) (concatenation front part.0) part.1 (concatenation back last)
          first (k.words ((gap, w) ∷ front) part back (ap (λ x. (gap, w) ∷ x) e));
      all = λ before u rest s.
          let found = k.all (gap ++ (spelling w ++ before)) u rest (lifted text gap w (concatenation parts last) before u rest first s) in
          after_first gap w parts before u found.0 found.1 found.2 found.3 found.4;
    }

-- the first word of a cut is the one that is found first
abbrev IsFirst : List ℕ → Word → Found → Type 0
IsFirst gap w f = (gap ≡ f.0) × (w ≡ f.1)

at_front : (gap : List ℕ) (w : Word) (parts : List Part) (f : Found) (front : List Part) (place : List ℕ)
    (back : List Part) → length f.0 ≤ length gap → (gap, w) ∷ parts ≡ front ++ (place, f.1) ∷ back
    → f.0 ≡ concatenation front place → IsFirst gap w f
at_front gap w parts f [] place back short e at =
    let first : ◌≡◌ {A = Part} (gap, w) (place, f.1) = cc in
    (ap (λ p. p.0) first ∙ sym at, ap (λ p. p.1) first)
at_front gap w parts f (p ∷ front) place back short e at =
    let first : ◌≡◌ {A = Part} (gap, w) p = cc in
    let whole : f.0 ≡ gap ++ (spelling w ++ concatenation front place) = at
    ∙ ap (λ q. q.0 ++ (spelling q.1 ++ concatenation front place)) (sym first) in
    absurd (omega (
      arith,
      ap length whole,
      length-append gap (spelling w ++ concatenation front place),
      length-append (spelling w) (concatenation front place),
    ))

no_parts : (front : List Part) (part : Part) (back : List Part) → [] ≡ front ++ part ∷ back → ⊥
no_parts [] part back e = absurd cc
no_parts (p ∷ front) part back e = absurd cc

no_word : (text last : List ℕ) (o : Option Found) → first_word true text ≡ o → IsCutOf text ([], last) → o ≡ None
no_word text last None e k = refl
no_word text last (Some f) e k =
    let found = k.all f.0 f.1 f.2 (first_word-stands true text f e) in
    absurd (no_parts found.0 (found.1, f.1) found.2 found.3)

without_words : (n : ℕ) (text last : List ℕ) → IsCutOf text ([], last) → cut_words n text ≡ ([], last)
unfolding cut_words
without_words zero text last k = ap (λ x. ([], x)) k.whole
without_words (suc n) text last k =
    ap (λ o. cut_at text o (cut_words n)) (no_word text last (first_word true text) refl k) ∙ ap (λ x. ([], x)) k.whole

cut_is : (parts : List Part) (n : ℕ) (text last : List ℕ) → length text ≤ n → IsCutOf text (parts, last) → cut_words n text ≡ (parts, last)
unfolding cut_words
cut_is [] n text last h k = without_words n text last k
cut_is ((gap, w) ∷ parts) zero text last h k =
    absurd (omega (
      arith,
      ap length k.whole,
      length-append gap (spelling w ++ concatenation parts last),
      length-append (spelling w) (concatenation parts last),
    ))
cut_is ((gap, w) ∷ parts) (suc n) text last h k =
    let stands : StandsIn true text gap w (concatenation parts last) = k.words [] (gap, w) parts refl in
    let found = finds true text gap w (concatenation parts last) stands.joined stands.word stands.begins stands.ends in
    let f = found.0 in
    let here = first_word-stands true text f found.1 in
    let place = k.all f.0 f.1 f.2 here in
    let first = at_front gap w parts f place.0 place.1 place.2 found.2 place.3 place.4 in
    let joined : gap ++ (spelling w ++ concatenation parts last) ≡ gap ++ (spelling w ++ f.2) = sym stands.joined
    ∙ here.joined ∙ ap (λ x. x ++ (spelling f.1 ++ f.2)) (sym first.0)
    ∙ ap (λ x. gap ++ (spelling x ++ f.2)) (sym first.1) in
    let following : concatenation parts last ≡ f.2 =
    append_cancel_left (spelling w) (concatenation parts last) f.2 (append_cancel_left gap (spelling w
    ++ concatenation parts last) (spelling w ++ f.2) joined) in
    let short : length (concatenation parts last) ≤ n =
    omega (
      arith,
      h,
      ap length k.whole,
      length-append gap (spelling w ++ concatenation parts last),
      length-append (spelling w) (concatenation parts last),
    ) in
    let more : cut_words n (concatenation parts last) ≡ (parts, last) =
    cut_is parts n (concatenation parts last) last short (rest_cut text gap w parts last k) in
    ap (λ o. cut_at text o (cut_words n)) found.1
    ∙ ap (λ x. ((x, f.1) ∷ (cut_words n f.2).0, (cut_words n f.2).1)) (sym first.0)
    ∙ ap (λ x. ((gap, x) ∷ (cut_words n f.2).0, (cut_words n f.2).1)) (sym first.1)
    ∙ ap (λ c. ((gap, w) ∷ c.0, c.1)) (ap (cut_words n) (sym following) ∙ more)

-- what is shown

abbrev AreWords : List Part → Type 0
AreWords parts = (front : List Part) (part : Part) (back : List Part) → parts ≡ front ++ part ∷ back → IsWord part.1

others_are : (part : Part) (parts : List Part) → AreWords (part ∷ parts) → AreWords parts
others_are part parts h = λ front p back e. h (part ∷ front) p back (ap (λ x. part ∷ x) e)

-- the flag says whether the word before is good
abbrev Tells : Bool → Option Word → Type 0
Tells true before = IsAfterGood before
Tells false before = IsAfterGood before → ⊥

gap_shown : (flag blank : Bool) (before : Option Word) (gap : List ℕ) (w : Word) → Tells flag before
    → list_all is_blank gap ≡ blank → IsGood w → IsGapShown before gap w (cond (flag && blank) [] gap)
gap_shown true true before gap w h e good = inl ((h, e, good), refl)
gap_shown true false before gap w h e good = inr (λ d. absurd (let no : true ≡ false = sym d.1 ∙ e in cc), refl)
gap_shown false blank before gap w h e good = inr (λ d. h d.0, refl)

gap_is : (flag blank : Bool) (before : Option Word) (gap octets : List ℕ) (w : Word) → Tells flag before
    → list_all is_blank gap ≡ blank → IsGood w → IsGapShown before gap w octets → octets ≡ cond (flag && blank) [] gap
gap_is true true before gap octets w h e good (inl d) = d.1
gap_is true true before gap octets w h e good (inr d) = absurd (d.0 (h, e, good))
gap_is true false before gap octets w h e good (inl d) = absurd (let no : true ≡ false = sym d.0.1 ∙ e in cc)
gap_is true false before gap octets w h e good (inr d) = d.1
gap_is false blank before gap octets w h e good (inl d) = absurd (h d.0.0)
gap_is false blank before gap octets w h e good (inr d) = d.1

-- what is computed is shown
shown_after : (parts : List Part) (flag : Bool) (before : Option Word) (last : List ℕ) → Tells flag before
    → AreWords parts → IsShownAfter before parts last (display flag parts last)
unfolding display
shown_after [] flag before last h words = refl
shown_after (part ∷ parts) flag before last h words =
    by (text_of part.1) refl (shown_after parts true (Some part.1) last) (shown_after parts false (Some part.1) last)
  where
    by : (o : Option (List ℕ)) → text_of part.1 ≡ o
        → (IsGood part.1 → AreWords parts → IsShownAfter (Some part.1) parts last (display true parts last))
        → ((IsGood part.1 → ⊥) → AreWords parts → IsShownAfter (Some part.1) parts last (display false parts last))
        → IsShownAfter before (part ∷ parts) last (display_of_word flag part.0 part.1 o (λ good.
        display good parts last))
    by (Some text) e yes_good not_good =
        let means = means_from part.1 text (words [] part parts refl) e in (
          cond (flag && list_all is_blank part.0) [] part.0,
          text,
          display true parts last,
          gap_shown flag (list_all is_blank part.0) before part.0 part.1 h refl (text, means),
          inl means,
          yes_good (text, means) (others_are part parts words),
          refl,
        )
    by None e yes_good not_good =
        let bad : IsGood part.1 → ⊥ = bad_word part.1 (words [] part parts refl) e in (
          part.0,
          spelling part.1,
          display false parts last,
          inr (λ d. bad d.2, refl),
          inr (bad, refl),
          not_good bad (others_are part parts words),
          refl,
        )

-- and nothing else is
word_text : (w : Word) (text octets : List ℕ) → IsWord w → text_of w ≡ Some text → IsWordShown w octets → octets ≡ text
word_text w text octets h e (inl means) = let both : Some octets ≡ Some text = sym (means_to w octets h means) ∙ e in cc
word_text w text octets h e (inr bad) = absurd (bad.0 (text, means_from w text h e))

word_kept : (w : Word) (octets : List ℕ) → (IsGood w → ⊥) → IsWordShown w octets → octets ≡ spelling w
word_kept w octets bad (inl means) = absurd (bad (octets, means))
word_kept w octets bad (inr kept) = kept.1

gap_kept : (before : Option Word) (gap octets : List ℕ) (w : Word) → (IsGood w → ⊥) → IsGapShown before gap w octets → octets ≡ gap
gap_kept before gap octets w bad (inl d) = absurd (bad d.0.2)
gap_kept before gap octets w bad (inr d) = d.1

value_is : (parts : List Part) (flag : Bool) (before : Option Word) (last value : List ℕ) → Tells flag before
    → AreWords parts → IsShownAfter before parts last value → value ≡ display flag parts last
unfolding display
value_is [] flag before last value h words s = s
value_is (part ∷ parts) flag before last value h words (gap, word, rest, sg, sw, sr, e) = e
    ∙ by (text_of part.1) refl (λ good.
    value_is parts true (Some part.1) last rest good (others_are part parts words) sr) (λ bad.
    value_is parts false (Some part.1) last rest bad (others_are part parts words) sr)
  where
    by : (o : Option (List ℕ)) → text_of part.1 ≡ o → (IsGood part.1 → rest ≡ display true parts last)
        → ((IsGood part.1 → ⊥) → rest ≡ display false parts last) → gap
        ++ (word ++ rest) ≡ display_of_word flag part.0 part.1 o (λ good. display good parts last)
    by (Some text) f yes_good not_good =
        let standing = words [] part parts refl in
        let good : IsGood part.1 = (text, means_from part.1 text standing f) in
        ap (λ x. x ++ (word ++ rest)) (gap_is flag (list_all is_blank part.0) before part.0 gap part.1 h refl good sg)
        ∙ ap (λ x. cond (flag && list_all is_blank part.0) [] part.0
        ++ (x ++ rest)) (word_text part.1 text word standing f sw)
        ∙ ap (λ x. cond (flag && list_all is_blank part.0) [] part.0 ++ (text ++ x)) (yes_good good)
    by None f yes_good not_good =
        let bad : IsGood part.1 → ⊥ = bad_word part.1 (words [] part parts refl) f in
        ap (λ x. x ++ (word ++ rest)) (gap_kept before part.0 gap part.1 bad sg)
        ∙ ap (λ x. part.0 ++ (x ++ rest)) (word_kept part.1 word bad sw)
        ∙ ap (λ x. part.0 ++ (spelling part.1 ++ x)) (not_good bad)

cut_has_words : (text : List ℕ) (cut : Cut) → IsCutOf text cut → AreWords cut.0
cut_has_words text cut k = λ front part back e. (k.words front part back e).word

pub words_are_shown : (text : List ℕ) → IsShown text (display_of_text text)
words_are_shown text =
    let cut : Cut = cut_words (length text) text in
    let is_cut : IsCutOf text cut = cut_of (length text) text (omega arith) in
    (cut, is_cut, shown_after cut.0 false None cut.1 (λ h. h) (cut_has_words text cut is_cut))

shown_is : (text value : List ℕ) → IsShown text value → value ≡ display_of_text text
shown_is text value (cut, is_cut, h) =
    let same : cut_words (length text) text ≡ cut = cut_is cut.0 (length text) text cut.1 (omega arith) is_cut in
    value_is cut.0 false None cut.1 value (λ k. k) (cut_has_words text cut is_cut) h ∙ ap (λ c. display false c.0 c.1) (sym same)

pub shown_from : (text value : List ℕ) → value ≡ display_of_text text → IsShown text value
shown_from text value e = let P : List ℕ → Type 0 = λ v. IsShown text v in subst P (sym e) (words_are_shown text)

pub shown_law : DisplayLaw
shown_law text value = (shown_from text value, shown_is text value)
