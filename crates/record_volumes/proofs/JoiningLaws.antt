-- What volumes answer one by one, joined, is what all of them answer.
use Rattle.std.proofs.Common.{◌≡◌, ℕ, ◌+◌, ◌==◌, nat_le, nat_lt, Bool, true, false, cond, ◌&&◌, ◌||◌, List, [], ◌∷◌, ◌++◌, map, filter, length}
use Rattle.std.proofs.Common.{Option, Some, None, option_map, refl, sym, ap, ap₂, ◌∙◌, arith}
use Rattle.std.specs.List.{list_any}
use Rattle.std.proofs.lemmas.Bool.Decides.{nat_tests}
use Rattle.std.proofs.lemmas.List.{length-append, length-map}
use Rattle.std.proofs.lemmas.List.Elements.{filter-append, filter_agree}
use Rattle.record_archive.specs.Archive.{Archive, Record}
use Rattle.record_choice.specs.Choices.{Question, where_asked, is_in, is_within, is_as, is_when, is_yes, message_of, meets_asked}
use Rattle.record_volumes.specs.Volumes.{Placed, VolumeSpan, VolumeNumber, VolumeChoice, asks_for, choice_in, chosen_from, chosen_in, chosen_in_all}
use Rattle.record_volumes.specs.Volumes.{first_in, is_from, is_in_span, is_span_of, joined, joined_from, meets_in, others_of, placed, placed_all}
use Rattle.record_volumes.specs.Volumes.{span_of, spans_in, total, total_from}

-- ---- joined answers

filter_joined : {X : Type 0} (p : X → Bool) (f : ℕ → Archive → List X) (v : ℕ) (vs : List Archive)
    → filter p (joined_from f v vs) ≡ joined_from (λ w a. filter p (f w a)) v vs
filter_joined p f v [] = refl
filter_joined p f v (a ∷ vs) = filter-append p (f v a) (joined_from f (v + 1) vs) ∙ ap (λ l. filter p (f v a) ++ l) (filter_joined p f (v + 1) vs)

joined_agree : {X : Type 0} (f g : ℕ → Archive → List X) → ((v : ℕ) (a : Archive) → f v a ≡ g v a) → (v : ℕ) (vs : List Archive)
    → joined_from f v vs ≡ joined_from g v vs
joined_agree f g same v [] = refl
joined_agree f g same v (a ∷ vs) = ap₂ (λ k l. k ++ l) (same v a) (joined_agree f g same (v + 1) vs)

length_joined : {X : Type 0} (f : ℕ → Archive → List X) (v : ℕ) (vs : List Archive)
    → length (joined_from f v vs) ≡ total_from (λ w a. length (f w a)) v vs
length_joined f v [] = refl
length_joined f v (a ∷ vs) = length-append (f v a) (joined_from f (v + 1) vs) ∙ ap (λ n. length (f v a) + n) (length_joined f (v + 1) vs)

total_agree : (f g : ℕ → Archive → ℕ) → ((v : ℕ) (a : Archive) → f v a ≡ g v a) → (v : ℕ) (vs : List Archive)
    → total_from f v vs ≡ total_from g v vs
total_agree f g same v [] = refl
total_agree f g same v (a ∷ vs) = ap₂ (λ m n. m + n) (same v a) (total_agree f g same (v + 1) vs)

-- ---- the records of a volume, in their places

filter_placed : (p : Placed → Bool) (v : ℕ) (a : Archive) (rs : List Record)
    → filter p (placed_all v a rs) ≡ placed_all v a (filter (λ (r : Record). p (placed v a r)) rs)
filter_placed p v a [] = refl
filter_placed p v a (r ∷ rs) = go (p (placed v a r)) (filter_placed p v a rs)
  where
    kept : List Record
    kept = filter (λ (x : Record). p (placed v a x)) rs

    go : (b : Bool) → filter p (placed_all v a rs) ≡ placed_all v a kept
        → cond b (placed v a r ∷ filter p (placed_all v a rs)) (filter p (placed_all v a rs)) ≡ placed_all v a (cond b (r ∷ kept) kept)
    go true more = ap (λ l. placed v a r ∷ l) more
    go false more = more

pub choices_joined : (q : Question) (c : VolumeChoice) (vs : List Archive)
    → chosen_in_all q c vs ≡ joined (λ v a. placed_all v a (chosen_in q c v a)) vs
choices_joined q c vs =
    filter_joined (meets_in q c) (λ v a. placed_all v a a.records) 1 vs
    ∙ joined_agree (λ v a. filter (meets_in q c) (placed_all v a a.records)) (λ v a. placed_all v a (chosen_in q c v a))
    (λ v a. filter_placed (meets_in q c) v a a.records) 1 vs

pub counts_joined : (q : Question) (c : VolumeChoice) (vs : List Archive)
    → length (chosen_in_all q c vs) ≡ total (λ v a. length (chosen_in q c v a)) vs
counts_joined q c vs =
    ap length (choices_joined q c vs) ∙ length_joined (λ v a. placed_all v a (chosen_in q c v a)) 1 vs
    ∙ total_agree (λ v a. length (placed_all v a (chosen_in q c v a))) (λ v a. length (chosen_in q c v a))
    (λ v a. length-map (chosen_in q c v a) (placed v a)) 1 vs

-- ---- a volume that is asked for

spans_agree : (v n : ℕ) (ss : List VolumeSpan) → list_any (is_in_span v n) ss ≡ list_any (is_in n) (spans_in v ss)
spans_agree v n [] = refl
spans_agree v n (s ∷ ss) = go (s.volume == v) (spans_agree v n ss)
  where
    kept : List VolumeSpan
    kept = filter (is_span_of v) ss

    go : (b : Bool) → list_any (is_in_span v n) ss ≡ list_any (is_in n) (map span_of kept)
        → ((b && (nat_le s.first n && nat_le n s.last)) || list_any (is_in_span v n) ss) ≡ list_any (is_in n) (map span_of (cond b (s ∷ kept) kept))
    go true more = ap (λ b. (nat_le s.first n && nat_le n s.last) || b) more
    go false more = more

numbers_agree : (v n : ℕ) (o : Option (List VolumeSpan))
    → where_asked (list_any (is_in_span v n)) o ≡ where_asked (list_any (is_in n)) (option_map (spans_in v) o)
numbers_agree v n None = refl
numbers_agree v n (Some ss) = spans_agree v n ss

every : (n : ℕ) → nat_le 0 n ≡ true
every n = grind (arith, nat_tests)

same_volume : (f v : ℕ) → (f == v) ≡ true → nat_lt f v ≡ false
same_volume f v e = grind (arith, nat_tests)

later_volume : (f v : ℕ) → nat_le f v ≡ true → (f == v) ≡ false → nat_lt f v ≡ true
later_volume f v reached other = grind (arith, nat_tests)

-- in a volume that is not before that of the first record, records are looked at from that number on
first_agrees : (v n : ℕ) (o : Option VolumeNumber) → where_asked (λ (f : VolumeNumber). nat_le f.volume v) o ≡ true
    → where_asked (is_from v n) o ≡ nat_le (first_in v o) n
first_agrees v n None reached = sym (every n)
first_agrees v n (Some f) reached = go (f.volume == v) refl
  where
    go : (b : Bool) → (f.volume == v) ≡ b → (nat_lt f.volume v || (b && nat_le f.number n)) ≡ nat_le (cond b f.number 0) n
    go true same = ap (λ b. b || nat_le f.number n) (same_volume f.volume v same)
    go false other = ap (λ b. b || false) (later_volume f.volume v reached other) ∙ sym (every n)

regrouped : (b f c d e g : Bool) → ((b && f) && (((c && d) && e) && g)) ≡ (f && ((((b && c) && d) && e) && g))
regrouped true true c d e g = refl
regrouped true false c d e g = refl
regrouped false true c d e g = refl
regrouped false false c d e g = refl

meets_alone : (q : Question) (c : VolumeChoice) (v : ℕ) (a : Archive) (r : Record)
    → where_asked (λ (f : VolumeNumber). nat_le f.volume v) c.first ≡ true
    → meets_in q c (placed v a r) ≡ (nat_le (first_in v c.first) r.number && meets_asked q (choice_in v c) a r)
meets_alone q c v a r reached =
    let in_class = where_asked (λ class. is_within class r.path) c.others.class in
    let as_asked = is_as c.others a r in
    let when_asked = is_when c.others a r in
    let answered = where_asked (λ asks. is_yes asks (message_of a r)) q in
    regrouped (where_asked (list_any (is_in_span v r.number)) c.numbers) (where_asked (is_from v r.number) c.first) in_class as_asked when_asked
    answered
    ∙ ap₂ (λ f b. f && ((((b && in_class) && as_asked) && when_asked) && answered)) (first_agrees v r.number c.first reached)
    (numbers_agree v r.number c.numbers)

second_of : (b c : Bool) → (b && c) ≡ true → c ≡ true
second_of true c e = e
second_of false c e = absurd cc

pub answered_alone : (q : Question) (c : VolumeChoice) (v : ℕ) (a : Archive) → asks_for v c ≡ true
    → chosen_in q c v a ≡ chosen_from q (choice_in v c) (first_in v c.first) a
answered_alone q c v a asked =
    let reached = second_of (where_asked (list_any (is_span_of v)) c.numbers) (where_asked (λ (f : VolumeNumber). nat_le f.volume v) c.first) asked in
    filter_agree (λ (r : Record). meets_in q c (placed v a r))
    (λ (r : Record). nat_le (first_in v c.first) r.number && meets_asked q (choice_in v c) a r) (λ r. meets_alone q c v a r reached) a.records

-- ---- a volume that is not asked for

none_kept : {X : Type 0} (p : X → Bool) → ((x : X) → p x ≡ false) → (xs : List X) → filter p xs ≡ []
none_kept p each [] = refl
none_kept p each (x ∷ xs) = ap₂ (λ b l. cond b (x ∷ l) l) (each x) (none_kept p each xs)

-- no span of other volumes has a number of this one
spanless : (v n : ℕ) (ss : List VolumeSpan) → list_any (is_span_of v) ss ≡ false → list_any (is_in_span v n) ss ≡ false
spanless v n [] e = refl
spanless v n (s ∷ ss) e = go (s.volume == v) e (spanless v n ss)
  where
    go : (b : Bool) → (b || list_any (is_span_of v) ss) ≡ false → (list_any (is_span_of v) ss ≡ false → list_any (is_in_span v n) ss ≡ false)
        → ((b && (nat_le s.first n && nat_le n s.last)) || list_any (is_in_span v n) ss) ≡ false
    go true f more = absurd cc
    go false f more = more f

unnumbered : (v n : ℕ) (o : Option (List VolumeSpan)) → where_asked (list_any (is_span_of v)) o ≡ false
    → where_asked (list_any (is_in_span v n)) o ≡ false
unnumbered v n None e = absurd cc
unnumbered v n (Some ss) e = spanless v n ss e

not_later : (f v : ℕ) → nat_le f v ≡ false → nat_lt f v ≡ false
not_later f v e = grind (arith, nat_tests)

not_same : (f v : ℕ) → nat_le f v ≡ false → (f == v) ≡ false
not_same f v e = grind (arith, nat_tests)

unreached : (v n : ℕ) (o : Option VolumeNumber) → where_asked (λ (f : VolumeNumber). nat_le f.volume v) o ≡ false
    → where_asked (is_from v n) o ≡ false
unreached v n None e = absurd cc
unreached v n (Some f) e = ap₂ (λ b c. b || (c && nat_le f.number n)) (not_later f.volume v e) (not_same f.volume v e)

-- where a volume is not asked for, no record of it meets what is asked
unmet : (q : Question) (c : VolumeChoice) (v : ℕ) (a : Archive) (r : Record) → asks_for v c ≡ false → meets_in q c (placed v a r) ≡ false
unmet q c v a r unasked =
    go (where_asked (list_any (is_span_of v)) c.numbers) (where_asked (λ (f : VolumeNumber). nat_le f.volume v) c.first) refl refl unasked
  where
    numbered : Bool
    numbered = where_asked (list_any (is_in_span v r.number)) c.numbers

    after : Bool
    after = where_asked (is_from v r.number) c.first

    others : Bool
    others = meets_asked q (others_of c) a r

    falls : (b f g : Bool) → b ≡ false → ((b && f) && g) ≡ false
    falls true f g e = absurd cc
    falls false f g e = refl

    falls_after : (b f g : Bool) → f ≡ false → ((b && f) && g) ≡ false
    falls_after true f g e = ap (λ x. x && g) e
    falls_after false f g e = refl

    go : (b f : Bool) → where_asked (list_any (is_span_of v)) c.numbers ≡ b → where_asked (λ (x : VolumeNumber). nat_le x.volume v) c.first ≡ f
        → (b && f) ≡ false → ((numbered && after) && others) ≡ false
    go false f named reached e = falls numbered after others (unnumbered v r.number c.numbers named)
    go true f named reached e = falls_after numbered after others (unreached v r.number c.first (reached ∙ e))

pub none_chosen : (q : Question) (c : VolumeChoice) (v : ℕ) (a : Archive) → asks_for v c ≡ false → chosen_in q c v a ≡ []
none_chosen q c v a unasked = none_kept (λ (r : Record). meets_in q c (placed v a r)) (λ r. unmet q c v a r unasked) a.records
