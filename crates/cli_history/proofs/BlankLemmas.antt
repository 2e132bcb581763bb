-- What follows the first words of the line of an event.
use Rattle.std.proofs.Common.{◌≡◌, ℕ, ◌+◌, ◌-◌, ◌/◌, ◌%◌, ◌<◌, ◌≤◌, ◌==◌, ◌^◌, ◌&&◌, Bool, true, false, not, List, [], ◌∷◌, ◌++◌, take, drop, length}
use Rattle.std.proofs.Common.{Option, Some, None, cond, codes, suc, refl, ap, sym, ◌∙◌, arith, rules, inl, inr, append_assoc}
use Rattle.std.specs.Prelude.{nat_eq, nat_lt, position}
use Rattle.std.proofs.lemmas.Bool.{cases_Bool}
use Rattle.std.proofs.lemmas.Bool.Decides.{nat_tests}
use Rattle.std.proofs.lemmas.Fmt.{digits_decimal}
use Rattle.std.proofs.lemmas.List.{drop_all, take_all, length-drop}
use Rattle.std.proofs.lemmas.Str.Parse.{IsDigitsTest, IsNumeralModel, numerals_by_value}
use Rattle.std.specs.Char.{is_ascii_digit}
use Rattle.std.specs.Fmt.{decimal}
use Rattle.std.specs.List.{list_all, position_or_len, starts_with}
use Rattle.std.specs.Str.Parse.{digits_value}
use Rattle.session_words.specs.Words.{is_name_octet}
use Rattle.class_plan.specs.Calendar.{Civil, civil}
use Rattle.record_history.specs.Events.{Event}
use Rattle.record_history.specs.Lines.{at_text, civil_text, deed_text, line_of, moment_text, notes_text, reason_text}
use Rattle.record_history.specs.Readable.{IsName, IsReadable}
use Rattle.cli_history.specs.OneSeal.{behind_blank}

-- a text without a blank
abbrev pub HasNoBlank : List ℕ → Type 0
HasNoBlank w = list_all (λ o. not (o == 32)) w ≡ true

place : (w t : List ℕ) → HasNoBlank w → position_or_len (λ o. o == 32) (w ++ 32 ∷ t) ≡ length w
place [] t h = refl
place (x ∷ xs) t h = elim (cases_Bool (not (x == 32))) [
  | inl is ↦ rw is (ap (λ n. 1 + n) (place xs t (rw is at h)) ∙ omega arith)
  | inr other ↦ let k : false ≡ true = rw other at h in absurd (cc)
]

behind_word : (w t : List ℕ) → HasNoBlank w → behind_blank (w ++ 32 ∷ t) ≡ t
behind_word w t h =
    ap (λ n. drop (n + 1) (w ++ 32 ∷ t)) (place w t h) ∙ past w t
  where
    past : (v t : List ℕ) → drop (length v + 1) (v ++ 32 ∷ t) ≡ t
    past [] t = refl
    past (x ∷ xs) t = let e : length (x ∷ xs) + 1 ≡ suc (length xs + 1) = omega arith in ap (λ n. drop n (x ∷ xs ++ 32 ∷ t)) e ∙ past xs t

behind_three : (a b c t : List ℕ) → HasNoBlank a → HasNoBlank b → HasNoBlank c
    → behind_blank (behind_blank (behind_blank (a ++ 32 ∷ (b ++ 32 ∷ (c ++ 32 ∷ t))))) ≡ t
behind_three a b c t ha hb hc =
    ap (λ s. behind_blank (behind_blank s)) (behind_word a (b ++ 32 ∷ (c ++ 32 ∷ t)) ha)
    ∙ ap behind_blank (behind_word b (c ++ 32 ∷ t) hb) ∙ behind_word c t hc

-- ---- words without a blank

none_in : (p : ℕ → Bool) → ((o : ℕ) → p o ≡ true → not (o == 32) ≡ true) → (w : List ℕ) → list_all p w ≡ true → HasNoBlank w
none_in p other [] h = refl
none_in p other (x ∷ xs) h = elim (cases_Bool (p x)) [
  | inl is ↦ rw (other x is) (none_in p other xs (rw is at h))
  | inr other_one ↦ let k : false ≡ true = rw other_one at h in absurd (cc)
]

is_test : IsDigitsTest (λ ds. list_all is_ascii_digit ds ≡ true)
is_test = search rules

own : IsNumeralModel (λ ds. list_all is_ascii_digit ds ≡ true) (digits_value 10)
own = numerals_by_value _ is_test

digit_other : (o : ℕ) → is_ascii_digit o ≡ true → not (o == 32) ≡ true
digit_other o h = grind (arith, nat_tests)

number_plain : (n : ℕ) → n < 2 ^ 64 → HasNoBlank (decimal n)
number_plain n h = none_in is_ascii_digit digit_other (decimal n) (digits_decimal own n h)

name_other : (o : ℕ) → is_name_octet o ≡ true → not (o == 32) ≡ true
name_other o h = grind (arith, nat_tests)

and_right : (a b : Bool) → (a && b) ≡ true → b ≡ true
and_right true b h = h
and_right false true h = refl
and_right false false h = h

name_plain : (w : List ℕ) → IsName w → HasNoBlank w
name_plain w h = none_in is_name_octet name_other w (and_right _ (list_all is_name_octet w) h)

digit_plain : (n : ℕ) → not ((48 + n) == 32) ≡ true
digit_plain n = grind (arith, nat_tests)

at_plain : (c : Civil) (m : ℕ) → HasNoBlank (at_text c m)
at_plain c m =
    rw (
      digit_plain (c.year / 100 / 10),
      digit_plain (c.year / 100 % 10),
      digit_plain (c.year % 100 / 10),
      digit_plain (c.year % 100 % 10),
      digit_plain (c.month / 10),
      digit_plain (c.month % 10),
      digit_plain (c.day / 10),
      digit_plain (c.day % 10),
      digit_plain (m % 86400 / 3600 / 10),
      digit_plain (m % 86400 / 3600 % 10),
      digit_plain (m % 3600 / 60 / 10),
      digit_plain (m % 3600 / 60 % 10),
      digit_plain (m % 60 / 10),
      digit_plain (m % 60 % 10),
    ) refl

moment_at : (m : ℕ) → (c : Civil) × (moment_text m ≡ at_text c m)
unfolding moment_text
moment_at m = (civil (m / 86400), refl)

moment_plain : (m : ℕ) → HasNoBlank (moment_text m)
moment_plain m = let at = moment_at m in rw at.1 (at_plain at.0 m)

-- ---- the line of an event

regroup : (a b c d f g : List ℕ) → a ++ b ++ c ++ d ++ f ++ g ≡ a ++ (b ++ (c ++ (d ++ (f ++ g))))
regroup a b c d f g = simp append_assoc

-- THE DEED OF AN EVENT follows the number, the moment and who did it
pub deed_behind : (n : ℕ) (e : Event) → n < 2 ^ 64 → IsReadable e
    → behind_blank (behind_blank (behind_blank (line_of n e))) ≡ deed_text e.deed ++ (notes_text e.notes ++ reason_text e.reason)
deed_behind n e low readable =
    let end = notes_text e.notes ++ reason_text e.reason in
    ap (λ s. behind_blank (behind_blank (behind_blank s)))
    (regroup (decimal n) (codes " " ++ moment_text e.moment) (codes " " ++ e.who) (codes " " ++ deed_text e.deed) (notes_text e.notes)
    (reason_text e.reason))
    ∙ behind_three (decimal n) (moment_text e.moment) e.who (deed_text e.deed ++ end) (number_plain n low) (moment_plain e.moment)
    (name_plain e.who readable.who)

-- a text begins as it begins
pub begins_so : (p t : List ℕ) → starts_with nat_eq (p ++ t) p ≡ true
begins_so [] t = refl
begins_so (x ∷ xs) t = grind (arith, nat_tests, begins_so xs t)

-- ---- where the first blank stands

pub behind_found : (text : List ℕ) (blank : ℕ) → Some blank ≡ position (λ o. o == 32) text
    → take (length text - (blank + 1)) (drop (blank + 1) text) ≡ behind_blank text
behind_found text blank is = go (position_or_len (λ o. o == 32) text) (nat_lt (position_or_len (λ o. o == 32) text) (length text)) is
  where
    go : (n : ℕ) (b : Bool) → Some blank ≡ cond b (Some n) None → take (length text - (blank + 1)) (drop (blank + 1) text) ≡ drop (n + 1) text
    go n true same =
        let here : blank ≡ n = cc in
        take_all (length text - (blank + 1)) (drop (blank + 1) text) (omega (arith, length-drop (blank + 1) text))
        ∙ ap (λ k. drop (k + 1) text) here
    go n false same = absurd cc

pub behind_none : (text : List ℕ) → None ≡ position (λ o. o == 32) text → [] ≡ behind_blank text
behind_none text is =
    let n = position_or_len (λ o. o == 32) text in
    let past : length text ≤ n = grind (arith, nat_tests, is) in
    sym (drop_all (n + 1) text (omega (arith, past)))
