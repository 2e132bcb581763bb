-- The text of a schedule in range reads back.
use Rattle.std.proofs.Common.{◌≡◌, ℕ, ◌+◌, ◌-◌, ◌*◌, ◌/◌, ◌%◌, ◌^◌, ◌<◌, ◌≤◌, ◌==◌, nat_le, Bool, true, false, not, ◌&&◌, List, [], ◌∷◌, ◌++◌, take}
use Rattle.std.proofs.Common.{drop, length, codes, Some, None, inl, inr, refl, ap, sym, ◌∙◌, arith, append_assoc, length-append}
use Rattle.std.proofs.lemmas.Bool.{cases_Bool}
use Rattle.std.proofs.lemmas.Bool.Decides.{nat_tests}
use Rattle.std.proofs.lemmas.Fmt.{decimal_by_steps}
use Rattle.std.proofs.lemmas.List.{take_at, drop_at}
use Rattle.std.specs.Fmt.{decimal}
use Rattle.std.specs.Str.{bytes_eq}
use Rattle.std.specs.List.{list_all, position_or_len, before_first, after_first}
use Rattle.class_plan.specs.declared.schedules.Unit.{Unit as TimeUnit}
use Rattle.class_plan.specs.declared.schedules.Unit.TheVariants.{Days, Months, Years}
use Rattle.class_plan.specs.declared.schedules.Action.{Action}
use Rattle.class_plan.specs.declared.schedules.Action.TheVariants.{Review}
use Rattle.class_plan.specs.declared.schedules.Schedule.{Schedule}
use Rattle.class_plan.specs.declared.schedules.Schedule.TheVariants.{Permanent, After}
use Rattle.class_plan.specs.Schedules.{most, IsInRange}
use Rattle.class_plan.specs.Texts.{count_from, count_of, unit_of, unit_word, action_word, year_end_text, text_of}
use Rattle.class_plan.specs.Texts.{ending_of, is_space, schedule_of_bytes}
use Rattle.class_plan.proofs.Periods.{text-permanent, text-parts, period-made}

-- ---- counts

abbrev is_digit : ℕ → Bool
is_digit c = nat_le 48 c && nat_le c 57

-- the first octet is no zero
abbrev IsHead : List ℕ → Type 0
IsHead [] = ⊥
IsHead (c ∷ cs) = (c == 48) ≡ false

-- the digits of a number
record IsCount (n : ℕ) (ds : List ℕ) : Type 0 where
  value : count_from 0 ds ≡ Some n
  digits : list_all is_digit ds ≡ true
  head : 0 < n → IsHead ds

digit_test : (d : ℕ) → d < 10 → is_digit (48 + d) ≡ true
digit_test d h = grind (arith, nat_tests)

count_push : (a : ℕ) (ds : List ℕ) (d m : ℕ) → d < 10 → count_from a ds ≡ Some m → count_from a (ds ++ (48 + d) ∷ []) ≡ Some (m * 10 + d)
count_push a [] d m h e =
    let same : a ≡ m = cc in
    rw (digit_test d h) (ap (λ k. Some k) (let s : a * 10 + (48 + d - 48) ≡ m * 10 + d = omega arith in s))
count_push a (x ∷ xs) d m h e = elim (cases_Bool (is_digit x)) [
  | inl is ↦ rw is (count_push (a * 10 + (x - 48)) xs d m h (rw is at e))
  | inr other ↦ let k : None ≡ Some m = rw other at e in absurd (cc)
]

digits_push : (ds : List ℕ) (d : ℕ) → d < 10 → list_all is_digit ds ≡ true → list_all is_digit (ds ++ (48 + d) ∷ []) ≡ true
digits_push [] d h e = rw (digit_test d h)
digits_push (x ∷ xs) d h e = elim (cases_Bool (is_digit x)) [
  | inl is ↦ rw is (digits_push xs d h (rw is at e))
  | inr other ↦ let k : false ≡ true = rw other at e in absurd (cc)
]

head_push : (ds : List ℕ) (c : ℕ) → IsHead ds → IsHead (ds ++ c ∷ [])
head_push [] c h = absurd h
head_push (x ∷ xs) c h = h

not_zero : (n : ℕ) → 0 < n → ((48 + n) == 48) ≡ false
not_zero n h = grind (arith, nat_tests)

one_digit : (n : ℕ) → n < 10 → IsCount n ((48 + n) ∷ [])
one_digit n h = record { value = count_push 0 [] n 0 h refl ∙ ap (λ k. Some k) (omega arith); digits = digits_push [] n h refl; head = not_zero n }

more_digits : (n : ℕ) (ds : List ℕ) → 10 ≤ n → IsCount (n / 10) ds → IsCount n (ds ++ (48 + n % 10) ∷ [])
more_digits n ds h k =
    let small : n % 10 < 10 = omega arith in
    let some : 0 < n / 10 = omega arith in
    record {
      value = count_push 0 ds (n % 10) (n / 10) small k.value ∙ ap (λ m. Some m) (let s : n / 10 * 10 + n % 10 ≡ n = omega arith in s);
      digits = digits_push ds (n % 10) small k.digits;
      head = λ _. head_push ds (48 + n % 10) (k.head some);
    }

decimal_counts : (n : ℕ) → n < 2 ^ 64 → IsCount n (decimal n)
decimal_counts n h = decimal_by_steps IsCount one_digit more_digits n h

count_headed : (n : ℕ) (ds : List ℕ) → IsHead ds → count_from 0 ds ≡ Some n → count_of ds ≡ Some n
count_headed n [] h e = absurd h
count_headed n (c ∷ cs) h e = rw h e

-- ---- words

abbrev has_no_space : List ℕ → Bool
has_no_space cs = list_all (λ c. not (is_space c)) cs

digit_no_space : (c : ℕ) → is_digit c ≡ true → not (is_space c) ≡ true
digit_no_space c e = grind (arith, nat_tests)

digits_no_space : (ds : List ℕ) → list_all is_digit ds ≡ true → has_no_space ds ≡ true
digits_no_space [] e = refl
digits_no_space (x ∷ xs) e = elim (cases_Bool (is_digit x)) [
  | inl is ↦ rw (digit_no_space x is) (digits_no_space xs (rw is at e))
  | inr other ↦ let k : false ≡ true = rw other at e in absurd (cc)
]

space_place : (ds r : List ℕ) → has_no_space ds ≡ true → position_or_len is_space (ds ++ 32 ∷ r) ≡ length ds
space_place [] r e = refl
space_place (x ∷ xs) r e = elim (cases_Bool (not (is_space x))) [
  | inl is ↦ rw is (ap (λ n. 1 + n) (space_place xs r (rw is at e)) ∙ omega arith)
  | inr other ↦ let k : false ≡ true = rw other at e in absurd (cc)
]

before_space : (ds r : List ℕ) → has_no_space ds ≡ true → ds ≡ before_first is_space (ds ++ 32 ∷ r)
before_space ds r e = sym (ap (λ n. take n (ds ++ 32 ∷ r)) (space_place ds r e) ∙ take_at ds (32 ∷ r) (length ds) refl)

after_space : (ds r : List ℕ) → has_no_space ds ≡ true → r ≡ after_first is_space (ds ++ 32 ∷ r)
after_space ds r e =
    sym (ap (λ n. drop (n + 1) (ds ++ 32 ∷ r)) (space_place ds r e)
    ∙ ap (drop (length ds + 1)) (sym (append_assoc ds (32 ∷ []) r))
    ∙ drop_at (ds ++ 32 ∷ []) r (length ds + 1) (length-append ds (32 ∷ [])))

unit_reads : (u : TimeUnit) → Some u ≡ unit_of (unit_word u)
unit_reads Days = refl
unit_reads u = refl

unit_no_space : (u : TimeUnit) → has_no_space (unit_word u) ≡ true
unit_no_space Days = refl
unit_no_space u = refl

ending_reads : (x : Action) (y : Bool) → Some (x, y) ≡ ending_of (action_word x ++ year_end_text y)
ending_reads Review false = refl
ending_reads Review true = refl
ending_reads action false = refl
ending_reads action true = refl

not_p : (c : ℕ) → is_digit c ≡ true → (c == 112) ≡ false
not_p c e = grind (arith, nat_tests)

not_permanent : (ds r : List ℕ) → IsHead ds → list_all is_digit ds ≡ true → bytes_eq (ds ++ r) (codes "permanent") ≡ false
not_permanent [] r h e = absurd h
not_permanent (x ∷ xs) r h e = elim (cases_Bool (is_digit x)) [
  | inl is ↦ rw (not_p x is)
  | inr other ↦ let k : false ≡ true = rw other at e in absurd (cc)
]

greatest : (u : TimeUnit) → most u < 2 ^ 64
greatest Days = omega arith
greatest Months = omega arith
greatest Years = omega arith

pub text-reads : (s : Schedule) → IsInRange s → schedule_of_bytes (text_of s) ≡ Some s
text-reads Permanent h = sym (text-permanent (codes "permanent") refl)
text-reads (After n u x y) h =
    let fits : n < 2 ^ 64 = let top = greatest u in omega arith in
    let count = decimal_counts n fits in
    let some : 0 < n = omega arith in
    let plain = digits_no_space (decimal n) count.digits in
    let ending = action_word x ++ year_end_text y in
    let r = unit_word u ++ 32 ∷ ending in
    sym (period-made (decimal n) (unit_word u) ending n u (
      x,
      y,
    ) (count_headed n (decimal n) (count.head some) count.value) (unit_reads u) (ending_reads x y) h.0 h.1
    ∙ text-parts (text_of (After n u x y)) (decimal n) r (unit_word u) ending (not_permanent (decimal n) (32
    ∷ r) (count.head some) count.digits) (before_space (decimal n) r plain) (after_space (decimal n) r plain)
    (before_space (unit_word u) ending (unit_no_space u)) (after_space (unit_word u) ending (unit_no_space u)))
