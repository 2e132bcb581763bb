-- What is read as a schedule is the schedule's text.
use Rattle.std.proofs.Common.{◌≡◌, ℕ, ◌+◌, ◌-◌, ◌*◌, ◌/◌, ◌%◌, ◌^◌, ◌<◌, ◌≤◌, ◌==◌, ◌⊎◌, inl, inr, nat_le, Bool, true, false, not, ◌&&◌}
use Rattle.std.proofs.Common.{if◌then◌else◌, List, [], ◌∷◌, ◌++◌, length, get_or, codes, Option, Some, None, refl, ap, sym, ◌∙◌, arith, append_assoc}
use Rattle.std.proofs.lemmas.Bool.{cases_Bool, cases_order}
use Rattle.std.proofs.lemmas.Bool.Decides.{nat_tests}
use Rattle.std.proofs.lemmas.Fmt.{decimal_step, decimal_digit}
use Rattle.std.proofs.lemmas.List.{append-nil, take-append-drop}
use Rattle.std.proofs.lemmas.List.Sums.{prefix_len-le-length, split_at_first, passes_at_first}
use Rattle.std.proofs.lemmas.Slice.Eq.{bytes_eq-Decides}
use Rattle.std.specs.Fmt.{decimal}
use Rattle.std.specs.Str.{bytes_eq}
use Rattle.std.specs.List.{position_or_len, before_first, after_first}
use Rattle.class_plan.specs.declared.schedules.Unit.{Unit as TimeUnit}
use Rattle.class_plan.specs.declared.schedules.Unit.TheVariants.{Days, Months, Years}
use Rattle.class_plan.specs.declared.schedules.Action.{Action}
use Rattle.class_plan.specs.declared.schedules.Action.TheVariants.{Review, Transfer, Destroy}
use Rattle.class_plan.specs.declared.schedules.Schedule.{Schedule}
use Rattle.class_plan.specs.declared.schedules.Schedule.TheVariants.{Permanent, After}
use Rattle.class_plan.specs.Schedules.{most}
use Rattle.class_plan.specs.Texts.{count_from, count_of, unit_of, action_of, year_end_of, from_space, ending_of, unit_word, action_word}
use Rattle.class_plan.specs.Texts.{year_end_text, text_of, is_space, period_of, schedule_of_bytes}
use Rattle.class_plan.proofs.Periods.{after-none, most-small, high_of}

same_bytes : (xs ys : List ℕ) → bytes_eq xs ys ≡ true → ys ≡ xs
same_bytes xs ys e = sym ((bytes_eq-Decides xs ys).0 e)

-- ---- counts

abbrev is_digit : ℕ → Bool
is_digit c = nat_le 48 c && nat_le c 57

digit_low : (c : ℕ) → is_digit c ≡ true → 48 ≤ c
digit_low c e = grind (arith, nat_tests)

digit_high : (c : ℕ) → is_digit c ≡ true → c ≤ 57
digit_high c e = grind (arith, nat_tests)

not_zero : (c : ℕ) → (c == 48) ≡ false → 48 ≤ c → 48 < c
not_zero c e h = grind (arith, nat_tests)

count_grows : (n : ℕ) (cs : List ℕ) (m : ℕ) → count_from n cs ≡ Some m → n ≤ m
count_grows n [] m e = let same : n ≡ m = cc in omega arith
count_grows n (c ∷ cs) m e = elim (cases_Bool (is_digit c)) [
  | inl is ↦ let more = count_grows (n * 10 + (c - 48)) cs m (rw is at e) in omega arith
  | inr other ↦ let k : None ≡ Some m = rw other at e in absurd (cc)
]

-- digits that are read after a number are the last digits of the number made
count_after : (n : ℕ) (cs : List ℕ) (m : ℕ) → 0 < n → m < 2 ^ 64 → count_from n cs ≡ Some m → decimal m ≡ decimal n ++ cs
count_after n [] m some small e = let same : m ≡ n = cc in ap decimal same ∙ sym (append-nil (decimal n))
count_after n (c ∷ cs) m some small e = elim (cases_Bool (is_digit c)) [
  | inl is ↦
      let low = digit_low c is in
      let high = digit_high c is in
      let rest = rw is at e in
      let k : ℕ = n * 10 + (c - 48) in
      let fits : k < 2 ^ 64 = omega (arith, count_grows (n * 10 + (c - 48)) cs m rest) in
      let front : k / 10 ≡ n = omega arith in
      let last : 48 + k % 10 ≡ c = omega arith in
      count_after k cs m (omega arith) small rest ∙ ap (λ ds. ds ++ cs) (decimal_step k (omega arith) fits
      ∙ (λ i. decimal (front i) ++ (last i ∷ []))) ∙ append_assoc (decimal n) (c ∷ []) cs
  | inr other ↦ let k : None ≡ Some m = rw other at e in absurd (cc)
]

first_digit : (c : ℕ) → is_digit c ≡ true → decimal (c - 48) ≡ c ∷ []
first_digit c is =
    let low = digit_low c is in
    let high = digit_high c is in
    decimal_digit (c - 48) (omega arith) ∙ ap (λ d. d ∷ []) (omega arith)

count_is : (w : List ℕ) (n : ℕ) → n < 2 ^ 64 → count_of w ≡ Some n → decimal n ≡ w
count_is [] n small e = absurd (cc)
count_is (c ∷ cs) n small e = elim (cases_Bool (c == 48)) [
  | inl zero ↦ let k : None ≡ Some n = rw zero at e in absurd (cc)
  | inr some ↦ elim (cases_Bool (is_digit c)) [
    | inl is ↦
        let head = not_zero c some (digit_low c is) in
        let rest : count_from (c - 48) cs ≡ Some n = ap (λ k. count_from k cs) (omega arith) ∙ rw (some, is) at e in
        count_after (c - 48) cs n (omega arith) small rest ∙ ap (λ ds. ds ++ cs) (first_digit c is)
    | inr other ↦ let k : None ≡ Some n = rw (some, other) at e in absurd (cc)
  ]
]

-- ---- words

unit_if : (d m y : Bool) (b : List ℕ) (u : TimeUnit) → d ≡ bytes_eq b (codes "days") → m ≡ bytes_eq b (codes "months")
    → y ≡ bytes_eq b (codes "years")
    → (if d then Some Days else if m then Some Months else if y then Some Years else None) ≡ Some u → unit_word u ≡ b
unit_if true m y b u i j k e = let is : Days ≡ u = cc in ap unit_word (sym is) ∙ same_bytes b (codes "days") (sym i)
unit_if false true y b u i j k e = let is : Months ≡ u = cc in ap unit_word (sym is) ∙ same_bytes b (codes "months") (sym j)
unit_if false false true b u i j k e = let is : Years ≡ u = cc in ap unit_word (sym is) ∙ same_bytes b (codes "years") (sym k)
unit_if false false false b u i j k e = absurd (cc)

unit_is : (b : List ℕ) (u : TimeUnit) → unit_of b ≡ Some u → unit_word u ≡ b
unit_is b u e = unit_if (bytes_eq b (codes "days")) (bytes_eq b (codes "months")) (bytes_eq b (codes "years")) b u refl refl refl e

action_if : (r t d : Bool) (b : List ℕ) (x : Action) → r ≡ bytes_eq b (codes "review")
    → t ≡ bytes_eq b (codes "transfer") → d ≡ bytes_eq b (codes "destroy")
    → (if r then Some Review else if t then Some Transfer else if d then Some Destroy else None) ≡ Some x → action_word x ≡ b
action_if true t d b x i j k e = let is : Review ≡ x = cc in ap action_word (sym is) ∙ same_bytes b (codes "review") (sym i)
action_if false true d b x i j k e = let is : Transfer ≡ x = cc in ap action_word (sym is) ∙ same_bytes b (codes "transfer") (sym j)
action_if false false true b x i j k e = let is : Destroy ≡ x = cc in ap action_word (sym is) ∙ same_bytes b (codes "destroy") (sym k)
action_if false false false b x i j k e = absurd (cc)

year_end_if : (n y : Bool) (b : List ℕ) (v : Bool) → n ≡ bytes_eq b [] → y ≡ bytes_eq b (codes " year-end")
    → (if n then Some false else if y then Some true else None) ≡ Some v → year_end_text v ≡ b
year_end_if true y b v i j e = let is : false ≡ v = cc in ap year_end_text (sym is) ∙ same_bytes b [] (sym i)
year_end_if false true b v i j e = let is : true ≡ v = cc in ap year_end_text (sym is) ∙ same_bytes b (codes " year-end") (sym j)
year_end_if false false b v i j e = absurd (cc)

action_is : (b : List ℕ) (x : Action) → action_of b ≡ Some x → action_word x ≡ b
action_is b x e = action_if (bytes_eq b (codes "review")) (bytes_eq b (codes "transfer")) (bytes_eq b (codes "destroy")) b x refl refl refl e

year_end_is : (b : List ℕ) (v : Bool) → year_end_of b ≡ Some v → year_end_text v ≡ b
year_end_is b v e = year_end_if (bytes_eq b []) (bytes_eq b (codes " year-end")) b v refl refl e

ending_if : (a : Option Action) (y : Option Bool) (c : List ℕ) (x : Action × Bool)
    → action_of (before_first is_space c) ≡ a → year_end_of (from_space c) ≡ y → ending_of c ≡ Some x → action_word x.0
    ++ year_end_text x.1 ≡ c
ending_if None y c x d e h = let k : None ≡ Some x = rw d at h in absurd (cc)
ending_if (Some a) None c x d e h = let k : None ≡ Some x = rw (d, e) at h in absurd (cc)
ending_if (Some a) (Some y) c x d e h =
    let both : Some (a, y) ≡ Some x = rw (d, e) at h in
    let is : (a, y) ≡ x = cc in
    ap (λ p. action_word p.0 ++ year_end_text p.1) (sym is)
    ∙ (λ i. action_is (before_first is_space c) a d i ++ year_end_is (from_space c) y e i)
    ∙ take-append-drop (position_or_len is_space c) c

ending_is : (c : List ℕ) (x : Action × Bool) → ending_of c ≡ Some x → action_word x.0 ++ year_end_text x.1 ≡ c
ending_is c x e = ending_if (action_of (before_first is_space c)) (year_end_of (from_space c)) c x refl refl e

-- ---- whole texts

space_is : (c : ℕ) → is_space c ≡ true → c ≡ 32
space_is c e = grind (arith, nat_tests)

-- a text has a space, or nothing follows the first one
space_or_none : (t : List ℕ) → (t ≡ before_first is_space t ++ 32 ∷ after_first is_space t) ⊎ ([] ≡ after_first is_space t)
space_or_none t = elim (cases_order (position_or_len is_space t) (length t)) [
  | inl same ↦ inr (after-none t same)
  | inr (inl less) ↦ inl (split_at_first is_space t 0 less
      ∙ ap (λ c. before_first is_space t
      ++ c ∷ after_first is_space t)
      (space_is (get_or t (position_or_len is_space t) 0) (passes_at_first is_space t 0 less)))
  | inr (inr more) ↦ absurd (omega (arith, prefix_len-le-length (λ c. not (is_space c)) t))
]

no_unit : (u : TimeUnit) → unit_of [] ≡ Some u → ⊥
no_unit u e = cc

no_ending : (x : Action × Bool) → ending_of [] ≡ Some x → ⊥
no_ending x e = cc

rest_is : (r : List ℕ) (u : TimeUnit) (x : Action × Bool) → unit_of (before_first is_space r) ≡ Some u
    → ending_of (after_first is_space r) ≡ Some x → unit_word u ++ 32 ∷ (action_word x.0 ++ year_end_text x.1) ≡ r
rest_is r u x d e = elim (space_or_none r) [
  | inl cut ↦ (λ i. unit_is (before_first is_space r) u d i ++ 32 ∷ ending_is (after_first is_space r) x e i) ∙ sym cut
  | inr none ↦ absurd (no_ending x (ap ending_of none ∙ e))
]

whole_is : (t : List ℕ) (n : ℕ) (u : TimeUnit) (x : Action × Bool) → n < 2 ^ 64
    → count_of (before_first is_space t) ≡ Some n → unit_of (before_first is_space (after_first is_space t)) ≡ Some u
    → ending_of (after_first is_space (after_first is_space t)) ≡ Some x → text_of (After n u x.0 x.1) ≡ t
whole_is t n u x small c d e = elim (space_or_none t) [
  | inl cut ↦ (λ i. count_is (before_first is_space t) n small c i ++ 32 ∷ rest_is (after_first is_space t) u x d e i) ∙ sym cut
  | inr none ↦ absurd (no_unit u (ap (λ r. unit_of (before_first is_space r)) none ∙ d))
]

period_if : (g : Bool) (t : List ℕ) (n : ℕ) (u : TimeUnit) (x : Action × Bool) (s : Schedule)
    → (nat_le 1 n && nat_le n (most u)) ≡ g → count_of (before_first is_space t) ≡ Some n
    → unit_of (before_first is_space (after_first is_space t)) ≡ Some u
    → ending_of (after_first is_space (after_first is_space t)) ≡ Some x → (if g then Some (After n u x.0 x.1) else None) ≡ Some s → text_of s ≡ t
period_if true t n u x s g c d e h =
    let is : After n u x.0 x.1 ≡ s = cc in
    let high = high_of n (most u) g in
    let top = most-small u in
    ap text_of (sym is) ∙ whole_is t n u x (omega arith) c d e
period_if false t n u x s g c d e h = absurd (cc)

period_is : (o : Option ℕ) (u : Option TimeUnit) (x : Option (Action × Bool)) (t : List ℕ) (s : Schedule)
    → count_of (before_first is_space t) ≡ o → unit_of (before_first is_space (after_first is_space t)) ≡ u
    → ending_of (after_first is_space (after_first is_space t)) ≡ x
    → period_of (before_first is_space t) (before_first is_space (after_first is_space t))
    (after_first is_space (after_first is_space t)) ≡ Some s → text_of s ≡ t
unfolding period_of
period_is None u x t s c d e h = let k : None ≡ Some s = rw c at h in absurd (cc)
period_is (Some n) None x t s c d e h = let k : None ≡ Some s = rw (c, d) at h in absurd (cc)
period_is (Some n) (Some u) None t s c d e h = let k : None ≡ Some s = rw (c, d, e) at h in absurd (cc)
period_is (Some n) (Some u) (Some x) t s c d e h = period_if (nat_le 1 n && nat_le n (most u)) t n u x s refl c d e (rw (c, d, e) at h)

text_if : (p : Bool) (t : List ℕ) (s : Schedule) → bytes_eq t (codes "permanent") ≡ p
    → (if p then Some Permanent else period_of (before_first is_space t)
    (before_first is_space (after_first is_space t)) (after_first is_space (after_first is_space t))) ≡ Some s
    → text_of s ≡ t
text_if true t s p h = let is : Permanent ≡ s = cc in ap text_of (sym is) ∙ same_bytes t (codes "permanent") p
text_if false t s p h =
    period_is (count_of (before_first is_space t)) (unit_of (before_first is_space (after_first is_space t)))
    (ending_of (after_first is_space (after_first is_space t))) t s refl refl refl h

-- the schedule that is read from a text has that text
pub text-read : (t : List ℕ) (s : Schedule) → schedule_of_bytes t ≡ Some s → text_of s ≡ t
unfolding schedule_of_bytes
text-read t s e = text_if (bytes_eq t (codes "permanent")) t s refl e
