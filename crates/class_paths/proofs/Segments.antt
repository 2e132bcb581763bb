-- Paths, octet by octet.
use Rattle.std.proofs.Common.{◌≡◌, ℕ, suc, ◌+◌, ◌<◌, ◌≤◌, ◌==◌, nat_le, Bool, true, false, ◌&&◌, List, [], ◌∷◌, ◌++◌}
use Rattle.std.proofs.Common.{length, drop, get_or, refl, ap, ◌∙◌, arith, inl, inr, length-append}
use Rattle.std.proofs.lemmas.List.{drop_more}
use Rattle.std.proofs.lemmas.List.Folds.{list_all-append}
use Rattle.std.proofs.lemmas.Bool.{cases_Bool}
use Rattle.std.proofs.lemmas.Bool.Decides.{nat_tests}
use Rattle.std.proofs.Math.Bool.{and-true, and-false}
use Rattle.std.specs.List.{list_all}
use Rattle.class_paths.specs.Path.{is_mark, is_segment, segments_from, is_path}

-- after n whole segments and these octets of the next, the rest makes a path
abbrev pub goes_on : ℕ → List ℕ → List ℕ → Bool
goes_on n now rest = nat_le (n + length (segments_from now rest)) 8 && list_all is_segment (segments_from now rest)

-- octets of one segment
pub record Begun (now : List ℕ) (run : ℕ) : Type 0 where
  pub long : length now ≡ run
  pub marks : list_all is_mark now ≡ true

pub path-start : (p : List ℕ) → is_path p ≡ goes_on 0 [] p
unfolding is_path
path-start p = ap (λ n. nat_le n 8 && list_all is_segment (segments_from [] p)) (omega arith)

all_append : (xs : List ℕ) (c : ℕ) → list_all is_mark (xs ++ c ∷ []) ≡ (list_all is_mark xs && is_mark c)
all_append xs c = list_all-append is_mark xs (c ∷ []) ∙ ap (λ b. list_all is_mark xs && b) (and-true (is_mark c))

pub begun-none : Begun [] 0
begun-none = record { long = refl; marks = refl }

pub begun-more : (now : List ℕ) (run c : ℕ) → Begun now run → is_mark c ≡ true → Begun (now ++ c ∷ []) (run + 1)
begun-more now run c h m = record { long = length-append now (c ∷ []) ∙ omega (arith, h.long); marks = all_append now c ∙ rw (h.marks, m) }

whole : (now : List ℕ) (run : ℕ) → Begun now run → 1 ≤ run → run ≤ 40 → is_segment now ≡ true
whole now run h low high = rw h.marks (grind (arith, nat_tests, h.long))

short : (now : List ℕ) → length now ≡ 0 → is_segment now ≡ false
short now e = rw e refl

some_segment : (now cs : List ℕ) → 1 ≤ length (segments_from now cs)
some_segment now [] = omega arith
some_segment now (c ∷ cs) = elim (cases_Bool (c == 47)) [
  | inl is ↦ rw is (omega arith)
  | inr other ↦ rw other (some_segment (now ++ c ∷ []) cs)
]

-- a segment with a wrong octet stays wrong
bad_marks : (now cs : List ℕ) → list_all is_mark now ≡ false → list_all is_segment (segments_from now cs) ≡ false
bad_marks now [] e = rw e (grind (arith, nat_tests))
bad_marks now (c ∷ cs) e = elim (cases_Bool (c == 47)) [
  | inl is ↦ rw (is, e) (grind (arith, nat_tests))
  | inr other ↦ rw other (bad_marks (now ++ c ∷ []) cs (all_append now c ∙ rw e refl))
]

too_long : (now cs : List ℕ) → 40 < length now → list_all is_segment (segments_from now cs) ≡ false
too_long now [] h = grind (arith, nat_tests)
too_long now (c ∷ cs) h = elim (cases_Bool (c == 47)) [
  | inl is ↦ rw is (grind (arith, nat_tests))
  | inr other ↦ rw other (too_long (now ++ c ∷ []) cs (omega (arith, length-append now (c ∷ []))))
]

pub next-slash : (p now : List ℕ) (i n run : ℕ) → i < length p → get_or p i 0 ≡ 47 → Begun now run → 1 ≤ run → run ≤ 40
    → goes_on n now (drop i p) ≡ goes_on (n + 1) [] (drop (i + 1) p)
next-slash p now i n run h c b low high =
    rw (
      drop_more p i 0 h,
      c,
      whole now run b low high,
    ) (ap (λ k. nat_le k 8 && list_all is_segment (segments_from [] (drop (i + 1) p)))
    (omega arith))

pub next-empty : (p now : List ℕ) (i n : ℕ) → i < length p → get_or p i 0 ≡ 47 → Begun now 0 → goes_on n now (drop i p) ≡ false
next-empty p now i n h c b = rw (drop_more p i 0 h, c, short now b.long) (and-false (nat_le (n + suc (length (segments_from [] (drop (i + 1) p)))) 8))

pub next-many : (p now : List ℕ) (i n : ℕ) → i < length p → get_or p i 0 ≡ 47 → 7 ≤ n → goes_on n now (drop i p) ≡ false
next-many p now i n h c b =
    let some = some_segment [] (drop (i + 1) p) in
    rw (drop_more p i 0 h, c) (grind (arith, nat_tests))

pub next-mark : (p now : List ℕ) (i n : ℕ) → i < length p → (get_or p i 0 == 47) ≡ false
    → goes_on n now (drop i p) ≡ goes_on n (now ++ get_or p i 0 ∷ []) (drop (i + 1) p)
next-mark p now i n h c = rw (drop_more p i 0 h, c)

pub next-other : (p now : List ℕ) (i n : ℕ) → i < length p → (get_or p i 0 == 47) ≡ false
    → is_mark (get_or p i 0) ≡ false → goes_on n now (drop i p) ≡ false
next-other p now i n h c m =
    next-mark p now i n h c
    ∙ ap (λ b. nat_le (n + length (segments_from (now ++ get_or p i 0 ∷ []) (drop (i + 1) p))) 8
    && b) (bad_marks (now ++ get_or p i 0 ∷ []) (drop (i + 1) p) (all_append now (get_or p i 0)
    ∙ rw m (and-false (list_all is_mark now))))
    ∙ and-false (nat_le (n + length (segments_from (now ++ get_or p i 0 ∷ []) (drop (i + 1) p))) 8)

pub next-long : (p now : List ℕ) (i n : ℕ) → i < length p → (get_or p i 0 == 47) ≡ false → 40 ≤ length now → goes_on n now (drop i p) ≡ false
next-long p now i n h c m =
    next-mark p now i n h c
    ∙ ap (λ b. nat_le (n + length (segments_from (now ++ get_or p i 0 ∷ []) (drop (i + 1) p))) 8
    && b) (too_long (now
    ++ get_or p i 0 ∷ []) (drop (i + 1) p) (omega (arith, length-append now (get_or p i 0 ∷ []))))
    ∙ and-false (nat_le (n + length (segments_from (now ++ get_or p i 0 ∷ []) (drop (i + 1) p))) 8)
