-- The tests of a judgement over listed classes, and the answer at each of its ends.
use Rattle.std.proofs.Common.{◌≡◌, ℕ, nat_lt, Bool, true, false, not, ◌||◌, List, [], ◌∷◌, map, length, Ok, Err, refl, ap, ◌∙◌, arith, ◌<◌, ◌≤◌}
use Rattle.std.proofs.lemmas.Bool.Decides.{nat_tests}
use Rattle.std.specs.List.{list_any}
use Rattle.class_paths.specs.Path.{is_path, has_parent_in, first_passes, ancestors}
use Rattle.class_plan.specs.declared.faults.PlanFault.{PlanFault}
use Rattle.class_plan.specs.declared.faults.PlanFault.TheVariants.{NotToml, BadShape, BadPath, ParentMissing, PathTwice}
use Rattle.class_plan.specs.declared.faults.PlanFault.TheVariants.{BadSchedule, TooManyClasses, PathDropped}
use Rattle.class_plan.specs.declared.entries.Listed.{Listed}
use Rattle.class_plan.specs.Faults.{verdict}
use Rattle.class_plan.specs.Plans.{Row, has}
use Rattle.class_plan.specs.Entries.{Entry, entry_view, is_faulty, rows_from, with_unfiled, is_known, comes_again, class_count_of}
use Rattle.class_plan.proofs.Twice.{has-listing, length-listing}

-- a test of the entries of listed classes
list_any-shown : (p : Entry → Bool) (xs : List Listed) → list_any (λ c. p (entry_view c)) xs ≡ list_any p (map entry_view xs)
list_any-shown p [] = refl
list_any-shown p (x ∷ xs) = ap (λ b. p (entry_view x) || b) (list_any-shown p xs)

list_any-same : (p q : Entry → Bool) → ((e : Entry) → p e ≡ q e) → (xs : List Entry) → list_any p xs ≡ list_any q xs
list_any-same p q h [] = refl
list_any-same p q h (x ∷ xs) = ap (λ b. b || list_any p xs) (h x) ∙ ap (λ b. q x || b) (list_any-same p q h xs)

pub first-same : (f g : List ℕ → Bool) → ((q : List ℕ) → f q ≡ g q) → (qs : List (List ℕ)) → first_passes f qs ≡ first_passes g qs
first-same f g h [] = refl
first-same f g h (q ∷ qs) = h q

pub test-path : (xs : List Listed) → list_any (λ c. not (is_path c.path.now)) xs ≡ list_any (λ e. not (is_path e.path)) (map entry_view xs)
test-path xs = list_any-shown (λ e. not (is_path e.path)) xs

pub test-schedule : (xs : List Listed) → list_any (λ c. is_faulty c.stated) xs ≡ list_any (λ e. is_faulty e.stated) (map entry_view xs)
test-schedule xs = list_any-shown (λ e. is_faulty e.stated) xs

pub test-parent : (xs : List Listed) (rs : List Row) → rs ≡ with_unfiled (rows_from [] (map entry_view xs))
    → list_any (λ c. not (has_parent_in (has rs) c.path.now)) xs
    ≡ list_any (λ e. not (has_parent_in (is_known (map entry_view xs)) e.path)) (map entry_view xs)
test-parent xs rs is =
    list_any-shown (λ e. not (has_parent_in (has rs) e.path)) xs
    ∙ list_any-same _ _ (λ e. ap not (first-same (has rs) (is_known (map entry_view xs)) (λ q. ap (λ r. has r q) is
    ∙ has-listing (map entry_view xs) q) (ancestors e.path))) (map entry_view xs)

above : (n : ℕ) → 4096 < n → nat_lt 4096 n ≡ true
above n h = grind (arith, nat_tests)

pub within : (n : ℕ) → n ≤ 4096 → nat_lt 4096 n ≡ false
within n h = grind (arith, nat_tests)

pub test-many : (es : List Entry) (rs : List Row) → comes_again [] es ≡ false → rs ≡ with_unfiled (rows_from [] es)
    → 4096 < length rs → nat_lt 4096 (class_count_of es) ≡ true
test-many es rs twice is h = let e = ap length is ∙ length-listing es twice in above (class_count_of es) (omega arith)

pub test-few : (es : List Entry) (rs : List Row) → comes_again [] es ≡ false → rs ≡ with_unfiled (rows_from [] es)
    → length rs ≤ 4096 → nat_lt 4096 (class_count_of es) ≡ false
test-few es rs twice is h = let e = ap length is ∙ length-listing es twice in within (class_count_of es) (omega arith)

-- no path is bad, lacks its parent or comes again
pub record HasGoodPaths (h : PlanFault → Bool) : Type 0 where
  pub path : h BadPath ≡ false
  pub parent : h ParentMissing ≡ false
  pub twice : h PathTwice ≡ false

-- the ends of a judgement after the text and its shape passed
module _ {A : Type 0} (h : PlanFault → Bool) (a : A) (toml : h NotToml ≡ false) (shape : h BadShape ≡ false) where
  pub end-path : h BadPath ≡ true → verdict h a ≡ Err BadPath
  end-path p = rw (toml, shape, p)

  pub end-parent : h BadPath ≡ false → h ParentMissing ≡ true → verdict h a ≡ Err ParentMissing
  end-parent p q = rw (toml, shape, p, q)

  pub end-twice : h BadPath ≡ false → h ParentMissing ≡ false → h PathTwice ≡ true → verdict h a ≡ Err PathTwice
  end-twice p q t = rw (toml, shape, p, q, t)

  pub end-schedule : HasGoodPaths h → h BadSchedule ≡ true → verdict h a ≡ Err BadSchedule
  end-schedule g s = rw (toml, shape, g.path, g.parent, g.twice, s)

  pub end-many : HasGoodPaths h → h BadSchedule ≡ false → h TooManyClasses ≡ true → verdict h a ≡ Err TooManyClasses
  end-many g s m = rw (toml, shape, g.path, g.parent, g.twice, s, m)

  pub end-well : HasGoodPaths h → h BadSchedule ≡ false → h TooManyClasses ≡ false → h PathDropped ≡ false → verdict h a ≡ Ok a
  end-well g s m d = rw (toml, shape, g.path, g.parent, g.twice, s, m, d)
