-- Names and entries, one after another.
use Rattle.std.proofs.Common.{◌≡◌, ◌<◌, ◌≤◌, ◌≤ℤ◌, ℤ, pos, unsigned_abs, Option, Some, None, option_map, IfSome, ◌+◌}
use Rattle.std.proofs.Common.{◌-◌, ◌==◌, ℕ, zero, suc, Bool, true, false, cond, List, [], ◌∷◌, ◌++◌, length, map, drop}
use Rattle.std.proofs.Common.{get_or, sym, ap, ap₂, ◌∙◌, arith, append_assoc}
use Rattle.std.proofs.lemmas.List.{append-nil, drop_all, drop_more, drop-map, length-drop, length-map, map-append}
use Rattle.std.proofs.lemmas.Int.{ints}
use Rattle.jiff.specs.Words.{epoch_day}
use Rattle.jiff.proofs.SpanFacts.{signed_arith}
use Rattle.jiff_core.specs.declared.civil.date.Date.{Date}
use Rattle.class_plan.specs.Calendar.{number_of_day, due_on}
use Rattle.class_plan.specs.Dates.{IsLater}
use Rattle.class_plan.specs.Plans.{Listing}
use Rattle.record_archive.specs.Archive.{Record}
use Rattle.record_tables.specs.Reads.{HoldEntry}
use Rattle.record_choice.specs.Entries.{RecordEntry, listed, due_if_live}
use Rattle.record_store.specs.Entries.{names_at_front, listed_beside}

-- ---- the names at the front

module _ {V W : Type 0} (f : V → HoldEntry) (view : W → List ℕ) (n : ℕ) (vs : List V) where
  -- the names so far, and those that follow, are all of them
  abbrev pub NamesSoFar : ℕ → List W → Type 0
  NamesSoFar i ws = map view ws ++ names_at_front n (map f (drop i vs)) ≡ names_at_front n (map f vs)

  here : (v : V) (i : ℕ) → i < length vs → v ≡ get_or vs i v → drop i vs ≡ v ∷ drop (i + 1) vs
  here v i low is = drop_more vs i v low ∙ ap (λ x. x ∷ drop (i + 1) vs) (sym is)

  pub name_next : (ws : List W) (v : V) (i : ℕ) (w : W) → i < length vs → v ≡ get_or vs i v → view w ≡ (f v).name → ((f v).number == n) ≡ true
      → NamesSoFar i ws → NamesSoFar (i + 1) (ws ++ w ∷ [])
  name_next ws v i w low is name on so_far =
      let rest = names_at_front n (map f (drop (i + 1) vs)) in
      ap (λ l. l ++ rest) (map-append view ws (w ∷ []) ∙ ap (λ x. map view ws ++ x ∷ []) name) ∙ append_assoc (map view ws) ((f v).name ∷ []) rest
      ∙ sym (ap (λ b. map view ws ++ cond b ((f v).name ∷ rest) []) on)
      ∙ ap (λ l. map view ws ++ names_at_front n (map f l)) (sym (here v i low is)) ∙ so_far

  pub name_stop : (ws : List W) (v : V) (i : ℕ) → i < length vs → v ≡ get_or vs i v → ((f v).number == n) ≡ false → NamesSoFar i ws
      → map view ws ≡ names_at_front n (map f vs)
  name_stop ws v i low is off so_far =
      sym (append-nil (map view ws)) ∙ sym (ap (λ b. map view ws ++ cond b ((f v).name ∷ names_at_front n (map f (drop (i + 1) vs))) []) off)
      ∙ ap (λ l. map view ws ++ names_at_front n (map f l)) (sym (here v i low is)) ∙ so_far

  pub name_end : (ws : List W) (i : ℕ) → length vs ≤ i → NamesSoFar i ws → map view ws ≡ names_at_front n (map f vs)
  name_end ws i high so_far = sym (append-nil (map view ws)) ∙ ap (λ l. map view ws ++ names_at_front n (map f l)) (sym (drop_all i vs high)) ∙ so_far

-- ---- entries

day_back : (z : ℤ) → pos 0 ≤ℤ z → z ≡ pos (unsigned_abs z)
day_back z low = grind (arith, ints, signed_arith, low)

-- a due date, as a day number, is the due day of the plan
pub due_seen : (day : Date) (o : Option Date) (m : Option ℕ) → option_map number_of_day o ≡ m → IfSome o (λ d. IsLater day d)
    → option_map epoch_day o ≡ option_map pos m
due_seen day None m is later = ap (option_map pos) is
due_seen day (Some d) m is later = ap (λ z. Some z) (day_back (epoch_day d) later.2.0) ∙ ap (option_map pos) is

pub due_none : (p : Listing) (r : Record) → r.destroyed ≡ true → None ≡ option_map pos (due_if_live p r)
due_none p r gone = sym (ap (λ b. option_map pos (cond {A = Option ℕ} b None (due_on p r.path r.day))) gone)

pub due_live : (p : Listing) (r : Record) → r.destroyed ≡ false → due_on p r.path r.day ≡ due_if_live p r
due_live p r live = sym (ap (λ b. cond {A = Option ℕ} b None (due_on p r.path r.day)) live)

pub front_short : (n : ℕ) (hs : List HoldEntry) → length (names_at_front n hs) ≤ length hs
front_short n [] = omega arith
front_short n (h ∷ hs) = go (h.number == n) (front_short n hs)
  where
    go : (b : Bool) → length (names_at_front n hs) ≤ length hs → length (cond b (h.name ∷ names_at_front n hs) []) ≤ length (h ∷ hs)
    go true more = omega (arith, more)
    go false more = omega arith

drop_again : {X : Type 0} (i k : ℕ) (xs : List X) → drop k (drop i xs) ≡ drop (i + k) xs
drop_again zero k xs = ap (λ n. drop n xs) (let e : k ≡ 0 + k = omega arith in e)
drop_again {X = X} (suc i) zero [] = ap (λ n. drop {A = X} n []) (let e : suc i ≡ suc i + 0 = omega arith in e)
drop_again {X = X} (suc i) (suc k) [] = ap (λ n. drop {A = X} n []) (let e : suc (i + suc k) ≡ suc i + suc k = omega arith in e)
drop_again (suc i) k (x ∷ xs) = drop_again i k xs ∙ ap (λ n. drop n (x ∷ xs)) (let e : suc (i + k) ≡ suc i + k = omega arith in e)

module _ {V W H : Type 0} (f : H → HoldEntry) (g : V → Record) (view : W → RecordEntry) (p : Listing) (hs : List H) (whole : List RecordEntry) where
  -- the entries so far, and those of the records and holds that are left, are all of them
  abbrev pub EntriesSoFar : ℕ → List W → List V → Type 0
  EntriesSoFar at ws rest = map view ws ++ listed_beside p (map f (drop at hs)) (map g rest) ≡ whole

  pub entry_next : (at k : ℕ) (ws : List W) (w : W) (v : V) (rest : List V) (names : List (List ℕ))
      → names ≡ names_at_front (g v).number (map f (drop at hs)) → k ≡ length names → view w ≡ listed p (g v) names
      → EntriesSoFar at ws (v ∷ rest) → EntriesSoFar (at + k) (ws ++ w ∷ []) rest
  entry_next at k ws w v rest names are count is so_far =
      let front = names_at_front (g v).number (map f (drop at hs)) in
      let left : map f (drop (at + k) hs) ≡ drop (length front) (map f (drop at hs)) =
      ap (map f) (sym (drop_again at k hs)) ∙ sym (drop-map f k (drop at hs)) ∙ ap (λ n. drop n (map f (drop at hs))) (count ∙ ap length are) in
      let later = listed_beside p (drop (length front) (map f (drop at hs))) (map g rest) in
      ap₂ (λ l m. l ++ listed_beside p m (map g rest))
      (map-append view ws (w ∷ []) ∙ ap (λ x. map view ws ++ x ∷ []) (is ∙ ap (listed p (g v)) are)) left
      ∙ append_assoc (map view ws) (listed p (g v) front ∷ []) later ∙ so_far

  pub still_low : (at k : ℕ) (n : ℕ) (names : List (List ℕ)) → at ≤ length hs → names ≡ names_at_front n (map f (drop at hs)) → k ≡ length names
      → at + k ≤ length hs
  still_low at k n names low are count =
      let short = front_short n (map f (drop at hs)) in
      let size : length (map f (drop at hs)) ≡ length hs - at = length-map (drop at hs) f ∙ length-drop at hs in
      let long : k ≡ length (names_at_front n (map f (drop at hs))) = count ∙ ap length are in
      omega (arith, low, short, size, long)
