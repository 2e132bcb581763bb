-- What an entry shows of a choice is what holds of its record.
use Rattle.std.proofs.Common.{◌≡◌, ◌<◌, ℕ, ◌==◌, ℤ, pos, negsuc, Bool, true, false, not, ◌&&◌, ◌||◌, cond, List, [], ◌∷◌, map, filter}
use Rattle.std.proofs.Common.{length, nat_lt, nat_eq, ◌++◌, arith, Option, Some, None, option_map, int_le, refl, sym, ap, ap₂, ◌∙◌, Ordering, is_gt}
use Rattle.std.specs.List.{list_any, starts_with}
use Rattle.std.proofs.lemmas.Bool.Decides.{nat_tests}
use Rattle.std.specs.Str.{bytes_eq}
use Rattle.class_plan.specs.Calendar.{due_on}
use Rattle.record_archive.specs.Lists.{insert_sorted, sort_by}
use Rattle.record_archive.specs.Archive.{Archive, Record, Hold, is_live, is_by_any, from_1970}
use Rattle.record_choice.specs.Choices.{Holder, anyone, named, Choice, where_asked, is_where, is_within, is_kept, is_due_on, meets}
use Rattle.record_choice.specs.Entries.{RecordEntry, due_if_live, hold_names, entry_of}
use Rattle.record_choice.specs.Views.{shows_hold, shows_due, shows, goes_on}

-- ---- sorting keeps what is there

swapped : (x y z : Bool) → (y || (x || z)) ≡ (x || (y || z))
swapped true true z = refl
swapped true false z = refl
swapped false true z = refl
swapped false false z = refl

any-inserted : {X : Type 0} (cmp : X → X → Ordering) (p : X → Bool) (x : X) (ys : List X)
    → list_any p (insert_sorted cmp x ys) ≡ (p x || list_any p ys)
any-inserted cmp p x [] = refl
any-inserted cmp p x (y ∷ ys) = go (is_gt (cmp x y)) (any-inserted cmp p x ys)
  where
    go : (b : Bool) → list_any p (insert_sorted cmp x ys) ≡ (p x || list_any p ys)
        → list_any p (cond b (y ∷ insert_sorted cmp x ys) (x ∷ y ∷ ys)) ≡ (p x || (p y || list_any p ys))
    go true more = ap (λ b. p y || b) more ∙ swapped (p x) (p y) (list_any p ys)
    go false more = refl

any-sorted : {X : Type 0} (cmp : X → X → Ordering) (p : X → Bool) (xs : List X) → list_any p (sort_by cmp xs) ≡ list_any p xs
any-sorted cmp p [] = refl
any-sorted cmp p (x ∷ xs) = any-inserted cmp p x (sort_by cmp xs) ∙ ap (λ b. p x || b) (any-sorted cmp p xs)

-- ---- holds

any-listed : (p : List ℕ → Bool) (n : ℕ) (hs : List Hold)
    → list_any p (map (λ (h : Hold). h.name) (filter (λ (h : Hold). h.number == n) hs)) ≡ list_any (λ (h : Hold). p h.name && (h.number == n)) hs
any-listed p n [] = refl
any-listed p n (h ∷ hs) = go (p h.name) (h.number == n) refl (any-listed p n hs)
  where
    rest : List Hold
    rest = filter (λ (x : Hold). x.number == n) hs

    go : (b c : Bool) → p h.name ≡ b
        → list_any p (map (λ (x : Hold). x.name) rest) ≡ list_any (λ (x : Hold). p x.name && (x.number == n)) hs
        → list_any p (map (λ (x : Hold). x.name) (cond c (h ∷ rest) rest)) ≡ ((b && c) || list_any (λ (x : Hold). p x.name && (x.number == n)) hs)
    go true true e more = ap (λ b. b || list_any p (map (λ (x : Hold). x.name) rest)) e
    go true false e more = more
    go false true e more = ap (λ b. b || list_any p (map (λ (x : Hold). x.name) rest)) e ∙ more
    go false false e more = more

pub held_shown : (a : Archive) (r : Record) (o : Option Holder) → where_asked (shows_hold (hold_names a r.number)) o ≡ where_asked (is_kept a r) o
held_shown a r None = refl
held_shown a r (Some anyone) = any-sorted _ (λ name. true) _ ∙ any-listed (λ name. true) r.number a.holds
held_shown a r (Some (named name)) = any-sorted _ (λ n. bytes_eq n name) _ ∙ any-listed (λ n. bytes_eq n name) r.number a.holds

-- ---- due days

due_by : (o : Option ℕ) (day : ℤ) → shows_due (option_map pos o) day ≡ is_by_any (from_1970 day) o
due_by None (pos n) = refl
due_by None (negsuc n) = refl
due_by (Some d) (pos n) = refl
due_by (Some d) (negsuc n) = refl

pub due_live : (b : Bool) (o : Option ℕ) (day : ℤ)
    → shows_due (option_map pos (cond {A = Option ℕ} b None o)) day ≡ (not b && is_by_any (from_1970 day) o)
due_live true o day = refl
due_live false o day = due_by o day

due_shown : (a : Archive) (r : Record) (o : Option ℤ)
    → where_asked (shows_due (option_map pos (due_if_live a.plan r))) o ≡ where_asked (is_due_on a r) o
due_shown a r None = refl
due_shown a r (Some day) = due_live r.destroyed (due_on a.plan r.path r.day) day

-- ---- all of it

shown_is : (c : Choice) (a : Archive) (r : Record) → shows c (entry_of a r) ≡ meets c a r
shown_is c a r =
    ap₂ (λ x y. is_where c r && ((not c.live || is_live r) && (not c.destroyed || r.destroyed) && x)
    && (where_asked (λ day. int_le day (pos r.day)) c.since && where_asked (λ day. int_le (pos r.day) day) c.until && y))
    (held_shown a r c.held) (due_shown a r c.due)

pub meets_shown : (c : Choice) (e : RecordEntry) (a : Archive) (r : Record) → e ≡ entry_of a r → shows c e ≡ meets c a r
meets_shown c e a r is = ap (shows c) is ∙ shown_is c a r

-- ---- the code's lists

pub any_viewed : {X Y : Type 0} (p : Y → Bool) (f : X → Y) (xs : List X) → list_any p (map f xs) ≡ list_any (λ x. p (f x)) xs
any_viewed p f [] = refl
any_viewed p f (x ∷ xs) = ap (λ b. p (f x) || b) (any_viewed p f xs)

positive : (n : ℕ) → 0 < n → nat_lt 0 n ≡ true
positive n h = grind (arith, nat_tests, h)

pub any_counted : {X Y : Type 0} (f : X → Y) (xs : List X) → list_any (λ y. true) (map f xs) ≡ nat_lt 0 (length xs)
any_counted f [] = refl
any_counted f (x ∷ xs) = sym (positive (length (x ∷ xs)) (omega arith))

-- ---- within a class

itself : (n : ℕ) → nat_eq n n ≡ true
itself n = grind arith

turned : (m n : ℕ) → nat_eq m n ≡ nat_eq n m
turned m n = grind arith

or_none : (b : Bool) → (false || (b && true)) ≡ b
or_none true = refl
or_none false = refl

pub within_front : (class rest : List ℕ) → is_within class (class ++ rest) ≡ goes_on rest
within_front [] [] = refl
within_front [] (b ∷ bs) = or_none (nat_eq 47 b) ∙ turned 47 b
within_front (c ∷ cs) rest =
    ap (λ b. (b && bytes_eq (cs ++ rest) cs) || (b && starts_with nat_eq (cs ++ rest) (cs ++ 47 ∷ []))) (itself c) ∙ within_front cs rest

pub not_within : (class path : List ℕ) → ((rest : List ℕ) → path ≡ class ++ rest → ⊥) → is_within class path ≡ false
not_within [] path h = absurd (h path refl)
not_within (c ∷ cs) [] h = refl
not_within (c ∷ cs) (p ∷ ps) h =
    ap (λ b. (nat_eq p c && bytes_eq ps cs) || (b && starts_with nat_eq ps (cs ++ 47 ∷ []))) (turned c p)
    ∙ go (nat_eq p c) refl (λ same. not_within cs ps (λ rest e. h rest (ap₂ ◌∷◌ same e)))
  where
    go : (b : Bool) → nat_eq p c ≡ b → (p ≡ c → is_within cs ps ≡ false)
        → ((b && bytes_eq ps cs) || (b && starts_with nat_eq ps (cs ++ 47 ∷ []))) ≡ false
    go true e more = more (grind (arith, nat_tests, e))
    go false e more = refl
