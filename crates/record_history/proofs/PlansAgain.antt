-- Schedules, records and plans are read again.
use Rattle.std.proofs.Common.{◌≡◌, ℕ, ◌+◌, ◌<◌, ◌≤◌, ◌==◌, ◌^◌, ◌⊎◌, Bool, true, false, not, ◌&&◌, List, [], ◌∷◌, ◌++◌, map, take, length, codes}
use Rattle.std.proofs.Common.{Option, Some, None}
use Rattle.std.proofs.Common.{refl, ap, sym, ◌∙◌, arith, inl, inr, append_assoc}
use Rattle.std.specs.Prelude.{flat_map, nat_eq, if◌then◌else◌}
use Rattle.std.specs.Char.{is_ascii_digit}
use Rattle.std.specs.Fmt.{decimal}
use Rattle.std.specs.List.{list_all, AllByRecursion}
use Rattle.std.specs.Str.{bytes_eq}
use Rattle.std.proofs.lemmas.Bool.{cases_Bool}
use Rattle.std.proofs.lemmas.Bool.Decides.{nat_tests}
use Rattle.std.proofs.lemmas.List.{append-nil}
use Rattle.class_plan.specs.declared.schedules.Schedule.{Schedule}
use Rattle.class_plan.specs.declared.schedules.Schedule.TheVariants.{Permanent, After}
use Rattle.class_plan.specs.declared.schedules.Unit.{Unit as TimeUnit}
use Rattle.class_plan.specs.declared.schedules.Unit.TheVariants.{Days, Months, Years}
use Rattle.class_plan.specs.Schedules.{IsInRange, IsInRangeIfAny, most}
use Rattle.class_plan.specs.Plans.{Listing, Row}
use Rattle.class_plan.specs.Texts.{text_of, unit_word, action_word, year_end_text}
use Rattle.class_plan.proofs.Printed.{text-reads}
use Rattle.record_history.specs.Lines.{class_text, closed_word, day_text, plan_text, schedule_words, state_word}
use Rattle.record_history.specs.Readable.{IsPathText, IsRow, IsListing, is_path_octet}
use Rattle.record_history.specs.Reading.{day_at, from, own_at, parts_at, place_at, plan_at, plan_from, row_of, rows_of, schedule_at, state_of}
use Rattle.record_history.specs.Reading.{stripped, until}
use Rattle.record_history.proofs.Again.{HasNone, IsAfter, digits_of, from_word, none_in, none_in_number, stripped_again, until_word}
use Rattle.record_history.proofs.FieldsAgain.{action_plain, both, day_again, joined_plain, parts_none, parts_word, path_plain, unit_plain}

digit_below : (o : ℕ) → is_ascii_digit o ≡ true → not (o == 59) ≡ true
digit_below o h = grind (arith, nat_tests)

small : (n : ℕ) (u : TimeUnit) → n ≤ most u → n < 2 ^ 64
small n Days h = omega arith
small n Months h = omega arith
small n Years h = omega arith

pub schedule_plain : (s : Schedule) → IsInRange s → (HasNone 41 (text_of s)) × (HasNone 59 (text_of s))
schedule_plain Permanent h = (refl, refl)
schedule_plain (After n u x y) h =
    let few = small n u h.1 in
    let unit = unit_plain u in
    let ending = action_plain x y in
    let rest = action_word x ++ year_end_text y in (
      joined_plain 41 (decimal n) (32 ∷ (unit_word u ++ 32 ∷ rest)) (none_in_number 41 n (omega arith) few)
          (joined_plain 41 (unit_word u) (32 ∷ rest) unit.0 ending.0),
      joined_plain 59 (decimal n) (32 ∷ (unit_word u ++ 32 ∷ rest)) (none_in is_ascii_digit 59 digit_below (decimal n) (digits_of n few))
          (joined_plain 59 (unit_word u) (32 ∷ rest) unit.1 ending.1),
    )

pub schedule_again : (s : Schedule) (t : List ℕ) → IsInRange s → schedule_at (codes " (" ++ (text_of s ++ (codes ")" ++ t))) ≡ Some (s, t)
unfolding schedule_at
schedule_again s t h =
    let plain = (schedule_plain s h).0 in
    rw (
      stripped_again (codes " (") (text_of s ++ (codes ")" ++ t)),
      until_word 41 (text_of s) (codes ")" ++ t) plain refl,
      from_word 41 (text_of s) (codes ")" ++ t) plain refl,
      text-reads s h,
      stripped_again (codes ")") t,
    ) refl

state_again : (b : Bool) → state_of (state_word b) ≡ Some b
unfolding state_of
state_again false = refl
state_again true = refl

state_plain : (b : Bool) → HasNone 32 (state_word b)
state_plain false = refl
state_plain true = refl

pub place_again : (path : List ℕ) (day : ℕ) (b : Bool) (t : List ℕ) → IsPathText path → day ≤ 2932896 → IsAfter 32 t
    → place_at (codes " in " ++ (path ++ (codes " on " ++ (day_text day ++ (codes " " ++ (state_word b ++ t)))))) ≡ Some (path, day, b, t)
unfolding place_at
place_again path day b t h d e =
    let last = codes " " ++ (state_word b ++ t) in
    let rest = codes " on " ++ (day_text day ++ last) in
    rw (
      stripped_again (codes " in ") (path ++ rest),
      until_word 32 path rest (path_plain 32 path (omega arith) h) refl,
      from_word 32 path rest (path_plain 32 path (omega arith) h) refl,
      stripped_again (codes " on ") (day_text day ++ last),
      day_again day last d refl,
      stripped_again (codes " ") (state_word b ++ t),
      until_word 32 (state_word b) t (state_plain b) e,
      from_word 32 (state_word b) t (state_plain b) e,
      state_again b,
    ) refl

-- ---- classes

own_again : (o : Option Schedule) → IsInRangeIfAny o → own_at (schedule_words o) ≡ Some o
unfolding own_at
own_again None h = refl
own_again (Some s) h = rw (stripped_again (codes ", ") (text_of s), text-reads s h) refl

own_after : (o : Option Schedule) → IsAfter 44 (schedule_words o)
own_after None = tt
own_after (Some s) = refl

-- a prefix with a space in it, and no comma before
abbrev HasSpace : List ℕ → Type 0
HasSpace [] = ⊥
HasSpace (p ∷ ps) = ((p == 44) ≡ false) × ((p ≡ 32) ⊎ HasSpace ps)

none_right : (b : Bool) → (b && false) ≡ false
none_right true = refl
none_right false = refl

apart : (x p : ℕ) → (x == 44) ≡ true → (p == 44) ≡ false → nat_eq x p ≡ false
apart x p h k = grind (arith, nat_tests)

no_space : (x p : ℕ) → not (x == 32) ≡ true → p ≡ 32 → nat_eq x p ≡ false
no_space x p h k = grind (arith, nat_tests)

other_prefix : (ps w t : List ℕ) → HasSpace ps → HasNone 32 w → IsAfter 44 t → bytes_eq (take (length ps) (w ++ t)) ps ≡ false
other_prefix [] w t s h e = absurd s
other_prefix (p ∷ ps) [] [] s h e = refl
other_prefix (p ∷ ps) [] (x ∷ xs) s h e = rw (apart x p e s.0) refl
other_prefix (p ∷ ps) (x ∷ xs) t s h e = elim (cases_Bool (not (x == 32))) [
  | inr is ↦ let k : false ≡ true = rw is at h in absurd (cc)
  | inl plain ↦
      let rest : HasNone 32 xs = rw plain at h in
      go plain s.1 (λ more. other_prefix ps xs t more rest e)
]
  where
    go : not (x == 32) ≡ true → (p ≡ 32) ⊎ HasSpace ps → (HasSpace ps → bytes_eq (take (length ps) (xs ++ t)) ps ≡ false)
        → bytes_eq (take (length (p ∷ ps)) (x ∷ xs ++ t)) (p ∷ ps) ≡ false
    go plain (inl is) again = rw (no_space x p plain is) refl
    go plain (inr more) again = rw (again more) (none_right (nat_eq x p))

open_class : (path t : List ℕ) → HasNone 32 path → IsAfter 44 t → stripped (codes "closed ") (path ++ t) ≡ None
unfolding stripped
open_class path t h e =
    let has : HasSpace (codes "closed ") = (refl, inr (refl, inr (refl, inr (refl, inr (refl, inr (refl, inr (refl, inl refl))))))) in
    rw (other_prefix (codes "closed ") path t has h e) refl

abbrev part_text : Row → List ℕ
part_text r = codes " " ++ closed_word r.is_open ++ r.path ++ schedule_words r.schedule

row_again : (path : List ℕ) (is_open : Bool) (own : Option Schedule) → IsPathText path → IsInRangeIfAny own
    → row_of (part_text (record { path = path; is_open = is_open; schedule = own })) ≡ Some (record {
      path = path;
      is_open = is_open;
      schedule = own;
    })
unfolding row_of
row_again path true own h range =
    let plain = path_plain 44 path (omega arith) h in
    rw (
      stripped_again (codes " ") (path ++ schedule_words own),
      open_class path (schedule_words own) (path_plain 32 path (omega arith) h) (own_after own),
      until_word 44 path (schedule_words own) plain (own_after own),
      from_word 44 path (schedule_words own) plain (own_after own),
      own_again own range,
    ) refl
row_again path false own h range =
    let plain = path_plain 44 path (omega arith) h in
    rw (
      stripped_again (codes " ") (codes "closed " ++ (path ++ schedule_words own)),
      stripped_again (codes "closed ") (path ++ schedule_words own),
      until_word 44 path (schedule_words own) plain (own_after own),
      from_word 44 path (schedule_words own) plain (own_after own),
      own_again own range,
    ) refl

rows_again : (rs : List Row) → AllByRecursion IsRow rs → rows_of (map part_text rs) ≡ Some rs
unfolding rows_of
rows_again [] h = refl
rows_again (r ∷ rs) h = rw (row_again r.path r.is_open r.schedule h.0.path h.0.range, rows_again rs h.1) refl

-- ---- plans

closed_plain : (b : Bool) → (HasNone 41 (closed_word b)) × (HasNone 59 (closed_word b))
closed_plain true = (refl, refl)
closed_plain false = (refl, refl)

own_plain : (o : Option Schedule) → IsInRangeIfAny o → (HasNone 41 (schedule_words o)) × (HasNone 59 (schedule_words o))
own_plain None h = (refl, refl)
own_plain (Some s) h = schedule_plain s h

path_octet_below : (o : ℕ) → is_path_octet o ≡ true → not (o == 59) ≡ true
path_octet_below o h = grind (arith, nat_tests)

part_plain : (r : Row) → IsRow r → (HasNone 41 (part_text r)) × (HasNone 59 (part_text r))
part_plain r h =
    let closed = closed_plain r.is_open in
    let own = own_plain r.schedule h.range in
    let front = closed_word r.is_open in (
      joined_plain 41 (front ++ r.path) (schedule_words r.schedule) (joined_plain 41 front r.path closed.0 (path_plain 41 r.path (omega arith)
          h.path)) own.0,
      joined_plain 59 (front ++ r.path) (schedule_words r.schedule) (joined_plain 59 front r.path closed.1
          (none_in is_path_octet 59 path_octet_below r.path h.path.1)) own.1,
    )

parts_rows : (w : List ℕ) (rs : List Row) → HasNone 59 w → AllByRecursion IsRow rs → parts_at 59 (w ++ flat_map class_text rs) ≡ w ∷ map part_text rs
parts_rows w [] h hs = ap (parts_at 59) (append-nil w) ∙ parts_none 59 w h
parts_rows w (r ∷ rs) h hs =
    parts_word 59 w (part_text r ++ flat_map class_text rs) refl h
    ∙ ap (λ l. w ∷ l) (parts_rows (part_text r) rs (part_plain r hs.0).1 hs.1)

rows_plain : (rs : List Row) → AllByRecursion IsRow rs → HasNone 41 (flat_map class_text rs)
rows_plain [] hs = refl
rows_plain (r ∷ rs) hs = joined_plain 41 (part_text r) (flat_map class_text rs) (part_plain r hs.0).0 (rows_plain rs hs.1)

plan_read : (root : Schedule) (rs : List Row) → IsInRange root → AllByRecursion IsRow rs
    → plan_from (text_of root ∷ map part_text rs) ≡ Some (record { root = root; rows = rs })
unfolding plan_from
plan_read root rs h hs = rw (text-reads root h, rows_again rs hs) refl

pub plan_again : (p : Listing) (t : List ℕ) → IsListing p → plan_at (plan_text p ++ (codes ")" ++ t)) ≡ Some (p, t)
unfolding plan_at
plan_again p t h =
    let body = text_of p.root ++ flat_map class_text p.rows in
    let plain : HasNone 41 (codes "root " ++ body) =
    joined_plain 41 (text_of p.root) (flat_map class_text p.rows) (schedule_plain p.root h.root).0 (rows_plain p.rows h.rows) in
    ap (λ x. plan_at (x ++ (codes ")" ++ t))) (append_assoc (codes "root ") (text_of p.root) (flat_map class_text p.rows))
    ∙ rw (
      until_word 41 (codes "root " ++ body) (codes ")" ++ t) plain refl,
      from_word 41 (codes "root " ++ body) (codes ")" ++ t) plain refl,
      stripped_again (codes "root ") body,
      parts_rows (text_of p.root) p.rows (schedule_plain p.root h.root).1 h.rows,
      plan_read p.root p.rows h.root h.rows,
      stripped_again (codes ")") t,
    ) refl
