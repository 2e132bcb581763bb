-- What deeds are made of is read again.
use Rattle.std.proofs.Common.{◌≡◌, ℕ, ◌+◌, ◌<◌, ◌≤◌, ◌==◌, ◌^◌, Bool, true, false, not, ◌&&◌, ◌||◌, List, [], ◌∷◌, ◌++◌, length, codes, Option}
use Rattle.std.proofs.Common.{Some, None}
use Rattle.std.proofs.Common.{refl, ap, sym, ◌∙◌, arith, inl, inr, append_assoc}
use Rattle.std.specs.Prelude.{IfSome, flat_map, nat_le}
use Rattle.std.specs.Fmt.{decimal}
use Rattle.std.specs.List.{list_all, AllByRecursion}
use Rattle.std.proofs.lemmas.Bool.{cases_Bool}
use Rattle.std.proofs.lemmas.Bool.Decides.{nat_tests}
use Rattle.std.proofs.lemmas.List.{append-nil}
use Rattle.std.proofs.lemmas.List.Folds.{list_all-append}
use Rattle.session_words.specs.Words.{is_name, is_name_octet}
use Rattle.class_plan.specs.declared.schedules.Schedule.{Schedule}
use Rattle.class_plan.specs.declared.schedules.Schedule.TheVariants.{Permanent, After}
use Rattle.class_plan.specs.declared.schedules.Unit.{Unit as TimeUnit}
use Rattle.class_plan.specs.declared.schedules.Unit.TheVariants.{Days, Months, Years}
use Rattle.class_plan.specs.declared.schedules.Action.{Action}
use Rattle.class_plan.specs.declared.schedules.Action.TheVariants.{Review, Transfer, Destroy}
use Rattle.class_plan.specs.Schedules.{IsInRange, most}
use Rattle.class_plan.specs.Texts.{text_of, unit_word, action_word, year_end_text}
use Rattle.class_plan.proofs.Printed.{text-reads}
use Rattle.record_history.specs.Events.{Seal, Filing}
use Rattle.record_history.specs.Lines.{day_text, filing_text, paths_text, seal_text, state_word, with_comma}
use Rattle.record_history.specs.Readable.{IsName, IsPathText, IsSum, IsSeal, IsFiling, is_hex_digit, is_path_octet}
use Rattle.record_history.specs.Reading.{day_at, filing_at, filing_from, from, hold_at, parts_at, paths_of, place_at, schedule_at, seal_at}
use Rattle.record_history.specs.Reading.{state_of, stripped, until, greatest_record}
use Rattle.record_history.proofs.Again.{HasNone, IsAfter, from_word, none_in, none_in_number, number_again, stripped_again, until_word}
use Rattle.record_history.proofs.DayAgain.{day_plain, day_word}

and_right : (a b : Bool) → (a && b) ≡ true → b ≡ true
and_right true b h = h
and_right false true h = refl
and_right false false h = h

pub both : (a b : Bool) → a ≡ true → b ≡ true → (a && b) ≡ true
both a b ea eb = λ i. ea i && eb i

-- ---- which octets a word has not

name_other : (o : ℕ) → is_name_octet o ≡ true → not (o == 32) ≡ true
name_other o h = grind (arith, nat_tests)

pub name_plain : (w : List ℕ) → IsName w → HasNone 32 w
name_plain w h = none_in is_name_octet 32 name_other w (and_right _ (list_all is_name_octet w) h)

hex_other : (o : ℕ) → is_hex_digit o ≡ true → not (o == 32) ≡ true
hex_other o h = grind (arith, nat_tests)

pub sum_plain : (w : List ℕ) → IsSum w → HasNone 32 w
sum_plain w h = none_in is_hex_digit 32 hex_other w h.1

path_other : (c o : ℕ) → c ≤ 44 → is_path_octet o ≡ true → not (o == c) ≡ true
path_other c o low h = grind (arith, nat_tests)

pub path_plain : (c : ℕ) (w : List ℕ) → c ≤ 44 → IsPathText w → HasNone c w
path_plain c w low h = none_in is_path_octet c (λ o. path_other c o low) w h.1

pub joined_plain : (c : ℕ) (v w : List ℕ) → HasNone c v → HasNone c w → HasNone c (v ++ w)
joined_plain c v w hv hw = list_all-append (λ o. not (o == c)) v w ∙ both _ _ hv hw

-- ---- days and seals

pub day_again : (n : ℕ) (t : List ℕ) → n ≤ 2932896 → IsAfter 32 t → day_at (day_text n ++ t) ≡ Some (n, t)
unfolding day_at
day_again n t h e = rw (until_word 32 (day_text n) t (day_plain n) e, from_word 32 (day_text n) t (day_plain n) e, day_word n h) refl

pub seal_again : (s : Seal) (t : List ℕ) → IsSeal s → IsAfter 32 t → seal_at (seal_text s ++ t) ≡ Some (s, t)
unfolding seal_at
seal_again s t h e =
    ap seal_at (append_assoc (decimal s.octets ++ codes " ") s.sum t ∙ append_assoc (decimal s.octets) (codes " ") (s.sum ++ t)) ∙ go
  where
    go : seal_at (decimal s.octets ++ (codes " " ++ (s.sum ++ t))) ≡ Some (s, t)
    go =
        rw (
          number_again 18446744073709551615 s.octets (codes " " ++ (s.sum ++ t)) h.octets (omega (arith, h.octets)) refl,
          stripped_again (codes " ") (s.sum ++ t),
          until_word 32 s.sum t (sum_plain s.sum h.sum) e,
          from_word 32 s.sum t (sum_plain s.sum h.sum) e,
        ) refl

pub filing_again : (o : Option Filing) (t : List ℕ) → IfSome o IsFiling
    → filing_at (filing_text o ++ (codes " in " ++ t)) ≡ Some (o, codes " in " ++ t)
unfolding filing_at filing_from stripped
filing_again None t h = refl
filing_again (Some f) t h = regroup (codes " in " ++ t) ∙ go (codes " in " ++ t) refl
  where
    regroup : (x : List ℕ) → filing_at (codes " by " ++ f.officer ++ codes " rules " ++ f.rules ++ x)
        ≡ filing_at (codes " by " ++ (f.officer ++ (codes " rules " ++ (f.rules ++ x))))
    regroup x =
        ap filing_at (append_assoc (codes " by " ++ f.officer ++ codes " rules ") f.rules x
        ∙ append_assoc (codes " by " ++ f.officer) (codes " rules ") (f.rules ++ x)
        ∙ append_assoc (codes " by ") f.officer (codes " rules " ++ (f.rules ++ x)))

    go : (x : List ℕ) → IsAfter 32 x → filing_at (codes " by " ++ (f.officer ++ (codes " rules " ++ (f.rules ++ x)))) ≡ Some (Some f, x)
    go x e =
        rw (
          until_word 32 f.officer (codes " rules " ++ (f.rules ++ x)) (name_plain f.officer h.officer) refl,
          from_word 32 f.officer (codes " rules " ++ (f.rules ++ x)) (name_plain f.officer h.officer) refl,
          until_word 32 f.rules x (sum_plain f.rules h.rules) e,
          from_word 32 f.rules x (sum_plain f.rules h.rules) e,
        ) refl

-- ---- paths

pub parts_none : (c : ℕ) (w : List ℕ) → HasNone c w → parts_at c w ≡ w ∷ []
unfolding parts_at
parts_none c [] h = refl
parts_none c (x ∷ xs) h = elim (cases_Bool (x == c)) [
  | inl is ↦ let k : false ≡ true = rw is at h in absurd (cc)
  | inr other ↦ let rest : HasNone c xs = rw other at h in rw (other, parts_none c xs rest) refl
]

pub parts_word : (c : ℕ) (w r : List ℕ) → (c == c) ≡ true → HasNone c w → parts_at c (w ++ c ∷ r) ≡ w ∷ parts_at c r
unfolding parts_at
parts_word c [] r same h = rw same refl
parts_word c (x ∷ xs) r same h = elim (cases_Bool (x == c)) [
  | inl is ↦ let k : false ≡ true = rw is at h in absurd (cc)
  | inr other ↦ let rest : HasNone c xs = rw other at h in rw (other, parts_word c xs r same rest) refl
]

paths_list : (q : List ℕ) (qs : List (List ℕ)) → IsPathText q → AllByRecursion IsPathText qs → parts_at 44 (q ++ flat_map with_comma qs) ≡ q ∷ qs
paths_list q [] h hs = ap (parts_at 44) (append-nil q) ∙ parts_none 44 q (path_plain 44 q (omega arith) h)
paths_list q (p ∷ ps) h hs =
    parts_word 44 q (p ++ flat_map with_comma ps) refl (path_plain 44 q (omega arith) h) ∙ ap (λ l. q ∷ l) (paths_list p ps hs.0 hs.1)

pub paths_again : (ps : List (List ℕ)) → AllByRecursion IsPathText ps → paths_of (paths_text ps) ≡ ps
paths_again [] h = refl
paths_again ([] ∷ qs) h = absurd (let k = h.0.0 in omega arith)
paths_again ((c ∷ cs) ∷ qs) h = paths_list (c ∷ cs) qs h.0 h.1

others_plain : (qs : List (List ℕ)) → AllByRecursion IsPathText qs → HasNone 32 (flat_map with_comma qs)
others_plain [] h = refl
others_plain (q ∷ qs) h = joined_plain 32 q (flat_map with_comma qs) (path_plain 32 q (omega arith) h.0) (others_plain qs h.1)

pub paths_plain : (ps : List (List ℕ)) → AllByRecursion IsPathText ps → HasNone 32 (paths_text ps)
paths_plain [] h = refl
paths_plain (q ∷ qs) h = joined_plain 32 q (flat_map with_comma qs) (path_plain 32 q (omega arith) h.0) (others_plain qs h.1)

-- ---- schedules

pub unit_plain : (u : TimeUnit) → (HasNone 41 (unit_word u)) × (HasNone 59 (unit_word u))
unit_plain Days = (refl, refl)
unit_plain u = (refl, refl)

pub action_plain : (x : Action) (y : Bool) → (HasNone 41 (action_word x ++ year_end_text y)) × (HasNone 59 (action_word x ++ year_end_text y))
action_plain Review false = (refl, refl)
action_plain Review true = (refl, refl)
action_plain x false = (refl, refl)
action_plain x true = (refl, refl)

pub hold_again : (name : List ℕ) (n : ℕ) (t : List ℕ) → IsName name → n ≤ 4294967295 → IsAfter 32 t
    → hold_at (name ++ (codes " " ++ (decimal n ++ t))) ≡ Some (name, n, t)
unfolding hold_at
hold_again name n t h small e =
    rw (
      until_word 32 name (codes " " ++ (decimal n ++ t)) (name_plain name h) refl,
      from_word 32 name (codes " " ++ (decimal n ++ t)) (name_plain name h) refl,
      stripped_again (codes " ") (decimal n ++ t),
      number_again greatest_record n t small (omega arith) e,
    ) refl
