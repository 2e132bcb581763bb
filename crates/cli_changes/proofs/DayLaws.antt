-- The last day on which a record of an archive was captured.
use Rattle.std.proofs.Common.{◌≡◌, ◌≤◌, ◌<◌, ◌^◌, ◌⊎◌, ℕ, zero, suc, max, ℤ, negsuc, pos, Bool, true, false, List, [], ◌∷◌}
use Rattle.std.proofs.Common.{map, filter, length, Option, Some, None, refl, sym, ap, ◌∙◌, subst, inl, inr, arith}
use Rattle.std.proofs.Common.{FitsSigned, of_z, to_z, w64}
use Rattle.std.specs.Prelude.{nat_lt}
use Rattle.std.specs.List.{All, Contains, slice_index_or}
use Rattle.std.proofs.Math.Nat.{max-eq_left, max-eq_right}
use Rattle.std.proofs.lemmas.Bool.Decides.{nat_tests}
use Rattle.std.proofs.lemmas.Int.{to_z-of_z}
use Rattle.std.proofs.lemmas.List.Elements.{All-cons, All-head, All-nil, All-tail}
use Rattle.jiff.specs.Words.{epoch_day}
use Rattle.jiff_core.proofs.DateLemmas.{epoch_day_range}
use Rattle.jiff_core.proofs.SignedLemmas.{signed_arith}
use Rattle.jiff_core.specs.declared.civil.date.Date.{Date}
use Rattle.record_archive.specs.Archive.{Archive, Record}
use Rattle.record_choice.specs.Choices.{Choice, chosen, every_record, meets_asked}
use Rattle.record_choice.specs.Entries.{RecordEntry, entry_of}
use Rattle.cli_changes.specs.Moments.{IsLast, days_of, last_day_of, number_from_1970, with_day}

-- the number of a day, as 64 bits have it
pub number_kept : (d : Date) (z : ℤ) → z ≡ epoch_day d → to_z w64 (of_z w64 z) ≡ epoch_day d
number_kept d z is =
    let range = epoch_day_range d in
    let fits : FitsSigned w64 z = omega (arith, signed_arith, range.0, range.1, is) in
    to_z-of_z w64 z fits ∙ is

-- the same as 32 bits have it
pub small_kept : (d : Date) (z : ℤ) (small : ℕ) → z ≡ epoch_day d → ((n : ℕ) → n < 2 ^ 32 → to_z w64 (of_z w64 z) ≡ pos n → small ≡ n)
    → ((n : ℕ) → to_z w64 (of_z w64 z) ≡ negsuc n → small ≡ 0) → small ≡ number_from_1970 (epoch_day d)
small_kept d z small is number early = go (epoch_day d) refl
  where
    go : (e : ℤ) → epoch_day d ≡ e → small ≡ number_from_1970 e
    go (pos n) same =
        let high = (epoch_day_range d).1 in number n (omega (arith, signed_arith, high, same)) (number_kept d z is ∙ same)
    go (negsuc n) same = early n (number_kept d z is ∙ same)

-- ---- all records

all_chosen : (a : Archive) (rs : List Record) → filter (meets_asked None every_record a) rs ≡ rs
all_chosen a [] = refl
all_chosen a (r ∷ rs) = ap (λ l. r ∷ l) (all_chosen a rs)

pub told_of_all : (a : Archive) (c : Choice) (known : Option ℕ) (entries : List RecordEntry) (found : Option ℕ) → c ≡ every_record
    → entries ≡ map (entry_of a) (chosen None c a) → found ≡ last_day_of known entries
    → found ≡ last_day_of known (map (entry_of a) a.records)
told_of_all a c known entries found every are told =
    told ∙ ap (last_day_of known) (are ∙ ap (λ (d : Choice). map (entry_of a) (chosen None d a)) every
    ∙ ap (map (entry_of a)) (all_chosen a a.records))

-- ---- one more day that is not later

there : (y : ℕ) (xs : List ℕ) (x : ℕ) → Contains xs x → Contains (y ∷ xs) x
there y xs x h = (suc h.0, omega (arith, h.1), h.2)

either : (y : ℕ) (xs : List ℕ) (x : ℕ) → Contains (y ∷ xs) x → (y ≡ x) ⊎ Contains xs x
either y xs x h = go h.0 h.1 h.2
  where
    go : (k : ℕ) → k < length (y ∷ xs) → slice_index_or (y ∷ xs) k x ≡ x → (y ≡ x) ⊎ Contains xs x
    go zero less is = inl is
    go (suc k) less is = inr (k, omega (arith, less), is)

first_added : (y x : ℕ) (xs : List ℕ) (l : Option ℕ) → y ≤ x → IsLast (x ∷ xs) l → IsLast (y ∷ x ∷ xs) l
first_added y x xs None low last = absurd cc
first_added y x xs (Some l) low last =
    let high = All-head (λ day. day ≤ l) x xs last.1 in
    (there y (x ∷ xs) l last.0, All-cons (λ day. day ≤ l) y (x ∷ xs) (omega (arith, low, high)) last.1)

second_added : (x y : ℕ) (xs : List ℕ) (l : Option ℕ) → y ≤ x → IsLast (x ∷ xs) l → IsLast (x ∷ y ∷ xs) l
second_added x y xs None low last = absurd cc
second_added x y xs (Some l) low last =
    let high = All-head (λ day. day ≤ l) x xs last.1 in
    let more = All-cons (λ day. day ≤ l) y xs (omega (arith, low, high)) (All-tail (λ day. day ≤ l) x xs last.1) in
    (go (either x xs l last.0), All-cons (λ day. day ≤ l) x (y ∷ xs) high more)
  where
    go : (x ≡ l) ⊎ Contains xs l → Contains (x ∷ y ∷ xs) l
    go (inl is) = (zero, omega arith, is)
    go (inr more) = there x (y ∷ xs) l (there y xs l more)

-- ---- what is found of records, after a day

abbrev captured : List Record → List ℕ
captured rs = map (λ (r : Record). r.day) rs

last_found : (a : Archive) (rs : List Record) (before : Option ℕ)
    → IsLast (with_day before (captured rs)) (last_day_of before (map (entry_of a) rs))
last_found a [] None = refl
last_found a [] (Some d) = ((zero, omega arith, refl), All-cons (λ day. day ≤ d) d [] (omega arith) (All-nil (λ day. day ≤ d)))
last_found a (r ∷ rs) None = last_found a rs (Some r.day)
last_found a (r ∷ rs) (Some d) = go (nat_lt r.day d) refl (last_found a rs (Some d)) (last_found a rs (Some r.day))
  where
    go : (b : Bool) → nat_lt r.day d ≡ b → IsLast (d ∷ captured rs) (last_day_of (Some d) (map (entry_of a) rs))
        → IsLast (r.day ∷ captured rs) (last_day_of (Some r.day) (map (entry_of a) rs))
        → IsLast (d ∷ r.day ∷ captured rs) (last_day_of (Some (max d r.day)) (map (entry_of a) rs))
    go true later h k =
        let low : r.day ≤ d = grind (arith, nat_tests, later) in
        subst (λ n. IsLast (d ∷ r.day ∷ captured rs) (last_day_of (Some n) (map (entry_of a) rs))) (sym (max-eq_left low))
        (second_added d r.day (captured rs) (last_day_of (Some d) (map (entry_of a) rs)) low h)
    go false later h k =
        let low : d ≤ r.day = grind (arith, nat_tests, later) in
        subst (λ n. IsLast (d ∷ r.day ∷ captured rs) (last_day_of (Some n) (map (entry_of a) rs))) (sym (max-eq_right low))
        (first_added d r.day (captured rs) (last_day_of (Some r.day) (map (entry_of a) rs)) low k)

-- the last day of an archive, and of one that is known
pub last_told : (a : Archive) (known found : Option ℕ) → found ≡ last_day_of known (map (entry_of a) a.records)
    → IsLast (with_day known (days_of a)) found
last_told a known found told = subst (IsLast (with_day known (days_of a))) (sym told) (last_found a a.records known)
