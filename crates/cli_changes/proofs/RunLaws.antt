-- Records in runs, and what is noted of them.
use Rattle.std.proofs.Common.{◌≡◌, ◌∙◌, ◌+◌, ◌++◌, ◌∷◌, [], ℕ, zero, suc, Bool, true, false, List, length, Option, Some, None}
use Rattle.std.proofs.Common.{Result, Ok, Err, refl, cond, option_map, sym, ap, subst, arith, map, filter, flat_map, codes, true≢false}
use Rattle.std.proofs.Common.{append_assoc, append-nil}
use Rattle.std.proofs.lemmas.Bool.Decides.{nat_tests}
use Rattle.std.proofs.lemmas.List.{map-append}
use Rattle.std.specs.List.{AllByRecursion}
use Rattle.std.specs.Prelude.{slice_index_or, slice_set}
use Rattle.std.specs.Str.{bytes_eq}
use Rattle.record_archive.specs.Archive.{Archive, Record, record_at, message, message_one, body_of}
use Rattle.record_archive.specs.declared.fault.ArchiveRefusal.{ArchiveRefusal}
use Rattle.record_archive.specs.declared.fault.ArchiveRefusal.TheVariants as refusal
use Rattle.record_history.specs.Events.{Seal}
use Rattle.record_history.specs.Replay.{seal}
use Rattle.std.specs.Prelude.{is_none}
use Rattle.cli_history.specs.Seals.{fidelity, notes_for}
use Rattle.cli_history.specs.declared.seals.Fidelity.{Fidelity}
use Rattle.cli_history.specs.declared.seals.Fidelity.TheVariants.{Unsealed, Same, Altered}
use Rattle.cli_history.specs.declared.seals.Seals.{Seals}
use Rattle.cli_console.specs.declared.failure.Failure.TheVariants.{NoMemory}
use Rattle.cli_changes.specs.declared.altered.Damage.{Damage}
use Rattle.cli_changes.specs.declared.altered.Damage.TheVariants.{Refused, Destroyed}
use Rattle.cli_changes.specs.declared.runs.Run.{Run}
use Rattle.cli_changes.specs.Runs.{IsFidelity, IsNotAltered, IsNoted, IsRefusal, IsUnaltered, altered, is_altered_run, is_refused}
use Rattle.cli_changes.specs.Runs.{noted_in, noted, records_of}

-- the last run has one record more
pub noted_at_end : (runs : List Run) (i : ℕ) (run d : Run) (e : ℕ × List ℕ) → i + 1 ≡ length runs
    → noted_in run ≡ noted_in (slice_index_or runs i d) ++ e ∷ [] → noted (slice_set runs i run) ≡ noted runs ++ e ∷ []
noted_at_end [] i run d e at more = absurd (omega (arith, at))
noted_at_end (r ∷ []) zero run d e at more =
    append-nil (noted_in run) ∙ more ∙ ap (λ l. l ++ e ∷ []) (sym (append-nil (noted_in r)))
noted_at_end (r ∷ []) (suc i) run d e at more = absurd (omega (arith, at))
noted_at_end (r ∷ s ∷ rs) zero run d e at more = absurd (omega (arith, at))
noted_at_end (r ∷ s ∷ rs) (suc i) run d e at more =
    let before : i + 1 ≡ length (s ∷ rs) = omega (arith, at) in
    ap (λ l. noted_in r ++ l) (noted_at_end (s ∷ rs) i run d e before more)
    ∙ sym (append_assoc (noted_in r) (noted (s ∷ rs)) (e ∷ []))

-- it holds of one more
pub all_more : {X : Type 0} (P : X → Type 0) (xs : List X) (x : X) → AllByRecursion P xs → P x → AllByRecursion P (xs ++ x ∷ [])
all_more P [] x all one = (one, tt)
all_more P (y ∷ ys) x all one = (all.0, all_more P ys x all.1 one)

-- a message that was read is the stored one
pub body_read : (a : Archive) (n : ℕ) (r : Record) (body : List ℕ) → record_at a n ≡ Some r → message a n ≡ Ok (Some body)
    → body_of a.messages r.message ≡ Some body
body_read a n r body at read = go r.destroyed (sym (ap (message_one a) at) ∙ read)
  where
    go : (b : Bool) → ◌≡◌ {A = Result (Option (List ℕ)) ArchiveRefusal}
        (cond b (Err refusal.Destroyed) (Ok (body_of a.messages r.message))) (Ok (Some body))
        → body_of a.messages r.message ≡ Some body
    go true e = absurd cc
    go false e = cc

-- what a message is that was read, whether or not a seal of it is known
pub read_as : (sealed : Option (Seal × ℕ)) (stored : Option (List ℕ)) (body : List ℕ) (f : Fidelity) → stored ≡ Some body
    → f ≡ fidelity sealed (seal body) → IsFidelity sealed stored f
read_as None stored body f is by = by
read_as (Some s) None body f is by = absurd cc
read_as (Some s) (Some b) body f is by =
    let same : b ≡ body = cc in by ∙ ap (λ x. fidelity (Some s) (seal x)) (sym same)

-- what a message is of which no seal is known
pub unread_as : (sealed : Option (Seal × ℕ)) (stored : Option (List ℕ)) (f : Fidelity) → sealed ≡ None → f ≡ Unsealed
    → IsFidelity sealed stored f
unread_as None stored f is none = none
unread_as (Some s) stored f is none = absurd cc

pub none_of : {X Y Z : Type 0} (f : X → Z) (g : Y → Z) (o : Option X) (k : Option Y) → option_map f o ≡ option_map g k → is_none o ≡ true
    → k ≡ None
none_of f g None None e is = refl
none_of f g None (Some y) e is = absurd cc
none_of f g (Some x) k e is = absurd cc

-- there may be no memory for what is told
pub without_memory : (refused : Bool) → IsRefusal refused NoMemory
without_memory true = tt
without_memory false = refl

-- ---- the records of runs

own_numbers : (notes : List ℕ) (ns : List ℕ) → map (λ (p : ℕ × List ℕ). p.0) (map (λ n. (n, notes)) ns) ≡ ns
own_numbers notes [] = refl
own_numbers notes (n ∷ ns) = ap (λ l. n ∷ l) (own_numbers notes ns)

-- those of the first run come first
pub records_first : (r : Run) (rs : List Run) → records_of (r ∷ rs) ≡ r.numbers.items ++ records_of rs
records_first r rs =
    map-append (λ (p : ℕ × List ℕ). p.0) (noted_in r) (noted rs)
    ∙ ap (λ l. l ++ records_of rs) (own_numbers (notes_for r.fidelity) r.numbers.items)

pub records_joined : (rs ss : List Run) → records_of (rs ++ ss) ≡ records_of rs ++ records_of ss
records_joined [] ss = refl
records_joined (r ∷ rs) ss =
    records_first r (rs ++ ss) ∙ ap (λ l. r.numbers.items ++ l) (records_joined rs ss)
    ∙ sym (append_assoc r.numbers.items (records_of rs) (records_of ss)) ∙ ap (λ l. l ++ records_of ss) (sym (records_first r rs))

pub records_alone : (r : Run) → records_of (r ∷ []) ≡ r.numbers.items
records_alone r = records_first r [] ∙ append-nil r.numbers.items

-- ---- altered messages

pub all_both : {X : Type 0} (P : X → Type 0) (xs ys : List X) → AllByRecursion P xs → AllByRecursion P ys → AllByRecursion P (xs ++ ys)
all_both P [] ys h k = k
all_both P (x ∷ xs) ys h k = (h.0, all_both P xs ys h.1 k)

pub all_first : {X : Type 0} (P : X → Type 0) (xs ys : List X) → AllByRecursion P (xs ++ ys) → AllByRecursion P xs
all_first P [] ys h = tt
all_first P (x ∷ xs) ys h = (h.0, all_first P xs ys h.1)

pub all_last : {X : Type 0} (P : X → Type 0) (xs ys : List X) → AllByRecursion P (xs ++ ys) → AllByRecursion P ys
all_last P [] ys h = h
all_last P (x ∷ xs) ys h = all_last P xs ys h.1

not_altered : (f : Fidelity) → bytes_eq (notes_for f) (codes "message=altered") ≡ false → IsNotAltered f
not_altered Unsealed e = tt
not_altered Same e = tt
not_altered (Altered n) e = absurd (true≢false e)

unaltered_in : (seals : Seals) (a : Archive) (notes : List ℕ) (ns : List ℕ) → bytes_eq notes (codes "message=altered") ≡ false
    → AllByRecursion (IsNoted seals a) (map (λ n. (n, notes)) ns) → AllByRecursion (IsUnaltered seals a) ns
unaltered_in seals a notes [] e all = tt
unaltered_in seals a notes (n ∷ ns) e all =
    let h = all.0 in (
      (
        h.0,
        h.1,
        (h.2.0, h.2.1, not_altered h.2.0 (ap (λ l. bytes_eq l (codes "message=altered")) (sym h.2.2) ∙ e)),
      ),
      unaltered_in seals a notes ns e all.1,
    )

no_length : (ns : List ℕ) → length ns ≡ 0 → ns ≡ []
no_length [] e = refl
no_length (n ∷ ns) e = absurd (omega (arith, e))

-- a disposal that is not refused, though it would be for an altered message, is about none
pub none_refused : (ns : List ℕ) (damage : Damage) → damage ≡ Refused → is_refused ns damage ≡ false → ns ≡ []
none_refused ns Refused e goes = let none : length ns ≡ 0 = grind (arith, nat_tests, goes) in no_length ns none
none_refused ns Destroyed e goes = absurd cc

pub none_left : {X : Type 0} (xs ys : List X) → xs ++ ys ≡ [] → (xs ≡ []) × (ys ≡ [])
none_left [] ys e = (refl, e)
none_left (x ∷ xs) ys e = absurd cc

-- where no record is altered, the messages of all are not
pub unaltered_all : (seals : Seals) (a : Archive) (runs : List Run) → altered runs ≡ [] → AllByRecursion (IsNoted seals a) (noted runs)
    → AllByRecursion (IsUnaltered seals a) (records_of runs)
unaltered_all seals a [] none all = tt
unaltered_all seals a (r ∷ rs) none all =
    let first = all_first (IsNoted seals a) (noted_in r) (noted rs) all in
    let last = all_last (IsNoted seals a) (noted_in r) (noted rs) all in
    subst (AllByRecursion (IsUnaltered seals a)) (sym (records_first r rs))
    (go (is_altered_run r) refl none first (λ e. unaltered_all seals a rs e last))
  where
    go : (b : Bool) → is_altered_run r ≡ b
        → flat_map (λ (x : Run). x.numbers.items) (cond b (r ∷ filter is_altered_run rs) (filter is_altered_run rs)) ≡ []
        → AllByRecursion (IsNoted seals a) (noted_in r) → (altered rs ≡ [] → AllByRecursion (IsUnaltered seals a) (records_of rs))
        → AllByRecursion (IsUnaltered seals a) (r.numbers.items ++ records_of rs)
    go true e empty first more =
        let each = none_left r.numbers.items (altered rs) empty in
        subst (λ l. AllByRecursion (IsUnaltered seals a) (l ++ records_of rs)) (sym each.0) (more each.1)
    go false e empty first more =
        all_both (IsUnaltered seals a) r.numbers.items (records_of rs)
        (unaltered_in seals a (notes_for r.fidelity) r.numbers.items e first) (more empty)
