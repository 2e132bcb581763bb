-- Records that get another class, one after another.
use Rattle.std.proofs.Common.{◌≡◌, ◌==◌, ℕ, Bool, true, false, not, ◌||◌, ◌&&◌, cond, List, [], ◌∷◌, map, filter}
use Rattle.std.proofs.Common.{Option, Some, None, Ok, Err, is_ok, refl, sym, ap, ap₂, ◌∙◌, find}
use Rattle.std.specs.List.{AllByRecursion}
use Rattle.std.specs.Str.{bytes_eq}
use Rattle.class_plan.specs.Plans.{has}
use Rattle.record_archive.specs.Archive.{Archive, Record, record_at, has_number}
use Rattle.record_archive.specs.Refiling.{in_class, refile, refile_one, refiled}
use Rattle.record_archive.specs.declared.fault.ArchiveRefusal.TheVariants as refusal
use Rattle.record_choice.specs.Disposals.{is_one_of}
use Rattle.record_choice.specs.Entries.{RecordEntry, entry_of}
use Rattle.cli_changes.specs.Moves.{moved_to, moving_numbers}
use Rattle.cli_changes.specs.Refilings.{moves}
use Rattle.cli_changes.proofs.SeriesLaws.{IsEach, does, or_off}

abbrev marked : (to : List ℕ) → Bool → Record → Record
marked to b r = cond b (in_class to r) r

marked_again : (to : List ℕ) (b c : Bool) (r : Record) → marked to c (marked to b r) ≡ marked to (b || c) r
marked_again to true true r = refl
marked_again to true false r = refl
marked_again to false c r = refl

number_kept : (to : List ℕ) (b : Bool) (r : Record) → (marked to b r).number ≡ r.number
number_kept to true r = refl
number_kept to false r = refl

none_moved : (to : List ℕ) (rs : List Record) → map (λ (r : Record). marked to false r) rs ≡ rs
none_moved to [] = refl
none_moved to (r ∷ rs) = ap (λ l. r ∷ l) (none_moved to rs)

one_moved : (to : List ℕ) (n : ℕ) (rs : List Record)
    → map (λ (r : Record). marked to (has_number n r) r) rs ≡ map (λ (r : Record). marked to (is_one_of (n ∷ []) r.number) r) rs
one_moved to n [] = refl
one_moved to n (r ∷ rs) = ap₂ (λ b l. marked to b r ∷ l) (sym (or_off (has_number n r))) (one_moved to n rs)

then_moved : (to : List ℕ) (n : ℕ) (ns : List ℕ) (rs : List Record)
    → map (λ (r : Record). marked to (is_one_of ns r.number) r) (map (λ (r : Record). marked to (is_one_of (n ∷ []) r.number) r) rs)
    ≡ map (λ (r : Record). marked to (is_one_of (n ∷ ns) r.number) r) rs
then_moved to n ns [] = refl
then_moved to n ns (r ∷ rs) =
    let b = is_one_of (n ∷ []) r.number in
    ap₂ ◌∷◌
    (ap (λ k. marked to (is_one_of ns k) (marked to b r)) (number_kept to b r) ∙ marked_again to b (is_one_of ns r.number) r
    ∙ ap (λ c. marked to (c || is_one_of ns r.number) r) (or_off (has_number n r)))
    (then_moved to n ns rs)

-- whether the archive gives a record a class, by what it has of it
abbrev gives : Option Record → (has_class : Bool) → Bool
gives None c = false
gives (Some r) c = not r.destroyed && c

gives_is : (a : Archive) (n : ℕ) (to : List ℕ) (o : Option Record) → is_ok (refile_one a n to o) ≡ gives o (has a.plan.rows to)
gives_is a n to None = refl
gives_is a n to (Some r) = go r.destroyed (has a.plan.rows to)
  where
    go : (d c : Bool) → is_ok (cond d (Err refusal.Destroyed) (cond (not c) (Err refusal.NoClass) (Ok (refiled a n to)))) ≡ (not d && c)
    go true c = refl
    go false true = refl
    go false false = refl

given : (a b : Archive) (n : ℕ) (to : List ℕ) (o : Option Record) → refile_one a n to o ≡ Ok b → b ≡ refiled a n to
given a b n to None e = absurd cc
given a b n to (Some r) e = go r.destroyed (has a.plan.rows to) e
  where
    go : (d c : Bool) → cond d (Err refusal.Destroyed) (cond (not c) (Err refusal.NoClass) (Ok (refiled a n to))) ≡ Ok b → b ≡ refiled a n to
    go true c k = absurd cc
    go false true k = cc
    go false false k = absurd cc

gives_same : (to : List ℕ) (c : Bool) (n m : ℕ) (rs : List Record)
    → gives (find (has_number m) (map (λ (r : Record). marked to (is_one_of (n ∷ []) r.number) r) rs)) c ≡ gives (find (has_number m) rs) c
gives_same to c n m [] = refl
gives_same to c n m (r ∷ rs) =
    ap (λ b. gives (cond b (Some (marked to (is_one_of (n ∷ []) r.number) r))
    (find (has_number m) (map (λ (x : Record). marked to (is_one_of (n ∷ []) x.number) x) rs))) c)
    (ap (λ k. k == m) (number_kept to (is_one_of (n ∷ []) r.number) r))
    ∙ go (has_number m r) (is_one_of (n ∷ []) r.number) (gives_same to c n m rs)
  where
    go : (b d : Bool)
        → gives (find (has_number m) (map (λ (x : Record). marked to (is_one_of (n ∷ []) x.number) x) rs)) c ≡ gives (find (has_number m) rs) c
        → gives (cond b (Some (marked to d r)) (find (has_number m) (map (λ (x : Record). marked to (is_one_of (n ∷ []) x.number) x) rs))) c
        ≡ gives (cond b (Some r) (find (has_number m) rs)) c
    go true true more = refl
    go true false more = refl
    go false d more = more

pub refile_is_each : (to : List ℕ) → IsEach (λ n a. refile a n to) (moved_to to)
refile_is_each to = record {
  none = λ a. ap (λ l. record a { records = l }) (none_moved to a.records);
  one = λ n a b e. given a b n to (record_at a n) e ∙ ap (λ l. record a { records = l }) (one_moved to n a.records);
  more = λ n ns a. ap (λ l. record a { records = l }) (then_moved to n ns a.records);
  apart = λ n m a less. gives_is (moved_to to (n ∷ []) a) m to (record_at (moved_to to (n ∷ []) a) m)
      ∙ gives_same to (has a.plan.rows to) n m a.records ∙ sym (gives_is a m to (record_at a m));
}

-- ---- the records that move

moves_live : (d s c : Bool) → c ≡ true → (not d && not s) ≡ true → (not d && c) ≡ true
moves_live true s c there m = absurd cc
moves_live false s c there m = there

kept_all : (D : ℕ → Bool) (e : RecordEntry) (b : Bool) (F : List RecordEntry) → (b ≡ true → D e.number ≡ true)
    → filter D (map (λ (x : RecordEntry). x.number) F) ≡ map (λ (x : RecordEntry). x.number) F
    → filter D (map (λ (x : RecordEntry). x.number) (cond b (e ∷ F) F)) ≡ map (λ (x : RecordEntry). x.number) (cond b (e ∷ F) F)
kept_all D e true F is more = ap₂ (λ c l. cond c (e.number ∷ l) l) (is refl) more
kept_all D e false F is more = more

-- where there is the class, the archive gives it to each of them
pub moved_are : (to : List ℕ) (a : Archive) → has a.plan.rows to ≡ true → (rs : List Record)
    → AllByRecursion (λ r. record_at a r.number ≡ Some r) rs
    → filter (does (λ n b. refile b n to) a) (moving_numbers to (map (entry_of a) rs)) ≡ moving_numbers to (map (entry_of a) rs)
moved_are to a there [] each = refl
moved_are to a there (r ∷ rs) each =
    kept_all (does (λ n b. refile b n to) a) (entry_of a r) (moves to (entry_of a r)) (filter (moves to) (map (entry_of a) rs))
    (λ m. gives_is a r.number to (record_at a r.number) ∙ ap (λ o. gives o (has a.plan.rows to)) each.0
    ∙ moves_live r.destroyed (bytes_eq r.path to) (has a.plan.rows to) there m)
    (moved_are to a there rs each.1)
