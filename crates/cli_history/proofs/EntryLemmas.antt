-- Pages of a walk over the records of an archive.
use Rattle.std.proofs.Common.{◌≡◌, ◌+◌, ◌-◌, ◌<◌, ◌≤◌, ◌++◌, ◌∷◌, ◌∙◌, ◌^◌, [], ℕ, suc, List, Bool, true, false, cond, nat_lt}
use Rattle.std.proofs.Common.{Option, Some, None, option_map, map, take, drop, length, refl, ap, sym, arith, slice_get}
use Rattle.std.specs.Option.{SomeIff}
use Rattle.std.specs.Prelude.{IfSome}
use Rattle.std.proofs.lemmas.Bool.Decides.{nat_tests}
use Rattle.std.proofs.lemmas.List.{map-append, take-append-drop}
use Rattle.record_archive.specs.Archive.{Archive, IsArchive}
use Rattle.record_choice.specs.Entries.{entries_from, entry_of, entry_view, records_from}
use Rattle.record_choice.specs.Entries as plain
use Rattle.record_choice.specs.Walks.{above, last_of, records_after}
use Rattle.record_choice.specs.declared.entry.RecordEntry.{RecordEntry}
use Rattle.record_choice.proofs.PageLaws.{entries_taken, goes_up, rest_is}
use Rattle.cli_history.specs.Walks.{GoesOnIn}
use Rattle.cli_history.proofs.WalkLemmas.{none_left}

-- ---- the number of the last record

last_entry : (before : Option ℕ) (es : List RecordEntry) (e : RecordEntry)
    → last_of before (map entry_view (e ∷ es)) ≡ option_map (λ (x : RecordEntry). x.number) (slice_get (e ∷ es) (length (e ∷ es) - 1))
last_entry before [] e = refl
last_entry before (f ∷ es) e =
    let here : length (e ∷ f ∷ es) - 1 ≡ suc (length (f ∷ es) - 1) = omega arith in
    last_entry (Some e.number) es f ∙ ap (λ i. option_map (λ (x : RecordEntry). x.number) (slice_get (e ∷ f ∷ es) i)) (sym here)

last_number : (es : List RecordEntry) → last_of None (map entry_view es) ≡ option_map (λ (x : RecordEntry). x.number) (slice_get es (length es - 1))
last_number [] = refl
last_number (e ∷ es) = last_entry None es e

pub above_none : (es : List RecordEntry) → None ≡ slice_get es (length es - 1) → None ≡ above (last_of None (map entry_view es))
above_none es is =
    ap (λ (o : Option RecordEntry). above (option_map (λ (x : RecordEntry). x.number) o)) is ∙ sym (ap above (last_number es))

number_of : (n : ℕ) (o : Option ℕ) → SomeIff o (n + 1 < 2 ^ 32) (n + 1) → o ≡ above (Some n)
number_of n None past =
    let high : 4294967295 ≤ n = grind (arith, past) in
    let test : nat_lt (n + 1) (2 ^ 32) ≡ false = grind (arith, nat_tests, high) in
    sym (ap (λ b. cond b (Some (n + 1)) None) test)
number_of n (Some m) is =
    let below : n < 4294967295 = omega (arith, is.0) in
    let test : nat_lt (n + 1) (2 ^ 32) ≡ true = grind (arith, nat_tests, below) in
    ap (λ i. Some i) is.1 ∙ sym (ap (λ b. cond b (Some (n + 1)) None) test)

pub above_some : (es : List RecordEntry) (e : RecordEntry) (o : Option ℕ) → Some e ≡ slice_get es (length es - 1)
    → SomeIff o (e.number + 1 < 2 ^ 32) (e.number + 1) → o ≡ above (last_of None (map entry_view es))
above_some es e o is number =
    number_of e.number o number ∙ ap (λ (p : Option RecordEntry). above (option_map (λ (x : RecordEntry). x.number) p)) is
    ∙ sym (ap above (last_number es))

-- ---- a page

above_low : (o : Option ℕ) → IfSome (above o) (λ n. n < 4294967296)
above_low None = tt
above_low (Some n) = go (nat_lt (n + 1) (2 ^ 32)) refl
  where
    go : (b : Bool) → nat_lt (n + 1) (2 ^ 32) ≡ b → IfSome (cond b (Some (n + 1)) None) (λ k. k < 4294967296)
    go true e = grind (arith, nat_tests, e)
    go false e = tt

both_bounds : (o : Option ℕ) (from : ℕ) → IfSome o (λ n. from < n) → IfSome o (λ n. n < 4294967296) → IfSome o (λ n. (from < n) × (n < 4294967296))
both_bounds None from up low = tt
both_bounds (Some n) from up low = (up, low)

-- THE PAGE that was read has the next records
pub entries_next : (a : Archive) → IsArchive a → (from : ℕ) (page : List RecordEntry) → map entry_view page ≡ take 4000 (entries_from a from)
    → GoesOnIn a (Some from) (above (last_of None (map entry_view page))) page
entries_next a is from page same =
    let rs = records_from a from in
    let after = above (last_of None (map entry_view page)) in
    let taken : map entry_view page ≡ map (entry_of a) (take 4000 rs) = same ∙ entries_taken a from 4000 in
    let rest : records_after a after ≡ drop 4000 rs =
    ap (λ (es : List plain.RecordEntry). records_after a (above (last_of None es))) taken ∙ rest_is a is from 4000 (omega arith) in
    record {
      joined = ap (map (entry_of a)) (sym (take-append-drop 4000 rs)) ∙ map-append (entry_of a) (take 4000 rs) (drop 4000 rs)
          ∙ ap (λ l. l ++ map (entry_of a) (drop 4000 rs)) (sym taken) ∙ ap (λ l. map entry_view page ++ map (entry_of a) l) (sym rest);
      advances = record {
        number = from;
        stood = refl;
        later = both_bounds after from (goes_up a is from 4000 (map entry_view page) (last_of None (map entry_view page)) same refl)
            (above_low (last_of None (map entry_view page)));
      };
    }

none_mapped : {X Y : Type 0} (f : X → Y) (xs : List X) → map f xs ≡ [] → xs ≡ []
none_mapped f [] is = refl
none_mapped f (x ∷ xs) is = absurd cc

-- no page was read, and no record is left
pub entries_none : (a : Archive) (from : ℕ) (page : List RecordEntry) → map entry_view page ≡ take 4000 (entries_from a from) → page ≡ []
    → records_from a from ≡ []
entries_none a from page same none =
    none_mapped (entry_of a) (records_from a from)
    (none_left 4000 (entries_from a from) (omega arith) (sym (ap (map entry_view) none) ∙ same))
