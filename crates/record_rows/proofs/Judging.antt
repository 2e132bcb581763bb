-- The rows that are accepted are those of an archive, and no others.
use Rattle.std.proofs.Common.{◌≡◌, ℕ, ◌≤◌, nat_le, Bool, true, false, ◌&&◌, List, [], ◌∷◌, map, nat_cmp, refl, ap, sym, ◌∙◌, inl, inr, arith}
use Rattle.std.proofs.lemmas.Bool.{cases_Bool}
use Rattle.std.proofs.lemmas.Bool.Decides.{nat_tests}
use Rattle.std.proofs.lemmas.List.Elements.{All-from_recursion, recursion_from_All}
use Rattle.std.proofs.lemmas.Slice.Eq.{bytes_eq-Decides}
use Rattle.std.specs.List.{AllByRecursion, list_all}
use Rattle.std.specs.List.Sorted.{IsStrictlySortedBy}
use Rattle.std.specs.Str.{bytes_eq}
use Rattle.class_plan.specs.Plans.{Listing, has}
use Rattle.record_tables.specs.declared.rows.RecordRow.{RecordRow}
use Rattle.record_tables.specs.declared.rows.HoldRow.{HoldRow}
use Rattle.record_archive.specs.Archive.{Record}
use Rattle.record_tables.specs.Reads.{HoldEntry}
use Rattle.record_tables.specs.CodeRows.{record_of, hold_entry_of}
use Rattle.record_rows.proofs.Tests.{five}
use Rattle.record_rows.specs.SoundRows.{is_named, is_live, is_one_of, IsSound, AreRows}
use Rattle.record_rows.specs.Tests.{is_sound, rises_from, rises_after}
use Rattle.record_rows.proofs.Sorted.{rises-sorted, sorted-rises, holds-sorted, sorted-holds, sorted-same}

-- ---- each record

le_test : (x y : ℕ) → nat_le x y ≡ true → x ≤ y
le_test x y h = grind (arith, nat_tests)

test_le : (x y : ℕ) → x ≤ y → nat_le x y ≡ true
test_le x y h = grind (arith, nat_tests)

sound_is : (p : Listing) (r : Record) → is_sound p r ≡ true → IsSound p r
sound_is p r e =
    let parts = five (nat_le 1 r.number) (nat_le 1 r.message) (nat_le r.message r.number) (nat_le r.day 84005) (has p.rows r.path) e in
    record {
      number = le_test 1 r.number parts.0;
      message =
          (le_test 1 r.message parts.1, le_test r.message r.number parts.2);
      day = le_test r.day 84005 parts.3;
      class =
          parts.4;
    }

is_sound_of : (p : Listing) (r : Record) → IsSound p r → is_sound p r ≡ true
is_sound_of p r h = rw (
  test_le 1 r.number h.number,
  test_le 1 r.message h.message.0,
  test_le r.message r.number h.message.1,
  test_le r.day 84005 h.day,
  h.class,
) refl

sound_all : (p : Listing) (rs : List RecordRow) → list_all (λ r. is_sound p (record_of r)) rs ≡ true → AllByRecursion (IsSound p) (map record_of rs)
sound_all p [] e = tt
sound_all p (r ∷ rs) e = elim (cases_Bool (is_sound p (record_of r))) [
  | inl is ↦ (sound_is p (record_of r) is, sound_all p rs (rw is at e))
  | inr other ↦ let k : false ≡ true = rw other at e in absurd (cc)
]

all_sound : (p : Listing) (rs : List RecordRow) → AllByRecursion (IsSound p) (map record_of rs) → list_all (λ r. is_sound p (record_of r)) rs ≡ true
all_sound p [] h = refl
all_sound p (r ∷ rs) h = rw (is_sound_of p (record_of r) h.0) (all_sound p rs h.1)

numbers_are : (rs : List RecordRow) → map (λ (r : Record). r.number) (map record_of rs) ≡ map (λ (r : RecordRow). r.number) rs
numbers_are [] = refl
numbers_are (r ∷ rs) = ap (λ z. r.number ∷ z) (numbers_are rs)

-- ---- each hold

held_all : (L : List ℕ) (R : List Record) → ((n : ℕ) → is_one_of L n ≡ is_live R n) → (hs : List HoldRow)
    → list_all (λ h. is_one_of L h.record) hs ≡ true
    → AllByRecursion (λ (h : HoldEntry). is_live R h.number ≡ true) (map hold_entry_of hs)
held_all L R same [] e = tt
held_all L R same (h ∷ hs) e = elim (cases_Bool (is_one_of L h.record)) [
  | inl is ↦ (sym (same h.record) ∙ is, held_all L R same hs (rw is at e))
  | inr other ↦ let k : false ≡ true = rw other at e in absurd (cc)
]

all_held : (L : List ℕ) (R : List Record) → ((n : ℕ) → is_one_of L n ≡ is_live R n) → (hs : List HoldRow)
    → AllByRecursion (λ (h : HoldEntry). is_live R h.number ≡ true) (map hold_entry_of hs)
    → list_all (λ h. is_one_of L h.record) hs ≡ true
all_held L R same [] e = refl
all_held L R same (h ∷ hs) e = rw (same h.record ∙ e.0) (all_held L R same hs e.1)

-- ---- the rows of an archive pass

pub rows-sound : (p : Listing) (rs : List RecordRow) (ms : List ℕ) (hs : List HoldEntry)
    → AreRows p (map record_of rs) ms hs → list_all (λ r. is_sound p (record_of r)) rs ≡ true
rows-sound p rs ms hs h = all_sound p rs (recursion_from_All (IsSound p) (map record_of rs) h.records)

pub rows-in_order : (p : Listing) (rs : List RecordRow) (ms : List ℕ) (hs : List HoldEntry)
    → AreRows p (map record_of rs) ms hs → rises_from 0 (map (λ (r : RecordRow). r.number) rs) ≡ true
rows-in_order p rs ms hs h = ap (rises_from 0) (sym (numbers_are rs)) ∙ sorted-rises (map (λ (r : Record). r.number) (map record_of rs)) h.in_order

pub rows-messages : (p : Listing) (rs : List Record) (ms : List ℕ) (hs : List HoldEntry) → AreRows p rs ms hs → rises_from 0 ms ≡ true
rows-messages p rs ms hs h = sorted-rises ms h.messages

pub rows-once : (p : Listing) (rs : List Record) (ms : List ℕ) (hs : List HoldEntry) → AreRows p rs ms hs → rises_after hs ≡ true
rows-once p rs ms hs h = sorted-holds hs h.once

pub rows-named : (p : Listing) (rs : List Record) (ms : List ℕ) (hs : List HoldEntry) (K : List ℕ)
    → IsStrictlySortedBy nat_cmp K → ((m : ℕ) → is_one_of K m ≡ is_named rs m) → AreRows p rs ms hs
    → bytes_eq K ms ≡ true
rows-named p rs ms hs K sorted same h = (bytes_eq-Decides K ms).1 (sorted-same K ms sorted h.messages (λ m. same m ∙ sym (h.named m)))

pub rows-held : (p : Listing) (rs : List Record) (ms : List ℕ) (hs : List HoldRow) (L : List ℕ)
    → ((n : ℕ) → is_one_of L n ≡ is_live rs n) → AreRows p rs ms (map hold_entry_of hs)
    → list_all (λ h. is_one_of L h.record) hs ≡ true
rows-held p rs ms hs L same h =
    all_held L rs same hs (recursion_from_All (λ (h : HoldEntry). is_live rs h.number ≡ true) (map hold_entry_of hs)
    h.held)

-- ---- rows that pass are an archive's

pub passed-rows : (p : Listing) (rs : List RecordRow) (ms : List ℕ) (hs : List HoldRow) (K L : List ℕ)
    → ((m : ℕ) → is_one_of K m ≡ is_named (map record_of rs) m)
    → ((n : ℕ) → is_one_of L n ≡ is_live (map record_of rs) n)
    → list_all (λ r. is_sound p (record_of r)) rs ≡ true → rises_from 0 (map (λ (r : RecordRow). r.number) rs) ≡ true
    → rises_from 0 ms ≡ true → rises_after (map hold_entry_of hs) ≡ true → bytes_eq K ms ≡ true
    → list_all (λ h. is_one_of L h.record) hs ≡ true
    → AreRows p (map record_of rs) ms (map hold_entry_of hs)
passed-rows p rs ms hs K L named live sound rise messages once just held =
    let same : K ≡ ms = (bytes_eq-Decides K ms).0 just in
    record {
      records = All-from_recursion (IsSound p) (map record_of rs) (sound_all p rs sound);
      in_order = rises-sorted (map (λ (r : Record). r.number) (map record_of rs)) (ap (rises_from 0) (numbers_are rs) ∙ rise);
      messages = rises-sorted ms messages;
      named = λ m. ap (λ z. is_one_of z m) (sym same) ∙ named m;
      held = All-from_recursion (λ (h : HoldEntry). is_live (map record_of rs) h.number ≡ true) (map hold_entry_of hs)
          (held_all L (map record_of rs) live hs held);
      once = holds-sorted (map hold_entry_of hs) once;
    }

pub never : {A : Type 0} → false ≡ true → A
never e = absurd (cc)
