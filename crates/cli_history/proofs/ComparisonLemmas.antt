-- Comparisons of archives with what histories make of them.
use Rattle.std.proofs.Common.{◌≡◌, ◌==◌, ◌+◌, ◌<◌, ◌&&◌, ◌||◌, ◌++◌, ◌∷◌, ◌∙◌, [], ℕ, List, Vec, Bool, true, false, cond}
use Rattle.std.proofs.Common.{Option, Some, None, option_map, map, filter, take, get_or, length, slice_get, Ok, Err, refl, ap, ap₂, sym, arith}
use Rattle.std.specs.Borrow.{Bor}
use Rattle.std.specs.BTreeMap.{get}
use Rattle.std.specs.List.{AllByRecursion, list_all, list_any}
use Rattle.std.specs.Option.{option_and_then}
use Rattle.std.specs.Ordering.{nat_cmp}
use Rattle.std.specs.Prelude.{IfSome, is_some}
use Rattle.std.specs.Str.{bytes_eq}
use Rattle.std.specs.declared.alloc.Global.{Global}
use Rattle.std.proofs.lemmas.Bool.{false≢true}
use Rattle.std.proofs.lemmas.Bool.Decides.{nat_tests}
use Rattle.std.proofs.lemmas.List.{append-nil, length-map, map-append, take_more}
use Rattle.std.proofs.lemmas.List.Elements.{filter-append}
use Rattle.std.proofs.lemmas.List.Folds.{list_any-append}
use Rattle.std.proofs.lemmas.Option.{slice_get-get_or}
use Rattle.std.proofs.lemmas.Slice.Eq.{bytes_eq-Decides}
use Rattle.record_archive.specs.Archive.{Archive, Record, body_of, message, message_one, record_at}
use Rattle.record_archive.specs.declared.fault.ArchiveRefusal.TheVariants as refusal
use Rattle.record_choice.specs.Entries as plain
use Rattle.record_choice.specs.Entries.{entry_of, entry_view, name_list}
use Rattle.record_choice.specs.declared.entry.RecordEntry.{RecordEntry}
use Rattle.record_history.specs.Events.{Seal}
use Rattle.record_history.specs.Replay.{seal}
use Rattle.record_history.specs.Views.{seal_view}
use Rattle.record_judge.specs.declared.sealed.NamedHold.{NamedHold}
use Rattle.record_judge.specs.declared.sealed.SealedMessage.{SealedMessage}
use Rattle.record_judge.specs.declared.sealed.SealedRecord.{SealedRecord}
use Rattle.cli_history.specs.Compared.{Compares, HasMet, IsAsMade, IsAsTold, IsTold, IsThere, KeepsSeals, has_holds, has_seal_of}
use Rattle.cli_history.specs.Compared.{is_message_made, message_made, names_in, record_told, row_had, row_told}
use Rattle.cli_history.specs.Made.{AreSealsOf, are_names, last_numbered, names_of}
use Rattle.cli_history.specs.Seals.{is_seal, later}
use Rattle.cli_history.specs.Stored.{is_stored_as, stored}
use Rattle.cli_history.specs.declared.comparison.Comparison.{Comparison}
use Rattle.cli_history.specs.declared.stored.StoredSeals.{StoredSeals}
use Rattle.cli_history.proofs.ReplayLemmas.{later_none, later_thrice}

-- ---- what has a number

pub numbered_more : {X : Type 0} (number : X → ℕ) (xs : List X) (x : X) (n : ℕ)
    → last_numbered number (xs ++ x ∷ []) n ≡ later (cond (n == number x) (Some x) None) (last_numbered number xs n)
numbered_more number [] x n = later_none (cond (n == number x) (Some x) None)
numbered_more number (y ∷ xs) x n =
    ap (λ o. later o (cond (n == number y) (Some y) None)) (numbered_more number xs x n)
    ∙ later_thrice (cond (n == number x) (Some x) None) (last_numbered number xs n) (cond (n == number y) (Some y) None)

placed_if : {X : Type 0} (f : ℕ → Option X) (b : Bool) (i : ℕ) (x : X) (o : Option ℕ) → f i ≡ Some x
    → option_and_then f (cond b (Some i) o) ≡ later (cond b (Some x) None) (option_and_then f o)
placed_if f true i x o is = is
placed_if f false i x o is = refl

-- one place more
pub place_noted : {X : Type 0} (number : X → ℕ) (xs : List X) (i : ℕ) (d : X) → i < length xs → (old new : ℕ → Option ℕ)
    → ((n : ℕ) → new n ≡ cond (n == number (get_or xs i d)) (Some i) (old n))
    → ((n : ℕ) → option_and_then (slice_get xs) (old n) ≡ last_numbered number (take i xs) n)
    → (n : ℕ) → option_and_then (slice_get xs) (new n) ≡ last_numbered number (take (i + 1) xs) n
place_noted number xs i d low old new noted so_far n =
    let x = get_or xs i d in
    ap (option_and_then (slice_get xs)) (noted n)
    ∙ placed_if (slice_get xs) (n == number x) i x (old n) (slice_get-get_or xs i d low)
    ∙ ap (later (cond (n == number x) (Some x) None)) (so_far n)
    ∙ sym (numbered_more number (take i xs) x n)
    ∙ ap (λ l. last_numbered number l n) (sym (take_more xs i d low))

named_if : (b : Bool) (h : NamedHold) (names : List (List ℕ))
    → names ++ map (λ (x : NamedHold). x.name.items) (cond b (h ∷ []) []) ≡ cond b (names ++ h.name.items ∷ []) names
named_if true h names = refl
named_if false h names = append-nil names

-- one name more
pub names_more : (hs : List NamedHold) (h : NamedHold) (n : ℕ)
    → names_of (hs ++ h ∷ []) n ≡ cond (n == h.number) (names_of hs n ++ h.name.items ∷ []) (names_of hs n)
names_more hs h n =
    let of : NamedHold → Bool = λ x. n == x.number in
    let name : NamedHold → List ℕ = λ x. x.name.items in
    ap (map name) (filter-append of hs (h ∷ [])) ∙ map-append name (filter of hs) (filter of (h ∷ []))
    ∙ named_if (n == h.number) h (names_of hs n)

pub held_more : (hs : List NamedHold) (i : ℕ) (d : NamedHold) → i < length hs → (old new : ℕ → List (List ℕ))
    → ((n : ℕ) → new n ≡ cond (n == (get_or hs i d).number) (old n ++ (get_or hs i d).name.items ∷ []) (old n))
    → ((n : ℕ) → old n ≡ names_of (take i hs) n) → (n : ℕ) → new n ≡ names_of (take (i + 1) hs) n
held_more hs i d low old new added so_far n =
    let h = get_or hs i d in
    added n ∙ ap (λ names. cond (n == h.number) (names ++ h.name.items ∷ []) names) (so_far n)
    ∙ sym (names_more (take i hs) h n) ∙ ap (λ l. names_of l n) (sym (take_more hs i d low))

-- the names of holds as they are kept, each by its octets
abbrev Names : Type 0
Names = Vec (Bor (List ℕ)) Global

abbrev octets_in : Option Names → List (List ℕ)
octets_in o = map (λ (name : Bor (List ℕ)). name.now) (names_in o)

-- one name more is kept
pub name_added : (old mid new : ℕ → Option Names) (number : ℕ) (names added : Names) (name : Bor (List ℕ)) (text : List ℕ) → name.now ≡ text
    → names.items ≡ names_in (old number) → ((n : ℕ) → (n == number) ≡ false → mid n ≡ old n) → added.items ≡ names.items ++ name ∷ []
    → ((n : ℕ) → new n ≡ cond (n == number) (Some added) (mid n))
    → (n : ℕ) → octets_in (new n) ≡ cond (n == number) (octets_in (old n) ++ text ∷ []) (octets_in (old n))
name_added old mid new number names added name text text_is taken others pushed kept n = ap octets_in (kept n) ∙ go (n == number) refl
  where
    now : Bor (List ℕ) → List ℕ
    now x = x.now

    go : (b : Bool) → (n == number) ≡ b
        → octets_in (cond b (Some added) (mid n)) ≡ cond b (octets_in (old n) ++ text ∷ []) (octets_in (old n))
    go true e =
        let same : number ≡ n = grind (arith, nat_tests, e) in
        ap (map now) (pushed ∙ ap (λ l. l ++ name ∷ []) (taken ∙ ap (λ k. names_in (old k)) same))
        ∙ map-append now (names_in (old n)) (name ∷ []) ∙ ap (λ t. octets_in (old n) ++ t ∷ []) text_is
    go false e = ap octets_in (others n e)

-- ---- an entry beside what is told of it

any_named : (h : List ℕ) (ns : List (Bor (List ℕ)))
    → list_any (λ (n : Bor (List ℕ)). bytes_eq h n.now) ns ≡ list_any (bytes_eq h) (map (λ (n : Bor (List ℕ)). n.now) ns)
any_named h [] = refl
any_named h (n ∷ ns) = ap (λ b. bytes_eq h n.now || b) (any_named h ns)

all_named : (hs : List (Vec ℕ Global)) (ns : List (Bor (List ℕ)))
    → list_all (λ (h : Vec ℕ Global). list_any (λ (n : Bor (List ℕ)). bytes_eq h.items n.now) ns) hs
    ≡ list_all (λ (h : List ℕ). list_any (bytes_eq h) (map (λ (n : Bor (List ℕ)). n.now) ns)) (name_list hs)
all_named [] ns = refl
all_named (h ∷ hs) ns = ap₂ ◌&&◌ (any_named h.items ns) (all_named hs ns)

-- the holds of an entry are those that are told
holds_are_names : (e : RecordEntry) (ns : List (Bor (List ℕ)))
    → has_holds e ns ≡ are_names (name_list e.holds.items) (map (λ (n : Bor (List ℕ)). n.now) ns)
holds_are_names e ns =
    ap₂ (λ a b. (a == b) && list_all (λ (h : Vec ℕ Global). list_any (λ (n : Bor (List ℕ)). bytes_eq h.items n.now) ns) e.holds.items)
    (sym (length-map e.holds.items (λ h. h.items))) (sym (length-map ns (λ n. n.now)))
    ∙ ap (λ b. (length (name_list e.holds.items) == length (map (λ (n : Bor (List ℕ)). n.now) ns)) && b) (all_named e.holds.items ns)

pub both_true : (a b : Bool) → (a && b) ≡ true → (a ≡ true) × (b ≡ true)
both_true true b is = (refl, is)
both_true false b is = absurd (false≢true is)

other_true : (a b : Bool) → (a || b) ≡ true → a ≡ false → b ≡ true
other_true a b is none = sym (ap (λ x. x || b) none) ∙ is

-- seals with the same length and sum are the same
same_seal : (one other : Seal) → is_seal one other ≡ true → one ≡ other
same_seal one other is =
    let both = both_true (one.octets == other.octets) (bytes_eq one.sum other.sum) is in
    let octets : one.octets ≡ other.octets = grind (arith, nat_tests, both.0) in
    let sum : one.sum ≡ other.sum = (bytes_eq-Decides one.sum other.sum).0 both.1 in
    λ i. record { octets = octets i; sum = sum i }

stored_same : (told : Seal) (o : Option Seal) → is_stored_as told o ≡ true → o ≡ Some told
stored_same told None is = absurd (false≢true is)
stored_same told (Some made) is = ap (λ x. Some x) (same_seal made told is)

-- the message that the history tells is that of the archive
sealed_by_stored : (a : Archive) (o : Option SealedMessage) (s : Option StoredSeals) (n : ℕ) → is_some s ≡ true → IfSome s (AreSealsOf a)
    → has_seal_of o s n ≡ true → (m : SealedMessage) × (o ≡ Some m) × (option_map seal (body_of a.messages n) ≡ Some (seal_view m.seal))
sealed_by_stored a o None n some are is = absurd (false≢true some)
sealed_by_stored a None (Some s) n some are is = absurd (false≢true is)
sealed_by_stored a (Some m) (Some s) n some are is =
    (m, refl, are n (seal_view m.seal) (stored_same (seal_view m.seal) (stored s n) is))

-- the octets of the message of a record that is there
body_there : (a : Archive) (n : ℕ) (r : Record) (body : List ℕ) → record_at a n ≡ Some r → message a n ≡ Ok (Some body)
    → body_of a.messages r.message ≡ Some body
body_there a n r body found told = go r.destroyed (sym (ap (message_one a) found) ∙ told)
  where
    go : (b : Bool) → cond b (Err refusal.Destroyed) (Ok (body_of a.messages r.message)) ≡ Ok (Some body) → body_of a.messages r.message ≡ Some body
    go true is = absurd cc
    go false is = cc

-- THE SEAL OF A MESSAGE WAS MADE of the octets of the archive's
pub seals_noted : (a : Archive) (e : RecordEntry) (old new : StoredSeals) (body : List ℕ) → IsThere a (entry_view e)
    → message a e.number ≡ Ok (Some body) → ((n : ℕ) → stored new n ≡ cond (n == e.message) (Some (seal body)) (stored old n))
    → AreSealsOf a old → AreSealsOf a new
seals_noted a e old new body there told noted are n x is = go (n == e.message) refl (sym (noted n) ∙ is)
  where
    here : body_of a.messages e.message ≡ Some body
    here = ap (λ v. body_of a.messages v.message) there.2 ∙ body_there a e.number there.0 body there.1 told

    go : (b : Bool) → (n == e.message) ≡ b → cond b (Some (seal body)) (stored old n) ≡ Some x → option_map seal (body_of a.messages n) ≡ Some x
    go true e_is one =
        let same : n ≡ e.message = grind (arith, nat_tests, e_is) in
        ap (option_map seal) (ap (body_of a.messages) same ∙ here) ∙ one
    go false e_is one = are n x one

-- a record that was met is told no more
told_first : (first old : Comparison) (n : ℕ) (b : Bool) → get nat_cmp old.records n ≡ cond b None (get nat_cmp first.records n)
    → old.made ≡ first.made → (r : SealedRecord) → record_told old n ≡ Some r → record_told first n ≡ Some r
told_first first old n true left made r is =
    let none = ap (option_and_then (λ place. slice_get old.made.now.records.items place)) left in absurd (let e = sym is ∙ none in cc)
told_first first old n false left made r is =
    ap₂ (λ m o. option_and_then (λ place. slice_get m.now.records.items place) o) (sym made) (sym left) ∙ is

told_some : (o : Option SealedRecord) (e : RecordEntry) (b : Bool) → IsAsTold o e b
    → (r : SealedRecord) × (o ≡ Some r) × (row_had e ≡ row_told r) × (b ≡ true)
told_some None e b is = absurd is
told_some (Some r) e b is = (r, refl, is.0, is.1)

left_if : {X : Type 0} (met now : Bool) (old new first : Option X) → old ≡ cond met None first → new ≡ cond now None old
    → new ≡ cond (met || (now || false)) None first
left_if true true old new first was is = is
left_if true false old new first was is = is ∙ was
left_if false true old new first was is = is
left_if false false old new first was is = is ∙ was

all_more : {X : Type 0} (P : X → Type 0) (xs : List X) (x : X) → AllByRecursion P xs → P x → AllByRecursion P (xs ++ x ∷ [])
all_more P [] x all one = (one, tt)
all_more P (y ∷ xs) x all one = (all.0, all_more P xs x all.1 one)

-- the entry that was compared is as the history tells
told_now : (a : Archive) (first old new : Comparison) (met : List plain.RecordEntry) (e : RecordEntry) → HasMet a first old met
    → Compares e old new → KeepsSeals a old.stored new.stored → IsAsMade old e → is_message_made new e ≡ true → IsTold a first (entry_view e)
told_now a first old new met e so_far compares kept made message_is =
    let told = told_some (record_told old e.number) e (has_holds e (names_in (get nat_cmp old.held e.number))) made in
    let held = ap (λ h. map (λ (n : Bor (List ℕ)). n.now) (names_in (get nat_cmp h e.number))) so_far.same.held in
    record {
      told = told.0;
      told_is = told_first first old e.number (list_any (λ (x : plain.RecordEntry). e.number == x.number) met) (so_far.left e.number)
          so_far.same.made told.0 told.1;
      row = told.2;
      names = ap (are_names (name_list e.holds.items)) (sym held) ∙ sym (holds_are_names e (names_in (get nat_cmp old.held e.number))) ∙ told.3;
      message = λ some are live.
          let depth : is_some new.stored ≡ true = compares.same.depth ∙ so_far.same.depth ∙ some in
          let is = other_true e.destroyed (has_seal_of (message_made new e.message) new.stored e.message) message_is live in
          let sealed = sealed_by_stored a (message_made new e.message) new.stored e.message depth (kept (so_far.seals are)) is in
          let same : message_made new e.message ≡ message_made first e.message =
          ap₂ (λ m p. option_and_then (λ place. slice_get m.now.messages.items place) (get nat_cmp p e.message))
          (compares.same.made ∙ so_far.same.made) (compares.same.messages ∙ so_far.same.messages) in
          (sealed.0, sym same ∙ sealed.1, sealed.2);
    }

-- ONE ENTRY MORE
pub met_more : (a : Archive) (first old new : Comparison) (met : List plain.RecordEntry) (e : RecordEntry) → HasMet a first old met
    → Compares e old new → KeepsSeals a old.stored new.stored → HasMet a first new (met ++ entry_view e ∷ [])
met_more a first old new met e so_far compares kept = record {
  same = record {
    made = compares.same.made ∙ so_far.same.made;
    held = compares.same.held ∙ so_far.same.held;
    messages = compares.same.messages ∙ so_far.same.messages;
    planned = compares.same.planned ∙ so_far.same.planned;
    depth = compares.same.depth ∙ so_far.same.depth;
  };
  seals = λ are. kept (so_far.seals are);
  left = λ n.
      let of : plain.RecordEntry → Bool = λ x. n == x.number in
      left_if (list_any of met) (n == e.number) (get nat_cmp old.records n) (get nat_cmp new.records n) (get nat_cmp first.records n)
      (so_far.left n) (compares.met n)
      ∙ ap (λ b. cond b None (get nat_cmp first.records n)) (sym (list_any-append of met (entry_view e ∷ [])));
  alike = λ is.
      let was = compares.alike is in
      let before = so_far.alike was.0 in
      (before.0, all_more (IsTold a first) met (entry_view e) before.1 (told_now a first old new met e so_far compares kept was.1 was.2));
}

-- nothing was met yet
pub met_none : (a : Archive) (first : Comparison) → HasMet a first first []
met_none a first = record {
  same = record { made = refl; held = refl; messages = refl; planned = refl; depth = refl };
  seals = λ are. are;
  left = λ n. refl;
  alike = λ is. (is, tt);
}
