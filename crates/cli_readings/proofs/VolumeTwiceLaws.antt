-- What was captured twice in several volumes, as it is gathered and as its rows are kept.
use Rattle.std.specs.Prelude.{◌≡◌, ◌≤◌, ◌<◌, ℕ, ◌+◌, ◌==◌, zero, suc, Bool, true, false, Vec}
use Rattle.std.specs.Prelude.{Option, Some, None, is_some, not, slice_get, List, [], ◌∷◌, ◌++◌, length, flat_map, take}
use Rattle.std.proofs.Common.{get_or, refl, sym, ap, ap₂, ◌∙◌, subst, arith, ◌⊎◌, inl, inr}
use Rattle.std.proofs.lemmas.Bool.{ne_eqb}
use Rattle.std.proofs.lemmas.List.{append_assoc, append-nil, flat_map_more, length_push, take_all, take_more}
use Rattle.std.proofs.lemmas.Option.{get_or_from_slice_get, slice_get_cases}
use Rattle.std.specs.declared.alloc.Global.{Global}
use Rattle.command_lines.specs.declared.archives.Listing.{Listing}
use Rattle.record_archive.specs.Archive.{Archive}
use Rattle.cli_console.specs.Counts.{one_more}
use Rattle.cli_console.specs.Sequences.{AreTexts, counted_joined, first_after, more_for, one_text, texts_joined}
use Rattle.cli_console.specs.Sinks.{Writes, more_written, nothing_written}
use Rattle.cli_readings.specs.Groups.{Added, AreGroupsOf, KeyedGroup, key_of, records_of}
use Rattle.cli_readings.specs.Lists.{HasText, Lists}
use Rattle.cli_readings.specs.Twice.{AddsBeside, AreAllGathered, GathersAll, IsBeside, beside_record}
use Rattle.cli_readings.specs.VolumeLists.{in_volume}
use Rattle.cli_readings.specs.VolumeTwice.{AddsRow, AreGatheredOf, HasGathered, HasRows, HaveRows, IsNextIn, IsRowIn}
use Rattle.cli_readings.specs.VolumeTwice.{KeepsRows, PushesRows, Reading, all_of}
use Rattle.cli_readings.specs.declared.groups.Groups.{Groups}
use Rattle.cli_readings.specs.declared.groups.Sealed.{Sealed}
use Rattle.cli_readings.specs.declared.list.ListText.{ListText}
use Rattle.cli_readings.specs.declared.volume_twice.GroupRows.{GroupRows}
use Rattle.cli_readings.specs.declared.volume_twice.KeptOctets.{KeptOctets}
use Rattle.cli_readings.specs.declared.volume_twice.TwiceGroups.{TwiceGroups}

-- ---- as they are gathered

next_gathered : (read : Reading) (vs : List ℕ) (v : ℕ) (g one : List Added) → AreGatheredOf read vs g
    → AreAllGathered v (read v).0 (read v).1 one → AreGatheredOf read (vs ++ v ∷ []) (g ++ one)
next_gathered read [] v g one had all = (one, all, [], refl, ap (λ t. t ++ one) had ∙ sym (append-nil one))
next_gathered read (w ∷ vs) v g one had all =
    (had.0, had.1, had.2 ++ one, next_gathered read vs v had.2 one had.3 all, ap (λ t. t ++ one) had.4 ∙ append_assoc had.0 had.2 one)

pub volume_gathered : (read : Reading) (vs : List ℕ) (v : ℕ) (before after : TwiceGroups)
    → GathersAll v (read v).0 (read v).1 before.groups after.groups → HasGathered read vs before → HasGathered read (vs ++ v ∷ []) after
volume_gathered read vs v before after more had = record {
  gathered = had.gathered ++ more.gathered;
  all = next_gathered read vs v had.gathered more.gathered had.all more.all;
  groups = more.added had.gathered had.groups;
}

-- ---- rows that are kept

-- a row that is written to memory alone
pub kept_row : (a : Archive) (l : Listing) (beside : List ℕ) (is_first : Bool) (r : Sealed) (x y z : ListText KeptOctets)
    → x.sink.octets.items ≡ [] → x.text.items ≡ [] → x.listing ≡ l
    → AddsBeside (λ (k : KeptOctets) octets. k.octets.items ≡ octets) beside is_first x a (r ∷ []) y
    → Lists (λ (k : KeptOctets) octets. k.octets.items ≡ octets) a y [] z → z.text.items ≡ []
    → IsBeside a l beside is_first r z.sink.octets.items
kept_row a l beside is_first r x y z new empty listing adds kept all =
    let written : KeptOctets → List ℕ → Type 0 = λ k octets. k.octets.items ≡ octets in
    let begun : HasText written x [] = ([], new, empty) in
    let after = kept.added adds.rows (adds.added [] begun) in
    let octets : z.sink.octets.items ≡ adds.are.0 =
    after.1 ∙ sym (append-nil after.0) ∙ ap (λ t. after.0 ++ t) (sym all) ∙ after.2 ∙ ap (λ t. adds.rows ++ t) kept.are
    ∙ append-nil adds.rows ∙ adds.are.4 ∙ ap (λ t. adds.are.0 ++ t) adds.are.3 ∙ append-nil adds.are.0 in
    subst (λ t. IsBeside a l beside is_first r t) (sym octets)
    (subst (λ (k : Listing). IsBeside a k beside is_first r adds.are.0) listing adds.are.1)

-- some of the first of a list begin with its first one
first_at : {X : Type 0} (xs : List X) (n : ℕ) → n ≤ length xs → first_after true (take n xs) ≡ (n == 0)
first_at [] zero few = refl
first_at [] (suc n) few = absurd (omega (arith, few))
first_at (x ∷ xs) zero few = refl
first_at (x ∷ xs) (suc n) few = sym (ne_eqb (suc n) 0 (λ e. omega (arith, e)))

all_more : (rows : List (Vec ℕ Global)) (row : Vec ℕ Global) → all_of rows ++ row.items ≡ all_of (rows ++ row ∷ [])
all_more rows row = flat_map_more (λ (r : Vec ℕ Global). r.items) [] rows row

-- the record of a place
at_place : (records : List Sealed) (n : ℕ) (r : Sealed) → slice_get records n ≡ Some r → (n < length records) × (get_or records n r ≡ r)
at_place records n r is = go (slice_get_cases records n).1
  where
    go : ((s : Sealed) × (n < length records) × (slice_get records n ≡ Some s) × (get_or records n s ≡ s))
        ⊎ ((length records ≤ n) × (slice_get records n ≡ None)) → (n < length records) × (get_or records n r ≡ r)
    go (inl found) = (found.1, get_or_from_slice_get records n r r is)
    go (inr none) = absurd (cc (sym is ∙ none.1))

pub past_end : (records : List Sealed) (n : ℕ) → slice_get records n ≡ None → length records ≤ n
past_end records n is = go (slice_get_cases records n).1
  where
    go : ((s : Sealed) × (n < length records) × (slice_get records n ≡ Some s) × (get_or records n s ≡ s))
        ⊎ ((length records ≤ n) × (slice_get records n ≡ None)) → length records ≤ n
    go (inl found) = absurd (cc (sym is ∙ found.2))
    go (inr none) = none.0

-- each record has its row where there is none of that place
pub whole_at : (records : List Sealed) (n m : ℕ) (o : Option Sealed) (is_last : Bool) → o ≡ slice_get records n → n ≡ m
    → is_some o ≡ not is_last → is_last ≡ true → length records ≤ m
whole_at records n m o is_last found same is last = go o found (is ∙ ap not last)
  where
    go : (p : Option Sealed) → p ≡ slice_get records n → is_some p ≡ false → length records ≤ m
    go None at none = subst (λ k. length records ≤ k) same (past_end records n (sym at))
    go (Some r) at none = absurd (cc none)

-- the texts of the first records, and that of the next one
next_texts : (IsText : Bool → Sealed → List ℕ → Type 0) (records : List Sealed) (rows : List (Vec ℕ Global)) (row : Vec ℕ Global)
    (r : Sealed) → slice_get records (length rows) ≡ Some r → AreTexts IsText true (take (length rows) records) (all_of rows)
    → IsText (length rows == 0) r row.items
    → AreTexts IsText true (take (length (rows ++ row ∷ [])) records) (all_of (rows ++ row ∷ []))
next_texts IsText records rows row r is are text =
    let n = length rows in
    let at = at_place records n r is in
    let few : n ≤ length records = omega (arith, at.0) in
    let first = subst (λ b. IsText b r row.items) (sym (first_at records n few)) text in
    let joined = texts_joined IsText true (take n records) (r ∷ []) (all_of rows) row.items are
    (one_text IsText (first_after true (take n records)) r row.items first) in
    let more : take (length (rows ++ row ∷ [])) records ≡ take n records ++ r ∷ [] =
    ap (λ m. take m records) (length_push rows row) ∙ take_more records n r at.0 ∙ ap (λ s. take n records ++ s ∷ []) at.1 in
    subst (λ t. AreTexts IsText true (take (length (rows ++ row ∷ [])) records) t) (all_more rows row)
    (subst (λ rs. AreTexts IsText true rs (all_of rows ++ row.items)) (sym more) joined)

module _ (kept : ℕ → Archive) (l : Listing) where
  -- what stands for the text of a record of a group, by the seal of that
  abbrev RowOf : KeyedGroup → Bool → Sealed → List ℕ → Type 0
  RowOf keyed is_first r text = IsRowIn kept l (beside_record l.format (key_of keyed.0)) is_first r text

  -- the rows of a group, by its records and the rows
  has_rows : (x : GroupRows) (keyed : KeyedGroup) (rows : List (Vec ℕ Global)) → x.keyed ≡ keyed → x.rows.items ≡ rows
      → length rows ≤ length (records_of keyed.1)
      → AreTexts (RowOf keyed) true (take (length rows) (records_of keyed.1)) (all_of rows) → HasRows kept l x
  has_rows x keyed rows same is few are = record {
    few = subst (λ (k : KeyedGroup). length x.rows.items ≤ length (records_of k.1)) (sym same)
        (subst (λ (rs : List (Vec ℕ Global)). length rs ≤ length (records_of keyed.1)) (sym is) few);
    are = subst (λ (k : KeyedGroup). AreTexts (RowOf k) true (take (length x.rows.items) (records_of k.1)) (all_of x.rows.items)) (sym same)
        (subst (λ (rs : List (Vec ℕ Global)). AreTexts (RowOf keyed) true (take (length rs) (records_of keyed.1)) (all_of rs)) (sym is) are);
  }

  no_rows : (x : GroupRows) → x.rows.items ≡ [] → HasRows kept l x
  no_rows x none = has_rows x x.keyed [] refl none (omega arith) refl

  -- the next record gets its row
  pub next_row : (v : ℕ) (r : Sealed) (x y : GroupRows) → IsNextIn x v r → AddsRow (kept v) (in_volume v l) r x y → KeepsRows kept l x y
  next_row v r x y at adds = record {
    keyed = adds.keyed;
    rows = λ had.
        let rows = x.rows.items in
        let there = at_place (records_of x.keyed.1) (length rows) r at.next in
        let is : RowOf x.keyed (length rows == 0) r adds.row.items =
        subst (λ n. IsBeside (kept n) (in_volume n l) (beside_record l.format (key_of x.keyed.0)) (length rows == 0) r adds.row.items)
        (sym at.volume_is) adds.is in
        has_rows y x.keyed (rows ++ adds.row ∷ []) adds.keyed adds.added (omega (arith, length_push rows adds.row, there.0))
        (next_texts (RowOf x.keyed) (records_of x.keyed.1) rows adds.row r at.next had.are is);
  }

  pub same_rows : (x : GroupRows) → KeepsRows kept l x x
  same_rows x = record { keyed = refl; rows = λ had. had }

  pub more_rows : (x y z : GroupRows) → KeepsRows kept l x y → KeepsRows kept l y z → KeepsRows kept l x z
  more_rows x y z one other = record { keyed = other.keyed ∙ one.keyed; rows = λ had. other.rows (one.rows had) }

  -- ---- groups with rows

  -- one more group, without a row
  pub next_group_listed : (gs : List KeyedGroup) (xs : List GroupRows) (g : KeyedGroup) (x : GroupRows) → x.keyed ≡ g → x.rows.items ≡ []
      → HaveRows kept l gs xs → HaveRows kept l (gs ++ g ∷ []) (xs ++ x ∷ [])
  next_group_listed [] xs g x same none had = (x, same, no_rows x none, [], refl, ap (λ ys. ys ++ x ∷ []) had)
  next_group_listed (h ∷ gs) xs g x same none had = (
    had.0,
    had.1,
    had.2,
    had.3 ++ x ∷ [],
    next_group_listed gs had.3 g x same none had.4,
    ap (λ ys. ys ++ x ∷ []) had.5,
  )

  -- the rows of one group are added
  pub group_kept : (gs : List KeyedGroup) (xs : List GroupRows) (x y : GroupRows) (rest : List GroupRows) → KeepsRows kept l x y
      → HaveRows kept l gs (xs ++ x ∷ rest) → HaveRows kept l gs ((xs ++ y ∷ []) ++ rest)
  group_kept [] [] x y rest keeps had = absurd (cc had)
  group_kept [] (w ∷ xs) x y rest keeps had = absurd (cc had)
  group_kept (g ∷ gs) [] x y rest keeps had =
      let same : x ≡ had.0 = cc had.5 in
      let others : rest ≡ had.3 = cc had.5 in (
        y,
        keeps.keyed ∙ ap (λ (z : GroupRows). z.keyed) same ∙ had.1,
        keeps.rows (subst (HasRows kept l) (sym same) had.2),
        rest,
        subst (HaveRows kept l gs) (sym others) had.4,
        refl,
      )
  group_kept (g ∷ gs) (w ∷ xs) x y rest keeps had =
      let same : w ≡ had.0 = cc had.5 in
      let others : xs ++ x ∷ rest ≡ had.3 = cc had.5 in (
        had.0,
        had.1,
        had.2,
        (xs ++ y ∷ []) ++ rest,
        group_kept gs xs x y rest keeps (subst (HaveRows kept l gs) (sym others) had.4),
        ap (λ z. z ∷ ((xs ++ y ∷ []) ++ rest)) same,
      )

  -- each group has its place
  pub group_at : (gs : List KeyedGroup) (xs : List GroupRows) (i : ℕ) (x : GroupRows) → HaveRows kept l gs xs → i < length xs
      → x ≡ get_or xs i x → (i < length gs) × (x.keyed ≡ get_or gs i x.keyed) × HasRows kept l x
  group_at [] xs i x had there is = absurd (omega (arith, there, ap length had))
  group_at (g ∷ gs) xs zero x had there is =
      let same : x ≡ had.0 = subst (λ ys. x ≡ get_or ys 0 x) had.5 is in
      (omega arith, ap (λ (z : GroupRows). z.keyed) same ∙ had.1, subst (HasRows kept l) (sym same) had.2)
  group_at (g ∷ gs) xs (suc n) x had there is =
      let less : suc n < length (had.0 ∷ had.3) = subst (λ ys. suc n < length ys) had.5 there in
      let same : x ≡ get_or had.3 n x = subst (λ ys. x ≡ get_or ys (suc n) x) had.5 is in
      let later = group_at gs had.3 n x had.4 (omega (arith, less)) same in (omega (arith, later.0), later.1, later.2)

  pub groups_counted : (gs : List KeyedGroup) (xs : List GroupRows) → HaveRows kept l gs xs → length xs ≡ length gs
  groups_counted [] xs had = ap length had
  groups_counted (g ∷ gs) xs had = ap length had.5 ∙ ap suc (groups_counted gs had.3 had.4)

-- ---- rows that are added to a list

-- as many are counted
pub counted_as : {X Y : Type 0} (xs : List X) (ys : List Y) (n : ℕ) → length xs ≡ length ys → more_for xs n ≡ more_for ys n
counted_as [] [] n same = refl
counted_as [] (y ∷ ys) n same = absurd (omega (arith, same))
counted_as (x ∷ xs) [] n same = absurd (omega (arith, same))
counted_as (x ∷ xs) (y ∷ ys) n same = counted_as xs ys (one_more n) (omega (arith, same))

module _ {K : Type 0} (written : K → List ℕ → Type 0) where
  pub none_pushed : (x : ListText K) → PushesRows written [] x x
  none_pushed x = record { added = nothing_written (HasText written) x; counted = refl; listing = refl }

  -- the next one of some rows
  pub next_pushed : (rows : List (Vec ℕ Global)) (i : ℕ) (row : Vec ℕ Global) (x y z : ListText K) → i < length rows
      → row ≡ get_or rows i row → PushesRows written (take i rows) x y → Writes (HasText written) y z row.items
      → z.count ≡ one_more y.count → z.listing ≡ y.listing → PushesRows written (take (i + 1) rows) x z
  next_pushed rows i row x y z there is one text count listing =
      let more : take (i + 1) rows ≡ take i rows ++ row ∷ [] =
      take_more rows i row there ∙ ap (λ r. take i rows ++ r ∷ []) (sym is) in
      subst (λ rs. PushesRows written rs x z) (sym more) (record {
        added = subst (λ t. Writes (HasText written) x z t) (all_more (take i rows) row)
            (more_written (HasText written) x y z (all_of (take i rows)) row.items one.added text);
        counted = count ∙ ap one_more one.counted ∙ counted_joined (take i rows) (row ∷ []) x.count;
        listing = listing ∙ one.listing;
      })

  pub all_pushed : (rows : List (Vec ℕ Global)) (i : ℕ) (x y : ListText K) → length rows ≤ i → PushesRows written (take i rows) x y
      → PushesRows written rows x y
  all_pushed rows i x y end pushed = subst (λ rs. PushesRows written rs x y) (take_all i rows end) pushed
