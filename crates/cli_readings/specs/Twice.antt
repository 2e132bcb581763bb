-- What `list --twice` gathers of the live records, and what it lists of them.
use Rattle.std.specs.Prelude.{◌≡◌, ℕ, ◌+◌, ◌==◌, Bool, true, false, if◌then◌else◌, min}
use Rattle.std.specs.Prelude.{List, [], ◌∷◌, ◌++◌, length, map, flat_map, option_map, Option, Some, None, Ok, codes, decimal}
use Rattle.std.specs.Borrow.{Bor}
use Rattle.std.specs.Str.{IsUtf8, is_utf8}
use Rattle.std.proofs.Common.{refl, sym, ap, ◌∙◌, subst, arith, ◌<◌, ◌≤◌, get_or, take, zero-add}
use Rattle.std.proofs.lemmas.List.{append_assoc, append-nil, take_all, take_more}
use Rattle.std.proofs.lemmas.Str.{IsUtf8-from_is_utf8, is_utf8-from_IsUtf8}
use Rattle.command_lines.specs.declared.archives.Format.{Format}
use Rattle.command_lines.specs.declared.archives.Format.TheVariants.{Lines, Csv, Json, Numbers, Count}
use Rattle.command_lines.specs.declared.archives.Listing.{Listing}
use Rattle.record_archive.specs.Archive.{Archive, message}
use Rattle.record_choice.specs.Choices.{chosen, every_live_record}
use Rattle.record_choice.specs.Entries.{RecordEntry as Entry, entry_of, entry_view}
use Rattle.record_choice.specs.declared.entry.RecordEntry.{RecordEntry}
use Rattle.record_history.specs.Events.{Seal}
use Rattle.cli_readings.specs.Groups.{Added, AreGroupsOf, AreTwice, Key, KeyedGroup, key_of, records_of}
use Rattle.cli_readings.specs.declared.groups.Groups.{Groups}
use Rattle.cli_readings.specs.declared.groups.Sealed.{Sealed}
use Rattle.cli_console.specs.Counts.{greatest, one_more}
use Rattle.cli_console.specs.Sinks.{Writes, more_written, nothing_written}
use Rattle.cli_history.specs.Seals.{known, length_and_sum}
use Rattle.cli_history.specs.declared.seals.Seals.{Seals}
use Rattle.cli_texts.specs.Sums.{shown_sum}
use Rattle.cli_readings.specs.Lists.{HasText, IsListedAs, PushesRow, end_of, head_of, whole_text}
use Rattle.cli_console.specs.Sequences.{AreTexts, between, count_of, counted_joined, first_after, is_none, more_for, not_first, one_text}
use Rattle.cli_console.specs.Sequences.{texts_joined}
use Rattle.cli_readings.specs.Shows.{IsEntryOf}
use Rattle.cli_readings.specs.declared.list.ListText.{ListText}
use Rattle.cli_readings.specs.declared.twice.Grouping.{Grouping}

-- ---- what was captured twice

-- all live records of an archive, as they are listed
abbrev pub every_live_entry : Archive → List Entry
every_live_entry a = map (entry_of a) (chosen None every_live_record a)

-- WHAT STANDS FOR THE MESSAGE OF A RECORD: what the history tells of it, or else the length and the sum of its octets
abbrev pub IsKeyOf : Option (Seal × ℕ) → Archive → RecordEntry → Key → Type 0
IsKeyOf (Some told) a e key = key ≡ length_and_sum told
IsKeyOf None a e key = (octets : List ℕ) × (message a e.number ≡ Ok (Some octets)) × (key ≡ (length octets, shown_sum octets))

-- a record of a volume as it is gathered
abbrev pub sealed : (volume : ℕ) → RecordEntry → Sealed
sealed v e = record { volume = v; number = e.number; message = e.message }

-- THESE RECORDS OF A VOLUME ARE GATHERED by what stands for their messages, each once, in this order
abbrev pub AreGathered : (volume : ℕ) → Archive → Seals → List RecordEntry → List Added → Type 0
AreGathered v a s [] gathered = gathered ≡ []
AreGathered v a s (e ∷ es) gathered =
    (key : Key) × IsKeyOf (known s e.message) a e key
    × (rest : List Added) × AreGathered v a s es rest × (gathered ≡ (key, sealed v e) ∷ rest)

-- THE LIVE RECORDS OF A VOLUME ARE GATHERED, all of them, in the order in which they are listed
pub record AreAllGathered (volume : ℕ) (a : Archive) (s : Seals) (gathered : List Added) : Type 0 where
  pub entries : List RecordEntry
  pub all : map entry_view entries ≡ every_live_entry a
  pub each : AreGathered volume a s entries gathered

-- THE GROUPS OF THE LIVE RECORDS OF AN ARCHIVE WHOSE MESSAGES WERE CAPTURED TWICE. An archive that is one file is its own first volume
pub record AreCapturedTwice (a : Archive) (s : Seals) (groups : List KeyedGroup) : Type 0 where
  pub gathered : List Added
  pub all : AreAllGathered 1 a s gathered
  pub twice : AreTwice gathered groups

-- ---- what is listed

-- a sum as it is written
abbrev pub sum_text : List ℕ → List ℕ
sum_text sum = if is_utf8 sum then sum else []

-- what stands before all groups
abbrev pub head_beside : Format → (are_asked : Bool) → List ℕ
head_beside Lines are_asked = []
head_beside Csv are_asked = codes "octets,sha256," ++ head_of Csv are_asked
head_beside Json are_asked = codes "["
head_beside Numbers are_asked = []
head_beside Count are_asked = []

-- what stands before the records of a group
abbrev pub before_group : Format → (is_first : Bool) → Key → List ℕ
before_group Lines is_first key = codes "octets " ++ decimal key.0 ++ codes " sha256 " ++ sum_text key.1 ++ codes "\n"
before_group Csv is_first key = []
before_group Json is_first key =
    between is_first ++ codes "{\"octets\":" ++ decimal key.0 ++ codes ",\"sha256\":\"" ++ sum_text key.1 ++ codes "\",\"records\":["
before_group Numbers is_first key = []
before_group Count is_first key = []

-- what stands before each of them
abbrev pub beside_record : Format → Key → List ℕ
beside_record Lines key = []
beside_record Csv key = decimal key.0 ++ codes "," ++ sum_text key.1 ++ codes ","
beside_record Json key = []
beside_record Numbers key = []
beside_record Count key = []

-- what stands after them
abbrev pub after_group : Format → List ℕ
after_group Lines = []
after_group Csv = []
after_group Json = codes "\n]}"
after_group Numbers = []
after_group Count = []

-- THE TEXT OF A RECORD OF A GROUP: that of a list, behind what stands beside it
pub record IsBeside (a : Archive) (l : Listing) (beside : List ℕ) (is_first : Bool) (r : Sealed) (text : List ℕ) : Type 0 where
  pub entry : RecordEntry
  pub of_it : IsEntryOf a r.number entry
  pub row : List ℕ
  pub listed : IsListedAs a l is_first entry row
  pub whole : text ≡ beside ++ row

-- the text of these records: that of each, once, in this order
abbrev pub AreBeside : Archive → Listing → (beside : List ℕ) → (is_first : Bool) → List Sealed → List ℕ → Type 0
AreBeside a l beside is_first rs text = AreTexts (IsBeside a l beside) is_first rs text

-- which text is that of a record, behind what stands beside it
abbrev pub RowTexts : Type 1
RowTexts = (beside : List ℕ) → (is_first : Bool) → Sealed → List ℕ → Type 0

-- THE TEXT OF A GROUP, by those of its records
pub record IsGroupText (IsRow : RowTexts) (l : Listing) (is_first : Bool) (g : KeyedGroup) (text : List ℕ) : Type 0 where
  pub rows : List ℕ
  pub are : AreTexts (IsRow (beside_record l.format (key_of g.0))) true (records_of g.1) rows
  pub whole : text ≡ before_group l.format is_first (key_of g.0) ++ rows ++ after_group l.format

-- the text of these groups: that of each, once, in this order
abbrev pub AreGroupTexts : RowTexts → Listing → (is_first : Bool) → List KeyedGroup → List ℕ → Type 0
AreGroupTexts IsRow l is_first gs text = AreTexts (IsGroupText IsRow l) is_first gs text

-- the records of all groups
abbrev pub all_records : List KeyedGroup → List Sealed
all_records groups = flat_map (λ g. records_of g.1) groups

-- THE LIST OF THESE GROUPS
pub record IsListOfGroups (IsRow : RowTexts) (l : Listing) (groups : List KeyedGroup) (text : List ℕ) : Type 0 where
  pub rows : List ℕ
  pub are : AreGroupTexts IsRow l true groups rows
  pub whole : text ≡ head_beside l.format l.headers ++ rows ++ end_of l.format (min (length (all_records groups)) greatest)

-- THE LIST OF WHAT WAS CAPTURED TWICE in an archive is written, and nothing else
pub record WritesTwice {K : Type 0} (written : K → List ℕ → Type 0) (l : Listing) (s : Seals) (before : K) (a : Archive)
    (after : K) : Type 0 where
  pub groups : List KeyedGroup
  pub are : AreCapturedTwice a s groups
  pub text : List ℕ
  pub is : IsListOfGroups (IsBeside a l) l groups text
  pub writes : Writes written before after text

-- ---- as it is gathered

-- these records are gathered, each once, in this order, and no other
pub record Gathers (old : Grouping) (a : Archive) (es : List RecordEntry) (new : Grouping) : Type 0 where
  pub gathered : List Added
  pub are : AreGathered old.volume a old.seals es gathered
  pub added : Writes AreGroupsOf old.groups new.groups gathered
  pub volume : new.volume ≡ old.volume
  pub seals : new.seals ≡ old.seals

-- the live records of a volume are gathered behind others, and no other
pub record GathersAll (volume : ℕ) (a : Archive) (s : Seals) (before after : Groups) : Type 0 where
  pub gathered : List Added
  pub all : AreAllGathered volume a s gathered
  pub added : Writes AreGroupsOf before after gathered

-- ---- as it is listed

-- these records are added behind what stands beside each, each once, in this order, and nothing else
pub record AddsBeside {K : Type 0} (written : K → List ℕ → Type 0) (beside : List ℕ) (is_first : Bool) (old : ListText K) (a : Archive)
    (rs : List Sealed) (new : ListText K) : Type 0 where
  pub rows : List ℕ
  pub are : AreBeside a old.listing beside is_first rs rows
  pub added : Writes (HasText written) old new rows
  pub counted : new.count ≡ more_for rs old.count
  pub listing : new.listing ≡ old.listing

-- these groups are added, by the texts of their records, each once, in this order, and nothing else
pub record AddsGroups {K : Type 0} (written : K → List ℕ → Type 0) (IsRow : RowTexts) (old : ListText K) (gs : List KeyedGroup)
    (new : ListText K) : Type 0 where
  pub rows : List ℕ
  pub are : AreGroupTexts IsRow old.listing (old.count == 0) gs rows
  pub added : Writes (HasText written) old new rows
  pub counted : new.count ≡ more_for (all_records gs) old.count
  pub listing : new.listing ≡ old.listing

-- ---- its laws

pub utf8_sum : (sum : List ℕ) → IsUtf8 sum → sum ≡ sum_text sum
utf8_sum sum h = sym (ap (λ b. if b then sum else []) (is_utf8-from_IsUtf8 sum h))

pub other_sum : (sum : List ℕ) → (IsUtf8 sum → ⊥) → [] ≡ sum_text sum
other_sum sum h = go (is_utf8 sum) refl
  where
    go : (b : Bool) → is_utf8 sum ≡ b → [] ≡ sum_text sum
    go true e = absurd (h (IsUtf8-from_is_utf8 sum e))
    go false e = sym (ap (λ b. if b then sum else []) e)

-- what the history tells stands for a message
pub told_key : (o : Option (ℕ × Bor (List ℕ))) (k : Option (Seal × ℕ)) (x : ℕ × Bor (List ℕ)) (a : Archive)
    (e : RecordEntry) (sum : List ℕ)
    → option_map (λ y. (y.0, y.1.now)) o ≡ option_map length_and_sum k → o ≡ Some x → sum ≡ x.1.now → IsKeyOf k a e (x.0, sum)
told_key o None x a e sum same is sums = let no = sym same ∙ ap (option_map (λ y. (y.0, y.1.now))) is in absurd cc
told_key o (Some told) x a e sum same is sums =
    let both : Some (length_and_sum told) ≡ Some (x.0, x.1.now) = sym same ∙ ap (option_map (λ y. (y.0, y.1.now))) is in
    let key : length_and_sum told ≡ (x.0, x.1.now) = cc in ap (λ s. (x.0, s)) sums ∙ sym key

-- and it tells nothing where nothing is known
pub untold : (o : Option (ℕ × Bor (List ℕ))) (k : Option (Seal × ℕ))
    → option_map (λ y. (y.0, y.1.now)) o ≡ option_map length_and_sum k → o ≡ None → None ≡ k
untold o None same is = refl
untold o (Some told) same is = let no = sym same ∙ ap (option_map (λ y. (y.0, y.1.now))) is in absurd cc

gathered_joined : (v : ℕ) (a : Archive) (s : Seals) (es fs : List RecordEntry) (t u : List Added) → AreGathered v a s es t
    → AreGathered v a s fs u → AreGathered v a s (es ++ fs) (t ++ u)
gathered_joined v a s [] fs t u one other = subst (λ g. AreGathered v a s fs (g ++ u)) (sym one) other
gathered_joined v a s (e ∷ es) fs t u one other =
    (one.0, one.1, one.2 ++ u, gathered_joined v a s es fs one.2 u one.3 other, ap (λ g. g ++ u) one.4)

pub none_gathered : (x : Grouping) (a : Archive) → Gathers x a [] x
none_gathered x a = record { gathered = []; are = refl; added = nothing_written AreGroupsOf x.groups; volume = refl; seals = refl }

pub more_gathered : (x y z : Grouping) (a : Archive) (es fs : List RecordEntry) → Gathers x a es y → Gathers y a fs z
    → Gathers x a (es ++ fs) z
more_gathered x y z a es fs one other = record {
  gathered = one.gathered ++ other.gathered;
  are = gathered_joined x.volume a x.seals es fs one.gathered other.gathered one.are
      (subst (λ v. AreGathered v a x.seals fs other.gathered) one.volume
      (subst (λ s. AreGathered y.volume a s fs other.gathered) one.seals other.are));
  added = more_written AreGroupsOf x.groups y.groups z.groups one.gathered other.gathered one.added other.added;
  volume = other.volume ∙ one.volume;
  seals = other.seals ∙ one.seals;
}

pub one_gathered : (x y : Grouping) (a : Archive) (e : RecordEntry) (key : Key) → IsKeyOf (known x.seals e.message) a e key
    → Writes AreGroupsOf x.groups y.groups ((key, sealed x.volume e) ∷ []) → y.volume ≡ x.volume → y.seals ≡ x.seals
    → Gathers x a (e ∷ []) y
one_gathered x y a e key is writes at same =
    record { gathered = (key, sealed x.volume e) ∷ []; are = (key, is, [], refl, refl); added = writes; volume = at; seals = same }

-- a group has a record at least, so that none behind it is the first
is_begun : (gs : List KeyedGroup) (n : ℕ) → (more_for (all_records gs) n == 0) ≡ first_after (n == 0) gs
is_begun [] n = refl
is_begun (g ∷ gs) n = is_none (all_records (g ∷ gs)) n

records_joined : (gs hs : List KeyedGroup) → all_records (gs ++ hs) ≡ all_records gs ++ all_records hs
records_joined [] hs = refl
records_joined (g ∷ gs) hs =
    ap (λ rs. records_of g.1 ++ rs) (records_joined gs hs) ∙ sym (append_assoc (records_of g.1) (all_records gs) (all_records hs))

module _ {K : Type 0} (written : K → List ℕ → Type 0) (a : Archive) where
  -- a record comes behind what stands beside it
  pub one_beside : (x y z : ListText K) (beside : List ℕ) (is_first : Bool) (r : Sealed) (e : RecordEntry)
      → IsEntryOf a r.number e → Writes (HasText written) x y beside → y.count ≡ x.count → y.listing ≡ x.listing
      → PushesRow written a is_first y e z → AddsBeside written beside is_first x a (r ∷ []) z
  one_beside x y z beside is_first r e of_it text count same pushed = record {
    rows = beside ++ pushed.row;
    are = one_text (IsBeside a x.listing beside) is_first r (beside ++ pushed.row) (record {
      entry = e;
      of_it = of_it;
      row = pushed.row;
      listed = subst (λ l. IsListedAs a l is_first e pushed.row) same pushed.is;
      whole = refl;
    });
    added = more_written (HasText written) x y z beside pushed.row text pushed.added;
    counted = pushed.counted ∙ ap one_more count;
    listing = pushed.listing ∙ same;
  }

  pub no_beside : (x : ListText K) (beside : List ℕ) (is_first : Bool) → AddsBeside written beside is_first x a [] x
  no_beside x beside is_first =
      record { rows = []; are = refl; added = nothing_written (HasText written) x; counted = refl; listing = refl }

  pub more_beside : (x y z : ListText K) (beside : List ℕ) (is_first : Bool) (rs ss : List Sealed) → AddsBeside written beside is_first x a rs y
      → AddsBeside written beside (first_after is_first rs) y a ss z → AddsBeside written beside is_first x a (rs ++ ss) z
  more_beside x y z beside is_first rs ss one other = record {
    rows = one.rows ++ other.rows;
    are = texts_joined (IsBeside a x.listing beside) is_first rs ss one.rows other.rows one.are
        (subst (λ l. AreBeside a l beside (first_after is_first rs) ss other.rows) one.listing other.are);
    added = more_written (HasText written) x y z one.rows other.rows one.added other.added;
    counted = other.counted ∙ ap (more_for ss) one.counted ∙ counted_joined rs ss x.count;
    listing = other.listing ∙ one.listing;
  }

  -- the next one of some records is added, of which none is the first
  pub next_beside : (x y z : ListText K) (beside : List ℕ) (rs : List Sealed) (i : ℕ) (d : Sealed) → i < length rs
      → AddsBeside written beside false x a (take i rs) y → AddsBeside written beside false y a (get_or rs i d ∷ []) z
      → AddsBeside written beside false x a (take (i + 1) rs) z
  next_beside x y z beside rs i d there one other =
      subst (λ l. AddsBeside written beside false x a l z) (sym (take_more rs i d there))
      (more_beside x y z beside false (take i rs) (get_or rs i d ∷ []) one
      (subst (λ b. AddsBeside written beside b y a (get_or rs i d ∷ []) z) (sym (not_first (take i rs))) other))

  pub all_beside : (x y : ListText K) (beside : List ℕ) (rs : List Sealed) (i : ℕ) → length rs ≤ i
      → AddsBeside written beside false x a (take i rs) y → AddsBeside written beside false x a rs y
  all_beside x y beside rs i end adds = subst (λ l. AddsBeside written beside false x a l y) (take_all i rs end) adds

module _ {K : Type 0} (written : K → List ℕ → Type 0) (IsRow : RowTexts) where
  -- a group is the text before its records, that of these, and the text after them
  pub one_group : (x y z u : ListText K) (g : KeyedGroup) (rows : List ℕ)
      → Writes (HasText written) x y (before_group x.listing.format (x.count == 0) (key_of g.0)) → y.count ≡ x.count → y.listing ≡ x.listing
      → AreTexts (IsRow (beside_record x.listing.format (key_of g.0))) true (records_of g.1) rows → Writes (HasText written) y z rows
      → z.count ≡ more_for (records_of g.1) y.count → z.listing ≡ y.listing
      → Writes (HasText written) z u (after_group x.listing.format) → u.count ≡ z.count → u.listing ≡ z.listing
      → AddsGroups written IsRow x (g ∷ []) u
  one_group x y z u g rows before count same are added more kept after counted listed =
      let front = before_group x.listing.format (x.count == 0) (key_of g.0) in
      let back = after_group x.listing.format in record {
        rows = (front ++ rows) ++ back;
        are = one_text (IsGroupText IsRow x.listing) (x.count == 0) g ((front ++ rows) ++ back)
            (record { rows = rows; are = are; whole = refl });
        added = more_written (HasText written) x z u (front ++ rows) back
            (more_written (HasText written) x y z front rows before added) after;
        counted = counted ∙ more ∙ ap (more_for (records_of g.1)) count
            ∙ ap (λ rs. more_for rs x.count) (sym (append-nil (records_of g.1)));
        listing = listed ∙ kept ∙ same;
      }

  pub no_groups : (x : ListText K) → AddsGroups written IsRow x [] x
  no_groups x = record { rows = []; are = refl; added = nothing_written (HasText written) x; counted = refl; listing = refl }

  more_groups : (x y z : ListText K) (gs hs : List KeyedGroup) → AddsGroups written IsRow x gs y → AddsGroups written IsRow y hs z
      → AddsGroups written IsRow x (gs ++ hs) z
  more_groups x y z gs hs one other = record {
    rows = one.rows ++ other.rows;
    are = texts_joined (IsGroupText IsRow x.listing) (x.count == 0) gs hs one.rows other.rows one.are
        (subst (λ l. AreGroupTexts IsRow l (first_after (x.count == 0) gs) hs other.rows) one.listing
        (subst (λ b. AreGroupTexts IsRow y.listing b hs other.rows) (ap (λ n. n == 0) one.counted ∙ is_begun gs x.count) other.are));
    added = more_written (HasText written) x y z one.rows other.rows one.added other.added;
    counted = other.counted ∙ ap (more_for (all_records hs)) one.counted ∙ counted_joined (all_records gs) (all_records hs) x.count
        ∙ ap (λ rs. more_for rs x.count) (sym (records_joined gs hs));
    listing = other.listing ∙ one.listing;
  }

  -- the next one of some groups is added
  pub next_group : (x y z : ListText K) (gs : List KeyedGroup) (i : ℕ) (d : KeyedGroup) → i < length gs
      → AddsGroups written IsRow x (take i gs) y → AddsGroups written IsRow y (get_or gs i d ∷ []) z
      → AddsGroups written IsRow x (take (i + 1) gs) z
  next_group x y z gs i d there one other =
      subst (λ l. AddsGroups written IsRow x l z) (sym (take_more gs i d there)) (more_groups x y z (take i gs) (get_or gs i d ∷ []) one other)

  pub all_groups : (x y : ListText K) (gs : List KeyedGroup) (i : ℕ) → length gs ≤ i → AddsGroups written IsRow x (take i gs) y
      → AddsGroups written IsRow x gs y
  all_groups x y gs i end adds = subst (λ l. AddsGroups written IsRow x l y) (take_all i gs end) adds

  -- a list that has begun with its head, has these groups added to it and is ended with its end is that of these groups
  pub whole_twice : (l : Listing) (before : K) (gs : List KeyedGroup) (x y z u : ListText K) → x.sink ≡ before
      → x.listing ≡ l → x.text.items ≡ [] → x.count ≡ 0 → Writes (HasText written) x y (head_beside l.format l.headers)
      → y.count ≡ x.count → y.listing ≡ x.listing → AddsGroups written IsRow y gs z
      → Writes (HasText written) z u (end_of z.listing.format z.count) → u.text.items ≡ []
      → (text : List ℕ) × IsListOfGroups IsRow l gs text × Writes written before u.sink text
  whole_twice l before gs x y z u sink listing empty none head count same added end all =
      let counted : z.count ≡ min (length (all_records gs)) greatest =
      added.counted ∙ ap (more_for (all_records gs)) (count ∙ none) ∙ count_of (all_records gs) 0 (omega arith)
      ∙ ap (λ n. min n greatest) (zero-add (length (all_records gs))) in
      let is : y.listing ≡ l = same ∙ listing in
      let ended : end_of z.listing.format z.count ≡ end_of l.format (min (length (all_records gs)) greatest) =
      ap (λ k. end_of k.format z.count) (added.listing ∙ is) ∙ ap (end_of l.format) counted in
      let rows = subst (λ k. AreGroupTexts IsRow k true gs added.rows) is
      (subst (λ n. AreGroupTexts IsRow y.listing (n == 0) gs added.rows) (count ∙ none) added.are) in
      let head_text = head_beside l.format l.headers in
      let end_text = end_of l.format (min (length (all_records gs)) greatest) in (
        head_text ++ added.rows ++ end_text,
        record { rows = added.rows; are = rows; whole = refl },
        whole_text written before head_text added.rows end_text x y z u sink empty head added.added
            (subst (λ t. Writes (HasText written) z u t) ended end) all,
      )
