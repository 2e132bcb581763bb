-- What a list has of the records that are found.
use Rattle.std.specs.Prelude.{◌≡◌, ℕ, Bool, true, false, ◌+◌, ◌==◌, if◌then◌else◌, min}
use Rattle.std.specs.Prelude.{List, [], ◌∷◌, ◌++◌, length, codes, decimal, Option}
use Rattle.std.proofs.Common.{refl, sym, ap, ◌∙◌, subst, arith, zero-add}
use Rattle.std.proofs.lemmas.List.{append_assoc, append-nil}
use Rattle.cli_texts.specs.declared.headers.ListedHeaders.{ListedHeaders}
use Rattle.cli_texts.specs.declared.headers.ListedHeaders.TheVariants.{Unasked, Destroyed, Texts}
use Rattle.cli_texts.specs.declared.records.Row.{Row}
use Rattle.cli_texts.specs.Headers.{texts_in}
use Rattle.cli_texts.specs.Lines.{listed, texts_words}
use Rattle.cli_texts.specs.Rows.{csv_line, listed_fields, number_field}
use Rattle.command_lines.specs.declared.archives.Format.{Format}
use Rattle.command_lines.specs.declared.archives.Format.TheVariants.{Lines, Csv, Json, Numbers, Count}
use Rattle.command_lines.specs.declared.archives.Listing.{Listing}
use Rattle.record_archive.specs.Archive.{Archive}
use Rattle.record_choice.specs.declared.entry.RecordEntry.{RecordEntry}
use Rattle.cli_console.specs.Counts.{greatest, one_more}
use Rattle.cli_console.specs.Headers.{AreTextsOf}
use Rattle.cli_console.specs.Sinks.{Writes, more_written, nothing_written}
use Rattle.cli_console.specs.Sequences.{AreTexts, between, count_of, counted_joined, first_after, is_none, more_for, one_text, texts_joined}
use Rattle.cli_readings.specs.declared.list.ListText.{ListText}

-- ---- a record

-- a record as it is listed: one of a volume, in an archive of volumes
pub record IsRowOf (volume : Option ℕ) (e : RecordEntry) (r : Row) : Type 0 where
  pub volume_is : r.volume ≡ volume
  pub number : r.number ≡ e.number
  pub path : r.path.now ≡ e.path.items
  pub day : r.day ≡ e.day
  pub due : r.due ≡ e.due
  pub holds : r.holds.now ≡ e.holds.items
  pub destroyed : r.destroyed ≡ e.destroyed

-- what is listed of the header of its message: nothing where that is not asked for, and else its texts; they are left out only
-- where the message is destroyed
abbrev pub IsHeaderOf : Archive → (are_asked : Bool) → RecordEntry → ListedHeaders → Type 0
IsHeaderOf a are_asked e Unasked = are_asked ≡ false
IsHeaderOf a are_asked e Destroyed = (are_asked ≡ true) × (e.destroyed ≡ true)
IsHeaderOf a are_asked e (Texts headers) = (are_asked ≡ true) × AreTextsOf a e.number headers.now

-- A RECORD IN A FORMAT: as a line, as a row of CSV, as an object of JSON, of which nothing else is claimed, or by its number;
-- where the records are only counted, nothing
abbrev pub IsTextOf : Format → (is_first : Bool) → Row → ListedHeaders → List ℕ → Type 0
IsTextOf Lines is_first r h text = text ≡ listed r ++ texts_words (texts_in h) ++ 10 ∷ []
IsTextOf Csv is_first r h text = text ≡ csv_line (listed_fields r h)
IsTextOf Json is_first r h text = (object : List ℕ) × (text ≡ between is_first ++ object)
IsTextOf Numbers is_first r h text = text ≡ number_field r.volume r.number ++ 10 ∷ []
IsTextOf Count is_first r h text = text ≡ []

-- THE TEXT OF A RECORD in a list
pub record IsListedAs (a : Archive) (l : Listing) (is_first : Bool) (e : RecordEntry) (text : List ℕ) : Type 0 where
  pub row : Row
  pub row_is : IsRowOf l.volume e row
  pub headers : ListedHeaders
  pub headers_are : IsHeaderOf a l.headers e headers
  pub text_is : IsTextOf l.format is_first row headers text

-- THE TEXT OF THESE RECORDS: that of each, once, in this order
abbrev pub AreListedAs : Archive → Listing → (is_first : Bool) → List RecordEntry → List ℕ → Type 0
AreListedAs a l is_first es text = AreTexts (IsListedAs a l) is_first es text

-- ---- a whole list

-- what stands before the records
abbrev pub head_of : Format → (are_asked : Bool) → List ℕ
head_of Lines are_asked = []
head_of Csv are_asked =
    if are_asked then codes "number,class,day,due,holds,destroyed,sender,subject,date\n" else codes "number,class,day,due,holds,destroyed\n"
head_of Json are_asked = codes "["
head_of Numbers are_asked = []
head_of Count are_asked = []

-- what stands after so many records
abbrev pub end_of : Format → ℕ → List ℕ
end_of Lines count = []
end_of Csv count = []
end_of Json count = codes "\n]\n"
end_of Numbers count = []
end_of Count count = decimal count ++ 10 ∷ []

-- THE LIST OF THESE RECORDS
pub record IsListOf (a : Archive) (l : Listing) (es : List RecordEntry) (text : List ℕ) : Type 0 where
  pub rows : List ℕ
  pub are : AreListedAs a l true es rows
  pub whole : text ≡ head_of l.format l.headers ++ rows ++ end_of l.format (min (length es) greatest)

-- the list of these records is written, and nothing else
abbrev pub WritesList : {K : Type 0} (written : K → List ℕ → Type 0) → Archive → Listing → K → List RecordEntry → K → Type 0
WritesList written a l before es after = (text : List ℕ) × IsListOf a l es text × Writes written before after text

-- ---- as it is made

-- A LIST HAS THIS TEXT: what is written of it, and behind that what is yet to be written
abbrev pub HasText : {K : Type 0} (written : K → List ℕ → Type 0) → ListText K → List ℕ → Type 0
HasText written l text = (done : List ℕ) × written l.sink done × (done ++ l.text.items ≡ text)

-- THESE RECORDS ARE ADDED to a list, each once, in this order, and nothing else
pub record Lists {K : Type 0} (written : K → List ℕ → Type 0) (a : Archive) (old : ListText K) (es : List RecordEntry)
    (new : ListText K) : Type 0 where
  pub rows : List ℕ
  pub are : AreListedAs a old.listing (old.count == 0) es rows
  pub added : Writes (HasText written) old new rows
  pub counted : new.count ≡ more_for es old.count
  pub listing : new.listing ≡ old.listing

-- one record is added to what is to be written
pub record PushesRow {K : Type 0} (written : K → List ℕ → Type 0) (a : Archive) (is_first : Bool) (old : ListText K) (e : RecordEntry)
    (new : ListText K) : Type 0 where
  pub row : List ℕ
  pub is : IsListedAs a old.listing is_first e row
  pub added : Writes (HasText written) old new row
  pub counted : new.count ≡ one_more old.count
  pub listing : new.listing ≡ old.listing

-- ---- its laws

-- a text comes behind what is yet to be written
pub text_kept : {K : Type 0} (written : K → List ℕ → Type 0) (x y : ListText K) (text : List ℕ) → y.sink ≡ x.sink
    → y.text.items ≡ x.text.items ++ text → Writes (HasText written) x y text
text_kept written x y text sink kept all had = (
  had.0,
  subst (λ s. written s had.0) (sym sink) had.1,
  ap (λ t. had.0 ++ t) kept ∙ sym (append_assoc had.0 x.text.items text) ∙ ap (λ t. t ++ text) had.2,
)

-- a list to which three texts were added, and of which all is written
pub whole_text : {K : Type 0} (written : K → List ℕ → Type 0) (before : K) (head rows rest : List ℕ) (x y z u : ListText K) → x.sink ≡ before
    → x.text.items ≡ [] → Writes (HasText written) x y head → Writes (HasText written) y z rows → Writes (HasText written) z u rest
    → u.text.items ≡ [] → Writes written before u.sink (head ++ rows ++ rest)
whole_text written before head rows rest x y z u sink empty first second last all done had =
    let begun : HasText written x done = (done, subst (λ s. written s done) (sym sink) had, ap (λ t. done ++ t) empty ∙ append-nil done) in
    let has = last ((done ++ head) ++ rows) (second (done ++ head) (first done begun)) in
    subst (λ t. written u.sink t)
    (sym (append-nil has.0) ∙ ap (λ t. has.0 ++ t) (sym all) ∙ has.2 ∙ ap (λ t. t ++ rest) (append_assoc done head rows)
    ∙ append_assoc done (head ++ rows) rest) has.1

module _ {K : Type 0} (written : K → List ℕ → Type 0) (a : Archive) where
  pub none_listed : (x : ListText K) → Lists written a x [] x
  none_listed x = record { rows = []; are = refl; added = nothing_written (HasText written) x; counted = refl; listing = refl }

  pub more_listed : (x y z : ListText K) (es fs : List RecordEntry) → Lists written a x es y → Lists written a y fs z
      → Lists written a x (es ++ fs) z
  more_listed x y z es fs one other = record {
    rows = one.rows ++ other.rows;
    are = texts_joined (IsListedAs a x.listing) (x.count == 0) es fs one.rows other.rows one.are
        (subst (λ l. AreListedAs a l (first_after (x.count == 0) es) fs other.rows) one.listing
        (subst (λ b. AreListedAs a y.listing b fs other.rows) (ap (λ n. n == 0) one.counted ∙ is_none es x.count) other.are));
    added = more_written (HasText written) x y z one.rows other.rows one.added other.added;
    counted = other.counted ∙ ap (more_for fs) one.counted ∙ counted_joined es fs x.count;
    listing = other.listing ∙ one.listing;
  }

  pub row_pushed : (x y : ListText K) (is_first : Bool) (e : RecordEntry) (row : List ℕ) → IsListedAs a x.listing is_first e row
      → y.sink ≡ x.sink
      → y.text.items ≡ x.text.items ++ row → y.count ≡ one_more x.count → y.listing ≡ x.listing → PushesRow written a is_first x e y
  row_pushed x y is_first e row is sink kept count listing =
      record { row = row; is = is; added = text_kept written x y row sink kept; counted = count; listing = listing }

  pub one_listed : (x y : ListText K) (e : RecordEntry) → PushesRow written a (x.count == 0) x e y → Lists written a x (e ∷ []) y
  one_listed x y e pushed = record {
    rows = pushed.row;
    are = one_text (IsListedAs a x.listing) (x.count == 0) e pushed.row pushed.is;
    added = pushed.added;
    counted = pushed.counted;
    listing = pushed.listing;
  }

  -- what was yet to be written is written
  pub text_written : (x y : ListText K) → Writes written x.sink y.sink x.text.items → y.text.items ≡ [] → y.count ≡ x.count
      → y.listing ≡ x.listing → Lists written a x [] y
  text_written x y writes empty count listing = record {
    rows = [];
    are = refl;
    added = λ all had. (
      had.0 ++ x.text.items,
      writes had.0 had.1,
      ap (λ t. (had.0 ++ x.text.items) ++ t) empty ∙ append-nil (had.0 ++ x.text.items) ∙ had.2 ∙ sym (append-nil all),
    );
    counted = count;
    listing = listing;
  }

  -- a list that has begun with its head, has these records added to it and is ended with its end is that of these records
  pub whole_list : (l : Listing) (before : K) (es : List RecordEntry) (x y z u : ListText K) → x.sink ≡ before → x.listing ≡ l → x.text.items ≡ []
      → x.count ≡ 0 → Writes (HasText written) x y (head_of l.format l.headers) → y.count ≡ x.count → y.listing ≡ x.listing → Lists written a y es z
      → Writes (HasText written) z u (end_of z.listing.format z.count) → u.text.items ≡ [] → WritesList written a l before es u.sink
  whole_list l before es x y z u sink listing empty none head count same added end all =
      let counted : z.count ≡ min (length es) greatest =
      added.counted ∙ ap (more_for es) (count ∙ none) ∙ count_of es 0 (omega arith) ∙ ap (λ n. min n greatest) (zero-add (length es)) in
      let is : y.listing ≡ l = same ∙ listing in
      let ended : end_of z.listing.format z.count ≡ end_of l.format (min (length es) greatest) =
      ap (λ k. end_of k.format z.count) (added.listing ∙ is) ∙ ap (end_of l.format) counted in
      let rows = subst (λ k. AreListedAs a k true es added.rows) is
      (subst (λ n. AreListedAs a y.listing (n == 0) es added.rows) (count ∙ none) added.are) in
      let head_text = head_of l.format l.headers in
      let end_text = end_of l.format (min (length es) greatest) in (
        head_text ++ added.rows ++ end_text,
        record { rows = added.rows; are = rows; whole = refl },
        whole_text written before head_text added.rows end_text x y z u sink empty head added.added
            (subst (λ t. Writes (HasText written) z u t) ended end) all,
      )
