-- An export that is made record after record is that of the records.
use Rattle.std.proofs.Common.{◌≡◌, ℕ, ◌+◌, ◌&&◌, Bool, true, false, not, cond, min, nat_le, List, [], ◌∷◌, ◌++◌, length, map}
use Rattle.std.proofs.Common.{filter, Option, Some, None, Ok, Err, Bor, refl, sym, ap, ap₂, ◌∙◌, subst, arith, decimal}
use Rattle.std.specs.Prelude.{Result, option_map, flat_map}
use Rattle.std.specs.List.{AllByRecursion, AllZip}
use Rattle.std.proofs.lemmas.Grind.{flat_map-append}
use Rattle.std.proofs.lemmas.List.{map-append}
use Rattle.std.proofs.lemmas.Map.Views.{exact_unsigned_eq}
use Rattle.choice_words.specs.declared.choice.Choice as words_choice
use Rattle.record_archive.specs.Archive.{Archive, IsArchive, Record, body_of, message, message_one}
use Rattle.record_archive.specs.declared.fault.ArchiveRefusal.{ArchiveRefusal}
use Rattle.record_archive.specs.declared.fault.ArchiveRefusal.TheVariants as refusal
use Rattle.record_choice.specs.Choices.{meets_asked}
use Rattle.record_choice.specs.Entries.{RecordEntry as Entry, entry_of, entry_view}
use Rattle.record_choice.specs.declared.entry.RecordEntry.{RecordEntry}
use Rattle.record_choice.proofs.PageLaws.{all_kept}
use Rattle.cli_choice.specs.Questions.{question_of}
use Rattle.cli_choice.specs.Typed.{choice_typed}
use Rattle.cli_choice.specs.declared.questions.Questions.{Questions}
use Rattle.cli_choice.proofs.Parting.{IsFound, all_found}
use Rattle.cli_console.specs.Counts.{greatest}
use Rattle.cli_console.specs.Finds.{found_in}
use Rattle.cli_console.specs.Sinks.{Writes, more_written}
use Rattle.cli_history.specs.Seals.{known, length_and_sum}
use Rattle.cli_history.specs.declared.seals.Seals.{Seals}
use Rattle.cli_page.specs.Names.{file_name}
use Rattle.cli_page.specs.declared.report.Record as page
use Rattle.cli_texts.specs.declared.headers.Headers.{Headers}
use Rattle.cli_texts.specs.Rows.{captured_fields, header_fields, record_fields}
use Rattle.cli_texts.specs.Sums.{shown_sum}
use Rattle.cli_texts.specs.Words.{words}
use Rattle.cli_readings.specs.Checks.{is_live}
use Rattle.cli_readings.specs.Exports.{IsExportOf, IsInIndex, IsInManifest, IsLetterOf, WritesExport, altered_for, are_captured, count_of}
use Rattle.cli_readings.specs.Exports.{file_fields, file_for, has_file, is_again, is_altered, message_fields, octets_in, octets_in_all}
use Rattle.cli_readings.specs.Exports.{octets_of, sealed_fields, so_much, subject_for, sum_for, sum_line, told_of, without_again}
use Rattle.cli_readings.specs.Exporting.{AreExported, Exports, HandsOverSome, IsExported, IsListed, IsListedAs, IsMet, IsNew, IsOf, is_met}
use Rattle.cli_readings.specs.Exporting.{file_parts, no_count, with_parts, written_fields}
use Rattle.cli_readings.specs.Parts.{Part, altered_in, altered_of, file_of, files_in, index_in, listed_of, row_of, rows_in, subject_of}
use Rattle.cli_readings.specs.Parts.{subjects_in, sum_of, sums_in}
use Rattle.cli_readings.specs.Parts as part
use Rattle.cli_readings.specs.declared.exporting.Exporting.{Exporting}
use Rattle.cli_readings.specs.declared.exporting.Met.{Met}
use Rattle.cli_readings.specs.declared.exporting.Met.TheVariants as met
use Rattle.cli_readings.specs.declared.exporting.Written.{Written}
use Rattle.cli_readings.specs.declared.outgoing.Count.{Count}

-- ---- the records of an archive

-- the message of a live record is the one of its number
abbrev pub IsKept : Archive → RecordEntry → Type 0
IsKept a e = e.destroyed ≡ false → message a e.number ≡ Ok (body_of a.messages e.message)

abbrev answer_if : Archive → (message : ℕ) → (destroyed : Bool) → Result (Option (List ℕ)) ArchiveRefusal
answer_if a n destroyed = cond destroyed (Err refusal.Destroyed) (Ok (body_of a.messages n))

kept_one : (a : Archive) (e : RecordEntry) (r : Record) → IsFound a r → entry_view e ≡ entry_of a r → IsKept a e
kept_one a e r found same live =
    let destroyed : e.destroyed ≡ r.destroyed = ap (λ (v : Entry). v.destroyed) same in
    let is : r.destroyed ≡ false = sym destroyed ∙ live in
    let number : e.number ≡ r.number = ap (λ (v : Entry). v.number) same in
    let of_it : r.message ≡ e.message = sym (ap (λ (v : Entry). v.message) same) in
    ap (message a) number ∙ ap (message_one a) found ∙ ap (answer_if a r.message) is ∙ ap (λ n. answer_if a n false) of_it

heads : {X : Type 0} (x y : X) (xs ys : List X) → x ∷ xs ≡ y ∷ ys → x ≡ y
heads x y xs ys same = cc

tails : {X : Type 0} (x y : X) (xs ys : List X) → x ∷ xs ≡ y ∷ ys → xs ≡ ys
tails x y xs ys same = cc

kept_all : (a : Archive) (rs : List Record) (es : List RecordEntry) → AllByRecursion (IsFound a) rs → map entry_view es ≡ map (entry_of a) rs
    → AllByRecursion (IsKept a) es
kept_all a rs [] found same = tt
kept_all a [] (e ∷ es) found same = absurd (cc)
kept_all a (r ∷ rs) (e ∷ es) found same =
    let one = heads (entry_view e) (entry_of a r) (map entry_view es) (map (entry_of a) rs) same in
    let rest = tails (entry_view e) (entry_of a r) (map entry_view es) (map (entry_of a) rs) same in
    (kept_one a e r found.0 one, kept_all a rs es found.1 rest)

found_kept : (typed : words_choice.Choice) (questions : Questions) (a : Archive) (es : List RecordEntry) → IsArchive a
    → map entry_view es ≡ found_in typed questions a → AllByRecursion (IsKept a) es
found_kept typed questions a es is same =
    let are_found = λ (r : Record). nat_le typed.from r.number && meets_asked (question_of questions) (choice_typed typed) a r in
    kept_all a (filter are_found a.records) es (all_kept (IsFound a) are_found a.records (all_found a.records is.in_order)) same

-- ---- what was met last

-- the message of a number has these octets
abbrev pub HasOctets : Archive → (message : ℕ) → List ℕ → Type 0
HasOctets a n octets = body_of a.messages n ≡ Some octets

-- the number of the message that was met last
abbrev pub number_of : Option Met → Option ℕ
number_of None = None
number_of (Some (met.Written told)) = Some told.message
number_of (Some (met.Altered number)) = Some number

met_again : (last : Option Met) (n : ℕ) → is_met last n ≡ is_again (number_of last) n
met_again None n = refl
met_again (Some (met.Written told)) n = refl
met_again (Some (met.Altered number)) n = refl

answered : (r : Result (Option (List ℕ)) ArchiveRefusal) (o : Option (List ℕ)) (octets : List ℕ) → r ≡ Ok o → r ≡ Ok (Some octets)
    → o ≡ Some octets
answered r o octets one other = cc

-- ---- what an export has of one record

-- a live record has a message with these octets
pub record HasMessage (a : Archive) (e : RecordEntry) (octets : List ℕ) : Type 0 where
  pub live : e.destroyed ≡ false
  pub of_it : message a e.number ≡ Ok (Some octets)

are_octets : (a : Archive) (e : RecordEntry) (octets : List ℕ) → HasMessage a e octets → octets_of a e ≡ octets
are_octets a e octets has = ap octets_in has.of_it

files_it : (a : Archive) (s : Seals) (e : RecordEntry) (octets : List ℕ) (own : Bool) → HasMessage a e octets
    → are_captured s e.message octets ≡ own → has_file a s e ≡ own
files_it a s e octets own has is =
    ap₂ (λ d os. not d && are_captured s e.message os) has.live (are_octets a e octets has) ∙ is

passes_it : (a : Archive) (s : Seals) (e : RecordEntry) (octets : List ℕ) (own : Bool) → HasMessage a e octets
    → are_captured s e.message octets ≡ own → is_altered a s e ≡ not own
passes_it a s e octets own has is =
    ap₂ (λ d os. not d && not (are_captured s e.message os)) has.live (are_octets a e octets has) ∙ ap not is

six_fields : {f g l m s t x y u v p q : List ℕ} → f ≡ g → l ≡ m → s ≡ t → x ≡ y → u ≡ v → p ≡ q
    → f ∷ l ∷ s ∷ x ∷ u ∷ p ∷ [] ≡ g ∷ m ∷ t ∷ y ∷ v ∷ q ∷ []
six_fields a b c d e f = cc

pub captured_last : (o : Option (ℕ × Bor (List ℕ))) (p : Option (ℕ × List ℕ)) → option_map (λ x. (x.0, x.1.now)) o ≡ p
    → captured_fields o ++ header_fields None ≡ sealed_fields p
captured_last o p e = sealed_last o ∙ ap sealed_fields e
  where
    sealed_last : (o : Option (ℕ × Bor (List ℕ)))
        → captured_fields o ++ header_fields None ≡ sealed_fields (option_map (λ x. (x.0, x.1.now)) o)
    sealed_last None = refl
    sealed_last (Some s) = refl

-- the fields of a message that is another one
abbrev sealed_of : Seals → RecordEntry → List (List ℕ)
sealed_of s e = sealed_fields (option_map length_and_sum (known s e.message))

-- the records by which messages are filed, where the last message has this number
abbrev pub filed_from : Archive → Seals → (last : Option ℕ) → List RecordEntry → List RecordEntry
filed_from a s last es = filter (has_file a s) (without_again last (filter is_live es))

joined : {X : Type 0} (f : Part → List X) (g : RecordEntry → X) (parts one rest : List Part) (all by more : List RecordEntry)
    → parts ≡ one ++ rest → flat_map f one ≡ map g by → flat_map f rest ≡ map g more → all ≡ by ++ more → flat_map f parts ≡ map g all
joined f g parts one rest all by more is first next both =
    ap (flat_map f) is ∙ flat_map-append f one rest ∙ ap₂ ◌++◌ first next ∙ sym (map-append g by more) ∙ ap (map g) (sym both)

zipped : {X : Type 0} (P : RecordEntry → X → Type 0) (f : Part → List X) (parts one rest : List Part) (e : RecordEntry)
    (es : List RecordEntry) (x : X) → parts ≡ one ++ rest → flat_map f one ≡ x ∷ [] → P e x → AllZip P es (flat_map f rest)
    → AllZip P (e ∷ es) (flat_map f parts)
zipped P f parts one rest e es x is first here more =
    subst (λ l. AllZip P (e ∷ es) l) (sym (ap (flat_map f) is ∙ flat_map-append f one rest ∙ ap (λ l. l ++ flat_map f rest) first))
    (here, more)

-- ---- which records file messages, and which are noted

abbrev with_first : (again : Bool) → (last : Option ℕ) → RecordEntry → List RecordEntry → List RecordEntry
with_first again last e rest = cond again (without_again last rest) (e ∷ without_again (Some e.message) rest)

module _ (a : Archive) (s : Seals) (last : Option ℕ) (e : RecordEntry) (es : List RecordEntry) where
  passed_over : e.destroyed ≡ true → filed_from a s last (e ∷ es) ≡ filed_from a s last es
  passed_over gone = ap (λ d. filter (has_file a s) (without_again last (cond (not d) (e ∷ filter is_live es) (filter is_live es)))) gone

  looked_at : e.destroyed ≡ false → (again : Bool) → is_again last e.message ≡ again
      → filed_from a s last (e ∷ es) ≡ filter (has_file a s) (with_first again last e (filter is_live es))
  looked_at live again is =
      ap (λ d. filter (has_file a s) (without_again last (cond (not d) (e ∷ filter is_live es) (filter is_live es)))) live
      ∙ ap (λ b. filter (has_file a s) (with_first b last e (filter is_live es))) is

  filed_new : e.destroyed ≡ false → is_again last e.message ≡ false → (own : Bool) → has_file a s e ≡ own
      → filed_from a s last (e ∷ es) ≡ cond own (e ∷ []) [] ++ filed_from a s (Some e.message) es
  filed_new live new own is =
      looked_at live false new ∙ ap (λ b. cond b (e ∷ filed_from a s (Some e.message) es) (filed_from a s (Some e.message) es)) is ∙ front own
    where
      front : (b : Bool) → cond b (e ∷ filed_from a s (Some e.message) es) (filed_from a s (Some e.message) es)
          ≡ cond b (e ∷ []) [] ++ filed_from a s (Some e.message) es
      front true = refl
      front false = refl

  noted_it : (b : Bool) → is_altered a s e ≡ b → filter (is_altered a s) (e ∷ es) ≡ cond b (e ∷ []) [] ++ filter (is_altered a s) es
  noted_it b is = ap (λ c. cond c (e ∷ filter (is_altered a s) es) (filter (is_altered a s) es)) is ∙ front b
    where
      front : (b : Bool) → cond b (e ∷ filter (is_altered a s) es) (filter (is_altered a s) es) ≡ cond b (e ∷ []) [] ++ filter (is_altered a s) es
      front true = refl
      front false = refl

abbrev told : Option (List ℕ) → Result (Option (List ℕ)) ArchiveRefusal
told o = Ok o

-- a record with the message of a number has the octets of that
has_message : (a : Archive) (e : RecordEntry) (number : ℕ) (octets : List ℕ) → IsKept a e → e.destroyed ≡ false → number ≡ e.message
    → HasOctets a number octets → HasMessage a e octets
has_message a e number octets kept live same has =
    record { live = live; of_it = kept live ∙ ap told (ap (body_of a.messages) (sym same) ∙ has) }

-- ---- of a store, or of a volume

module _ (volume : Option ℕ) where
  -- what is told of the message that was met last is so
  abbrev pub IsTold : Archive → Seals → Option Met → Type 0
  IsTold a s None = Unit {0}
  IsTold a s (Some (met.Written told)) =
      (octets : List ℕ) × HasOctets a told.message octets × (are_captured s told.message octets ≡ true) × IsOf volume told.message octets told
  IsTold a s (Some (met.Altered number)) = (octets : List ℕ) × HasOctets a number octets × (are_captured s number octets ≡ false)

  fields_are : (n : ℕ) (octets : List ℕ) (w : Written) → IsOf volume n octets w → written_fields w ≡ file_fields volume n octets
  fields_are n octets w is =
      six_fields is.file (ap decimal is.length) is.sum (ap words is.sender) (ap words is.subject) (ap words is.date)

  -- the message of a record goes to a file
  module _ (a : Archive) (s : Seals) (e : RecordEntry) (octets : List ℕ) (w : Written) (has : HasMessage a e octets)
      (own : are_captured s e.message octets ≡ true) (is : IsOf volume e.message octets w) where
    fields_of_file : message_fields volume a s e ≡ written_fields w
    fields_of_file =
        ap (λ b. cond b (file_fields volume e.message (octets_of a e)) (sealed_fields (told_of s e))) (files_it a s e octets true has own)
        ∙ ap (file_fields volume e.message) (are_octets a e octets has) ∙ sym (fields_are e.message octets w is)

    letter_of_file : IsLetterOf a e (has_file a s e) (Some (w.message, w.headers))
    letter_of_file = subst (λ b. IsLetterOf a e b (Some (w.message, w.headers))) (sym (files_it a s e octets true has own)) (
      w.headers,
      record { octets = octets; of_it = has.of_it; sender = is.sender; subject = is.subject; date = is.date },
      ap (λ (n : ℕ). Some (n, w.headers)) is.message,
    )

  -- it is another one
  module _ (a : Archive) (s : Seals) (e : RecordEntry) (octets : List ℕ) (has : HasMessage a e octets)
      (other : are_captured s e.message octets ≡ false) where
    fields_of_other : message_fields volume a s e ≡ sealed_of s e
    fields_of_other =
        ap (λ b. cond b (file_fields volume e.message (octets_of a e)) (sealed_fields (told_of s e))) (files_it a s e octets false has other)
        ∙ ap (λ b. sealed_fields (cond b None (option_map length_and_sum (known s e.message)))) has.live

    letter_of_other : IsLetterOf a e (has_file a s e) None
    letter_of_other = subst (λ b. IsLetterOf a e b None) (sym (files_it a s e octets false has other)) refl

  -- it is destroyed
  module _ (a : Archive) (s : Seals) (e : RecordEntry) (gone : e.destroyed ≡ true) where
    no_file : has_file a s e ≡ false
    no_file = ap (λ d. not d && are_captured s e.message (octets_of a e)) gone

    not_altered : is_altered a s e ≡ false
    not_altered = ap (λ d. not d && not (are_captured s e.message (octets_of a e))) gone

    fields_of_gone : message_fields volume a s e ≡ sealed_fields None
    fields_of_gone =
        ap (λ b. cond b (file_fields volume e.message (octets_of a e)) (sealed_fields (told_of s e))) no_file
        ∙ ap (λ b. sealed_fields (cond b None (option_map length_and_sum (known s e.message)))) gone

    letter_of_gone : IsLetterOf a e (has_file a s e) None
    letter_of_gone = subst (λ b. IsLetterOf a e b None) (sym no_file) refl

  -- by the records from one on, where the last message has this number
  pub record IsExportFrom (a : Archive) (s : Seals) (last : Option ℕ) (es : List RecordEntry) (parts : List Part) : Type 0 where
    pub files : files_in parts ≡ map (file_for volume a) (filed_from a s last es)
    pub sums : sums_in parts ≡ map (sum_for volume a) (filed_from a s last es)
    pub manifest : AllZip (IsInManifest volume a s) es (rows_in parts)
    pub index : AllZip (IsInIndex volume a s) es (index_in parts)
    pub subjects : subjects_in parts ≡ map (subject_for volume) es
    pub altered : altered_in parts ≡ map (altered_for volume) (filter (is_altered a s) es)

  -- what one record adds to the manifest, to the index, and to those whose events are in the history
  pub record IsOnce (a : Archive) (s : Seals) (e : RecordEntry) (one : List Part) : Type 0 where
    pub fields : List (List ℕ)
    pub rows : rows_in one ≡ fields ∷ []
    pub manifest : IsInManifest volume a s e fields
    pub entry : page.Record × Option (ℕ × Headers)
    pub listed : index_in one ≡ entry ∷ []
    pub index : IsInIndex volume a s e entry
    pub subjects : subjects_in one ≡ subject_for volume e ∷ []

  -- what is handed over of one record, and what it adds to each list
  pub record IsOne (a : Archive) (s : Seals) (last : Option ℕ) (e : RecordEntry) (next : Option ℕ) (one : List Part) : Type 0 where
    pub filed_by : List RecordEntry
    pub filed : (es : List RecordEntry) → filed_from a s last (e ∷ es) ≡ filed_by ++ filed_from a s next es
    pub files : files_in one ≡ map (file_for volume a) filed_by
    pub sums : sums_in one ≡ map (sum_for volume a) filed_by
    pub noted_by : List RecordEntry
    pub noted : (es : List RecordEntry) → filter (is_altered a s) (e ∷ es) ≡ noted_by ++ filter (is_altered a s) es
    pub altered : altered_in one ≡ map (altered_for volume) noted_by
    pub once : IsOnce a s e one

  -- what is listed of a record is what it adds, where its fields and its letter are those of its message
  listed_once : (a : Archive) (s : Seals) (e : RecordEntry) (fields : List (List ℕ)) (letter : Option (ℕ × Headers)) (lists one : List Part)
      → (x : IsListed volume e fields letter lists) → message_fields volume a s e ≡ fields → IsLetterOf a e (has_file a s e) letter
      → rows_in one ≡ (record_fields x.line ++ fields) ∷ [] → index_in one ≡ (x.shown, letter) ∷ []
      → subjects_in one ≡ subject_for volume e ∷ [] → IsOnce a s e one
  listed_once a s e fields letter lists one x are of_it rows listed subjects = record {
    fields = record_fields x.line ++ fields;
    rows = rows;
    manifest = record { line = x.line; line_is = x.line_is; are = ap (λ f. record_fields x.line ++ f) (sym are) };
    entry = (x.shown, letter);
    listed = listed;
    index = record { shown = x.shown_is; letter = of_it };
    subjects = subjects;
  }

  with_one : (a : Archive) (s : Seals) (last next : Option ℕ) (e : RecordEntry) (es : List RecordEntry) (parts one rest : List Part)
      → IsOne a s last e next one → IsExportFrom a s next es rest → parts ≡ one ++ rest → IsExportFrom a s last (e ∷ es) parts
  with_one a s last next e es parts one rest first more is =
      let all = filed_from a s last (e ∷ es) in
      let later = filed_from a s next es in
      let noted = filter (is_altered a s) es in record {
        files = joined file_of (file_for volume a) parts one rest all first.filed_by later is first.files more.files (first.filed es);
        sums = joined sum_of (sum_for volume a) parts one rest all first.filed_by later is first.sums more.sums (first.filed es);
        manifest = zipped (IsInManifest volume a s) row_of parts one rest e es first.once.fields is first.once.rows first.once.manifest more.manifest;
        index = zipped (IsInIndex volume a s) listed_of parts one rest e es first.once.entry is first.once.listed first.once.index more.index;
        subjects = joined subject_of (subject_for volume) parts one rest (e ∷ es) (e ∷ []) es is first.once.subjects
            more.subjects refl;
        altered = joined altered_of (altered_for volume) parts one rest (filter (is_altered a s) (e ∷ es)) first.noted_by noted is
            first.altered more.altered (first.noted es);
      }

  -- ---- one record

  one_gone : (a : Archive) (s : Seals) (last : Option ℕ) (e : RecordEntry) (one : List Part) → e.destroyed ≡ true
      → IsListed volume e (sealed_fields None) None one → IsOne a s last e last one
  one_gone a s last e one gone x =
      let is = x.parts_are in record {
        filed_by = [];
        filed = λ es. passed_over a s last e es gone;
        files = ap files_in is;
        sums = ap sums_in is;
        noted_by = [];
        noted = λ es. noted_it a s last e es false (not_altered a s e gone);
        altered = ap altered_in is;
        once = listed_once a s e (sealed_fields None) None one one x (fields_of_gone a s e gone) (letter_of_gone a s e gone) (ap rows_in is)
            (ap index_in is) (ap subjects_in is);
      }

  module _ (a : Archive) (s : Seals) (last : Option ℕ) (e : RecordEntry) (octets : List ℕ) (has : HasMessage a e octets) (one : List Part) where
    -- what is listed of a record with a message that was written, or is another one
    once_written : (w : Written) (lists : List Part) → are_captured s e.message octets ≡ true → IsOf volume e.message octets w
        → (x : IsListed volume e (written_fields w) (Some (w.message, w.headers)) lists)
        → rows_in one ≡ (record_fields x.line ++ written_fields w) ∷ []
        → index_in one ≡ (x.shown, Some (w.message, w.headers)) ∷ [] → subjects_in one ≡ subject_for volume e ∷ [] → IsOnce a s e one
    once_written w lists own told x =
        listed_once a s e (written_fields w) (Some (w.message, w.headers)) lists one x (fields_of_file a s e octets w has own told)
        (letter_of_file a s e octets w has own told)

    once_altered : (lists : List Part) → are_captured s e.message octets ≡ false → (x : IsListed volume e (sealed_of s e) None lists)
        → rows_in one ≡ (record_fields x.line ++ sealed_of s e) ∷ [] → index_in one ≡ (x.shown, None) ∷ []
        → subjects_in one ≡ subject_for volume e ∷ [] → IsOnce a s e one
    once_altered lists other x =
        listed_once a s e (sealed_of s e) None lists one x (fields_of_other a s e octets has other) (letter_of_other a s e octets has other)

    again_written : (w : Written) → are_captured s e.message octets ≡ true → IsOf volume e.message octets w → is_again last e.message ≡ true
        → IsListedAs volume s e (Some (met.Written w)) one → IsOne a s last e last one
    again_written w own told again x =
        let is = x.parts_are ∙ x.are.parts_are in record {
          filed_by = [];
          filed = λ es. looked_at a s last e es has.live true again;
          files = ap files_in is;
          sums = ap sums_in is;
          noted_by = [];
          noted = λ es. noted_it a s last e es false (passes_it a s e octets true has own);
          altered = ap altered_in is;
          once = once_written w x.lists own told x.are (ap rows_in is) (ap index_in is) (ap subjects_in is);
        }

    again_altered : are_captured s e.message octets ≡ false → (number : ℕ) → is_again last e.message ≡ true
        → IsListedAs volume s e (Some (met.Altered number)) one → IsOne a s last e last one
    again_altered other number again x =
        let is = x.parts_are ∙ ap (λ l. part.altered volume e.number ∷ l) x.are.parts_are in record {
          filed_by = [];
          filed = λ es. looked_at a s last e es has.live true again;
          files = ap files_in is;
          sums = ap sums_in is;
          noted_by = e ∷ [];
          noted = λ es. noted_it a s last e es true (passes_it a s e octets false has other);
          altered = ap altered_in is;
          once = once_altered x.lists other x.are (ap rows_in is) (ap index_in is) (ap subjects_in is);
        }

    new_written : (w : Written) (files rest : List Part) → are_captured s e.message octets ≡ true → IsOf volume e.message octets w
        → is_again last e.message ≡ false → files ≡ file_parts volume e.message octets → IsListedAs volume s e (Some (met.Written w)) rest
        → one ≡ files ++ rest → IsOne a s last e (Some e.message) one
    new_written w files rest own told new first x both =
        let is = both ∙ ap₂ ◌++◌ first (x.parts_are ∙ x.are.parts_are) in
        let same = sym (are_octets a e octets has) in record {
          filed_by = e ∷ [];
          filed = λ es. filed_new a s last e es has.live new true (files_it a s e octets true has own);
          files = ap files_in is ∙ ap (λ os. (file_name volume e.message, os) ∷ []) same;
          sums = ap sums_in is ∙ ap (λ os. sum_line (shown_sum os) (file_name volume e.message) ∷ []) same;
          noted_by = [];
          noted = λ es. noted_it a s last e es false (passes_it a s e octets true has own);
          altered = ap altered_in is;
          once = once_written w x.lists own told x.are (ap rows_in is) (ap index_in is) (ap subjects_in is);
        }

    new_altered : (number : ℕ) (files rest : List Part) → are_captured s e.message octets ≡ false → is_again last e.message ≡ false
        → files ≡ [] → IsListedAs volume s e (Some (met.Altered number)) rest → one ≡ files ++ rest → IsOne a s last e (Some e.message) one
    new_altered number files rest other new first x both =
        let is = both ∙ ap₂ ◌++◌ first (x.parts_are ∙ ap (λ l. part.altered volume e.number ∷ l) x.are.parts_are) in record {
          filed_by = [];
          filed = λ es. filed_new a s last e es has.live new false (files_it a s e octets false has other);
          files = ap files_in is;
          sums = ap sums_in is;
          noted_by = e ∷ [];
          noted = λ es. noted_it a s last e es true (passes_it a s e octets false has other);
          altered = ap altered_in is;
          once = once_altered x.lists other x.are (ap rows_in is) (ap index_in is) (ap subjects_in is);
        }

  again : (a : Archive) (s : Seals) (last : Option Met) (e : RecordEntry) (one : List Part) → IsKept a e → e.destroyed ≡ false
      → is_met last e.message ≡ true → IsTold a s last → IsListedAs volume s e last one → IsOne a s (number_of last) e (number_of last) one
  again a s None e one kept live is last_told x = absurd (cc)
  again a s (Some (met.Written w)) e one kept live is last_told x =
      let same = exact_unsigned_eq w.message e.message is in
      again_written a s (Some w.message) e last_told.0 (has_message a e w.message last_told.0 kept live same last_told.1) one w
      (subst (λ n. are_captured s n last_told.0 ≡ true) same last_told.2) (subst (λ n. IsOf volume n last_told.0 w) same last_told.3) is x
  again a s (Some (met.Altered number)) e one kept live is last_told x =
      let same = exact_unsigned_eq number e.message is in
      again_altered a s (Some number) e last_told.0 (has_message a e number last_told.0 kept live same last_told.1) one
      (subst (λ n. are_captured s n last_told.0 ≡ false) same last_told.2) number is x

  new : (a : Archive) (s : Seals) (last next : Option Met) (e : RecordEntry) (one : List Part) → IsKept a e → e.destroyed ≡ false
      → is_met last e.message ≡ false → (x : IsNew volume a s e next one) → (own : Bool) → are_captured s e.message x.octets ≡ own
      → IsMet volume own e.message x.octets x.files next → IsOne a s (number_of last) e (number_of next) one × IsTold a s next
  new a s last next e one kept live is x true own met_as =
      let has : HasMessage a e x.octets = record { live = live; of_it = x.of_it } in
      let there : HasOctets a e.message x.octets = answered (message a e.number) (body_of a.messages e.message) x.octets (kept live) x.of_it in
      let number = sym met_as.told_is.message in
      let number_is = sym (ap number_of met_as.last_is ∙ ap (λ (n : ℕ). Some n) met_as.told_is.message) in
      let rest = subst (λ m. IsListedAs volume s e m x.rest) met_as.last_is x.listed_as in (
        subst (λ k. IsOne a s (number_of last) e k one) number_is
            (new_written a s (number_of last) e x.octets has one met_as.told x.files x.rest own met_as.told_is (sym (met_again last e.message) ∙ is)
            met_as.parts_are rest x.parts_are),
        subst (λ m. IsTold a s m) (sym met_as.last_is) (
          x.octets,
          subst (λ n. HasOctets a n x.octets) number there,
          subst (λ n. are_captured s n x.octets ≡ true) number own,
          subst (λ n. IsOf volume n x.octets met_as.told) number met_as.told_is,
        ),
      )
  new a s last next e one kept live is x false other met_as =
      let has : HasMessage a e x.octets = record { live = live; of_it = x.of_it } in
      let there : HasOctets a e.message x.octets = answered (message a e.number) (body_of a.messages e.message) x.octets (kept live) x.of_it in
      let rest = subst (λ m. IsListedAs volume s e m x.rest) met_as.1 x.listed_as in (
        subst (λ k. IsOne a s (number_of last) e k one) (sym (ap number_of met_as.1))
            (new_altered a s (number_of last) e x.octets has one e.message x.files x.rest other (sym (met_again last e.message) ∙ is) met_as.0 rest
            x.parts_are),
        subst (λ m. IsTold a s m) (sym met_as.1) (x.octets, there, other),
      )

  one_is : (a : Archive) (s : Seals) (last next : Option Met) (e : RecordEntry) (one : List Part) → IsKept a e → IsTold a s last
      → (destroyed same : Bool) → e.destroyed ≡ destroyed → is_met last e.message ≡ same → IsExported volume destroyed same a s e last next one
      → IsOne a s (number_of last) e (number_of next) one × IsTold a s next
  one_is a s last next e one kept last_told true same gone is x = (
    subst (λ m. IsOne a s (number_of last) e (number_of m) one) (sym x.0) (one_gone a s (number_of last) e one gone x.1),
    subst (λ m. IsTold a s m) (sym x.0) last_told,
  )
  one_is a s last next e one kept last_told false true live is x = (
    subst (λ m. IsOne a s (number_of last) e (number_of m) one) (sym x.0) (again a s last e one kept live is last_told x.1),
    subst (λ m. IsTold a s m) (sym x.0) last_told,
  )
  one_is a s last next e one kept last_told false false live is x =
      new a s last next e one kept live is x (are_captured s e.message x.octets) refl x.met_as

  -- ---- all of them

  all_are : (a : Archive) (s : Seals) (es : List RecordEntry) (last new : Option Met) (parts : List Part) → AllByRecursion (IsKept a) es
      → IsTold a s last → AreExported volume a s last es parts new → IsExportFrom a s (number_of last) es parts
  all_are a s [] last new parts kept last_told x = record {
    files = ap files_in x.0;
    sums = ap sums_in x.0;
    manifest = subst (λ ps. AllZip (IsInManifest volume a s) [] (rows_in ps)) (sym x.0) tt;
    index = subst (λ ps. AllZip (IsInIndex volume a s) [] (index_in ps)) (sym x.0) tt;
    subjects = ap subjects_in x.0;
    altered = ap altered_in x.0;
  }
  all_are a s (e ∷ es) last new parts kept last_told x =
      let one = one_is a s last x.0 e x.1 kept.0 last_told e.destroyed (is_met last e.message) refl refl x.2 in
      with_one a s (number_of last) (number_of x.0) e es parts x.1 x.3 one.0 (all_are a s es x.0 new x.3 kept.1 one.1 x.4) x.5

-- ---- how much it is

abbrev plain_count : (records messages octets : ℕ) → Count
plain_count records messages octets = record { records = records; messages = messages; octets = octets }

same_counts : (r s m n o p : ℕ) → r ≡ s → m ≡ n → o ≡ p → so_much r m o ≡ so_much s n p
same_counts r s m n o p e f g = ap (λ x. so_much x m o) e ∙ ap (λ x. so_much s x o) f ∙ ap (so_much s n) g

one_up : (n k : ℕ) → min (min n greatest + k) greatest ≡ min (n + k) greatest
one_up n k = omega arith

parts_counted : (ps : List Part) (r m o : ℕ) → with_parts ps (so_much r m o)
    ≡ so_much (r + length (rows_in ps)) (m + length (files_in ps)) (o + octets_in_all (files_in ps))
parts_counted [] r m o = same_counts r (r + 0) m (m + 0) o (o + 0) (omega arith) (omega arith) (omega arith)
parts_counted (part.file name octets ∷ ps) r m o =
    let messages = length (files_in ps) in
    let all = octets_in_all (files_in ps) in
    ap (with_parts ps) (ap (λ n. plain_count (min r greatest) n (min (min o greatest + length octets) greatest)) (one_up m 1)
    ∙ ap (plain_count (min r greatest) (min (m + 1) greatest)) (one_up o (length octets)))
    ∙ parts_counted ps r (m + 1) (o + length octets)
    ∙ same_counts (r + length (rows_in ps)) (r + length (rows_in ps)) (m + 1 + messages) (m + length ((name, octets) ∷ files_in ps))
    (o + length octets + all) (o + (length octets + all)) refl (omega arith) (omega arith)
parts_counted (part.sum line ∷ ps) r m o = parts_counted ps r m o
parts_counted (part.altered volume number ∷ ps) r m o = parts_counted ps r m o
parts_counted (part.listed shown letter ∷ ps) r m o = parts_counted ps r m o
parts_counted (part.subject volume number message ∷ ps) r m o = parts_counted ps r m o
parts_counted (part.row fields ∷ ps) r m o =
    let rows = length (rows_in ps) in
    let messages = m + length (files_in ps) in
    let all = o + octets_in_all (files_in ps) in
    ap (with_parts ps) (ap (λ n. plain_count n (min m greatest) (min o greatest)) (one_up r 1)) ∙ parts_counted ps (r + 1) m o
    ∙ same_counts (r + 1 + rows) (r + length (fields ∷ rows_in ps)) messages messages all all (omega arith) refl refl

-- parts are counted from nothing on
pub all_counted : (ps : List Part) → with_parts ps no_count ≡ count_of ps
all_counted ps =
    let rows = length (rows_in ps) in
    let messages = length (files_in ps) in
    let all = octets_in_all (files_in ps) in
    let zero : 0 ≡ min 0 greatest = omega arith in
    ap (with_parts ps) (ap (λ n. plain_count n n n) zero) ∙ parts_counted ps 0 0 0
    ∙ same_counts (0 + rows) rows (0 + messages) messages (0 + all) all (omega arith) (omega arith) (omega arith)

-- ---- the export of the records that were found

-- WHAT GOES OUT of an export that has met no message yet is the export of the records that were found
pub exported_parts : {D : Type 0} (made : D → List Part → Type 0) (typed : words_choice.Choice) (questions : Questions) (x y : Exporting D)
    (a : Archive) (es : List RecordEntry) → IsArchive a → map entry_view es ≡ found_in typed questions a → x.last ≡ None → Exports made x a es y
    → HandsOverSome made x.out (λ parts. IsExportOf x.volume a x.seals es parts) y.out
exported_parts made typed questions x y a es is found last exports =
    let parts = exports.over.0 in
    let exported = subst (λ m. AreExported x.volume a x.seals m es parts y.last) last exports.over.1 in
    let whole = all_are x.volume a x.seals es None y.last parts (found_kept typed questions a es is found) tt exported in (
      parts,
      record {
        files = whole.files;
        sums = whole.sums;
        manifest = whole.manifest;
        index = whole.index;
        subjects = whole.subjects;
        altered = whole.altered;
      },
      exports.over.2,
    )

-- WHAT WENT OUT of an export that had nothing before is the export of the records of the store that were found
pub whole_export : {D : Type 0} (made : D → List Part → Type 0) (typed : words_choice.Choice) (questions : Questions) (seals : Seals)
    (before ready : D) (x y : Exporting D) (a : Archive) (es : List RecordEntry) → IsArchive a → map entry_view es ≡ found_in typed questions a
    → Writes made before ready [] → x.out.destination ≡ ready → x.out.count ≡ no_count → x.seals ≡ seals → x.last ≡ None → x.volume ≡ None
    → Exports made x a es y → WritesExport made seals before a es y.out
whole_export made typed questions seals before ready x y a es is found prepared at none by last alone exports =
    let over = exported_parts made typed questions x y a es is found last exports in
    let parts = over.0 in record {
      parts = parts;
      are = subst (λ v. IsExportOf v a seals es parts) alone (subst (λ s. IsExportOf x.volume a s es parts) by over.1);
      writes = more_written made before ready y.out.destination [] parts prepared
          (subst (λ d. Writes made d y.out.destination parts) at over.2.handed);
      count = over.2.count ∙ ap (with_parts parts) none ∙ all_counted parts;
    }
