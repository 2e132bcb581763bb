-- The exports of volumes, one after another.
use Rattle.std.proofs.Common.{◌≡◌, ◌≤◌, ◌++◌, ◌∷◌, [], ℕ, List, ap, arith, length, map, refl, subst, sym, true, ◌∙◌}
use Rattle.std.proofs.lemmas.Grind.{flat_map-append}
use Rattle.std.proofs.lemmas.List.{append_assoc, append-nil}
use Rattle.std.specs.Prelude.{flat_map}
use Rattle.choice_words.specs.declared.choice.Choice as words
use Rattle.record_archive.specs.Archive.{Archive, IsArchive}
use Rattle.record_choice.specs.Entries.{RecordEntry as Entry, entry_view}
use Rattle.record_choice.specs.declared.entry.RecordEntry.{RecordEntry}
use Rattle.cli_choice.specs.declared.questions.Questions.{Questions}
use Rattle.cli_console.specs.Finds.{TakesThese, found_in}
use Rattle.cli_console.specs.Sinks.{Writes, more_written, nothing_written}
use Rattle.cli_history.specs.declared.seals.Seals.{Seals}
use Rattle.cli_readings.specs.Exporting.{Exports, HandsOver, TurnsTo, more_over, no_count, nothing_over, parts_joined, with_parts}
use Rattle.cli_readings.specs.Exports.{IsExportOf, count_of}
use Rattle.cli_readings.specs.Parts.{Part, file_of, files_in, sum_of, sums_in}
use Rattle.cli_readings.specs.VolumeExports.{AreExportsOf, Begins, ExportsVolume, HasExported, IsBegunBy, IsExportOfVolume, IsExportOfVolumes}
use Rattle.cli_readings.specs.VolumeExports.{ExportsIn, HasAsMuch, Share, files_of, share_of, sums_of, unseen}
use Rattle.cli_readings.specs.VolumeReads.{is_any_more}
use Rattle.cli_readings.specs.declared.exporting.Exporting.{Exporting}
use Rattle.cli_readings.specs.declared.volume_exports.ExportOfVolumes.{ExportOfVolumes}
use Rattle.cli_readings.proofs.Exported.{all_counted, exported_parts}

-- ---- what is exported of volumes

-- a volume more, behind the others
exports_joined : (vs : List Share) (v : Share) (parts one : List Part) → AreExportsOf vs parts → IsExportOfVolume v one
    → AreExportsOf (vs ++ v ∷ []) (parts ++ one)
exports_joined [] v parts one are is = (one, is, [], refl, ap (λ ps. ps ++ one) are ∙ sym (append-nil one))
exports_joined (w ∷ vs) v parts one are is = (
  are.0,
  are.1,
  are.2 ++ one,
  exports_joined vs v are.2 one are.3 is,
  ap (λ ps. ps ++ one) are.4 ∙ append_assoc are.0 are.2 one,
)

-- the files are those of all volumes
files_joined : (vs : List Share) (parts : List Part) → AreExportsOf vs parts → files_in parts ≡ flat_map files_of vs
files_joined [] parts are = ap files_in are
files_joined (v ∷ vs) parts are =
    ap files_in are.4 ∙ flat_map-append file_of are.0 are.2 ∙ ap (λ fs. fs ++ files_in are.2) are.1.files
    ∙ ap (λ fs. files_of v ++ fs) (files_joined vs are.2 are.3)

-- and so are their lines in the list of sums
sums_joined : (vs : List Share) (parts : List Part) → AreExportsOf vs parts → sums_in parts ≡ flat_map sums_of vs
sums_joined [] parts are = ap sums_in are
sums_joined (v ∷ vs) parts are =
    ap sums_in are.4 ∙ flat_map-append sum_of are.0 are.2 ∙ ap (λ ls. ls ++ sums_in are.2) are.1.sums
    ∙ ap (λ ls. sums_of v ++ ls) (sums_joined vs are.2 are.3)

-- the export of volumes with one more
with_volume : (vs : List Share) (v : Share) (parts one : List Part) → IsExportOfVolumes vs parts → IsExportOfVolume v one
    → IsExportOfVolumes (vs ++ v ∷ []) (parts ++ one)
with_volume vs v parts one are is =
    let each = exports_joined vs v parts one are.each is in record {
      each = each;
      files = files_joined (vs ++ v ∷ []) (parts ++ one) each;
      sums = sums_joined (vs ++ v ∷ []) (parts ++ one) each;
    }

-- the export of no record of a volume
pub none_of : (v : ℕ) (a : Archive) (s : Seals) → IsExportOfVolume (share_of v a s []) []
none_of v a s = record { files = refl; sums = refl; manifest = tt; index = tt; subjects = refl; altered = refl }

-- ---- how much it is

counted : (parts one : List Part) → with_parts one (count_of parts) ≡ count_of (parts ++ one)
counted parts one =
    ap (with_parts one) (sym (all_counted parts)) ∙ parts_joined parts one no_count ∙ all_counted (parts ++ one)

-- ---- as it is made

module _ {D : Type 0} (made : D → List Part → Type 0) where
  -- an export to which nothing was handed over
  pub nothing_exported : (before : D) (x : ExportOfVolumes D) → x.exporting.out.destination ≡ before → x.exporting.out.count ≡ no_count
      → HasExported made [] before x
  nothing_exported before x at none = record {
    parts = [];
    are = record { each = refl; files = refl; sums = refl };
    writes = subst (λ d. Writes made before d []) (sym at) (nothing_written made before);
    count = none ∙ all_counted [];
  }

  -- parts of a volume are handed over behind the others
  one_handed : (v : Share) (x y : ExportOfVolumes D) (one : List Part) → IsExportOfVolume v one
      → HandsOver made x.exporting.out one y.exporting.out → ExportsVolume made v x y
  one_handed v x y one is over = λ vs before has. record {
    parts = has.parts ++ one;
    are = with_volume vs v has.parts one has.are is;
    writes = more_written made before x.exporting.out.destination y.exporting.out.destination has.parts one has.writes over.handed;
    count = over.count ∙ ap (with_parts one) has.count ∙ counted has.parts one;
  }

  -- no record of a volume is exported
  pub none_exported : (v : ℕ) (a : Archive) (s : Seals) (x : ExportOfVolumes D) → ExportsVolume made (share_of v a s []) x x
  none_exported v a s x =
      one_handed (share_of v a s []) x x [] (none_of v a s) (nothing_over made x.exporting.out)

  -- the records of a volume are exported that were found in it
  pub volume_exported : (typed : words.Choice) (questions : Questions) (v : ℕ) (s : Seals) (x begun : ExportOfVolumes D)
      (turned after : Exporting D) (a : Archive) (es : List RecordEntry) → IsArchive a → map entry_view es ≡ found_in typed questions a
      → Begins made x begun → TurnsTo v s begun.exporting turned → Exports made turned a es after
      → ExportsVolume made (share_of v a s es) x (record begun { exporting = after })
  volume_exported typed questions v s x begun turned after a es is found begins turns exports =
      let over = exported_parts made typed questions turned after a es is found turns.last exports in
      let one : IsExportOfVolume (share_of v a s es) over.0 =
      subst (λ w. IsExportOf w a s es over.0) turns.volume_is (subst (λ t. IsExportOf turned.volume a t es over.0) turns.seals_are over.1) in
      let handed : HandsOver made begun.exporting.out over.0 after.out =
      subst (λ o. HandsOver made o over.0 after.out) turns.out over.2 in
      one_handed (share_of v a s es) x (record begun { exporting = after }) over.0 one
      (more_over made x.exporting.out begun.exporting.out after.out [] over.0 begins.ready handed)

  -- where a record was found, the export has begun
  pub begun_by : (found page ahead : List Entry) (x y : ExportOfVolumes D) → 1 ≤ length page → page ++ ahead ≡ found → y.is_begun ≡ true
      → IsBegunBy found x y
  begun_by [] [] ahead x y some both begun = absurd (omega (arith, some))
  begun_by [] (p ∷ page) ahead x y some both begun = absurd (cc both)
  begun_by (e ∷ found) page ahead x y some both begun = begun

-- ---- once what belongs to a volume has ended

begun_more : {D : Type 0} (es : List RecordEntry) (found : List Entry) (old mid : ExportOfVolumes D) → map entry_view es ≡ found
    → IsBegunBy found old mid → mid.is_begun ≡ is_any_more old.is_begun es
begun_more [] found old mid are begun = ap (λ x. x.is_begun) (subst (λ f. IsBegunBy f old mid) (sym are) begun)
begun_more (e ∷ es) found old mid are begun = subst (λ f. IsBegunBy f old mid) (sym are) begun

pub exported_in : {D : Type 0} (v : ℕ) (a : Archive) (s : Seals) (found : List Entry) (old mid new : ExportOfVolumes D)
    → TakesThese (λ x b es y. ExportsVolume unseen (share_of v b s es) x y) old a found mid → IsBegunBy found old mid → HasAsMuch mid new
    → TakesThese (λ x b es y. ExportsIn v b es x y) old a found new
exported_in v a s found old mid new took begun much = (
  took.0,
  took.1,
  record {
    seals = s;
    exports = λ vs before had.
        let h = took.2 vs before had in
        record { parts = h.parts; are = h.are; writes = λ done all. tt; count = much.count ∙ h.count };
    begun = much.begun ∙ begun_more took.0 found old mid took.1 begun;
  },
)
