-- The definitions on worked rows.
use Rattle.std.proofs.Common.{◌≡◌, ℕ, true, false, List, [], ◌∷◌, ◌++◌, map, codes, decimal, Option, None, Some, refl}
use Rattle.std.proofs.Common.{Less, Equal, Greater}
use Rattle.std.specs.Fmt.{digits}
use Rattle.std.specs.Str.{chars, is_utf8}
use lib.Utf8.{encode}
use Rattle.choice_words.specs.declared.numbers.TypedNumbers.TheVariants.{One, Range}
use Rattle.cli_texts.specs.declared.headers.ListedHeaders.TheVariants.{Unasked}
use Rattle.cli_texts.specs.declared.records.Row.{Row}
use Rattle.command_lines.specs.declared.archives.Format.TheVariants.{Lines, Csv, Json, Numbers, Count}
use Rattle.jiff_core.specs.declared.civil.date.Date.{Date}
use Rattle.record_archive.specs.Archive.{Archive}
use Rattle.record_choice.specs.Entries.{RecordEntry as Entry}
use Rattle.record_choice.specs.declared.entry.RecordEntry.{RecordEntry}
use Rattle.cli_history.specs.declared.seals.Seals.{Seals}
use Rattle.class_plan.specs.Plans.{Listing}
use Rattle.cli_page.specs.Names.{file_name}
use Rattle.cli_page.specs.declared.report.Report.{Report}
use Rattle.cli_readings.specs.Altered.{altered_words, one_words, several_words}
use Rattle.cli_readings.specs.Exports.{altered_for, count_of, sealed_fields, subject_for, sum_line, without_again}
use Rattle.cli_readings.specs.Groups.{Added, is_twice, place_order, with_key}
use Rattle.cli_console.specs.Counts.{greatest, one_more}
use Rattle.cli_readings.specs.Checks.{figures_of, no_figures, together}
use Rattle.cli_readings.specs.Lists.{IsTextOf, end_of, head_of}
use Rattle.cli_readings.specs.Parts.{Part, altered_in, files_in, rows_in, subjects_in, sums_in}
use Rattle.cli_readings.specs.Parts as part
use Rattle.cli_console.specs.Sequences.{AreTexts, between, more_for}
use Rattle.cli_readings.specs.Twice.{before_group, beside_record, head_beside}
use Rattle.cli_readings.specs.VolumeExports.{IsBegunBy, IsExportOfVolumes, out_of, share_of}
use Rattle.cli_readings.specs.VolumeLists.{head_unless}
use Rattle.cli_readings.specs.VolumeReports.{ReportsAll, reported_of}
use Rattle.cli_readings.specs.declared.groups.Sealed.{Sealed}
use Rattle.cli_readings.specs.declared.judge.Totals.{Totals}
use Rattle.cli_readings.specs.declared.volume_exports.ExportOfVolumes.{ExportOfVolumes}
use Rattle.cli_readings.proofs.VolumeExportLaws.{none_of}

-- ---- what was captured twice

abbrev sealed_in : ℕ → ℕ → ℕ → Sealed
sealed_in v n m = record { volume = v; number = n; message = m }

abbrev sealed : ℕ → ℕ → Sealed
sealed n m = sealed_in 1 n m

-- four records, of which the first and the third have messages of one length and one sum
abbrev added : List Added
added =
    ((1, codes "aa"), sealed 1 1) ∷ ((2, codes "aa"), sealed 2 2) ∷ ((1, codes "aa"), sealed 5 5) ∷ ((1, codes "bb"), sealed 7 7) ∷ []

records_are : map (λ k. with_key k added) ((1, codes "aa") ∷ (2, codes "aa") ∷ (1, codes "bb") ∷ (2, codes "bb") ∷ [])
    ≡ (sealed 1 1 ∷ sealed 5 5 ∷ []) ∷ (sealed 2 2 ∷ []) ∷ (sealed 7 7 ∷ []) ∷ [] ∷ []
records_are = refl

-- two captures; one capture in two classes; both; and one alone
twice_are : map is_twice ((sealed 1 1 ∷ sealed 5 5 ∷ []) ∷ (sealed 2 2 ∷ sealed 3 2 ∷ [])
    ∷ (sealed 2 2 ∷ sealed 3 2 ∷ sealed 7 7 ∷ []) ∷ (sealed 4 4 ∷ []) ∷ []) ≡ true ∷ false ∷ true ∷ false ∷ []
twice_are = refl

-- two messages of one number in two volumes; and of two records the one in the lower volume, and in one volume of the lower number
twice_in_volumes : map is_twice ((sealed_in 1 4 2 ∷ sealed_in 3 9 2 ∷ []) ∷ (sealed_in 3 4 2 ∷ sealed_in 3 5 2 ∷ []) ∷ [])
    ≡ true ∷ false ∷ []
twice_in_volumes = refl

order_of_places : map (place_order (sealed_in 2 5 5)) (sealed_in 1 9 1 ∷ sealed_in 2 5 1 ∷ sealed_in 2 6 1 ∷ sealed_in 3 1 1 ∷ [])
    ≡ Greater ∷ Equal ∷ Less ∷ Less ∷ []
order_of_places = refl

line_before : before_group Lines true (12, codes "ab") ≡ codes "octets 12 sha256 ab\n"
unfolding digits is_utf8 chars encode
line_before = refl

object_before : before_group Json false (12, codes "ab") ≡ codes ",\n{\"octets\":12,\"sha256\":\"ab\",\"records\":["
unfolding digits is_utf8 chars encode
object_before = refl

cells_beside : beside_record Csv (12, codes "ab") ≡ codes "12,ab,"
unfolding digits is_utf8 chars encode
cells_beside = refl

head_of_groups : head_beside Csv false ≡ codes "octets,sha256,number,class,day,due,holds,destroyed\n"
head_of_groups = refl

three_records : more_for (sealed 1 1 ∷ sealed 2 2 ∷ sealed 3 3 ∷ []) 4 ≡ 7
three_records = refl

-- ---- lists

abbrev numbered : Row → Option ℕ → ℕ → Row
numbered r v n = record r { volume = v; number = n }

number_alone : (r : Row) → IsTextOf Numbers true (numbered r None 17) Unasked (codes "17\n")
unfolding digits
number_alone r = refl

number_of_a_volume : (r : Row) → IsTextOf Numbers false (numbered r (Some 3) 17) Unasked (codes "3/17\n")
unfolding digits
number_of_a_volume r = refl

only_counted : (r : Row) → IsTextOf Count true r Unasked []
only_counted r = refl

-- two numbers as objects, of which the second one stands behind a comma
two_objects : AreTexts (λ is_first (n : ℕ) text. text ≡ between is_first ++ decimal n) true (1 ∷ 12 ∷ []) (codes "\n1,\n12")
unfolding digits
two_objects = (codes "\n1", refl, codes ",\n12", (codes ",\n12", refl, [], refl, refl), refl)

heads_are : map (λ f. head_of f false) (Lines ∷ Csv ∷ Json ∷ Numbers ∷ Count ∷ [])
    ≡ [] ∷ codes "number,class,day,due,holds,destroyed\n" ∷ codes "[" ∷ [] ∷ [] ∷ []
heads_are = refl

-- none stands before the records of a second volume
heads_of_volumes : map (λ b. head_unless b Json false) (false ∷ true ∷ []) ≡ codes "[" ∷ [] ∷ []
heads_of_volumes = refl

ends_are : map (λ n. end_of Count n) (0 ∷ 12 ∷ []) ≡ codes "0\n" ∷ codes "12\n" ∷ []
unfolding digits
ends_are = refl

object_ends : end_of Json 3 ≡ codes "\n]\n"
object_ends = refl

no_more : one_more 18446744073709551615 ≡ 18446744073709551615
no_more = refl

-- ---- checks

no_records : (day : Date) → figures_of day [] ≡ no_figures
no_records day = refl

no_more_octets : (x : Totals) → (together (record x { octets = greatest }) (record x { octets = 1 })).octets ≡ greatest
no_more_octets x = refl

-- ---- exports

line_is : sum_line (codes "ab") (file_name None 12) ≡ codes "ab  12.eml\n"
unfolding digits
line_is = refl

line_of_a_volume : sum_line (codes "ab") (file_name (Some 3) 12) ≡ codes "ab  3-12.eml\n"
unfolding digits
line_of_a_volume = refl

-- the length and the sum of a message that was captured, where these are known
sealed_are : map sealed_fields (None ∷ Some (12, codes "ab") ∷ [])
    ≡ ([] ∷ [] ∷ [] ∷ [] ∷ [] ∷ [] ∷ []) ∷ ([] ∷ codes "12" ∷ codes "ab" ∷ [] ∷ [] ∷ [] ∷ []) ∷ []
unfolding digits is_utf8 chars encode
sealed_are = refl

abbrev of_message : RecordEntry → ℕ → ℕ → RecordEntry
of_message e n m = record e { number = n; message = m }

-- two records of one message, and one of another between two more
firsts_are : (e : RecordEntry) → map (λ (x : RecordEntry). x.number)
    (without_again None (of_message e 1 1 ∷ of_message e 2 1 ∷ of_message e 3 3 ∷ of_message e 4 1 ∷ [])) ≡ 1 ∷ 3 ∷ 4 ∷ []
firsts_are e = refl

-- a message of three octets in volume 3, of which two records are listed; that of the second one is another one
abbrev parts : List Part
parts =
    part.file (file_name (Some 3) 1) (codes "abc") ∷ part.sum (codes "x") ∷ part.subject (Some 3) 1 1 ∷ part.row (codes "a" ∷ [])
    ∷ part.altered (Some 3) 2 ∷ part.subject (Some 3) 2 2 ∷ part.row [] ∷ []

count_is : count_of parts ≡ record { records = 2; messages = 1; octets = 3 }
count_is = refl

files_are : files_in parts ≡ (codes "3-1.eml", codes "abc") ∷ []
unfolding digits
files_are = refl

sums_are : sums_in parts ≡ codes "x" ∷ []
sums_are = refl

rows_are : rows_in parts ≡ (codes "a" ∷ []) ∷ [] ∷ []
rows_are = refl

subjects_are : subjects_in parts ≡ (Some 3, (1, 1)) ∷ (Some 3, (2, 2)) ∷ []
subjects_are = refl

altered_are : altered_in parts ≡ (Some 3, 2) ∷ []
altered_are = refl

-- ---- records whose messages are others

one_told : altered_words None (One 3 ∷ []) ≡ one_words None 3
one_told = refl

several_told : altered_words (Some 2) (One 3 ∷ Range 5 9 ∷ []) ≡ several_words (Some 2) (One 3 ∷ Range 5 9 ∷ [])
several_told = refl

-- ---- the exports of volumes

-- without records nothing is exported of two volumes
nothing_of_two : (a b : Archive) (s t : Seals) → IsExportOfVolumes (share_of 1 a s [] ∷ share_of 2 b t [] ∷ []) []
nothing_of_two a b s t =
    record { each = ([], none_of 1 a s, [], ([], none_of 2 b t, [], refl, refl), refl); files = refl; sums = refl }

subject_of_a_volume : (e : RecordEntry) → subject_for (Some 3) (of_message e 5 4) ≡ (Some 3, (5, 4))
subject_of_a_volume e = refl

altered_of_a_volume : (e : RecordEntry) → altered_for (Some 3) (of_message e 5 4) ≡ (Some 3, 5)
altered_of_a_volume e = refl

-- none of these is out where nothing was found
out_of_none : {D : Type 0} (x : ExportOfVolumes D) → out_of (record x { is_begun = false }) ≡ None
out_of_none x = refl

-- and without records a report stays as it is
nothing_reported : (x : Report) (p q : Listing) → ReportsAll (reported_of 1 p [] ∷ reported_of 2 q [] ∷ []) x x
nothing_reported x p q = (x, refl, (x, refl, refl))

found_is_begun : {D : Type 0} (x : ExportOfVolumes D) (e : Entry) → IsBegunBy (e ∷ []) x (record x { is_begun = true })
found_is_begun x e = refl
