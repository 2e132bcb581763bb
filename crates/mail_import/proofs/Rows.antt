-- The definitions on worked rows.
use Rattle.std.proofs.Common.{◌≡◌, ℕ, Bool, true, false, List, [], ◌∷◌, ◌++◌, map, codes, Option, Some, None, Ok, Err, refl}
use Rattle.std.specs.Fmt.{decimal}
use Rattle.std.specs.List.{flat_map}
use Rattle.mail_dates.specs.declared.dating.Dated.{Dated}
use Rattle.mail_dates.specs.declared.dating.Dated.TheVariants as moment
use Rattle.mail_intake.specs.Calls.{given_up, unfit}
use Rattle.mail_sources.specs.declared.sources.Source.{Source}
use Rattle.record_history.specs.Events.{Seal}
use Rattle.mail_import.specs.declared.known.FirstRecord.{FirstRecord}
use Rattle.mail_import.specs.Calls.{capture, ended, read, refused, taken, tell, tell_empty, tell_known, tell_nameless, tell_undated}
use Rattle.mail_import.specs.Fates.{because, fate_by, too_long, with_known}
use Rattle.mail_import.specs.Findings.{AreOfBox, AreOfFiles, AreOfFolder, AreOfMbox, Finding, beside, boxed, boxed_name, captured, course}
use Rattle.mail_import.specs.Findings.{empty_folder, filed, known, message, nameless, oversized, rest_of, stays, tallied_all, turned_away}
use Rattle.mail_import.specs.Findings.{undated_lines, undated_of, unread}
use Rattle.mail_import.specs.Imports.{at_message, between, last_course}
use Rattle.mail_import.specs.Sources.{Mail}
use Rattle.mail_import.specs.Tallies.{no_messages}
use Rattle.mail_import.specs.declared.fate.Fate.TheVariants as fate

-- a record of the second volume
abbrev at : ℕ → FirstRecord
at number = record { volume = Some 2; number = number }

-- what becomes of a message, by its first record, whether messages are captured again, and its moment
fates_are : map (λ (r : Option FirstRecord × Bool × Dated). fate_by r.0 r.1 r.2)
    ((None, false, moment.Moment 7) ∷ (Some (at 3), false, moment.Moment 7) ∷ (Some (at 3), true, moment.Moment 7)
    ∷ (None, false, moment.NoField) ∷ (Some (at 3), false, moment.NoField) ∷ (Some (at 3), true, moment.ToCome 9) ∷ [])
    ≡ fate.Taken 7 ∷ fate.Known (at 3) ∷ fate.Taken 7
    ∷ fate.Undated moment.NoField ∷ fate.Known (at 3) ∷ fate.Undated (moment.ToCome 9) ∷ []
fates_are = refl

abbrev tax : Seal
tax = record { octets = 3; sum = codes "ab" }

-- a message is known by its length and its sum
known_are : map (with_known tax (at 7) (λ seal. None))
    (tax ∷ record { octets = 4; sum = codes "ab" } ∷ record { octets = 3; sum = codes "ac" } ∷ [])
    ≡ Some (at 7) ∷ None ∷ None ∷ []
known_are = refl

named_is : boxed_name (codes "old.mbox") 12 ≡ codes "old.mbox:" ++ decimal 12
named_is = refl

abbrev name : ℕ → List ℕ
name number = boxed_name (codes "old.mbox") number

-- an mbox of three messages, of which the second is captured already and the third has too many octets; it has two lines without a date
abbrev in_mbox : List Finding
in_mbox = message (name 1) (boxed (codes "tax")) (captured 7 (Some (at 3))) ∷ message (name 2) (boxed (codes "tax")) (known (at 3))
    ∷ message (name 3) oversized (stays too_long) ∷ undated_lines (codes "old.mbox") 9 2 ∷ []

calls_of_mbox : flat_map course in_mbox
    ≡ capture (name 1) 7 (codes "tax") (taken (Some (at 3))) ∷ tell_known (name 2) (at 3)
    ∷ tell (name 3) too_long ∷ tell_undated (codes "old.mbox") 9 2 ∷ []
calls_of_mbox = refl

counts_of_mbox : tallied_all in_mbox no_messages
    ≡ record { taken = 1; known = 1; unfit = 1; given_up = 0; empty = 0; files = 0; folders = 0 }
unfolding tallied_all
counts_of_mbox = refl

-- a folder of three files: the rules of the first end in a fault, the second is a folder, and the third is discarded. Two more have no name
-- in UTF-8, and four files and a folder lie beside them
abbrev in_folder : List Finding
in_folder = message (codes "old/a.eml") (filed (codes "rent")) (turned_away 8 (given_up (codes "fault 1")))
    ∷ message (codes "old/b.eml") (unread (unfit (codes "a folder"))) (stays (because (unfit (codes "a folder"))))
    ∷ message (codes "old/c.eml") (filed (codes "rent")) (captured 9 None) ∷ nameless 2 ∷ beside 4 1 ∷ []

calls_of_folder : flat_map course in_folder
    ≡ read (codes "old/a.eml") (Ok (codes "rent")) ∷ capture (codes "old/a.eml") 8 (codes "rent") (refused (given_up (codes "fault 1")))
    ∷ tell (codes "old/a.eml") (because (given_up (codes "fault 1")))
    ∷ read (codes "old/b.eml") (Err (unfit (codes "a folder"))) ∷ tell (codes "old/b.eml") (because (unfit (codes "a folder")))
    ∷ read (codes "old/c.eml") (Ok (codes "rent")) ∷ capture (codes "old/c.eml") 9 (codes "rent") (taken None)
    ∷ tell_nameless 2 ∷ []
calls_of_folder = refl

counts_of_folder : tallied_all in_folder no_messages
    ≡ record { taken = 1; known = 0; unfit = 3; given_up = 1; empty = 0; files = 4; folders = 1 }
unfolding tallied_all
counts_of_folder = refl

-- what is found in a folder after its messages, by their paths and by how many have no name
rests_are : map (λ (r : List (List ℕ) × ℕ). rest_of (codes "old") r.0 r.1)
    (([], 0) ∷ ([], 2) ∷ (codes "old/a.eml" ∷ [], 0) ∷ (codes "old/a.eml" ∷ [], 2) ∷ [])
    ≡ (empty_folder (codes "old") ∷ []) ∷ (nameless 2 ∷ []) ∷ [] ∷ (nameless 2 ∷ []) ∷ []
rests_are = refl

calls_of_none : flat_map course (empty_folder (codes "old") ∷ beside 0 0 ∷ []) ≡ tell_empty (codes "old") ∷ []
calls_of_none = refl

undated_are : map (undated_of (codes "old.mbox")) ([] ∷ (9 ∷ []) ∷ (9 ∷ 12 ∷ []) ∷ [])
    ≡ [] ∷ (undated_lines (codes "old.mbox") 9 1 ∷ []) ∷ (undated_lines (codes "old.mbox") 9 2 ∷ []) ∷ []
undated_are = refl

-- ---- the mail of these rows

abbrev mail : Mail
mail = record {
  messages = λ path. Some (codes "tax") ∷ Some (codes "tax") ∷ None ∷ [];
  first = λ path. 1;
  undated = λ path. 9 ∷ 12 ∷ [];
  paths = λ source. codes "old/a.eml" ∷ codes "old/b.eml" ∷ codes "old/c.eml" ∷ [];
  nameless = λ source. 2;
  files = λ source. 4;
  folders = λ source. 1;
  octets = λ path. codes "rent";
}

are_of_mbox : AreOfMbox (codes "old.mbox") mail in_mbox
unfolding AreOfBox
are_of_mbox = (
  message (name 1) (boxed (codes "tax")) (captured 7 (Some (at 3))) ∷ message (name 2) (boxed (codes "tax")) (known (at 3))
      ∷ message (name 3) oversized (stays too_long) ∷ [],
  ((refl, refl), ((refl, refl), ((refl, refl), tt))),
  refl,
)

are_of_folder : (source : Source) → AreOfFolder source (codes "old") mail in_folder
unfolding AreOfFiles
are_of_folder source = (
  message (codes "old/a.eml") (filed (codes "rent")) (turned_away 8 (given_up (codes "fault 1")))
      ∷ message (codes "old/b.eml") (unread (unfit (codes "a folder"))) (stays (because (unfit (codes "a folder"))))
      ∷ message (codes "old/c.eml") (filed (codes "rent")) (captured 9 None) ∷ [],
  ((refl, refl), ((refl, tt), ((refl, refl), tt))),
  refl,
)

-- ---- an end before the end

last_are : map last_course (between ∷ at_message (name 1) (boxed (codes "tax")) 7 ended
    ∷ at_message (codes "old/a.eml") (filed (codes "rent")) 8 (taken (Some (at 4))) ∷ [])
    ≡ [] ∷ (capture (name 1) 7 (codes "tax") ended ∷ [])
    ∷ (read (codes "old/a.eml") (Ok (codes "rent")) ∷ capture (codes "old/a.eml") 8 (codes "rent") (taken (Some (at 4))) ∷ []) ∷ []
last_are = refl
