-- Which mail the files have.
use Rattle.std.specs.Prelude.{◌≡◌, ◌+◌, ◌-◌, ◌^◌, ℕ, min, length, List, drop, map, Option, string_bytes}
use Rattle.mail_boxes.specs.Undated.{first_of}
use Rattle.mail_boxes.specs.declared.undated.UndatedLines.{UndatedLines}
use Rattle.mail_sources.specs.declared.files.MailFiles.{MailFiles}
use Rattle.mail_sources.specs.declared.passed.PassedOver.{PassedOver}
use Rattle.mail_sources.specs.declared.sources.Source.{Source}
use Rattle.mail_import.specs.Calls.{Call}

-- old mail in files
pub record Mail : Type 0 where
  -- the messages of the mbox at a path that are to be taken, in order; none for one that is too long
  pub messages : (path : List ℕ) → List (Option (List ℕ))
  -- the number of the first one of these
  pub first : (path : List ℕ) → ℕ
  -- the numbers of those of its lines that look like separators and have no date, in order
  pub undated : (path : List ℕ) → List ℕ
  -- the paths of the files of a folder or Maildir that have a message each, in order
  pub paths : Source → List (List ℕ)
  -- how many more there are whose names are no UTF-8
  pub nameless : Source → ℕ
  -- how many files and folders lie beside them
  pub files : Source → ℕ
  pub folders : Source → ℕ
  -- the octets of the file at a path
  pub octets : (path : List ℕ) → List ℕ

-- THE MBOX AT A PATH GIVES THE MESSAGES THAT ARE LEFT after the first so many, under their numbers
pub record IsWithout (path : List ℕ) (count : ℕ) (whole left : Mail) : Type 0 where
  pub messages : left.messages path ≡ drop count (whole.messages path)
  pub first : left.first path ≡ whole.first path + count
  pub undated : left.undated path ≡ whole.undated path

pub record IsListing (m : Mail) (source : Source) (files : MailFiles) : Type 0 where
  pub paths : map string_bytes files.paths.items ≡ m.paths source
  pub nameless : files.nameless ≡ m.nameless source

pub record IsBeside (m : Mail) (source : Source) (passed : PassedOver) : Type 0 where
  pub files : passed.files ≡ m.files source
  pub folders : passed.folders ≡ m.folders source

-- so many lines, up to the greatest number of 64 bits
abbrev pub count_of : List ℕ → ℕ
count_of numbers = min (length numbers) (2 ^ 64 - 1)

-- these are the lines with these numbers: the first one, and how many there are
pub record AreLines (numbers : List ℕ) (lines : UndatedLines) : Type 0 where
  pub first : lines.first ≡ first_of numbers
  pub count : lines.count ≡ count_of numbers

-- FROM ONE MOMENT TO ANOTHER THESE CALLS WERE MADE and no others, as `goes` says, and the files have the same mail
pub record OnlyMakes {M : Type 0} (goes : M → List Call → M → Type 0) (has : M → Mail → Type 0) (before after : M)
    (calls : List Call) : Type 0 where
  pub made : goes before calls after
  pub kept : (m : Mail) → has before m → has after m
