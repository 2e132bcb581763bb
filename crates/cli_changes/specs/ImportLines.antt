-- The lines of an import.
use Rattle.std.specs.Prelude.{ℕ, ◌+◌, ◌-◌, ◌^◌, ◌==◌, nat_lt, min, if◌then◌else◌, ◌&&◌, List, [], ◌∷◌, ◌++◌, codes, Option, Some, None}
use Rattle.cli_texts.specs.Lines.{record_number}
use Rattle.cli_texts.specs.Words.{name, number, words}
use Rattle.mail_import.specs.declared.known.FirstRecord.{FirstRecord}
use Rattle.mail_import.specs.declared.tally.ImportTally.{ImportTally}

-- how many there are of something
abbrev pub count_words : (one many : List ℕ) → (count : ℕ) → List ℕ
count_words one many count = number count ++ words (codes " ") ++ words (if count == 1 then one else many)

-- how many stay, up to the greatest number of 64 bits
abbrev pub staying : ImportTally → ℕ
staying t = min (t.unfit + t.given_up) (2 ^ 64 - 1)

-- how many are taken, and were captured already
unfoldable pub taken_words : ImportTally → List ℕ
taken_words t = words (codes "taken ") ++ number t.taken ++ words (codes ", captured already ") ++ number t.known

-- WHAT BECAME OF MESSAGES: the same, and how many stay
unfoldable pub tally_line : ImportTally → List ℕ
tally_line t = taken_words t ++ words (codes ", stay ") ++ number (staying t) ++ 10 ∷ []

-- how many there are, where there are some
unfoldable pub some_words : (one many : List ℕ) → (count : ℕ) → List ℕ
some_words one many count = if nat_lt 0 count then count_words one many count else []

-- what stands between the files and the folders, where there are both
unfoldable pub between : (files folders : ℕ) → List ℕ
between files folders = if nat_lt 0 files && nat_lt 0 folders then words (codes ", ") else []

-- HOW MANY FILES AND FOLDERS WERE PASSED OVER, each where there are some
unfoldable pub passed_words : (files folders : ℕ) → List ℕ
passed_words files folders =
    words (codes "passed over: ") ++ some_words (codes "file") (codes "files") files ++ between files folders
    ++ some_words (codes "folder") (codes "folders") folders

-- a message is captured already
unfoldable pub known_front : (message : List ℕ) → List ℕ
known_front message = name message ++ words (codes " is captured already, as record ")

-- THE SAME WITH ITS FIRST RECORD, which is one of a volume in an archive of volumes
abbrev pub known_words : (message : List ℕ) → FirstRecord → List ℕ
known_words message first = known_front message ++ record_number first.volume first.number

-- a Maildir in a source
unfoldable pub maildir_words : (path : List ℕ) → List ℕ
maildir_words path = name path ++ words (codes ": a Maildir too, which is not taken; name it to import it")

-- the Maildir that is to be named, if it is known
abbrev pub whole_maildir : (maildir : Option (List ℕ)) → List ℕ
whole_maildir None = []
whole_maildir (Some maildir) = words (codes "; to import the Maildir, name ") ++ name maildir

-- A FOLDER HAS NO MESSAGE
unfoldable pub empty_words : (path : List ℕ) → (maildir : Option (List ℕ)) → List ℕ
empty_words path maildir = words (codes "no message is found in ") ++ name path ++ whole_maildir maildir

-- a line of an mbox
unfoldable pub line_at : (path : List ℕ) → (line : ℕ) → List ℕ
line_at path line = name path ++ words (codes ": line ") ++ number line

-- the first line of an mbox that looks like a separator and has no date
unfoldable pub undated_line : (path : List ℕ) → (first : ℕ) → List ℕ
undated_line path first = line_at path first ++ words (codes " begins with From and has no date, so no message begins there")

-- how many such lines there are, where there is more than one
unfoldable pub more_lines : (count : ℕ) → List ℕ
more_lines count = if nat_lt 1 count then words (codes "; there are ") ++ number count ++ words (codes " such lines") else []

-- LINES OF AN MBOX THAT LOOK LIKE SEPARATORS and have no date: the first one, and how many there are
abbrev pub undated_lines : (path : List ℕ) → (first count : ℕ) → List ℕ
undated_lines path first count = undated_line path first ++ more_lines count
