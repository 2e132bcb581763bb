-- What an export hands over.
use Rattle.std.specs.Prelude.{ℕ, List, [], ◌∷◌, flat_map, Option}
use Rattle.cli_page.specs.declared.report.Record.{Record}
use Rattle.cli_texts.specs.declared.headers.Headers.{Headers}

pub data Part : Type 0 where
  -- a new file of this name has these octets
  file : (name octets : List ℕ) → Part
  -- the list of sums has this line more
  sum : (line : List ℕ) → Part
  -- it is noted that the message of a record, of a volume in an archive of volumes, is not the one that was captured
  altered : (volume : Option ℕ) (number : ℕ) → Part
  -- the index has this record more, with the number of its message's file and what its header says, where it has one
  listed : (shown : Record) (letter : Option (ℕ × Headers)) → Part
  -- the history of its store, or of its volume, has the events of this record and of its message
  subject : (volume : Option ℕ) (number message : ℕ) → Part
  -- the manifest has a row of these fields more
  row : (fields : List (List ℕ)) → Part

-- ---- the parts of one kind, in their order

abbrev pub file_of : Part → List (List ℕ × List ℕ)
file_of (file name octets) = (name, octets) ∷ []
file_of p = []

-- the name and the octets of each file
abbrev pub files_in : List Part → List (List ℕ × List ℕ)
files_in ps = flat_map file_of ps

abbrev pub sum_of : Part → List (List ℕ)
sum_of (sum line) = line ∷ []
sum_of p = []

abbrev pub sums_in : List Part → List (List ℕ)
sums_in ps = flat_map sum_of ps

abbrev pub altered_of : Part → List (Option ℕ × ℕ)
altered_of (altered volume number) = (volume, number) ∷ []
altered_of p = []

-- the volume of each record whose message is another one, and its number
abbrev pub altered_in : List Part → List (Option ℕ × ℕ)
altered_in ps = flat_map altered_of ps

abbrev pub listed_of : Part → List (Record × Option (ℕ × Headers))
listed_of (listed shown letter) = (shown, letter) ∷ []
listed_of p = []

abbrev pub index_in : List Part → List (Record × Option (ℕ × Headers))
index_in ps = flat_map listed_of ps

abbrev pub subject_of : Part → List (Option ℕ × (ℕ × ℕ))
subject_of (subject volume number message) = (volume, (number, message)) ∷ []
subject_of p = []

-- the volume of each record whose events are in a history, its number, and that of its message
abbrev pub subjects_in : List Part → List (Option ℕ × (ℕ × ℕ))
subjects_in ps = flat_map subject_of ps

abbrev pub row_of : Part → List (List (List ℕ))
row_of (row fields) = fields ∷ []
row_of p = []

abbrev pub rows_in : List Part → List (List (List ℕ))
rows_in ps = flat_map row_of ps
