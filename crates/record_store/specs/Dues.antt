-- The records that are due, and their lines.
use Rattle.std.specs.Prelude.{ℕ, ◌≤◌, ◌==◌, Bool, List, filter, Some, pos}
use Rattle.sqlite_keyed.specs.Lists.{sort_by}
use Rattle.record_tables.specs.Reads.{due_cmp, is_by}
use Rattle.record_reads.specs.DueRecords.{DueRecord, with_records}
use Rattle.record_archive.specs.Archive.{Archive, Line}
use Rattle.record_adoption.specs.Counts.{count_at}
use Rattle.record_adoption.specs.Keeping.{due_rows}
use Rattle.record_adoption.specs.declared.counts.Counts.{Counts}

-- the live records that are due by a day, held ones too, by their due days and then by number
abbrev pub due_records : Archive → ℕ → List DueRecord
due_records a day = with_records a.records (sort_by due_cmp (filter (is_by day) (due_rows a)))

-- no hold keeps the record, by these counts
abbrev pub is_unheld : Counts → DueRecord → Bool
is_unheld held d = count_at held d.number == 0

-- the due day is not after 9999-12-31
abbrev pub IsDatable : DueRecord → Type 0
IsDatable d = d.day ≤ 2932896

-- the line of a record that is due
abbrev pub due_line : DueRecord → Line
due_line d = record { number = d.number; path = d.path; due = Some (pos d.day) }
