-- The lines of the code, as plain lines.
use Rattle.std.specs.Prelude.{List, option_map}
use Rattle.jiff.specs.Words.{epoch_day}
use Rattle.record_archive.specs.Archive.{Line}
use Rattle.record_archive.specs.declared.line.Line as code

abbrev pub line_view : code.Line → Line
line_view l = record { number = l.number; path = l.path.items; due = option_map epoch_day l.due }
