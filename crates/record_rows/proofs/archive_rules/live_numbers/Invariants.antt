use Rattle.std.proofs.Common.{◌≡◌, ℕ, ◌||◌, map, drop}
use Rattle.record_tables.specs.CodeRows.{record_of}
use Rattle.record_rows.specs.SoundRows.{is_live, is_one_of}
use Rattle.record_rows.proofs.archive_rules.live_numbers.Given as goal

abbrev pub invariant-loop-record : goal.invariant-loop-record
invariant-loop-record l = (n : ℕ)
    → (is_one_of l.live.keys n || is_live (map record_of (drop l.record-index l.records)) n)
    ≡ is_live (map record_of l.records) n
