use Rattle.std.proofs.Common.{ℕ, rules, subst}
use Rattle.command_lines.specs.declared.archives.Listing.{Listing}
use Rattle.record_archive.specs.Archive.{Archive}
use Rattle.cli_readings.specs.VolumeTwice.{AddsRow}
use Rattle.cli_readings.proofs.VolumeTwiceLaws.{more_rows, next_row, same_rows}
use Rattle.cli_readings.proofs.volume_twice.add_rows.Goals as goal

pub loop-init : goal.loop-init
loop-init g c = record { reads = search rules; kept = λ clean (kept : ℕ → Archive) s. same_rows kept c.args.listing c.args.rows }

pub loop-preserved : goal.loop-preserved
loop-preserved g c = record {
  reads = search rules;
  kept = λ clean (kept : ℕ → Archive) s.
      let before = c.add_row.ensures.reads.falls clean in
      let stands = c.loop.invariant.reads.stands (kept c.args.volume) s in
      let adds = subst (λ (l : Listing). AddsRow (kept c.args.volume) l c.in-Some.next c.loop.rows c.add_row.new.self) c.listing_in.ensures
      (c.in_ok-add_row.ensures.added clean (kept c.args.volume) stands) in
      more_rows kept c.args.listing c.args.rows c.loop.rows c.add_row.new.self (c.loop.invariant.kept before kept s)
      (next_row kept c.args.listing c.args.volume c.in-Some.next c.loop.rows c.add_row.new.self c.in-Some.ensures adds);
}
