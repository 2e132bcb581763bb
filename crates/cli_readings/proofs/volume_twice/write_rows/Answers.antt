use Rattle.std.proofs.Common.{◌≡◌, ◌≤◌, ◌∙◌, List, ℕ, arith, length, subst, true}
use Rattle.std.proofs.lemmas.List.{take_all}
use Rattle.std.specs.Prelude.{Vec}
use Rattle.std.specs.declared.alloc.Global.{Global}
use Rattle.record_archive.specs.Archive.{Archive}
use Rattle.cli_console.specs.Sequences.{AreTexts}
use Rattle.cli_console.specs.Sinks.{Writes}
use Rattle.cli_readings.specs.Groups.{key_of, records_of}
use Rattle.cli_readings.specs.Lists.{HasText}
use Rattle.cli_readings.specs.Twice.{beside_record, one_group}
use Rattle.cli_readings.specs.VolumeTwice.{IsRowIn, PushesRows, all_of}
use Rattle.cli_readings.specs.declared.groups.Sealed.{Sealed}
use Rattle.cli_readings.proofs.VolumeTwiceLaws.{counted_as}
use Rattle.cli_readings.proofs.volume_twice.write_rows.Goals as goal

pub returns : goal.returns
returns g c = λ (kept : ℕ → Archive) had.
    let written = g.K.Sink.written in
    let list = c.args.list.now in
    let group = c.args.group.now in
    let records = records_of group.keyed.1 in
    let rows = group.rows.items in
    let IsRow = IsRowIn kept list.listing in
    let whole : length records ≤ length rows = c.is_whole.ensures c.if-not-is_whole.false in
    let same : length rows ≡ length records = omega (arith, whole, had.few) in
    let before = subst (λ t. Writes (HasText written) list c.push.new.self t) (c.as_str.ensures.value ∙ c.in_ok-before.ensures)
    c.in_ok-push.ensures.text in
    let are = subst (λ (rs : List Sealed). AreTexts (IsRow (beside_record list.listing.format (key_of group.keyed.0))) true rs (all_of rows))
    (take_all (length rows) records whole) had.are in
    let pushed = subst (λ (rs : List (Vec ℕ Global)). PushesRows written rs c.push.new.self c.push_rows.new.list) c.as_slice.ensures.value
    c.in_ok-push_rows.ensures in
    let after = subst (λ t. Writes (HasText written) c.push_rows.new.list c.put.new.self t) c.text_after.ensures c.in_ok-put.ensures.text in
    one_group written IsRow list c.push.new.self c.push_rows.new.list c.put.new.self group.keyed (all_of rows) before c.in_ok-push.ensures.count
    c.in_ok-push.ensures.listing are pushed.added (pushed.counted ∙ counted_as rows records c.push.new.self.count same) pushed.listing after
    c.in_ok-put.ensures.count c.in_ok-put.ensures.listing
