use Rattle.std.proofs.Common.{◌∙◌, subst, true}
use Rattle.record_archive.specs.Archive.{Archive}
use Rattle.command_lines.specs.declared.archives.Listing.{Listing}
use Rattle.cli_console.specs.Sinks.{Writes}
use Rattle.cli_readings.specs.Groups.{key_of, records_of}
use Rattle.cli_readings.specs.Lists.{HasText}
use Rattle.cli_readings.specs.Twice.{AddsBeside, AreBeside, IsBeside, beside_record, one_group}
use Rattle.cli_readings.proofs.twice.write_group.Goals as goal

pub returns-clause-added : goal.returns-clause-added
returns-clause-added g c = λ clean (a : Archive) s.
    let written = g.K.Sink.written in
    let list = c.args.list.now in
    let keyed = c.args.keyed.now in
    let before = subst (λ t. Writes (HasText written) list c.push.new.self t) (c.as_str.ensures.value ∙ c.in_ok-before.ensures)
    c.in_ok-push.ensures.text in
    let rows = subst (λ t. AddsBeside written t true c.push.new.self a (records_of keyed.1) c.add_records.new.list)
    (c.as_str-2.ensures.value ∙ c.in_ok-beside.ensures) (c.in_ok-add_records.ensures.added clean a s) in
    let are = subst (λ (l : Listing). AreBeside a l (beside_record list.listing.format (key_of keyed.0)) true (records_of keyed.1) rows.rows)
    c.in_ok-push.ensures.listing rows.are in
    let after = subst (λ t. Writes (HasText written) c.add_records.new.list c.put.new.self t) c.text_after.ensures
    c.in_ok-put.ensures.text in
    one_group written (IsBeside a list.listing) list c.push.new.self c.add_records.new.list c.put.new.self keyed rows.rows before
    c.in_ok-push.ensures.count c.in_ok-push.ensures.listing are rows.added rows.counted rows.listing after c.in_ok-put.ensures.count
    c.in_ok-put.ensures.listing
