use Rattle.std.proofs.Common.{◌∙◌, subst}
use Rattle.record_archive.specs.Archive.{Archive}
use Rattle.command_lines.specs.declared.archives.Listing.{Listing}
use Rattle.cli_console.specs.Sinks.{Writes}
use Rattle.cli_readings.specs.Lists.{HasText}
use Rattle.cli_readings.specs.Twice.{AddsGroups, IsBeside, whole_twice}
use Rattle.cli_readings.proofs.twice.twice_to.Goals as goal

pub returns-clause-listed : goal.returns-clause-listed
returns-clause-listed g c = λ clean (a : Archive) s.
    let written = g.K.Sink.written in
    let between = c.write_groups.ensures.reads.falls clean in
    let stands = c.groups_of.ensures.reads.stands a s in
    let gs = c.in_ok-groups.groups.items in
    let head = subst (λ t. Writes (HasText written) c.new-list.result c.push.new.self t) (c.as_str.ensures.value ∙ c.in_ok-first.ensures)
    c.in_ok-push.ensures.text in
    let added = subst (λ gs. AddsGroups written (IsBeside a c.push.new.self.listing) c.push.new.self gs c.write_groups.new.list)
    c.as_slice.ensures.value (c.in_ok-write_groups.ensures.added clean a stands) in
    let by = subst (λ (l : Listing). AddsGroups written (IsBeside a l) c.push.new.self gs c.write_groups.new.list)
    (c.in_ok-push.ensures.listing ∙ c.new-list.ensures.listing) added in
    let whole = whole_twice written (IsBeside a c.args.listing) c.args.listing c.args.sink gs c.new-list.result c.push.new.self
    c.write_groups.new.list c.end.new.self c.new-list.ensures.sink c.new-list.ensures.listing c.new-list.ensures.text
    c.new-list.ensures.count head c.in_ok-push.ensures.count c.in_ok-push.ensures.listing by c.in_ok-end.ensures.text
    c.in_ok-end.ensures.all in record {
      groups = gs;
      are = c.in_ok-groups.ensures.twice between a s;
      text = whole.0;
      is = whole.1;
      writes = whole.2;
    }
