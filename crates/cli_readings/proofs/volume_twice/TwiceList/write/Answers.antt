use Rattle.std.proofs.Common.{◌∙◌, List, ℕ, subst, sym}
use Rattle.command_lines.specs.declared.archives.Listing.{Listing}
use Rattle.record_archive.specs.Archive.{Archive}
use Rattle.cli_console.specs.Sinks.{Writes}
use Rattle.cli_readings.specs.Groups.{KeyedGroup}
use Rattle.cli_readings.specs.Lists.{HasText}
use Rattle.cli_readings.specs.Twice.{AddsGroups, head_beside, whole_twice}
use Rattle.cli_readings.specs.VolumeTwice.{HaveRows, IsRowIn}
use Rattle.cli_readings.specs.declared.volume_twice.GroupRows.{GroupRows}
use Rattle.cli_readings.proofs.volume_twice.TwiceList.write.Goals as goal

pub returns : goal.returns
returns g c = λ (kept : ℕ → Archive) (l : Listing) (gs : List KeyedGroup) had.
    let written = g.K.Sink.written in
    let list = c.push.new.self in
    let is = c.new-list.ensures.listing ∙ had.listing in
    let head = subst (λ (k : Listing). Writes (HasText written) c.new-list.result list (head_beside k.format k.headers)) had.listing
    (subst (λ t. Writes (HasText written) c.new-list.result list t) (c.as_str.ensures.value ∙ c.in_ok-first.ensures) c.in_ok-push.ensures.text) in
    let rows = subst (λ (k : Listing). HaveRows kept k gs c.as_slice.result.now) (sym (c.in_ok-push.ensures.listing ∙ is))
    (subst (λ (xs : List GroupRows). HaveRows kept l gs xs) (sym c.as_slice.ensures.value) had.rows) in
    let added = subst (λ (k : Listing). AddsGroups written (IsRowIn kept k) list gs c.write_all.new.list) (c.in_ok-push.ensures.listing ∙ is)
    (c.in_ok-write_all.ensures kept gs rows) in
    whole_twice written (IsRowIn kept l) l c.args.sink gs c.new-list.result list c.write_all.new.list c.end.new.self c.new-list.ensures.sink is
    c.new-list.ensures.text c.new-list.ensures.count head c.in_ok-push.ensures.count c.in_ok-push.ensures.listing added
    c.in_ok-end.ensures.text c.in_ok-end.ensures.all
