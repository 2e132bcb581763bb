use Rattle.std.proofs.Common.{◌∷◌, [], List, ℕ, arith, subst}
use Rattle.command_lines.specs.declared.archives.Listing.{Listing}
use Rattle.record_archive.specs.Archive.{Archive}
use Rattle.cli_readings.specs.Groups.{KeyedGroup}
use Rattle.cli_readings.specs.Twice.{AddsGroups, all_groups, next_group, no_groups}
use Rattle.cli_readings.specs.VolumeTwice.{HasRows, IsRowIn}
use Rattle.cli_readings.proofs.VolumeTwiceLaws.{group_at, groups_counted}
use Rattle.cli_readings.proofs.volume_twice.write_all.Goals as goal

pub loop-group-init : goal.loop-group-init
loop-group-init g c = λ (kept : ℕ → Archive) (gs : List KeyedGroup) had.
    no_groups g.K.Sink.written (IsRowIn kept c.args.list.now.listing) c.args.list.now

pub loop-group-preserved : goal.loop-group-preserved
loop-group-preserved g c = λ (kept : ℕ → Archive) (gs : List KeyedGroup) had.
    let written = g.K.Sink.written in
    let asked = c.args.list.now.listing in
    let IsRow = IsRowIn kept asked in
    let group = c.group-item.result in
    let place = c.loop-group.group-index in
    let at = group_at kept asked gs c.args.groups.now place group had c.loop-group-test.true c.group-item.is in
    let so_far = c.loop-group.invariant kept gs had in
    let adds = subst (λ (l : Listing). HasRows kept l group
    → AddsGroups written (IsRowIn kept l) c.loop-group.list (group.keyed ∷ []) c.write_rows.new.list) so_far.listing
    (c.in_ok-write_rows.ensures kept) at.2 in
    next_group written IsRow c.args.list.now c.loop-group.list c.write_rows.new.list gs place group.keyed at.0 so_far
    (subst (λ (k : KeyedGroup). AddsGroups written IsRow c.loop-group.list (k ∷ []) c.write_rows.new.list) at.1 adds)

pub returns : goal.returns
returns g c = λ (kept : ℕ → Archive) (gs : List KeyedGroup) had.
    let asked = c.args.list.now.listing in
    let counted = groups_counted kept asked gs c.args.groups.now had in
    all_groups g.K.Sink.written (IsRowIn kept asked) c.args.list.now c.loop-group.list gs c.loop-group.group-index
    (omega (arith, counted, c.loop-group-test.false)) (c.loop-group.invariant kept gs had)
