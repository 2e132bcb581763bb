use Rattle.std.proofs.Common.{◌∷◌, [], rules, subst}
use Rattle.record_archive.specs.Archive.{Archive}
use Rattle.command_lines.specs.declared.archives.Listing.{Listing}
use Rattle.cli_readings.specs.Groups.{KeyedGroup}
use Rattle.cli_readings.specs.Twice.{AddsGroups, IsBeside, all_groups, next_group, no_groups}
use Rattle.cli_readings.proofs.twice.write_groups.Goals as goal

pub loop-keyed-init : goal.loop-keyed-init
loop-keyed-init g c = record {
  reads = search rules;
  added = λ clean (a : Archive) s. no_groups g.K.Sink.written (IsBeside a c.args.list.now.listing) c.args.list.now;
}

pub loop-keyed-preserved : goal.loop-keyed-preserved
loop-keyed-preserved g c = record {
  reads = search rules;
  added = λ clean (a : Archive) s.
      let written = g.K.Sink.written in
      let before = c.write_group.ensures.reads.falls clean in
      let stands = c.loop-keyed.invariant.reads.stands a s in
      let so_far = c.loop-keyed.invariant.added before a s in
      let next = subst (λ (l : Listing). AddsGroups written (IsBeside a l) c.loop-keyed.list (c.keyed-item.result ∷ []) c.write_group.new.list)
      so_far.listing (c.in_ok-write_group.ensures.added clean a stands) in
      let IsRow = IsBeside a c.args.list.now.listing in
      next_group written IsRow c.args.list.now c.loop-keyed.list c.write_group.new.list c.args.groups.now c.loop-keyed.keyed-index
      c.keyed-item.result c.loop-keyed-test.true so_far
      (subst (λ (e : KeyedGroup). AddsGroups written IsRow c.loop-keyed.list (e ∷ []) c.write_group.new.list) c.keyed-item.is next);
}

pub returns-clause-added : goal.returns-clause-added
returns-clause-added g c = λ clean (a : Archive) s.
    all_groups g.K.Sink.written (IsBeside a c.args.list.now.listing) c.args.list.now c.loop-keyed.list c.args.groups.now
    c.loop-keyed.keyed-index c.loop-keyed-test.false (c.loop-keyed.invariant.added clean a s)
