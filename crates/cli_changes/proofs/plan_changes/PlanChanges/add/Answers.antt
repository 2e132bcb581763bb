use Rattle.std.proofs.Common.{sym, ap, ◌∙◌}
use Rattle.std.specs.Option.{option_copied_mut}
use Rattle.std.specs.BTreeMap.{insert_entry}
use Rattle.jiff.specs.Words.{epoch_day}
use Rattle.record_choice.specs.Entries.{entry_view}
use Rattle.cli_changes.specs.PlanChanges.{with_change}
use Rattle.cli_changes.proofs.ChangeLemmas.{changed_there, changed_new, cmp_paths}
use Rattle.cli_changes.proofs.plan_changes.PlanChanges.add.Goals as goal

pub returns-in-Some : goal.returns-in-Some
returns-in-Some c =
    let e = entry_view c.args.entry.now in
    let es = c.args.self.now.by_class.entries in
    let found = sym c.get_mut.ensures.value ∙ ap option_copied_mut c.in-Some.is in
    record {
      all = c.add.ensures;
      by_class = changed_there c.args.old.now c.args.new.now (epoch_day c.args.today) e c.as_slice.result.now es _ c.in-Some.changes.now
          c.add-in-Some.new.self c.as_slice.ensures.value found (c.get_mut.follows.holds c.add-in-Some.new.self).0 c.add-in-Some.ensures;
    }

pub returns : goal.returns
returns c =
    let e = entry_view c.args.entry.now in
    let es = c.args.self.now.by_class.entries in
    let missing = sym c.get_mut.ensures.value ∙ ap option_copied_mut c.in_default.is in
    let entries = c.in_ok-insert.ensures.entries
    ∙ ap (λ m. insert_entry cmp_paths m.entries c.in_ok-path.path c.add-2.new.self) c.get_mut.follows.holds-at-none in
    let change = c.add-2.ensures
    ∙ ap (λ x. with_change c.args.old.now c.args.new.now (epoch_day c.args.today) e x) c.none-changes.ensures in
    let key = c.in_ok-path.ensures.items ∙ c.as_slice-2.ensures.value in
    record {
      all = c.add.ensures;
      by_class = changed_new c.args.old.now c.args.new.now (epoch_day c.args.today) e c.as_slice.result.now es _ c.in_ok-path.path
          c.add-2.new.self c.as_slice.ensures.value missing entries key change;
    }
