use Rattle.std.proofs.Common.{◌≡◌, ◌++◌, ◌∷◌, [], List, ℕ, ap, ap₂, append-nil, ◌∙◌, rules, subst, sym}
use Rattle.command_lines.specs.declared.archives.Listing.{Listing}
use Rattle.record_archive.specs.Archive.{Archive}
use Rattle.record_store.proofs.DueLemmas.{no_items}
use Rattle.cli_readings.specs.Groups.{KeyedGroup}
use Rattle.cli_readings.specs.VolumeTwice.{HaveRows}
use Rattle.cli_readings.specs.declared.volume_twice.GroupRows.{GroupRows}
use Rattle.cli_readings.proofs.VolumeTwiceLaws.{group_kept}
use Rattle.cli_readings.proofs.volume_twice.TwiceList.add_volume.Goals as goal

pub loop-group-init : goal.loop-group-init
loop-group-init g c =
    let none : c.new-added.result.items ≡ [] = c.new-added.ensures.items in
    let all : c.into_iter-group-iterator.result.rest.items ≡ c.args.self.groups.items = search rules in
    let same : c.args.self.groups.items ≡ c.new-added.result.items ++ c.into_iter-group-iterator.result.rest.items =
    sym (ap₂ (λ (xs ys : List GroupRows). xs ++ ys) none all) in
    record {
      reads = search rules;
      kept = λ clean (kept : ℕ → Archive) s (gs : List KeyedGroup) had.
          subst (λ (xs : List GroupRows). HaveRows kept c.args.self.listing gs xs) same had;
    }

pub loop-group-preserved : goal.loop-group-preserved
loop-group-preserved g c = record {
  reads = search rules;
  kept = λ clean (kept : ℕ → Archive) s (gs : List KeyedGroup) had.
      let asked = c.args.self.listing in
      let v = c.args.volume in
      let before = c.add_rows.ensures.reads.falls clean in
      let keeps = c.in_ok-more.ensures.kept clean kept (c.loop-group.invariant.reads.stands (kept v) s) in
      let rest = c.next.new.self.rest.items in
      let done = c.loop-group.added.items in
      let was = subst (λ (xs : List GroupRows). HaveRows kept asked gs (done ++ xs)) c.in-Some.ensures.steps.0
      (c.loop-group.invariant.kept before kept s gs had) in
      subst (λ (xs : List GroupRows). HaveRows kept asked gs (xs ++ rest)) (sym c.in_ok-push.ensures.items)
      (group_kept kept asked gs done c.in-Some.group c.in_ok-more.more rest keeps was);
}

pub returns-clause-added : goal.returns-clause-added
returns-clause-added g c = λ clean (kept : ℕ → Archive) s (l : Listing) (gs : List KeyedGroup) had.
    let rest = c.loop-group.group-iterator.rest in
    let done = c.loop-group.added.items in
    let none : rest.items ≡ [] = no_items rest.items rest.len rest.ok.0 c.in-None.ensures.steps.0 in
    let rows = c.loop-group.invariant.kept clean kept s gs
    (subst (λ (k : Listing). HaveRows kept k gs c.args.self.groups.items) (sym had.listing) had.rows) in record {
      listing = had.listing;
      rows = subst (λ (k : Listing). HaveRows kept k gs done) had.listing
          (subst (HaveRows kept c.args.self.listing gs) (ap (λ xs. done ++ xs) none ∙ append-nil done) rows);
    }
