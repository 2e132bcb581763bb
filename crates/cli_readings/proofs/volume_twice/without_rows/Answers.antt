use Rattle.std.proofs.Common.{◌≡◌, ◌∙◌, ◌++◌, ◌∷◌, [], List, ℕ, ap, append-nil, rules, subst, sym}
use Rattle.std.proofs.lemmas.List.{append_assoc}
use Rattle.command_lines.specs.declared.archives.Listing.{Listing}
use Rattle.record_archive.specs.Archive.{Archive}
use Rattle.record_store.proofs.DueLemmas.{no_items}
use Rattle.cli_readings.specs.Groups.{KeyedGroup}
use Rattle.cli_readings.specs.VolumeTwice.{HaveRows}
use Rattle.cli_readings.specs.declared.volume_twice.GroupRows.{GroupRows}
use Rattle.cli_readings.proofs.VolumeTwiceLaws.{next_group_listed}
use Rattle.cli_readings.proofs.volume_twice.without_rows.Goals as goal

pub loop-keyed-init : goal.loop-keyed-init
loop-keyed-init c = ([], λ (kept : ℕ → Archive) (l : Listing). c.new-groups.ensures.items, search rules)

pub loop-keyed-preserved : goal.loop-keyed-preserved
loop-keyed-preserved c =
    let was = c.loop-keyed.invariant in
    let done = was.0 in
    let keyed = c.in-Some.keyed in (
      done ++ keyed ∷ [],
      λ (kept : ℕ → Archive) (l : Listing).
          subst (λ (xs : List GroupRows). HaveRows kept l (done ++ keyed ∷ []) xs) (sym c.in_ok-push.ensures.items)
          (next_group_listed kept l done c.loop-keyed.groups.items keyed c.none.result c.none.ensures.keyed c.none.ensures.rows (was.1 kept l)),
      append_assoc done (keyed ∷ []) c.next.new.self.rest.items ∙ ap (λ rest. done ++ rest) (sym c.in-Some.ensures.steps.0) ∙ was.2,
    )

pub returns : goal.returns
returns c = λ (kept : ℕ → Archive) (l : Listing).
    let was = c.loop-keyed.invariant in
    let rest = c.loop-keyed.keyed-iterator.rest in
    let all : was.0 ≡ c.args.twice.items =
    sym (append-nil was.0) ∙ ap (λ r. was.0 ++ r) (sym (no_items rest.items rest.len rest.ok.0 c.in-None.ensures.steps.0)) ∙ was.2 in
    subst (λ (gs : List KeyedGroup). HaveRows kept l gs c.loop-keyed.groups.items) all (was.1 kept l)
