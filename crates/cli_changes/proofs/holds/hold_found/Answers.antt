use Rattle.std.proofs.Common.{◌≡◌, ◌∙◌, [], Bool, ap, not, subst, sym}
use Rattle.record_archive.specs.Archive.{Archive}
use Rattle.record_ledger.specs.Ledgers.{keeper_of, kept_archive}
use Rattle.cli_console.proofs.Noted.{has_singles}
use Rattle.cli_console.specs.Finds.{HasSingles, found_ahead, found_in, missing_of}
use Rattle.cli_changes.specs.Holdings.{changed_numbers, changed_on, hold_command, meant_numbers}
use Rattle.cli_changes.specs.Series.{IsTriedOn, StopsIn}
use Rattle.cli_changes.proofs.ChangeLaws.{all_first, hold_as, hold_changes, hold_stops, none_changed}
use Rattle.cli_changes.proofs.HoldLaws.{hold_is_each}
use Rattle.cli_changes.proofs.LookingLaws.{none_missing}
use Rattle.cli_changes.proofs.SeriesLaws.{on_err, or_first}
use Rattle.cli_changes.proofs.holds.hold_found.Given.{Over}
use Rattle.cli_changes.proofs.holds.hold_found.Goals.{After-as_slice-2, In_ok-changed}
use Rattle.cli_changes.proofs.holds.hold_found.Goals as goal

-- the numbers that are handed on are those that are meant of what is found
numbers_are : (g : Over) (c : After-as_slice-2 g) → (keeper_of g.S.Store).clean c.meant_of.new.archive → (a : Archive)
    → (keeper_of g.S.Store).stands c.args.archive.now a
    → c.as_slice-2.result.now ≡ meant_numbers c.args.hold.now.change c.args.hold.now.name.now c.args.choice.now.numbers.items
    (found_in c.args.choice.now c.args.questions.now a)
numbers_are g c clean a s =
    let meant = meant_numbers c.args.hold.now.change c.args.hold.now.name.now in
    c.as_slice-2.ensures.value ∙ c.in_ok-meant.ensures.meant clean a s
    ∙ ap (λ t. meant t (found_ahead c.in_ok-search.search a)) c.as_slice.ensures.value
    ∙ ap (meant c.args.choice.now.numbers.items) (c.in_ok-search.ensures.found a (kept_archive g.S.Store c.args.archive.now.kept a s))

-- the change was tried on all of them
tried : (g : Over) (c : In_ok-changed g) → (keeper_of g.S.Store).clean c.change_each.new.archive → (a : Archive)
    → (keeper_of g.S.Store).stands c.args.archive.now a
    → IsTriedOn ((keeper_of g.S.Store).stands c.change_each.new.archive) (hold_command c.args.hold.now.change c.args.hold.now.name.now)
    (meant_numbers c.args.hold.now.change c.args.hold.now.name.now c.args.choice.now.numbers.items
    (found_in c.args.choice.now c.args.questions.now a)) a c.in_ok-changed.changed.is_any c.in_ok-changed.changed.is_refused
tried g c clean a s =
    subst (λ ns. IsTriedOn ((keeper_of g.S.Store).stands c.change_each.new.archive)
    (hold_command c.args.hold.now.change c.args.hold.now.name.now) ns a
    c.in_ok-changed.changed.is_any c.in_ok-changed.changed.is_refused)
    (numbers_are g (goal.at.In_ok-changed g c).After-as_slice-2 (c.change_each.ensures.falls clean) a s)
    (c.in_ok-changed.ensures.tried clean a (c.meant_of.ensures.reads.stands a s))

-- so all that are meant are changed
changed : (g : Over) (c : In_ok-changed g) → (keeper_of g.S.Store).clean c.change_each.new.archive → (a : Archive)
    → (keeper_of g.S.Store).stands c.args.archive.now a
    → (keeper_of g.S.Store).stands c.change_each.new.archive
    (changed_on c.args.hold.now.change c.args.hold.now.name.now
    (changed_numbers c.args.hold.now.change c.args.hold.now.name.now (found_in c.args.choice.now c.args.questions.now a)) a)
changed g c clean a s =
    hold_changes ((keeper_of g.S.Store).stands c.change_each.new.archive) a (kept_archive g.S.Store c.args.archive.now.kept a s)
    c.args.hold.now.change c.args.hold.now.name.now c.args.choice.now c.args.questions.now c.in_ok-changed.changed.is_any
    c.in_ok-changed.changed.is_refused (tried g c clean a s)

-- and each number that is typed by itself is found, where none is missing
each_found : (g : Over) (c : In_ok-changed g) → missing_of c.meant_of.new.search ≡ [] → (keeper_of g.S.Store).clean c.change_each.new.archive
    → (a : Archive) → (keeper_of g.S.Store).stands c.args.archive.now a
    → HasSingles c.args.choice.now.numbers.items (found_in c.args.choice.now c.args.questions.now a)
each_found g c none clean a s =
    has_singles c.args.choice.now (found_in c.args.choice.now c.args.questions.now a) c.in_ok-search.search c.meant_of.new.search a
    c.in_ok-search.ensures.typed c.in_ok-search.ensures.none
    (c.in_ok-search.ensures.found a (kept_archive g.S.Store c.args.archive.now.kept a s))
    (c.in_ok-meant.ensures.ended (c.change_each.ensures.falls clean) a s) none

pub returns-clause-done : goal.returns-clause-done
returns-clause-done g c = λ clean (a : Archive) s.
    let at = (goal.at.returns-clause-done g c).In_ok-changed in
    let then = c.end_in.ensures.reads.falls clean in
    let hold = c.args.hold.now in
    let refused = c.in_ok-changed.changed.is_refused in
    let all = c.in_ok-is_all_found.is_all_found in
    let missing = missing_of c.meant_of.new.search in
    let made = changed_on hold.change hold.name.now in
    let numbers = changed_numbers hold.change hold.name.now (found_in c.args.choice.now c.args.questions.now a) in (
      c.end_in.ensures.reads.stands (made numbers a) (changed g at then a s),
      hold_as ((keeper_of g.S.Store).stands c.change_each.new.archive) a (kept_archive g.S.Store c.args.archive.now.kept a s) hold.change
          hold.name.now c.args.choice.now c.args.questions.now
          (record {
            changed = c.with_missing.result;
            passed = c.in_ok-meant.meant.passed;
            destroyed = c.in_ok-meant.meant.destroyed;
          }) refused (λ none. or_first refused (not all) (sym c.with_missing.ensures.refused ∙ none))
          (subst (λ (any : Bool). IsTriedOn ((keeper_of g.S.Store).stands c.change_each.new.archive)
          (hold_command hold.change hold.name.now)
          (meant_numbers hold.change hold.name.now c.args.choice.now.numbers.items (found_in c.args.choice.now c.args.questions.now a)) a
          any refused) (sym c.with_missing.ensures.any) (tried g at then a s))
          (λ none. each_found g at (none_missing refused all c.with_missing.result.is_refused missing c.with_missing.ensures.refused none
          (c.in_ok-is_all_found.ensures missing c.end_in.ensures.found)) then a s),
    )

pub returns-in_err-is_all_found-clause-failed : goal.returns-in_err-is_all_found-clause-failed
returns-in_err-is_all_found-clause-failed g c =
    let at = (goal.at.returns-in_err-is_all_found-clause-failed g c).In_ok-changed in
    on_err c.from_residual-in_err-is_all_found.result _ (λ clean (a : Archive) s.
    let hold = c.args.hold.now in
    let made = changed_on hold.change hold.name.now in
    let numbers = changed_numbers hold.change hold.name.now (found_in c.args.choice.now c.args.questions.now a) in
    all_first ((keeper_of g.S.Store).stands c.end_in.new.archive) made numbers a
    (c.end_in.ensures.reads.stands (made numbers a) (changed g at (c.end_in.ensures.reads.falls clean) a s)))

pub returns-in_err-changed-clause-failed : goal.returns-in_err-changed-clause-failed
returns-in_err-changed-clause-failed g c =
    let at = (goal.at.returns-in_err-changed-clause-failed g c).After-as_slice-2 in
    on_err c.from_residual-in_err-changed.result _ (λ clean (a : Archive) s.
    hold_stops ((keeper_of g.S.Store).stands c.change_each.new.archive) a (kept_archive g.S.Store c.args.archive.now.kept a s)
    c.args.hold.now.change c.args.hold.now.name.now c.args.choice.now c.args.questions.now
    (subst (λ ns. StopsIn ((keeper_of g.S.Store).stands c.change_each.new.archive)
    (hold_command c.args.hold.now.change c.args.hold.now.name.now) ns a)
    (numbers_are g at (c.change_each.ensures.falls clean) a s)
    (c.in_err-changed.ensures.stopped clean a (c.meant_of.ensures.reads.stands a s))))

pub returns-in_err-meant-clause-failed : goal.returns-in_err-meant-clause-failed
returns-in_err-meant-clause-failed g c =
    on_err c.from_residual-in_err-meant.result _ (λ clean (a : Archive) s.
    let hold = c.args.hold.now in
    none_changed ((keeper_of g.S.Store).stands c.meant_of.new.archive) (hold_command hold.change hold.name.now)
    (changed_on hold.change hold.name.now) (hold_is_each hold.change hold.name.now)
    (changed_numbers hold.change hold.name.now (found_in c.args.choice.now c.args.questions.now a)) a (c.meant_of.ensures.reads.stands a s))

pub returns-in_err-search-clause-failed : goal.returns-in_err-search-clause-failed
returns-in_err-search-clause-failed g c =
    on_err c.from_residual.result _ (λ clean (a : Archive) s.
    let hold = c.args.hold.now in
    none_changed ((keeper_of g.S.Store).stands c.args.archive.now) (hold_command hold.change hold.name.now)
    (changed_on hold.change hold.name.now) (hold_is_each hold.change hold.name.now)
    (changed_numbers hold.change hold.name.now (found_in c.args.choice.now c.args.questions.now a)) a s)
