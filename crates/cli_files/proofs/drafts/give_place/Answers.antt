use Rattle.std.proofs.Common.{◌≡◌, ◌∙◌, [], ◌∷◌, ap, refl}
use Rattle.record_places.specs.Calls.{Makes, link, log_of, remove, settle}
use Rattle.cli_files.specs.Making.{placing}
use Rattle.cli_files.proofs.CallLemmas.{after, begins_late, begins_none, begins_one, none, on_err, on_ok, one, so}
use Rattle.cli_files.proofs.drafts.give_place.Goals as goal

pub returns-in_err-judge_place-clause-tries : goal.returns-in_err-judge_place-clause-tries
returns-in_err-judge_place-clause-tries g c =
    let made = g.F.FileSystem.made in
    on_err c.from_residual.result _
    (so made _ _ _ _ (none made _) (begins_none _ _))

pub returns-in_err-log-clause-tries : goal.returns-in_err-log-clause-tries
returns-in_err-log-clause-tries g c =
    let made = g.F.FileSystem.made in
    on_err c.from_residual-in_err-log.result _
    (so made _ _ _ _ (none made _) (begins_none _ _))

pub returns-in_err-hard_link-clause-tries : goal.returns-in_err-hard_link-clause-tries
returns-in_err-hard_link-clause-tries g c =
    let made = g.F.FileSystem.made in
    on_err c.from_residual-in_err-hard_link.result _
    (so made _ _ _ _ (one made _ _ _ c.hard_link.ensures.made) (begins_one _ _ _))

pub returns-in_err-remove-clause-tries : goal.returns-in_err-remove-clause-tries
returns-in_err-remove-clause-tries g c =
    let made = g.F.FileSystem.made in
    let draft = c.args.draft.now in
    let path = c.args.path.now in
    let same : c.as_str.result.now ≡ log_of draft = c.as_str.ensures.value ∙ c.in_ok-log.ensures in
    on_err c.from_residual-in_err-remove.result _
    (so made _ _ _ _
    (after made _ _ _ _ _ _ (one made _ _ _ c.hard_link.ensures.made)
    (after made _ _ _ _ _ _ (one made _ _ _ c.remove.ensures.made) (one made _ _ _ c.remove-2.ensures.made) refl)
    (ap (λ log. link draft path ∷ remove log ∷ remove draft ∷ []) same))
    (begins_late _ _ (settle path ∷ []) _ refl
    (c.remove-2.ensures.kept path (c.remove.ensures.kept path c.in_ok-hard_link.ensures.named))))

pub returns-clause-places : goal.returns-clause-places
returns-clause-places g c =
    let made = g.F.FileSystem.made in
    let draft = c.args.draft.now in
    let path = c.args.path.now in
    let same : c.as_str.result.now ≡ log_of draft = c.as_str.ensures.value ∙ c.in_ok-log.ensures in
    on_ok c.map_err.result _
    (after made _ _ _ _ _ _ (one made _ _ _ c.hard_link.ensures.made)
    (after made _ _ _ _ _ _ (one made _ _ _ c.remove.ensures.made)
    (after made _ _ _ _ _ _ (one made _ _ _ c.remove-2.ensures.made) (one made _ _ _ c.settle.ensures.made) refl) refl)
    (ap (λ log. link draft path ∷ remove log ∷ remove draft ∷ settle path ∷ []) same))

pub returns-clause-tries : goal.returns-clause-tries
returns-clause-tries g c =
    let made = g.F.FileSystem.made in
    let draft = c.args.draft.now in
    let path = c.args.path.now in
    let same : c.as_str.result.now ≡ log_of draft = c.as_str.ensures.value ∙ c.in_ok-log.ensures in
    on_err c.map_err.result _
    (so made _ _ _ _
    (after made _ _ _ _ _ _ (one made _ _ _ c.hard_link.ensures.made)
    (after made _ _ _ _ _ _ (one made _ _ _ c.remove.ensures.made)
    (after made _ _ _ _ _ _ (one made _ _ _ c.remove-2.ensures.made) (one made _ _ _ c.settle.ensures.made) refl) refl)
    (ap (λ log. link draft path ∷ remove log ∷ remove draft ∷ settle path ∷ []) same))
    (begins_late _ _ [] _ refl
    (c.settle.ensures.kept path (c.remove-2.ensures.kept path (c.remove.ensures.kept path c.in_ok-hard_link.ensures.named)))))
