use Rattle.std.proofs.Common.{◌≡◌, ◌∙◌, [], refl}
use Rattle.record_places.specs.Calls.{log_of}
use Rattle.cli_files.proofs.CallLemmas.{after, begins_late, begins_none, made_early, none, on_err, so}
use Rattle.cli_files.proofs.archives.create_archive.Goals as goal

pub returns-in_err-log-clause-tries : goal.returns-in_err-log-clause-tries
returns-in_err-log-clause-tries g c =
    let made = g.F.FileSystem.made in
    on_err c.from_residual.result _ (so made _ _ _ _ (none made _) (begins_none _ _))

pub returns-in_err-make_file-clause-tries : goal.returns-in_err-make_file-clause-tries
returns-in_err-make_file-clause-tries g c =
    on_err c.from_residual-in_err-make_file.result _
    (so g.F.FileSystem.made _ _ _ _ c.make_file.ensures.calls (made_early c.args.path.now _ _))

pub returns-in-Ok-clause-makes : goal.returns-in-Ok-clause-makes
returns-in-Ok-clause-makes g c =
    after g.F.FileSystem.made _ _ _ _ _ _ c.in_ok-make_file.ensures.made c.fill_file.ensures.calls refl

pub returns-clause-tries : goal.returns-clause-tries
returns-clause-tries g c =
    let made = g.F.FileSystem.made in
    let path = c.args.path.now in
    let same : c.as_str.result.now ≡ log_of path = c.as_str.ensures.value ∙ c.in_ok-log.ensures in
    so made _ _ _ _
    (after made _ _ _ _ _ _ c.in_ok-make_file.ensures.made
    (after made _ _ _ _ _ _ c.fill_file.ensures.calls (c.remove_both.ensures.calls same) refl) refl)
    (begins_late _ _ [] _ refl
    (c.remove_both.ensures.kept path (c.fill_file.ensures.kept path c.in_ok-make_file.ensures.named)))
