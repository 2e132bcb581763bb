use Rattle.std.proofs.Common.{◌≡◌, ◌∙◌, Ok, ap, subst}
use Rattle.cli_files.specs.Making.{draft_of}
use Rattle.cli_files.proofs.drafts.draft_for.Goals as goal

pub returns-clause-unfinished : goal.returns-clause-unfinished
returns-clause-unfinished g c =
    let same : c.as_str.result.now ≡ draft_of c.args.path.now = c.as_str.ensures.value ∙ c.in_ok-draft.ensures.ok in
    subst (g.F.FileSystem.lacks c.args.files.now) same (c.is_there.ensures (c.in_ok-is_there.was ∙ ap (λ b. Ok b) c.if-branch.false))
