use Rattle.std.proofs.Common.{◌∙◌, ◌&&◌, ap}
use Rattle.cli_history.specs.Findings.{is_open_at}
use Rattle.cli_history.specs.Reasons.{ends}
use Rattle.cli_history.specs.declared.findings.Findings.{Findings}
use Rattle.cli_history.proofs.OpeningLemmas.{refused_else, refused_restated}
use Rattle.cli_history.proofs.restating.is_refused.Goals as goal

pub returns-then-ready : goal.returns-then-ready
returns-then-ready g c =
    let ready = c.args.ready.now in
    c.ends.ensures ∙ refused_restated (ends c.args.purpose) ready.is_restated (is_open_at ready.replayed.findings.stage) c.if-ready.true

pub returns : goal.returns
returns g c =
    let ready = c.args.ready.now in
    c.blocks-2.ensures.stage ∙ ap (λ (f : Findings). ends c.args.purpose && is_open_at f.stage) c.findings.ensures
    ∙ refused_else (ends c.args.purpose) ready.is_restated (is_open_at ready.replayed.findings.stage) c.if-ready.false
