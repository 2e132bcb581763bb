use Rattle.std.proofs.Common.{ap, ◌∙◌, ◌++◌}
use Rattle.std.proofs.lemmas.Result.{on_ok_weaker}
use Rattle.std.specs.Prelude.{codes}
use Rattle.cli_changes.specs.HoldLines.{named_words}
use Rattle.cli_changes.proofs.ReasonLaws.{behind}
use Rattle.cli_changes.proofs.holds.put_no_more.Goals as goal

pub returns : goal.returns
returns c =
    let line = c.args.line.now in
    let named = c.in_ok-put_named.ensures
    ∙ ap (λ n. line ++ named_words (codes "hold ") n (codes " keeps no record more: ")) c.as_bytes.ensures.value in
    on_ok_weaker c.end_line.result (behind line _ _ c.put_found.new.line c.end_line.new.self
    (behind line _ _ c.put_named.new.line c.put_found.new.line named c.in_ok-put_found.ensures)) c.end_line.ensures
