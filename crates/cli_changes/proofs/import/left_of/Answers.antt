use Rattle.std.proofs.Common.{◌≡◌, ◌∙◌, ap, arith, drop, length, min}
use Rattle.std.proofs.lemmas.List.{drop_min}
use Rattle.cli_changes.proofs.import.left_of.Goals as goal

pub returns : goal.returns
returns c =
    let most : c.min-most.result ≡ min c.args.done (length c.args.sources.now) = omega arith in
    c.split_at.ensures.back ∙ ap (λ n. drop n c.args.sources.now) most ∙ drop_min c.args.done c.args.sources.now
