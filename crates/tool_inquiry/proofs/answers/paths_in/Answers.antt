use Rattle.std.proofs.Common.{◌∙◌, map, ap}
use Rattle.std.proofs.lemmas.Map.Iter.{rest_all}
use Rattle.std.specs.Map.Iter.{deref}
use Rattle.mail_case.specs.Message.{is_among}
use Rattle.tool_inquiry.proofs.PathLemmas.{among_all}
use Rattle.tool_inquiry.proofs.answers.paths_in.Goals as goal

pub returns : goal.returns
returns c =
    let rest = rest_all deref c.loop-path.path-iterator c.next.new.self c.next.result c.in-None.is c.next.ensures.steps in
    let all = rw rest at c.loop-path.invariant.kept in
    ap is_among all ∙ among_all (map (λ v. v.items) c.args.opened.now.keys)
