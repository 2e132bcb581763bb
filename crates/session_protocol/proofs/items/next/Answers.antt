use Rattle.std.proofs.Common.{◌≡◌, ap, sym, ◌∙◌, subst}
use Rattle.desk_commands.specs.Calls.{Calls}
use Rattle.session_protocol.specs.Lines.{line_of, line_as}
use Rattle.session_protocol.specs.Session.{start_of, start_by_line, start_by_request}
use Rattle.session_protocol.specs.LineRequests.{request_of, request_view}
use Rattle.session_protocol.specs.declared.lines.LineEnd.{LineEnd}
use Rattle.session_protocol.proofs.AnswerLemmas.{reacts_along}
use Rattle.session_protocol.proofs.items.next.Goals as goal

pub returns-in-Whole-clause-reaction : goal.returns-in-Whole-clause-reaction
returns-in-Whole-clause-reaction g c =
    let input = g.S.Source.left c.args.source.now in
    let text = c.read_line.new.line in
    let rest = g.S.Source.left c.read_line.new.source in
    let L : LineEnd → Type 0 = λ end. line_of input ≡ line_as end text rest in
    let asks : request_view c.read_request.result ≡ request_of text = c.read_request.ensures ∙ ap request_of c.as_slice.ensures in
    let hears : g.S.Source.tells → start_by_request (request_view c.read_request.result) rest ≡ start_of input = λ t.
    ap (λ a. start_by_request a rest) asks ∙ ap start_by_line (sym (subst L c.in-Whole.is (c.in_ok-read_line.ensures.line t))) in
    reacts_along g.S.Source.tells (Calls g.R.Registry.keeper) c.answer.result _ _ _ _ _ hears c.answer.ensures.reaction
