use Rattle.std.proofs.Common.{◌≡◌, ◌∙◌, true, rules, sym}
use Rattle.std.proofs.lemmas.Bool.{not-true}
use Rattle.std.proofs.lemmas.Result.{IfOk-weaker}
use Rattle.record_history.specs.Events.{FindingsAccepted}
use Rattle.cli_history.specs.Acceptances.{AcceptsNext, NotesNext}
use Rattle.cli_history.specs.Findings.{is_open_at}
use Rattle.cli_history.proofs.reasons.accept_next.Goals as goal

pub returns-clause-accepts : goal.returns-clause-accepts
returns-clause-accepts g c =
    let old = c.args.ready.now in
    let new = record old { noted = c.note_next.new.noted } in
    let was_open : is_open_at old.replayed.findings.stage ≡ true = search (rules, not-true) in
    IfOk-weaker c.note_next.result (NotesNext g.S.Store c.args.author.now FindingsAccepted old.noted c.note_next.new.noted)
    (AcceptsNext g.S.Store c.args.author.now old new)
    (λ number notes. record { was_seen = c.if-ready.false; was_open = was_open; notes = notes }) c.note_next.ensures.notes

pub returns-clause-restated : goal.returns-clause-restated
returns-clause-restated g c = λ is. absurd (let e = sym c.if-ready.false ∙ is in cc)
