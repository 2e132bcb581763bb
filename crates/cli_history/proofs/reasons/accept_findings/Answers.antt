use Rattle.std.proofs.Common.{◌∙◌, ℕ, List, sym}
use Rattle.std.proofs.lemmas.Result.{IfOk-weaker}
use Rattle.sqlite.specs.State.{HasCleanDisk}
use Rattle.sqlite.specs.Held.{state}
use Rattle.record_archive.specs.Archive.{Archive}
use Rattle.record_noted.specs.Histories.{StandsWith}
use Rattle.cli_history.specs.Acceptances.{Accepts, AcceptsNext}
use Rattle.cli_history.proofs.OpeningLemmas.{accepts}
use Rattle.cli_history.proofs.reasons.accept_findings.Goals as goal

pub returns-in-Ok-clause-accepts : goal.returns-in-Ok-clause-accepts
returns-in-Ok-clause-accepts g c =
    let author = c.args.author.now in
    let store = c.into_store.result in
    IfOk-weaker c.accept_next-done.result (AcceptsNext g.S.Store author c.in-Ok.ready c.accept_next-done.new.ready)
    (λ number. HasCleanDisk (state g.S.Store store.conn) → (a : Archive) → (ls : List (List ℕ)) → StandsWith g.S.Store c.args.noted a ls
    → Accepts g.S.Store author store a ls number)
    (λ number next clean (a : Archive) (ls : List (List ℕ)) stands.
    accepts g.S.Store author c.args.noted c.in-Ok.ready c.accept_next-done.new.ready store number c.in-Ok.ensures.ready next c.into_store.ensures
    clean a ls stands) c.accept_next-done.ensures.accepts

pub returns-in-Ok-clause-named : goal.returns-in-Ok-clause-named
returns-in-Ok-clause-named g c = λ none. absurd (let e = sym none ∙ c.in-Ok.ensures.ready.has_name in cc)
