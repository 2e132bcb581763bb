use Rattle.std.proofs.Common.{ℕ, List, subst}
use Rattle.std.specs.Prelude.{IfOk, Result}
use Rattle.sqlite.specs.State.{HasCleanDisk}
use Rattle.sqlite.specs.Held.{state}
use Rattle.record_archive.specs.Archive.{Archive}
use Rattle.record_noted.specs.Histories.{StandsWith}
use Rattle.record_store.specs.declared.store.Store.{Store}
use Rattle.cli_console.specs.declared.failure.Failure.{Failure}
use Rattle.cli_history.specs.Acceptances.{Accepts}
use Rattle.cli_tasks.proofs.HistoryLaws.{none_accepted}
use Rattle.cli_tasks.proofs.volume_beginnings.accept_noted.Goals as goal

pub returns-in-Ok : goal.returns-in-Ok
returns-in-Ok g c = λ (before : Store g.row.S.Denot) opens.
    let g' = g.S.Store in
    let noted = c.args.noted in
    let store = c.accept_findings-archive.result.0 in (
      c.in-Ok.number,
      record {
        noted = noted;
        opens = opens;
        store = store;
        accepts = subst (λ (r : Result ℕ Failure). IfOk r (λ n. HasCleanDisk (state g' store.conn) → (a : Archive) → (ls : List (List ℕ))
            → StandsWith g' noted a ls → Accepts g' c.args.author.now store a ls n)) c.in-Ok.is c.accept_findings-archive.ensures.accepts;
        left = c.into_connection.ensures;
      },
    )

pub returns-in-Err : goal.returns-in-Err
returns-in-Err g c =
    none_accepted g.S.Store c.args.author.now c.args.noted c.unless_accepted.result.0 c.unless_accepted.result.1 c.unless_accepted.ensures
