use Rattle.std.proofs.Common.{◌-◌, Option, refl, subst, sym, ℕ}
use Rattle.std.proofs.lemmas.Result.{IfOk-weaker}
use Rattle.cli_changes.specs.declared.import_rounds.ImportRounds.{ImportRounds}
use Rattle.cli_tasks.specs.Captured.{KnowsVolumes}
use Rattle.cli_tasks.specs.Imports.{KnowsBefore}
use Rattle.cli_tasks.proofs.imports.know_before.Goals as goal

pub returns-in_ok-named-in-Some : goal.returns-in_ok-named-in-Some
returns-in_ok-named-in-Some g c =
    let IsAt = g.A.Archives.is_at c.args.archives.now in
    let store = c.args.store.now in
    let officer = c.as_str-officer.result.now in
    let volume = c.in-Some.volume in
    IfOk-weaker c.know_volumes.result
    (λ (known : ImportRounds). KnowsVolumes g.A.Kept.Store IsAt store officer c.args.from (volume - c.args.from) c.args.rounds known)
    (λ (known : ImportRounds). KnowsBefore g.A.Kept.Store IsAt store c.args.from c.args.volume c.args.rounds known)
    (λ known knows. subst (λ (o : Option ℕ). KnowsBefore g.A.Kept.Store IsAt store c.args.from o c.args.rounds known) (sym c.in-Some.is)
    (officer, knows)) c.know_volumes.ensures

pub returns-in-None : goal.returns-in-None
returns-in-None g c =
    subst (λ (o : Option ℕ). KnowsBefore g.A.Kept.Store (g.A.Archives.is_at c.args.archives.now) c.args.store.now c.args.from o c.args.rounds
    c.args.rounds) (sym c.in-None.is) refl
