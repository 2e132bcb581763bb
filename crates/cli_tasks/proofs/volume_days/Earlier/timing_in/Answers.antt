use Rattle.std.proofs.Common.{◌≡◌, ◌∙◌, ap, false, sym, true, ℕ}
use Rattle.std.proofs.lemmas.Result.{IfOk-weaker}
use Rattle.cli_changes.specs.declared.moments.Timing.{Timing}
use Rattle.cli_tasks.specs.Days.{LooksBack, looks_back}
use Rattle.cli_tasks.proofs.volume_days.Earlier.timing_in.Goals as goal

pub returns-then-looks_back-clause-back : goal.returns-then-looks_back-clause-back
returns-then-looks_back-clause-back g c =
    let volumes = c.args.self.now.volumes in
    let Back = LooksBack g.A.Kept.Store (g.A.Archives.is_at c.args.self.now.archives.now) volumes.folder.now volumes.last c.args.timing in
    IfOk-weaker c.looked_back.result Back (λ (looked : Timing). looks_back c.args.archive.now.next c.args.timing ≡ true → Back looked)
    (λ looked shown asked. shown) c.looked_back.ensures

pub returns-then-looks_back-clause-same : goal.returns-then-looks_back-clause-same
returns-then-looks_back-clause-same g c =
    let volumes = c.args.self.now.volumes in
    let timing = c.args.timing in
    let Back = LooksBack g.A.Kept.Store (g.A.Archives.is_at c.args.self.now.archives.now) volumes.folder.now volumes.last timing in
    let is : looks_back c.args.archive.now.next timing ≡ true =
    sym (c.looks_back.ensures ∙ ap (λ (n : ℕ). looks_back n timing) c.next_number.ensures.value) ∙ c.if-looks_back.true in
    IfOk-weaker c.looked_back.result Back
    (λ (looked : Timing). looks_back c.args.archive.now.next timing ≡ false → looked ≡ timing)
    (λ looked shown other. let no : true ≡ false = sym is ∙ other in absurd cc) c.looked_back.ensures

pub returns-clause-back : goal.returns-clause-back
returns-clause-back g c =
    let timing = c.args.timing in
    let is : looks_back c.args.archive.now.next timing ≡ false =
    sym (c.looks_back.ensures ∙ ap (λ (n : ℕ). looks_back n timing) c.next_number.ensures.value) ∙ c.if-looks_back.false in
    λ yes. let no : false ≡ true = sym is ∙ yes in absurd cc
