use Rattle.std.proofs.Common.{◌≡◌, subst, rules}
use Rattle.sqlite.specs.Tree.{Trees}
use Rattle.sqlite.specs.Effect.{Database}
use Rattle.sqlite.specs.State.{HasCleanDisk, Survives}
use Rattle.sqlite.specs.Held.{state}
use Rattle.record_tables.proofs.Loops.{survives_good}
use Rattle.record_tables.proofs.transact.transact.Goals as goal

pub returns-clause-crash : goal.returns-clause-crash
returns-clause-crash g c =
    let old = c.args.conn.now in
    let begun = c.transaction-tx.ensures.begun in
    let last = c.make.new.tx.conn.now in
    let Good = λ (db : Database). g.C.Change.makes c.args.change (state g.S.Store old).now db in
    let ran : HasCleanDisk (state g.S.Store last) → Good (state g.S.Store last).now = λ clean.
    rw begun at (c.in_ok-make.ensures.ok clean (rw begun)) in
    let whole = survives_good g.S.Store old last c.commit.new.self.0 Good ran (rw begun at c.make.ensures.survives) c.commit.ensures.survives in
    let same : c.commit.new.self.0 ≡ c.conn-2-1.given.0 = search rules in
    subst (λ h. Survives (state g.S.Store old) (state g.S.Store h) (λ (trees : Trees). (db : Database) × Good db × (trees ≡ db.trees))) same whole

pub returns-in_err-commit-clause-crash : goal.returns-in_err-commit-clause-crash
returns-in_err-commit-clause-crash g c =
    let old = c.args.conn.now in
    let begun = c.transaction-tx.ensures.begun in
    let last = c.make.new.tx.conn.now in
    let Good = λ (db : Database). g.C.Change.makes c.args.change (state g.S.Store old).now db in
    let ran : HasCleanDisk (state g.S.Store last) → Good (state g.S.Store last).now = λ clean.
    rw begun at (c.in_ok-make.ensures.ok clean (rw begun)) in
    let whole = survives_good g.S.Store old last c.commit.new.self.0 Good ran (rw begun at c.make.ensures.survives) c.commit.ensures.survives in
    let same : c.commit.new.self.0 ≡ c.conn-2-1.given.0 = search rules in
    subst (λ h. Survives (state g.S.Store old) (state g.S.Store h) (λ (trees : Trees). (db : Database) × Good db × (trees ≡ db.trees))) same whole
