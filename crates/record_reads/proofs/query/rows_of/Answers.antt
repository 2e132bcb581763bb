use Rattle.std.proofs.Common.{arith, ◌≡◌, true, not, ap, ◌∙◌}
use Rattle.sqlite.specs.Held.{state}
use Rattle.record_reads.proofs.ReadLemmas.{failed_still, still_seen}
use Rattle.record_reads.proofs.Quiet.{reads_quietly, reads_nothing, looks}
use Rattle.record_reads.proofs.query.rows_of.Goals as goal

pub returns-clause-same : goal.returns-clause-same
returns-clause-same g c clean =
    reads_quietly c.args.text.now _ (state g.S.Store c.args.conn.now) (state g.S.Store c.query_all.new.self)
    c.in_ok-rows.rows.items c.requires (c.in_ok-rows.ensures.ok clean)

pub returns-clause-quiet : goal.returns-clause-quiet
returns-clause-quiet g c idle clean is_open = let same = returns-clause-same g c clean in (same.0.was_open, same.0.now_is)

pub returns-in_err-rows-clause-quiet : goal.returns-in_err-rows-clause-quiet
returns-in_err-rows-clause-quiet g c idle clean is_open =
    let result : c.is_autocommit-settled.result ≡ true = c.is_autocommit-settled.ensures.value ∙ ap not idle in
    still_seen (state g.S.Store c.args.conn.now) (state g.S.Store c.query_all.new.self)
    (c.is_autocommit-settled.ensures.settled result)
    (failed_still c.args.text.now _ (state g.S.Store c.args.conn.now) (state g.S.Store c.query_all.new.self) _
    (c.in_err-rows.ensures.err clean)) is_open

pub returns-clause-was_open : goal.returns-clause-was_open
returns-clause-was_open g c clean = (returns-clause-same g c clean).0.was_open

pub returns-clause-falls : goal.returns-clause-falls
returns-clause-falls g c clean = omega (arith, c.query_all.ensures.survives.clean, clean)

pub returns-in_err-rows-clause-falls : goal.returns-in_err-rows-clause-falls
returns-in_err-rows-clause-falls g c clean = omega (arith, c.query_all.ensures.survives.clean, clean)

pub returns-clause-survives : goal.returns-clause-survives
returns-clause-survives g c =
    reads_nothing c.args.text.now _ (state g.S.Store c.args.conn.now) (state g.S.Store c.query_all.new.self) c.requires
    c.query_all.ensures.survives

pub returns-in_err-rows-clause-survives : goal.returns-in_err-rows-clause-survives
returns-in_err-rows-clause-survives g c =
    reads_nothing c.args.text.now _ (state g.S.Store c.args.conn.now) (state g.S.Store c.query_all.new.self) c.requires
    c.query_all.ensures.survives

pub returns-clause-looks : goal.returns-clause-looks
returns-clause-looks g c =
    looks g.S.Store c.args.conn.now c.query_all.new.self c.query_all.ensures.mode (returns-clause-falls g c) (returns-clause-quiet g c)
    (returns-clause-survives g c)

pub returns-in_err-rows-clause-looks : goal.returns-in_err-rows-clause-looks
returns-in_err-rows-clause-looks g c =
    looks g.S.Store c.args.conn.now c.query_all.new.self c.query_all.ensures.mode (returns-in_err-rows-clause-falls g c)
    (returns-in_err-rows-clause-quiet g c) (returns-in_err-rows-clause-survives g c)
