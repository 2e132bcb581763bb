use Rattle.std.proofs.Common.{◌≡◌, ◌∙◌, arith, rules, refl, sym, ap, subst, length, get_or, Err}
use Rattle.std.proofs.lemmas.List.{length-map}
use Rattle.sqlite.specs.Effect.{Database}
use Rattle.sqlite.specs.Held.{state}
use Rattle.record_archive.specs.Archive.{Message}
use Rattle.record_tables.specs.Rows.{Tables, Stores}
use Rattle.record_tables.proofs.Loops.{get_or_any}
use Rattle.record_copy.proofs.CauseLemmas.{handed_on}
use Rattle.record_copy.proofs.LookLemmas.{looks_itself, looks_then, kept_then}
use Rattle.record_copy.proofs.NewRowsLemmas.{messages_next, none_yet_messages, body_there}
use Rattle.record_copy.proofs.messages.copy_messages.Goals as goal

pub loop-number-init : goal.loop-number-init
loop-number-init g c = record {
  same_reference = refl;
  looks = looks_itself g.S.Store c.args.from.now;
  kept = λ clean has. refl;
  puts = λ clean s stored keyed same clean_to inside. none_yet_messages (state g.T.Store c.args.tx.now.conn.now);
  survives = search rules;
}

pub loop-number-preserved : goal.loop-number-preserved
loop-number-preserved g c =
    let was = c.loop-number.invariant in
    let old = state g.T.Store c.args.tx.now.conn.now in
    let mid = state g.T.Store c.loop-number.tx.conn.now in
    let new = state g.T.Store c.copy_message.new.tx.conn.now in
    let first = c.args.from.now in
    let before = c.loop-number.from in
    let after = c.copy_message.new.from in
    record {
      same_reference = cc;
      looks = looks_then g.S.Store first before after was.looks was.kept c.copy_message.ensures.looks;
      kept = kept_then g.S.Store first before after was.kept c.copy_message.ensures.looks.falls c.in_ok-copy_message.ensures.kept;
      puts = λ clean (s : Tables) stored keyed same clean_to inside.
          let back = c.copy_message.ensures.looks.falls clean in
          let one = was.puts back s stored keyed same (omega (arith, c.copy_message.ensures.survives.clean)) inside in
          let there = subst (λ (db : Database). Stores db s) (sym (was.kept back stored.schema)) stored in
          let long : length c.args.numbers.now ≡ length s.messages = ap length same ∙ length-map s.messages (λ (m : Message). m.number) in
          messages_next old mid new s.messages c.args.numbers.now (get_or c.args.numbers.now c.loop-number.number-index 0)
          c.loop-number.number-index keyed.messages same (omega (arith, long, c.loop-number-test.true))
          (get_or_any c.args.numbers.now c.loop-number.number-index 0 _ c.loop-number-test.true) one
          (λ body found. c.in_ok-copy_message.ensures.copied clean s there keyed body found clean_to (one.mode ∙ inside));
      survives = search rules;
    }

pub returns-in_err-copy_message-clause-lost : goal.returns-in_err-copy_message-clause-lost
returns-in_err-copy_message-clause-lost g c clean is = λ (s : Tables) stored keyed same.
    let was = c.loop-number.invariant in
    let back = c.copy_message.ensures.looks.falls clean in
    let there = subst (λ (db : Database). Stores db s) (sym (was.kept back stored.schema)) stored in
    let long : length c.args.numbers.now ≡ length s.messages = ap length same ∙ length-map s.messages (λ (m : Message). m.number) in
    let e = handed_on c.from_residual.result c.in_err-copy_message.field-0.0 c.from_residual.ensures.1 is in
    body_there s.messages c.args.numbers.now (get_or c.args.numbers.now c.loop-number.number-index 0) c.loop-number.number-index
    keyed.messages same (omega (arith, long, c.loop-number-test.true))
    (get_or_any c.args.numbers.now c.loop-number.number-index 0 _ c.loop-number-test.true)
    (c.in_err-copy_message.ensures.lost clean (ap Err e) s there keyed)

pub returns-in_err-copy_message-clause-looks : goal.returns-in_err-copy_message-clause-looks
returns-in_err-copy_message-clause-looks g c =
    let was = c.loop-number.invariant in
    looks_then g.S.Store c.args.from.now c.loop-number.from c.copy_message.new.from was.looks was.kept c.copy_message.ensures.looks
