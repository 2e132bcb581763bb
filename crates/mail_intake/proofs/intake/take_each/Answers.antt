use Rattle.std.proofs.Common.{sym, subst, map, take, drop, suc, string_bytes, arith}
use Rattle.mail_intake.specs.Fates.{after_all}
use Rattle.mail_intake.specs.Intakes.{Passes}
use Rattle.mail_intake.specs.Telling.{memory_view}
use Rattle.mail_intake.proofs.Passing.{names_more, names_split, passes_more, passes_end}
use Rattle.mail_intake.proofs.intake.take_each.Goals as goal

pub returns-in-Err : goal.returns-in-Err
returns-in-Err g c =
    let made = g.M.Mailroom.made in
    let has = g.M.Mailroom.has in
    let names = c.args.names.now in
    let i = c.loop-name.name-index in
    let end = c.in-Err.ensures.ended in (
      end.0,
      end.1,
      subst (λ l. Passes made has (memory_view c.args.memory.now) c.args.day c.args.room.now c.take_one.new.room l end.0 c.loop-name.tally)
          (sym (names_split string_bytes names i c.name-item.result c.as_str.result.now c.name-item.is c.as_str.ensures.value c.loop-name-test.true))
          (passes_end made has (memory_view c.args.memory.now) c.args.day c.args.room.now c.loop-name.room c.take_one.new.room
          (map string_bytes (take i names)) (map string_bytes (drop (suc i) names)) c.as_str.result.now c.loop-name.tally end.0
          c.loop-name.invariant.passes end.2 end.3 end.4),
    )

pub loop-name-preserved : goal.loop-name-preserved
loop-name-preserved g c =
    let made = g.M.Mailroom.made in
    let has = g.M.Mailroom.has in
    let names = c.args.names.now in
    let i = c.loop-name.name-index in
    let one = c.in-Ok.ensures.taken in
    record {
      passes = subst (λ l. Passes made has (memory_view c.args.memory.now) c.args.day c.args.room.now c.take_one.new.room l after_all c.add.new.self)
          (sym (names_more string_bytes names i c.name-item.result c.as_str.result.now c.name-item.is c.as_str.ensures.value c.loop-name-test.true))
          (passes_more made has (memory_view c.args.memory.now) c.args.day c.args.room.now c.loop-name.room c.take_one.new.room
          (map string_bytes (take i names)) c.as_str.result.now c.loop-name.tally c.add.new.self one.0 c.loop-name.invariant.passes one.1 one.3 one.4
          (λ fates k. c.add.ensures.tally fates one.0 one.2 k));
      sum = omega (arith, c.add.ensures.sum, c.loop-name.invariant.sum);
    }
