use Rattle.mail_intake.specs.Calls.{cause_of}
use Rattle.mail_import.proofs.Taken.{breaks_filed, on_err_by, on_ok_by, takes_filed, takes_unread}
use Rattle.mail_import.proofs.import.take_file.Goals as goal

pub returns-in-Ok-clause-taken : goal.returns-in-Ok-clause-taken
returns-in-Ok-clause-taken g c =
    let goes = g.M.OldMailroom.goes in
    let has = g.M.OldMailroom.has in
    let none = g.met.M.OldMailroom.goes_none in
    let and_then = g.met.M.OldMailroom.goes_then in
    let terms = c.args.terms.now in
    on_ok_by _ _ c.take.result (λ t.
    takes_filed goes has none and_then terms c.args.room.now c.read.new.self c.take.new.room c.args.progress.now c.take.new.progress c.args.path.now
    c.in-Ok.octets.items t.0 c.in-Ok.ensures.call c.in-Ok.ensures.found t.1) c.take.ensures.taken

pub returns-in-Ok-clause-ended : goal.returns-in-Ok-clause-ended
returns-in-Ok-clause-ended g c =
    let goes = g.M.OldMailroom.goes in
    let has = g.M.OldMailroom.has in
    let none = g.met.M.OldMailroom.goes_none in
    let and_then = g.met.M.OldMailroom.goes_then in
    let terms = c.args.terms.now in
    on_err_by _ _ c.take.result (λ h.
    breaks_filed goes has none and_then terms c.args.room.now c.read.new.self c.take.new.room c.args.progress.now c.take.new.progress
    c.args.path.now c.in-Ok.octets.items c.in-Ok.ensures.call c.in-Ok.ensures.found h) c.take.ensures.ended

pub returns-in-Err-clause-taken : goal.returns-in-Err-clause-taken
returns-in-Err-clause-taken g c =
    let goes = g.M.OldMailroom.goes in
    let has = g.M.OldMailroom.has in
    let none = g.met.M.OldMailroom.goes_none in
    let and_then = g.met.M.OldMailroom.goes_then in
    let terms = c.args.terms.now in
    takes_unread goes has none and_then terms c.args.room.now c.read.new.self c.leave.new.room c.args.progress.now c.leave.new.progress
    c.args.path.now
    (cause_of c.in-Err.reason) c.in-Err.ensures.call c.leave.ensures.calls c.leave.ensures.tally c.leave.ensures.known
