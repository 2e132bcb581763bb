use Rattle.std.specs.Prelude.{codes}
use Rattle.session_protocol.proofs.Listed.{list_is}
use Rattle.session_protocol.proofs.Adding.{adds_after, adds_same, adds_short}
use Rattle.session_protocol.proofs.reply.buffer_due_list.Goals as goal

pub returns-in_err-buffer_list : goal.returns-in_err-buffer_list
returns-in_err-buffer_list g c =
    adds_short c.from_residual.result (codes "ok\n") c.from_residual.ensures.0
    (adds_same (list_is c.args.lines.now) c.in_err-buffer_list.ensures)

pub returns : goal.returns
returns g c = adds_after (adds_same (list_is c.args.lines.now) c.in_ok-buffer_list.ensures) c.buffer_all.ensures
