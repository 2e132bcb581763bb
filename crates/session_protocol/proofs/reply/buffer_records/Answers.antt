use Rattle.std.proofs.Common.{◌<◌, length, arith}
use Rattle.std.proofs.lemmas.Bool.Decides.{nat_tests}
use Rattle.session_protocol.proofs.Listed.{records_is}
use Rattle.session_protocol.proofs.Adding.{adds_same}
use Rattle.session_protocol.proofs.reply.buffer_records.Goals as goal

pub returns : goal.returns
returns g c =
    let some : 0 < length c.args.lines.now = grind (arith, nat_tests) in adds_same (records_is c.args.lines.now some) c.buffer_list.ensures
