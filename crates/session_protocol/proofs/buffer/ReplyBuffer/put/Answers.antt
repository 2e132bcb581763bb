use Rattle.std.proofs.Common.{◌≡◌, ◌+◌, ◌≤◌, ◌++◌, ◌∙◌, ap, arith, length, sym}
use Rattle.std.proofs.lemmas.Grind.{common_steps}
use Rattle.std.proofs.lemmas.Slice.{take-put_mid}
use Rattle.session_protocol.proofs.buffer.ReplyBuffer.put.Goals as goal

pub returns-clause-added : goal.returns-clause-added
returns-clause-added c =
    let octets = c.self.inside.octets in
    let len = c.self.inside.len in
    let put = c.copy_from_slice.new.self in
    let copied : put ≡ c.args.octets.now = grind (arith, common_steps) in
    let size : len + length c.args.octets.now ≡ len + length put = ap (λ s. len + length s) (sym copied) in
    let within : len ≤ length octets = grind (arith, common_steps) in
    take-put_mid len _ octets put _ size within ∙ ap (λ s. s ++ put) c.self.view_is ∙ ap (λ s. c.args.self.now ++ s) copied
