use Rattle.std.proofs.Common.{◌≡◌, ◌-◌, ◌≤◌, ◌∙◌, ap, sym, arith, drop, length}
use Rattle.std.proofs.lemmas.Grind.{common_steps}
use Rattle.session_protocol.proofs.WindowLemmas.{part_left, part_length}
use Rattle.session_protocol.proofs.window.Window.release.Goals as goal

pub returns : goal.returns
returns g c =
    let octets = c.self.inside.octets in
    let start = c.self.inside.start in
    let end = c.self.inside.end in
    let within : end ≤ length octets = grind (arith, common_steps) in
    let size : length c.args.self.now ≡ end - start = ap length (sym c.self.view_is) ∙ part_length octets start end c.self.invariant.0 within in
    let fits : c.args.count ≤ end - start = omega (arith, size) in
    part_left octets start end c.args.count fits ∙ ap (drop c.args.count) c.self.view_is
