use Rattle.std.proofs.Common.{◌≡◌, Some, None, sym, ap, ◌∙◌, cond}
use Rattle.std.proofs.lemmas.Result.{on_ok_weaker}
use Rattle.std.specs.BTreeMap.{get, is_at}
use Rattle.std.specs.Option.{is_some, option_copied_mut}
use Rattle.cli_readings.specs.Groups.{OwnKey, order_of}
use Rattle.cli_readings.proofs.Grouped.{added_one}
use Rattle.cli_readings.proofs.groups.Groups.add.Goals as goal

pub returns-in-Some : goal.returns-in-Some
returns-in-Some c =
    let found : get order_of c.args.self.now.groups c.args.seal ≡ Some c.in-Some.group.now =
    sym c.get_mut.ensures.value ∙ ap option_copied_mut c.in-Some.is in
    let new = ((c.get_mut.follows.holds c.add.new.self).3 (ap is_some found)).0 in
    on_ok_weaker c.add.result (λ more. added_one c.args.self.now.groups _ c.args.seal c.args.sealed _ c.add.new.self found more new) c.add.ensures

pub returns : goal.returns
returns c =
    let missing : get order_of c.args.self.now.groups c.args.seal ≡ None = sym c.get_mut.ensures.value ∙ ap option_copied_mut c.in_default.is in
    let new = λ (q : OwnKey). c.in_ok-insert.ensures.updates.0 q
    ∙ ap (λ m. cond (is_at (order_of c.args.seal) q) (Some c.of.result) (get order_of m q)) c.get_mut.follows.holds-at-none in
    added_one c.args.self.now.groups _ c.args.seal c.args.sealed None c.of.result missing c.of.ensures new
