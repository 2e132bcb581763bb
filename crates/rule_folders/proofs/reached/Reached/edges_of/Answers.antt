use Rattle.std.proofs.Common.{◌≡◌, Some, map, subst, IfSome}
use Rattle.std.proofs.lemmas.Result.{IfOk-weaker}
use Rattle.std.specs.List.{Contains, slice_get}
use Rattle.rule_folders.specs.Includes.{Leads, include_of}
use Rattle.tool_findings.specs.Commands.{Include}
use Rattle.rule_folders.specs.Reading.{Entry, octets}
use Rattle.rule_folders.specs.Reached.{AreEdges, HasInclude}
use Rattle.rule_folders.proofs.Walking.{goes_for}
use Rattle.rule_folders.proofs.reached.Reached.edges_of.Goals as goal

pub returns : goal.returns
returns g c =
    let place = g.S.Scripts.place c.args.scripts.now in
    let items = map include_of c.in-Ok.includes.items in
    let es = c.args.self.now in
    let leads = λ (s : Entry) (at : slice_get es c.args.script ≡ Some s).
    subst (λ t. Leads t items) (subst (λ o. IfSome o (λ (e : Entry). c.text.result.now ≡ octets e)) at c.text.ensures) c.in-Ok.ensures in
    let given = c.as_slice.ensures.value in
    IfOk-weaker c.edges_among.result _ _ (λ edges h. (
      h.0,
      λ s at. (items, leads s at, subst (λ l. AreEdges place h.0 c.edges_among.new.self (map include_of l) edges.items) given h.1),
      goes_for g.S.Scripts.made g.S.Scripts.place c.args.scripts.now c.edges_among.new.scripts es c.edges_among.new.self
          (λ (s : Entry). (i : Include) → Contains (map include_of c.as_slice.result.now) i → HasInclude (octets s) i)
          (λ (s : Entry). slice_get es c.args.script ≡ Some s) h.0 h.2
          (λ s at _ i k. (items, leads s at, subst (λ l. Contains (map include_of l) i) given k)),
    )) c.edges_among.ensures
