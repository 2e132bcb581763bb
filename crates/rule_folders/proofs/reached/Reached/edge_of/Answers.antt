use Rattle.std.proofs.Common.{◌≡◌, [], None, option_map, string_bytes, sym, ap, ◌∙◌, subst}
use Rattle.rule_folders.specs.Includes.{include_of}
use Rattle.rule_folders.specs.Reached.{HasInclude, IsMissingAt}
use Rattle.rule_folders.specs.Reading.{Entry, octets}
use Rattle.rule_folders.proofs.Walking.{goes_none}
use Rattle.rule_folders.proofs.reached.Reached.edge_of.Goals as goal

pub returns-in_default-path : goal.returns-in_default-path
returns-in_default-path g c =
    let place = g.S.Scripts.place c.args.scripts.now in
    let i = include_of c.args.included.now in
    let none : None ≡ place i.name i.is_global = sym (ap (option_map string_bytes) c.in_default-path.is) ∙ c.in-Ok.ensures in (
      [],
      subst (λ o. IsMissingAt place o i.is_global []) none tt,
      goes_none g.S.Scripts.made g.S.Scripts.place c.args.scripts.now c.args.self.now
          (λ (s : Entry). HasInclude (octets s) i),
    )
