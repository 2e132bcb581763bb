use Rattle.std.proofs.Common.{◌≡◌, is_some, sym, ap, ◌∙◌}
use Rattle.std.specs.Option.{option_copied}
use Rattle.desk_commands.specs.Pinning.{Officer}
use Rattle.desk_commands.specs.Scripts.{script_at}
use Rattle.desk_officers.proofs.ProfileLemmas.{found_is, missing_is, some_map, has_named}
use Rattle.desk_officers.proofs.profiles.has_script.Goals as goal

pub returns-in-Some : goal.returns-in-Some
returns-in-Some c =
    let found = found_is c.args.officer.now c.args.profiles.now.entries c.in-Some.profile.now (sym c.get.ensures.value
    ∙ ap option_copied c.in-Some.is) in
    c.is_some.ensures ∙ sym (some_map (λ x. x.now.script) c.get-in-Some.result) ∙ ap is_some c.get-in-Some.ensures
    ∙ has_named c.args.name.now c.in-Some.profile.now.scripts
    ∙ ap (λ (o : Officer). is_some (script_at c.args.name.now o.scripts)) (sym found)

pub returns-in-None : goal.returns-in-None
returns-in-None c =
    let missing = missing_is c.args.officer.now c.args.profiles.now.entries (sym c.get.ensures.value ∙ ap option_copied c.in-None.is) in
    ap (λ (o : Officer). is_some (script_at c.args.name.now o.scripts)) (sym missing)
