use Rattle.std.proofs.Common.{◌≡◌, sym, ap, ◌∙◌}
use Rattle.std.specs.Option.{option_copied_mut}
use Rattle.desk_officers.specs.declared.profile.Active.TheVariants.{NoProgram}
use Rattle.desk_officers.specs.declared.profile.Profile.{Profile}
use Rattle.desk_officers.proofs.ProfileLemmas.{found_is, missing_is, changed_there, changed_not, no_program_known, program_set}
use Rattle.desk_officers.proofs.profiles.clear.Goals as goal

pub returns-in-Some : goal.returns-in-Some
returns-in-Some c =
    let es = c.args.profiles.now.entries in
    let found = sym c.get_mut.ensures.value ∙ ap option_copied_mut c.in-Some.is in
    let has = program_set c.in-Some.profile.now c.set.new.self _ NoProgram
    (found_is c.args.officer.now es c.in-Some.profile.now found) c.set.ensures in
    changed_there c.args.officer.now es _ c.in-Some.profile.now c.set.new.self _ found
    (c.get_mut.follows.holds c.set.new.self).0 (ap (λ (p : Profile). p.kept) c.set.ensures) has

pub returns-in_default : goal.returns-in_default
returns-in_default c =
    let es = c.args.profiles.now.entries in
    let missing = missing_is c.args.officer.now es (sym c.get_mut.ensures.value ∙ ap option_copied_mut c.in_default.is) in
    changed_not c.args.officer.now es _ _ (ap (λ m. m.entries) c.get_mut.follows.holds-at-none) (no_program_known _ missing)
