use Rattle.std.proofs.Common.{◌≡◌, sym, ap, ◌∙◌}
use Rattle.std.specs.Option.{option_copied_mut}
use Rattle.desk_officers.specs.declared.profile.Profile.{Profile}
use Rattle.std.specs.BTreeMap.{insert_entry}
use Rattle.desk_officers.specs.Register.{officer_of}
use Rattle.desk_officers.proofs.ProfileLemmas.{cmp_names, found_is, missing_is, changed_there, changed_new, program_set}
use Rattle.desk_officers.proofs.profiles.set.Goals as goal

pub returns-in-Some-clause-ok : goal.returns-in-Some-clause-ok
returns-in-Some-clause-ok c =
    let es = c.args.profiles.now.entries in
    let found = sym c.get_mut.ensures.value ∙ ap option_copied_mut c.in-Some.is in
    let has = program_set c.in-Some.profile.now c.set.new.self _ c.args.active
    (found_is c.args.officer.now es c.in-Some.profile.now found) c.set.ensures in
    changed_there c.args.officer.now es _ c.in-Some.profile.now c.set.new.self _ found
    (c.get_mut.follows.holds c.set.new.self).0 (ap (λ (p : Profile). p.kept) c.set.ensures) has

pub returns-clause-ok : goal.returns-clause-ok
returns-clause-ok c =
    let es = c.args.profiles.now.entries in
    let missing = missing_is c.args.officer.now es (sym c.get_mut.ensures.value ∙ ap option_copied_mut c.in_default.is) in
    let is = missing ∙ sym (ap officer_of c.new-profile.ensures.settings) in
    let has = program_set c.new-profile.result c.set-2.new.self _ c.args.active is c.set-2.ensures in
    let entries = c.in_ok-insert.ensures.entries
    ∙ ap (λ m. insert_entry cmp_names m.entries c.in_ok-officer.officer c.set-2.new.self)
    c.get_mut.follows.holds-at-none in
    changed_new c.args.officer.now es _ c.in_ok-officer.officer c.set-2.new.self _ c.in_ok-officer.ensures.items entries
    (ap (λ (p : Profile). p.kept) c.set-2.ensures) has
