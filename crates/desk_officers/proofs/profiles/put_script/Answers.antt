use Rattle.std.proofs.Common.{◌≡◌, sym, ap, ◌∙◌, rules}
use Rattle.std.specs.Option.{option_copied_mut}
use Rattle.std.specs.BTreeMap.{is_at, insert_entry}
use Rattle.std.specs.Map.{set_value}
use Rattle.std.proofs.lemmas.Map.Steps.{set_value_same}
use Rattle.desk_commands.specs.Office.{with_scripts}
use Rattle.desk_commands.specs.Pinning.{Officer}
use Rattle.desk_commands.specs.Scripts.{put_script}
use Rattle.desk_officers.specs.declared.profile.Profile.{Profile}
use Rattle.desk_officers.specs.Register.{meaning_of, officer_of}
use Rattle.desk_officers.proofs.ProfileLemmas.{cmp_names, compare, found_is, missing_is, changed_there, changed_new, on_both, on_err, room_unknown}
use Rattle.desk_officers.proofs.profiles.put_script.Goals as goal

pub returns-in-Some-clause-ok : goal.returns-in-Some-clause-ok
returns-in-Some-clause-ok c =
    let es = c.args.profiles.now.entries in
    let found = sym c.get_mut.ensures.value ∙ ap option_copied_mut c.in-Some.is in
    let main = meaning_of c.args.script.value.script in
    let is = found_is c.args.officer.now es c.in-Some.profile.now found in
    on_both c.put_script.result c.put_script.ensures.ok c.put_script.ensures.kept (λ has void.
    changed_there c.args.officer.now es _ c.in-Some.profile.now c.put_script.new.self _ found
    (c.get_mut.follows.holds c.put_script.new.self).0 void (has
    ∙ ap (λ (o : Officer). with_scripts o (put_script c.args.name.now main o.scripts)) (sym is)))

pub returns-in-Some-clause-full : goal.returns-in-Some-clause-full
returns-in-Some-clause-full c =
    let found = sym c.get_mut.ensures.value ∙ ap option_copied_mut c.in-Some.is in
    let is = found_is c.args.officer.now c.args.profiles.now.entries c.in-Some.profile.now found in
    rw is c.put_script.ensures.full

pub returns-in-Some-clause-err : goal.returns-in-Some-clause-err
returns-in-Some-clause-err c =
    let es = c.args.profiles.now.entries in
    let found = sym c.get_mut.ensures.value ∙ ap option_copied_mut c.in-Some.is in
    on_err c.put_script.result c.put_script.ensures.err (λ same.
    (c.get_mut.follows.holds c.put_script.new.self).0
    ∙ ap (λ (w : Profile). set_value (is_at (compare c.args.officer.now)) es w) same
    ∙ set_value_same (is_at (compare c.args.officer.now)) es c.in-Some.profile.now found)

pub returns-in_err-put_script-clause-full : goal.returns-in_err-put_script-clause-full
returns-in_err-put_script-clause-full c =
    let missing = missing_is c.args.officer.now c.args.profiles.now.entries (sym c.get_mut.ensures.value ∙ ap option_copied_mut c.in_default.is) in
    rw (missing ∙ sym (ap officer_of c.new-profile.ensures.settings)) (search rules)

pub returns-in_err-officer-clause-full : goal.returns-in_err-officer-clause-full
returns-in_err-officer-clause-full c =
    let missing = missing_is c.args.officer.now c.args.profiles.now.entries (sym c.get_mut.ensures.value ∙ ap option_copied_mut c.in_default.is) in
    (search rules, λ h. absurd (room_unknown _ c.args.name.now missing h))

pub returns-in_err-insert-clause-full : goal.returns-in_err-insert-clause-full
returns-in_err-insert-clause-full c =
    let missing = missing_is c.args.officer.now c.args.profiles.now.entries (sym c.get_mut.ensures.value ∙ ap option_copied_mut c.in_default.is) in
    (search rules, λ h. absurd (room_unknown _ c.args.name.now missing h))

pub returns-clause-ok : goal.returns-clause-ok
returns-clause-ok c =
    let es = c.args.profiles.now.entries in
    let missing = missing_is c.args.officer.now es (sym c.get_mut.ensures.value ∙ ap option_copied_mut c.in_default.is) in
    let main = meaning_of c.args.script.value.script in
    let is = missing ∙ sym (ap officer_of c.new-profile.ensures.settings) in
    let entries = c.in_ok-insert.ensures.entries
    ∙ ap (λ m. insert_entry cmp_names m.entries c.in_ok-officer.officer c.put_script-2.new.self)
    c.get_mut.follows.holds-at-none in
    changed_new c.args.officer.now es _ c.in_ok-officer.officer c.put_script-2.new.self _ c.in_ok-officer.ensures.items
    entries c.in_ok-put_script.ensures.kept
    (c.in_ok-put_script.ensures.ok ∙ ap (λ (o : Officer). with_scripts o (put_script c.args.name.now main o.scripts)) (sym is))

pub returns-clause-full : goal.returns-clause-full
returns-clause-full c =
    let missing = missing_is c.args.officer.now c.args.profiles.now.entries (sym c.get_mut.ensures.value ∙ ap option_copied_mut c.in_default.is) in
    (λ h. absurd (cc h), λ h. absurd (room_unknown _ c.args.name.now missing h))
