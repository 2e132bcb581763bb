use Rattle.std.proofs.Common.{◌≡◌, IfOk, sym, ap, ◌∙◌, subst}
use Rattle.std.specs.Option.{option_copied_mut}
use Rattle.std.specs.BTreeMap.{is_at}
use Rattle.desk_commands.specs.Pinning.{Officer}
use Rattle.desk_commands.specs.Scripts.{meanings_of}
use Rattle.desk_officers.specs.Current.{AllKeepCurrent}
use Rattle.desk_officers.specs.Profiles.{settings_in}
use Rattle.desk_officers.specs.Register.{PinsFor}
use Rattle.desk_officers.proofs.ProfileLemmas.{Entries, compare, found_is, missing_is, found_keeps, set_keeps, set_same}
use Rattle.desk_officers.proofs.profiles.pin.Goals as goal

pub pin-requires : goal.pin-requires
pin-requires c =
    let found = sym c.get_mut.ensures.value ∙ ap option_copied_mut c.in-Some.is in
    found_keeps c.args.edition c.args.globals.now (is_at (compare c.args.officer.now)) c.args.profiles.now.entries
    c.in-Some.profile.now c.requires found

pub returns-in-Some-clause-pinned : goal.returns-in-Some-clause-pinned
returns-in-Some-clause-pinned c =
    let found = sym c.get_mut.ensures.value ∙ ap option_copied_mut c.in-Some.is in
    subst (λ (o : Officer). IfOk c.pin.result (λ v. PinsFor o (meanings_of c.args.globals.now) v.value))
    (sym (found_is c.args.officer.now c.args.profiles.now.entries c.in-Some.profile.now found)) c.pin.ensures.pinned

pub returns-in-Some-clause-images : goal.returns-in-Some-clause-images
returns-in-Some-clause-images c =
    subst (λ (es : Entries). AllKeepCurrent c.args.edition c.args.globals.now es) (sym (c.get_mut.follows.holds c.pin.new.self).0)
    (set_keeps c.args.edition c.args.globals.now (is_at (compare c.args.officer.now)) c.args.profiles.now.entries
    c.pin.new.self c.requires c.pin.ensures.current)

pub returns-in-Some-clause-settings : goal.returns-in-Some-clause-settings
returns-in-Some-clause-settings c =
    let found = sym c.get_mut.ensures.value ∙ ap option_copied_mut c.in-Some.is in
    ap settings_in (c.get_mut.follows.holds c.pin.new.self).0
    ∙ set_same (is_at (compare c.args.officer.now)) c.args.profiles.now.entries c.in-Some.profile.now c.pin.new.self
    found c.pin.ensures.settings

pub returns-clause-pinned : goal.returns-clause-pinned
returns-clause-pinned c =
    let missing = missing_is c.args.officer.now c.args.profiles.now.entries (sym c.get_mut.ensures.value ∙ ap option_copied_mut c.in_default.is) in
    subst (λ (o : Officer). PinsFor o (meanings_of c.args.globals.now) c.in_ok-image-2.image.value) (sym missing)
    (c.in_ok-image-2.ensures.ok ∙ c.in_ok-image.ensures)
