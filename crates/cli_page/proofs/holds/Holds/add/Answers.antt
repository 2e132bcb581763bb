use Rattle.std.proofs.Common.{◌++◌, ◌∷◌, [], sym, ap, ◌∙◌}
use Rattle.std.proofs.lemmas.Result.{on_ok_weaker}
use Rattle.std.specs.Option.{option_copied_mut}
use Rattle.std.specs.BTreeMap.{insert_entry}
use Rattle.cli_page.specs.KeptNumbers.{numbers_of}
use Rattle.cli_page.proofs.HoldLemmas.{cmp_names, kept_there, kept_new}
use Rattle.cli_page.proofs.holds.Holds.add.Goals as goal

pub returns-in-Some : goal.returns-in-Some
returns-in-Some c =
    let es = c.args.self.now.holds.entries in
    let found = sym c.get_mut.ensures.value ∙ ap option_copied_mut c.in-Some.is in
    on_ok_weaker c.push_number.result (λ more.
    kept_there c.args.name.now (c.args.volume, c.args.number) es _ c.in-Some.stretches.now c.push_number.new.stretches
    found (c.get_mut.follows.holds c.push_number.new.stretches).0 more) c.push_number.ensures

pub returns : goal.returns
returns c =
    let es = c.args.self.now.holds.entries in
    let missing = sym c.get_mut.ensures.value ∙ ap option_copied_mut c.in_default.is in
    let entries = c.in_ok-insert.ensures.entries
    ∙ ap (λ m. insert_entry cmp_names m.entries c.in_ok-name.name c.push_number-2.new.stretches) c.get_mut.follows.holds-at-none in
    let one = c.in_ok-push_number.ensures ∙ ap (λ ss. numbers_of ss ++ (c.args.volume, c.args.number) ∷ []) c.new-stretches.ensures.items in
    kept_new c.args.name.now (c.args.volume, c.args.number) es _ c.in_ok-name.name c.push_number-2.new.stretches missing entries
    c.in_ok-name.ensures.items one
