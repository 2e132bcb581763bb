use Rattle.std.proofs.Common.{◌≡◌, ◌∙◌, sym, ap, subst, Some, None, Option}
use Rattle.std.specs.Prelude.{IfOk, option_map}
use Rattle.sieve_meaning.specs.Program.{Commands}
use Rattle.desk_commands.specs.Pinning.{PinsChoice, script_if}
use Rattle.desk_commands.specs.Scripts.{script_at, library, meanings_of}
use Rattle.desk_officers.specs.Register.{meaning_of}
use Rattle.desk_officers.proofs.MeaningLemmas.{meaning_at}
use Rattle.desk_officers.proofs.pinned.pin_named.Goals as goal

pub returns-in-Some : goal.returns-in-Some
returns-in-Some c =
    let lib = library (meanings_of c.args.shelves.personal.now) (meanings_of c.args.shelves.global.now) in
    let found : Some (meaning_of c.in-Some.script.now.script) ≡ script_at c.args.name.now (meanings_of c.args.shelves.personal.now) =
    ap (option_map meaning_of) (sym (ap (option_map (λ x. x.now.script)) c.in-Some.is) ∙ c.get.ensures)
    ∙ meaning_at c.args.name.now c.args.shelves.personal.now in
    let P : Option Commands → Type 0 = λ o. IfOk c.pin_script.result (λ v. PinsChoice (script_if c.args.name.now o) lib v) in
    subst P found c.pin_script.ensures

pub returns-in-None : goal.returns-in-None
returns-in-None c =
    let lib = library (meanings_of c.args.shelves.personal.now) (meanings_of c.args.shelves.global.now) in
    let found : None ≡ script_at c.args.name.now (meanings_of c.args.shelves.personal.now) =
    ap (option_map meaning_of) (sym (ap (option_map (λ x. x.now.script)) c.in-None.is) ∙ c.get.ensures)
    ∙ meaning_at c.args.name.now c.args.shelves.personal.now in
    let P : Option Commands → Type 0 = λ o. IfOk c.pin_nothing.result (λ v. PinsChoice (script_if c.args.name.now o) lib v) in
    subst P found c.pin_nothing.ensures
