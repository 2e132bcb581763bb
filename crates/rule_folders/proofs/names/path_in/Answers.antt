use Rattle.std.proofs.Common.{◌≡◌, ℕ, Bool, true, false, cond, ◌&&◌, List, Option, Some, None, refl, sym, ap, ◌∙◌, rules}
use Rattle.std.proofs.lemmas.Bool.{false_from_ne_true}
use Rattle.std.proofs.lemmas.Str.{IsUtf8-from_is_utf8, is_utf8-from_IsUtf8}
use Rattle.std.specs.Str.{is_utf8}
use Rattle.rule_folders.specs.Names.{is_name_of_script}
use Rattle.rule_folders.specs.Paths.{path_under, without_slash}
use Rattle.rule_folders.proofs.names.path_in.Goals as goal

both : (a b : Bool) (x : Option (List ℕ)) → a ≡ true → b ≡ true → cond (a && b) x None ≡ x
both true true x e f = refl
both true false x e f = absurd cc
both false b x e f = absurd cc

not_both : (a b : Bool) (x : Option (List ℕ)) → b ≡ false → cond (a && b) x None ≡ None
not_both true true x e = absurd cc
not_both true false x e = refl
not_both false b x e = refl

pub returns-in_ok-join-in-Ok : goal.returns-in_ok-join-in-Ok
returns-in_ok-join-in-Ok c =
    let name = c.args.name.now in
    let folder = c.args.folder.now in
    let named : is_name_of_script name ≡ true = search rules in
    let same : c.in-Ok.name.now ≡ name = search rules in
    let text : is_utf8 name ≡ true = is_utf8-from_IsUtf8 name (search rules) in
    ap (λ p. Some p)
    (c.in_ok-join-in-Ok.ensures ∙ ap (λ f. path_under f c.in-Ok.name.now) c.without_slash.ensures ∙ ap (path_under (without_slash folder)) same)
    ∙ sym (both (is_name_of_script name) (is_utf8 name) (Some (path_under (without_slash folder) name)) named text)

pub returns-in-Err : goal.returns-in-Err
returns-in-Err c =
    let name = c.args.name.now in
    let no : is_utf8 name ≡ true → ⊥ = λ e. c.in-Err.ensures.cases.0 (IsUtf8-from_is_utf8 name e) in
    sym (not_both (is_name_of_script name) (is_utf8 name) (Some (path_under (without_slash c.args.folder.now) name))
    (false_from_ne_true (is_utf8 name) no))
