use Rattle.std.proofs.lemmas.Grind.{common_steps}
use Rattle.std.proofs.Common.{arith, rules, ◌≡◌, ◌∷◌, [], ◌++◌, Some, None, cond, length, map, string_bytes, sym, ap, ◌∙◌, subst}
use Rattle.std.proofs.lemmas.List.{map_push}
use Rattle.std.proofs.lemmas.Map.Text.{btree_map_updates_text}
use Rattle.std.specs.BTreeMap.{get_by_text}
use Rattle.std.specs.Str.{bytes_eq}
use Rattle.rule_folders.specs.Reading.{entry_of, number_at}
use Rattle.rule_folders.proofs.Numbers.{number_more}
use Rattle.rule_folders.proofs.reached.Reached.add.Goals as goal

pub invariant_of-self-in-Ok : goal.invariant_of-self-in-Ok
invariant_of-self-in-Ok c = λ path.
    let es = map entry_of c.self.inside.scripts.items in
    let key = string_bytes c.in_ok-path.path in
    let same : key ≡ string_bytes c.args.script.path = search rules in
    let number : c.len-number.result ≡ length es = grind (arith, common_steps) in
    let pushed : map entry_of c.push.new.self.items ≡ es ++ entry_of c.args.script ∷ [] =
    ap (map entry_of) c.in_ok-push.ensures.items ∙ map_push entry_of c.self.inside.scripts.items c.args.script in
    let new : number_at (string_bytes c.args.script.path) es ≡ None =
    subst (λ l. number_at (string_bytes c.args.script.path) l ≡ None) (sym c.self.view_is) c.requires in
    btree_map_updates_text key c.self.inside.numbers c.insert.new.self (Some c.len-number.result) c.in-Ok.ensures.updates path
    ∙ ap (λ l. cond (bytes_eq l path) (Some c.len-number.result) (get_by_text c.self.inside.numbers path)) same
    ∙ ap (λ n. cond (bytes_eq (string_bytes c.args.script.path) path) (Some n) (get_by_text c.self.inside.numbers path)) number
    ∙ ap (cond (bytes_eq (string_bytes c.args.script.path) path) (Some (length es))) (c.self.invariant path)
    ∙ sym (number_more es (entry_of c.args.script) path new)
    ∙ ap (number_at path) (sym pushed)
