use Rattle.std.proofs.Common.{◌∙◌, ap, cond, Some, option_map, is_eq}
use Rattle.std.proofs.lemmas.Map.Text.{is_eq-slice_cmp}
use Rattle.std.specs.BTreeMap.{get}
use Rattle.cli_history.specs.AllCases.{kept_view}
use Rattle.cli_history.specs.Titles.{path_cmp}
use Rattle.cli_history.proofs.AllCaseLemmas.{mapped}
use Rattle.cli_history.proofs.all_cases.AllCases.keep.Goals as goal

pub returns : goal.returns
returns c = λ n.
    ap (option_map kept_view) (c.in_ok-insert.ensures.updates.0 n)
    ∙ mapped (is_eq (path_cmp c.args.name n)) c.args.kept (get path_cmp c.args.self.now.cases n)
    ∙ ap (λ b. cond b (Some (kept_view c.args.kept)) (option_map kept_view (get path_cmp c.args.self.now.cases n)))
    (is_eq-slice_cmp c.args.name.items n.items)
