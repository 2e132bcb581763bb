use Rattle.std.proofs.Common.{◌∙◌, ap, cond, Some, option_map, is_eq}
use Rattle.std.proofs.lemmas.Map.Text.{is_eq-slice_cmp}
use Rattle.std.specs.BTreeMap.{get}
use Rattle.cli_history.specs.Titles.{path_cmp, title_view}
use Rattle.cli_history.proofs.TitleLemmas.{mapped}
use Rattle.cli_history.proofs.titles.Titles.keep.Goals as goal

pub returns : goal.returns
returns c = λ p.
    ap (option_map title_view) (c.in_ok-insert.ensures.updates.0 p)
    ∙ mapped (is_eq (path_cmp c.args.path p)) c.args.kept (get path_cmp c.args.self.now.titles p)
    ∙ ap (λ b. cond b (Some (title_view c.args.kept)) (option_map title_view (get path_cmp c.args.self.now.titles p)))
    (is_eq-slice_cmp c.args.path.items p.items)
