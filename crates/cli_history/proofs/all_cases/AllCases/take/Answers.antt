use Rattle.std.proofs.Common.{◌∙◌, ap, option_map}
use Rattle.std.proofs.lemmas.Map.Text.{is_eq-slice_cmp}
use Rattle.cli_history.specs.AllCases.{Name, kept_view}
use Rattle.cli_history.proofs.all_cases.AllCases.take.Goals as goal

pub returns-clause-taken : goal.returns-clause-taken
returns-clause-taken c = ap (option_map kept_view) c.remove.ensures.value

pub returns-clause-others : goal.returns-clause-others
returns-clause-others c = λ (n : Name) other.
    ap (option_map kept_view) (c.remove.ensures.updates.2 n (is_eq-slice_cmp c.args.name.now n.items ∙ other))
