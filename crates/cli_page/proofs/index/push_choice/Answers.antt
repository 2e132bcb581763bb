use Rattle.std.proofs.Common.{◌++◌, ◌∙◌, ap, ℕ, List, codes, option_map}
use Rattle.cli_page.specs.Indexes.{choice_facts, condition_words, order_words}
use Rattle.cli_page.proofs.PushLemmas.{pushed_5}
use Rattle.cli_page.proofs.index.push_choice.Goals as goal

pub returns : goal.returns
unfolding choice_facts
returns c =
    pushed_5 c.args.page.now c.markup.new.self c.push_conditions.new.page c.markup-2.new.self c.markup-3.new.self c.markup-4.new.self
    (codes "</dd>\n<dt>Conditions</dt><dd>") (condition_words (option_map (λ b. b.now) c.args.conditions))
    (codes "</dd>\n<dt>Order</dt><dd>") (order_words c.args.order) (codes "</dd>\n</dl>\n</header>\n<main>\n")
    c.in_ok-markup.ensures c.in_ok-push_conditions.ensures c.in_ok-markup-2.ensures
    (c.in_ok-markup-3.ensures ∙ ap (λ (ws : List ℕ). c.markup-2.new.self ++ ws) c.order_words.ensures)
    c.in_ok-markup-4.ensures
