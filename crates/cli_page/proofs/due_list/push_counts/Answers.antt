use Rattle.std.proofs.Common.{◌++◌, ◌∙◌, ap, ℕ, codes, decimal, length}
use Rattle.std.specs.List.{count_by}
use Rattle.cli_page.specs.DueLists.{counts, free_words, is_free}
use Rattle.cli_page.proofs.PushLemmas.{pushed_3}
use Rattle.cli_page.proofs.due_list.push_counts.Goals as goal

pub returns : goal.returns
unfolding counts
returns c =
    let items = c.args.items.now in
    pushed_3 c.args.page.now c.markup.new.self c.number.new.self c.push_free.new.page
    (codes "<p>Records: ") (decimal (length items)) (free_words (count_by is_free items))
    c.in_ok-markup.ensures c.in_ok-number.ensures
    (c.in_ok-push_free.ensures ∙ ap (λ (n : ℕ). c.number.new.self ++ free_words n) c.free_count.ensures)
