use Rattle.std.proofs.Common.{◌++◌, ◌∙◌, ap, sym, refl, ℕ, List, length, map, flat_map, option_map}
use Rattle.std.proofs.lemmas.List.{length-map}
use Rattle.std.proofs.lemmas.Result.{on_ok_weaker}
use Rattle.cli_page.specs.declared.index.Row.{Row}
use Rattle.cli_page.specs.Heads.{head_start, head_end}
use Rattle.cli_page.specs.Indexes.{choice_facts, facts, index_end, index_row, index_table_head, index_text, index_title, row_view}
use Rattle.cli_page.proofs.PushLemmas.{pushed_8}
use Rattle.cli_page.proofs.index.Index.write.Goals as goal

pub returns : goal.returns
unfolding index_text
returns c =
    let about = c.args.about.now in
    let rows = c.sort_rows.new.rows.items in
    let count = ap length c.as_slice-rows.ensures.value ∙ sym (length-map rows row_view) in
    let told = c.in_ok-push_facts.ensures
    ∙ ap (λ (n : ℕ). c.close_head.new.page ++ facts about.file.now about.moment.now n) count in
    let listed = c.in_ok-push_rows.ensures
    ∙ ap (λ (rs : List Row). c.open_table.new.page ++ flat_map index_row (map row_view rs)) c.as_slice-rows.ensures.value in
    let pushed = pushed_8 c.args.page.now c.open_head.new.page c.push_title.new.page c.close_head.new.page c.push_facts.new.page
    c.push_choice.new.page c.open_table.new.page c.push_rows.new.page c.close_table.new.page
    head_start index_title head_end (facts about.file.now about.moment.now (length (map row_view rows)))
    (choice_facts (option_map (λ b. b.now) about.conditions) about.order) (index_table_head about.histories.now)
    (flat_map index_row (map row_view rows)) index_end
    c.in_ok-open_head.ensures c.in_ok-push_title.ensures c.in_ok-close_head.ensures told c.in_ok-push_choice.ensures
    c.in_ok-open_table.ensures listed in
    on_ok_weaker c.close_table.result
    (λ last. (
      index_text about (map row_view rows),
      record { rows = rows; ordered = c.in_ok-sort_rows.ensures; is = refl },
      pushed last,
    )) c.close_table.ensures
