use Rattle.std.proofs.Common.{rules}
use Rattle.std.proofs.lemmas.Cmp.{nat_list_cmp_total}
use Rattle.std.proofs.lemmas.Result.{on_ok_weaker}
use Rattle.cli_page.specs.declared.index.Row.{Row}
use Rattle.cli_page.specs.Indexes.{sender_key}
use Rattle.cli_page.proofs.OrderLemmas.{ordered_by}
use Rattle.cli_page.proofs.index.sort_by_sender.Goals as goal

pub returns : goal.returns
returns c =
    on_ok_weaker c.sort_by.result
    (λ sorted. ordered_by nat_list_cmp_total (λ (r : Row). sender_key r.letter) c.args.rows.now.items _ c.sort_by.ensures.permutation sorted
    c.sort_by.ensures.stable (λ a r q k. search rules)) c.sort_by.ensures.sorted
