use Rattle.std.proofs.Common.{◌≡◌, rules}
use Rattle.cli_page.specs.Counting.{counted}
use Rattle.cli_page.specs.declared.counts.Counts.{Counts}
use Rattle.cli_page.proofs.CountLemmas.{counted_one}
use Rattle.cli_page.proofs.counts.Counts.with.Goals as goal

pub returns-clause-law : goal.returns-clause-law
returns-clause-law c =
    let new : Counts = record {
      records = c.in_ok-more.field-0;
      live = c.in_ok-more-2.field-0;
      held = c.in_ok-more-3.field-0;
      destroyed = c.in_ok-more-4.field-0;
      dated = c.in_ok-more-5.field-0;
      due = c.in_ok-more-6.field-0;
    } in
    let is : new ≡ counted c.args.day c.args.self c.args.seen.now = search rules in
    λ xs h. rw is (counted_one c.args.day xs c.args.seen.now c.args.self h)
