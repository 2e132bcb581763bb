use Rattle.std.proofs.Common.{◌∙◌, ℕ, Option, Some, map, ap, sym, subst, arith}
use Rattle.std.proofs.lemmas.List.{nil_from_length}
use Rattle.record_noted.specs.Histories.{rows_of}
use Rattle.record_reads.specs.Events.{event_of}
use Rattle.cli_history.specs.Walks.{GoesOn, number_behind}
use Rattle.cli_history.proofs.WalkLemmas.{page_is_next, page_is_none}
use Rattle.cli_history.proofs.pages.Events.go_on.Goals as goal

pub returns-then-is_empty : goal.returns-then-is_empty
returns-then-is_empty c = λ ls n few is same. page_is_none ls n c.args.page.items same
    (nil_from_length c.args.page.items (grind (arith, c.is_empty.ensures, c.if-is_empty.true)))

pub returns : goal.returns
returns c = λ ls n few is same.
    let next = page_is_next ls n c.args.page same few (λ none. grind (arith, none, c.is_empty.ensures, c.if-is_empty.false)) in
    let behind = c.number_after-self.ensures ∙ ap (λ items. number_behind (map event_of items)) c.as_slice.ensures.value in
    subst (λ (after : Option ℕ). GoesOn (rows_of ls) (Some n) after (map event_of c.args.page.items)) (sym behind) next
