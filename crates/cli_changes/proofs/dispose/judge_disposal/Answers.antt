use Rattle.std.proofs.Common.{◌≡◌, ◌∙◌, ◌<◌, [], ap, length, subst, sym}
use Rattle.jiff.specs.Words.{epoch_day}
use Rattle.record_archive.specs.Archive.{Archive}
use Rattle.record_choice.specs.Disposals.{asked_list}
use Rattle.record_choice.specs.Reasons.{MayGo}
use Rattle.cli_choice.specs.Disposals.{numbers_meant}
use Rattle.cli_changes.proofs.MeantLaws.{asked_may_begin, meant_all, meant_as, meant_asked, none_may_begin, none_typed, typed_go}
use Rattle.cli_changes.proofs.SeriesLaws.{on_ok_both}
use Rattle.cli_changes.proofs.dispose.judge_disposal.Goals as goal

pub returns-in-All-clause-may_begin : goal.returns-in-All-clause-may_begin
returns-in-All-clause-may_begin g c =
    let judged = c.judge_asked.ensures in
    on_ok_both c.judge_asked.result judged.may_go judged.unaltered (λ may unaltered clean (a : Archive) s.
    let asked = c.args.asked.now in
    let day = epoch_day c.args.day in
    let now = c.meant_in.ensures.reads.stands a s in
    let read = c.in_ok-meant.ensures.told (judged.reads.falls clean) a s in
    let none = sym c.as_slice.ensures.value ∙ meant_as c.as_slice.result.now (asked_list a day []) _ _ c.in-All.is read in
    asked_may_begin c.args.seals.now asked day [] a (meant_all a day asked.numbers.items none)
    (λ all. none_typed (MayGo a day) asked.numbers.items none) (may clean a now)
    (λ refused. unaltered clean a now (c.damage_of-damage.ensures ∙ refused)))

pub returns-in-Nothing-clause-may_begin : goal.returns-in-Nothing-clause-may_begin
returns-in-Nothing-clause-may_begin g c = λ clean (a : Archive) s.
    let day = epoch_day c.args.day in
    let typed = c.as_slice.ensures.value in
    let none = meant_as c.as_slice.result.now (asked_list a day []) _ _ c.in-Nothing.is (c.in_ok-meant.ensures.told clean a s) in
    none_may_begin c.args.seals.now c.args.asked.now day a (subst (λ l. numbers_meant l (asked_list a day []) ≡ []) typed none.1)
    (subst (λ l. 0 < length l) typed none.0)

pub returns-in-Numbers-clause-may_begin : goal.returns-in-Numbers-clause-may_begin
returns-in-Numbers-clause-may_begin g c =
    let judged = c.judge_asked-in-Numbers.ensures in
    on_ok_both c.judge_asked-in-Numbers.result judged.may_go judged.unaltered (λ may unaltered clean (a : Archive) s.
    let asked = c.args.asked.now in
    let day = epoch_day c.args.day in
    let now = c.meant_in.ensures.reads.stands a s in
    let read = c.in_ok-meant.ensures.told (judged.reads.falls clean) a s in
    let meant = meant_as c.as_slice.result.now (asked_list a day []) _ _ c.in-Numbers.is read in
    let numbers = c.as_slice-in-Numbers.result.now in
    let same = c.as_slice-in-Numbers.ensures.value in
    let some = subst (λ l. 0 < length l) (sym same) meant.0 in
    let are = same ∙ meant.1 ∙ ap (λ l. numbers_meant l (asked_list a day [])) c.as_slice.ensures.value in
    asked_may_begin c.args.seals.now asked day numbers a (meant_asked a day asked.numbers.items numbers some are)
    (typed_go (MayGo a day) asked.numbers.items (asked_list a day []) numbers are) (may clean a now)
    (λ refused. unaltered clean a now (c.damage_of-damage.ensures ∙ refused)))
