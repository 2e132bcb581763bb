use Rattle.std.proofs.Common.{◌≡◌, ◌∙◌, ◌<◌, Bool, [], length, sym, ap, refl, subst, true}
use Rattle.std.proofs.lemmas.Result.{IfOk-weaker}
use Rattle.std.specs.Prelude.{is_ok}
use Rattle.jiff.specs.Words.{epoch_day}
use Rattle.record_archive.specs.Archive.{Archive}
use Rattle.record_choice.specs.Disposals.{asked_list}
use Rattle.record_choice.specs.Reasons.{MayGo}
use Rattle.record_ledger.specs.Ledgers.{KeptFor}
use Rattle.cli_choice.specs.Disposals.{numbers_meant}
use Rattle.cli_changes.specs.Destructions.{IsDisposalOf, are_any, damage_asked, fate_asked}
use Rattle.cli_changes.proofs.MeantLaws.{disposal_meant, meant_all, meant_as, meant_asked, meant_none, none_meant, none_typed, nothing_meant}
use Rattle.cli_changes.proofs.MeantLaws.{typed_go}
use Rattle.cli_changes.proofs.RunDisposals.{failed}
use Rattle.cli_changes.proofs.dispose.dispose_by.Goals as goal

pub returns-in_err-meant-clause-destroyed : goal.returns-in_err-meant-clause-destroyed
returns-in_err-meant-clause-destroyed g c = λ yes. (
  [],
  refl,
  λ clean (a : Archive) s.
      let seals = c.args.certificates.now.seals.now in
      let day = epoch_day c.args.day in
      subst (λ d. IsDisposalOf seals c.args.asked.now (KeptFor g.S.Store c.meant_by.new.archive.kept) day d [] a)
      (sym (failed c.from_residual.result c.from_residual.ensures.0))
      (none_meant seals c.args.asked.now (KeptFor g.S.Store c.meant_by.new.archive.kept) day a (c.meant_by.ensures.reads.stands a s)),
)

pub returns-in-All-clause-destroyed : goal.returns-in-All-clause-destroyed
returns-in-All-clause-destroyed g c = λ yes.
    let asked = c.args.asked.now in
    let day = epoch_day c.args.day in
    let fate = c.fate_of-fate.ensures ∙ ap (λ b. fate_asked b asked.is_damaged) yes in
    let these = c.dispose_of.ensures.destroyed (damage_asked asked.is_damaged) fate in (
      these.0,
      these.1,
      λ clean (a : Archive) s.
          let told = c.in_ok-meant.ensures.told (c.dispose_of.ensures.falls clean) a s in
          let none = sym c.as_slice.ensures.value ∙ meant_as c.as_slice.result.now (asked_list a day []) _ _ c.in-All.is told in
          disposal_meant c.args.certificates.now.seals.now asked (KeptFor g.S.Store c.dispose_of.new.archive.kept) day [] (is_ok c.dispose_of.result)
          these.0 a (meant_all a day asked.numbers.items none) (λ all. none_typed (MayGo a day) asked.numbers.items none)
          (these.2 clean a (c.meant_by.ensures.reads.stands a s)),
    )

pub returns-in-Nothing-clause-destroyed : goal.returns-in-Nothing-clause-destroyed
returns-in-Nothing-clause-destroyed g c = λ yes. (
  [],
  refl,
  λ clean (a : Archive) s.
      let none = meant_as c.as_slice.result.now (asked_list a (epoch_day c.args.day) []) _ _ c.in-Nothing.is (c.in_ok-meant.ensures.told clean a s) in
      let typed = c.as_slice.ensures.value in
      nothing_meant c.args.certificates.now.seals.now c.args.asked.now (KeptFor g.S.Store c.meant_by.new.archive.kept) (epoch_day c.args.day)
      true a (subst (λ l. numbers_meant l (asked_list a (epoch_day c.args.day) []) ≡ []) typed none.1)
      (subst (λ l. 0 < length l) typed none.0) (c.meant_by.ensures.reads.stands a s),
)

pub returns-in-Numbers-clause-destroyed : goal.returns-in-Numbers-clause-destroyed
returns-in-Numbers-clause-destroyed g c = λ yes.
    let asked = c.args.asked.now in
    let day = epoch_day c.args.day in
    let fate = c.fate_of-fate.ensures ∙ ap (λ b. fate_asked b asked.is_damaged) yes in
    let these = c.dispose_of-in-Numbers.ensures.destroyed (damage_asked asked.is_damaged) fate in (
      these.0,
      these.1,
      λ clean (a : Archive) s.
          let read = c.in_ok-meant.ensures.told (c.dispose_of-in-Numbers.ensures.falls clean) a s in
          let told = meant_as c.as_slice.result.now (asked_list a day []) _ _ c.in-Numbers.is read in
          let numbers = c.as_slice-in-Numbers.result.now in
          let same = c.as_slice-in-Numbers.ensures.value in
          let some = subst (λ l. 0 < length l) (sym same) told.0 in
          let are = same ∙ told.1 ∙ ap (λ l. numbers_meant l (asked_list a day [])) c.as_slice.ensures.value in
          disposal_meant c.args.certificates.now.seals.now asked (KeptFor g.S.Store c.dispose_of-in-Numbers.new.archive.kept) day numbers
          (is_ok c.dispose_of-in-Numbers.result) these.0 a (meant_asked a day asked.numbers.items numbers some are)
          (typed_go (MayGo a day) asked.numbers.items (asked_list a day []) numbers are)
          (these.2 clean a (c.meant_by.ensures.reads.stands a s)),
    )

pub returns-in-All-clause-any : goal.returns-in-All-clause-any
returns-in-All-clause-any g c =
    IfOk-weaker c.dispose_of.result _ _ (λ (is_any : Bool) told clean (a : Archive) s.
    let day = epoch_day c.args.day in
    let read = c.in_ok-meant.ensures.told (c.dispose_of.ensures.falls clean) a s in
    let none = sym c.as_slice.ensures.value ∙ meant_as c.as_slice.result.now (asked_list a day []) _ _ c.in-All.is read in
    told clean a (c.meant_by.ensures.reads.stands a s) ∙ ap are_any (meant_all a day c.args.asked.now.numbers.items none))
    c.dispose_of.ensures.any

pub returns-in-Nothing-clause-any : goal.returns-in-Nothing-clause-any
returns-in-Nothing-clause-any g c = λ clean (a : Archive) s.
    let day = epoch_day c.args.day in
    let typed = c.as_slice.ensures.value in
    let none = meant_as c.as_slice.result.now (asked_list a day []) _ _ c.in-Nothing.is (c.in_ok-meant.ensures.told clean a s) in
    sym (ap are_any (meant_none a day c.args.asked.now.numbers.items
    (subst (λ l. numbers_meant l (asked_list a day []) ≡ []) typed none.1) (subst (λ l. 0 < length l) typed none.0)))

pub returns-in-Numbers-clause-any : goal.returns-in-Numbers-clause-any
returns-in-Numbers-clause-any g c =
    IfOk-weaker c.dispose_of-in-Numbers.result _ _ (λ (is_any : Bool) told clean (a : Archive) s.
    let asked = c.args.asked.now in
    let day = epoch_day c.args.day in
    let read = c.in_ok-meant.ensures.told (c.dispose_of-in-Numbers.ensures.falls clean) a s in
    let meant = meant_as c.as_slice.result.now (asked_list a day []) _ _ c.in-Numbers.is read in
    let numbers = c.as_slice-in-Numbers.result.now in
    let same = c.as_slice-in-Numbers.ensures.value in
    let some = subst (λ l. 0 < length l) (sym same) meant.0 in
    let are = same ∙ meant.1 ∙ ap (λ l. numbers_meant l (asked_list a day [])) c.as_slice.ensures.value in
    told clean a (c.meant_by.ensures.reads.stands a s) ∙ ap are_any (meant_asked a day asked.numbers.items numbers some are))
    c.dispose_of-in-Numbers.ensures.any
