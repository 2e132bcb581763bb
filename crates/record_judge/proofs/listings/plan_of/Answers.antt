use Rattle.std.proofs.Common.{◌≡◌, ◌∙◌, ◌⊎◌, inl, inr, map, ap, refl, sym, IsTrue}
use Rattle.class_plan.specs.Parts.{answer_row}
use Rattle.record_history.specs.Views.{listing_view}
use Rattle.record_judge.specs.declared.faults.Misdeed.TheVariants as misdeed
use Rattle.record_judge.proofs.listings.plan_of.Goals as goal

pub returns-else-branch-clause-err : goal.returns-else-branch-clause-err
returns-else-branch-clause-err c = inr (
  refl,
  λ is.
      let same = c.in-Ok.ensures.same (listing_view c.args.listing.now) is refl
      (c.in_ok-parts.ensures ∙ ap (map answer_row) c.as_slice.ensures.value) in
      let yes = c.in_ok-is_listed-in-Ok.ensures.1 same in
      let no = c.if-branch.false in
      absurd cc,
)

pub returns-in-Err : goal.returns-in-Err
returns-in-Err c =
    let rows = c.in_ok-parts.ensures ∙ ap (map answer_row) c.as_slice.ensures.value in
    record {
      ok = tt;
      err = elim c.misdeed_of.ensures.other [
        | inl h ↦ inl h
        | inr h ↦
            inr (
              h,
              λ is.
                  let memory = c.misdeed_of.ensures.memory (c.in-Err.ensures.same (listing_view c.args.listing.now) is refl rows) in
                  absurd cc,
            )
      ];
    }
