use Rattle.std.proofs.Common.{◌∙◌, sym, ap, map, rules}
use Rattle.class_plan.specs.Plans.{Listing, IsPlan}
use Rattle.class_plan.specs.Texts.{text_of}
use Rattle.record_tables.specs.CodeRows.{pair_of, class_entry_of}
use Rattle.record_rows.specs.Texts.{HasTexts}
use Rattle.record_adoption.specs.Adoption.{first_pairs}
use Rattle.record_adoption.proofs.AdoptReads.{refused}
use Rattle.record_adoption.proofs.AdoptPlan.{one_text}
use Rattle.record_adoption.proofs.AdoptSettled.{same_text}
use Rattle.record_adoption.proofs.text_rows.plan_in_texts.Goals.{In-Some}
use Rattle.record_adoption.proofs.text_rows.plan_in_texts.Goals as goal

-- the plan that is found has these texts, and is valid
texts_of : (c : In-Some) → HasTexts c.in-Some.plan c.as_slice-2.result.now (map class_entry_of c.as_slice-3.result.now)
texts_of c = rw c.in-Some.is at c.in_ok-plan.ensures.plan

is_plan : (c : In-Some) → IsPlan c.in-Some.plan
is_plan c = search rules

pub returns-in_err-root-clause-none : goal.returns-in_err-root-clause-none
returns-in_err-root-clause-none c is = λ (q : Listing) plan tells.
    c.in_err-root.ensures.none (refused c.from_residual.ensures.1 is) (text_of q.root)
    (ap (map pair_of) c.as_slice.ensures.value ∙ tells.settings)

pub returns-in-Some-clause-plan : goal.returns-in-Some-clause-plan
returns-in-Some-clause-plan c = λ (q : Listing) is tells.
    let at = goal.at.returns-in-Some-clause-plan c in
    let root = same_text _ _ (sym c.in_ok-root.ensures.root ∙ ap (map pair_of) c.as_slice.ensures.value ∙ tells.settings) in
    let other : HasTexts q c.as_slice-2.result.now (map class_entry_of c.as_slice-3.result.now) =
    record {
      same_root = sym (c.as_slice-2.ensures.value ∙ root);
      same_classes = sym (ap (map class_entry_of) c.as_slice-3.ensures.value ∙ tells.classes);
    } in
    one_text c.in-Some.plan q _ _ (is_plan at.In-Some) is (texts_of at.In-Some) other

pub returns-in-Some-clause-sound : goal.returns-in-Some-clause-sound
returns-in-Some-clause-sound c =
    let at = goal.at.returns-in-Some-clause-sound c in
    let has = texts_of at.In-Some in (
      is_plan at.In-Some,
      record {
        settings = sym (ap (map pair_of) c.as_slice.ensures.value) ∙ c.in_ok-root.ensures.root
            ∙ ap first_pairs (sym (has.same_root ∙ c.as_slice-2.ensures.value));
        classes = sym (has.same_classes ∙ ap (map class_entry_of) c.as_slice-3.ensures.value);
      },
    )
