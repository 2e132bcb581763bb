use Rattle.std.proofs.Common.{◌∙◌, Some, map, sym, ap, subst, rules}
use Rattle.std.specs.List.{AllByRecursion}
use Rattle.mail_intake.specs.Telling.{IsPlain, entries_of, fields_of}
use Rattle.mail_intake.proofs.Kept.{entries_plain, fields_kept, fields_plain, first_of, others_all, others_of, some_of, some_same}
use Rattle.mail_intake.proofs.memory.parsed.Goals as goal

pub returns-in_default-clause-only : goal.returns-in_default-clause-only
returns-in_default-clause-only c = λ m k.
    let all = ap (map (λ f. f.now)) c.as_slice.ensures.value ∙ c.in_ok-fields.ensures ∙ ap fields_of k.1 ∙ (fields_kept m k.0).1 in
    absurd (some_of (λ f. f.now) c.as_slice.result.now _ _ all c.in_default.len_below)

pub returns-in_default-day_in-clause-only : goal.returns-in_default-day_in-clause-only
returns-in_default-day_in-clause-only c = λ m k.
    let all = ap (map (λ f. f.now)) c.as_slice.ensures.value ∙ c.in_ok-fields.ensures ∙ ap fields_of k.1 ∙ (fields_kept m k.0).1 in
    absurd (c.in_default-day_in.not-Some m.day (c.day_in.ensures m.day k.0.day (first_of (λ f. f.now) c.as_slice.result.now _ _ _ all)))

pub returns-clause-only : goal.returns-clause-only
returns-clause-only c = λ m k.
    let kept = fields_kept m k.0 in
    let all = ap (map (λ f. f.now)) c.as_slice.ensures.value ∙ c.in_ok-fields.ensures ∙ ap fields_of k.1 ∙ kept.1 in
    let day = some_same c.in-Some.day m.day
    (sym c.in-Some.is ∙ c.day_in.ensures m.day k.0.day (first_of (λ f. f.now) c.as_slice.result.now _ _ _ all)) in
    let told = c.in_ok-told.ensures ∙ ap entries_of (others_of (λ f. f.now) c.as_slice.result.now _ _ all) ∙ kept.2 in
    λ i. Some (record { day = day i; told = told i })

pub returns-clause-fit : goal.returns-clause-fit
returns-clause-fit c =
    let all = ap (map (λ f. f.now)) c.as_slice.ensures.value ∙ c.in_ok-fields.ensures in
    record {
      day = search rules;
      told = subst (AllByRecursion IsPlain) (sym c.in_ok-told.ensures)
          (entries_plain _ (others_all (λ f. f.now) c.as_slice.result.now _ all (fields_plain c.args.octets.now)));
    }
