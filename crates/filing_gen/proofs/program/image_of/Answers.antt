use Rattle.std.proofs.Common.{ℕ, List, ap, subst, sym}
use Rattle.filing_image.specs.Program.{Program, list_in}
use Rattle.filing_gen.specs.Pools.{IsOnce}
use Rattle.filing_gen.specs.Adds.{IsImageOfOutput}
use Rattle.filing_gen.proofs.ImageParts.{is_image, fits_image}
use Rattle.filing_gen.proofs.program.image_of.Goals as goal

pub image_of_parts-requires : goal.image_of_parts-requires
image_of_parts-requires c =
    let texts = c.in_ok-texts in
    let numbers = c.in_ok-numbers in
    fits_image c.args.out c.args.budget c.args.slots (list_in c.args.first_places) texts.texts.items
    numbers.numbers.items _ c.shrink_to_fit.ensures.items
    texts.ensures.places numbers.ensures.places c.requires.few texts.ensures.count numbers.ensures.count texts.ensures.short c.requires.well

pub returns-clause-made : goal.returns-clause-made
returns-clause-made c =
    let texts = c.in_ok-texts in
    let numbers = c.in_ok-numbers in
    let firsts = list_in c.args.first_places in
    subst (λ (p : Program). IsImageOfOutput c.args.budget c.args.slots firsts c.args.out p) (sym c.image_of_parts.ensures)
    (is_image c.args.out c.args.budget c.args.slots firsts texts.texts.items numbers.numbers.items _
    c.shrink_to_fit.ensures.items texts.ensures.places numbers.ensures.places)

pub returns-clause-once : goal.returns-clause-once
returns-clause-once c =
    let e = c.image_of_parts.ensures in
    record {
      texts = subst (λ (l : List (List ℕ)). IsOnce l) (sym (ap (λ (q : Program). q.texts) e)) c.in_ok-texts.ensures.once;
      numbers = subst (λ (l : List ℕ). IsOnce l) (sym (ap (λ (q : Program). q.numbers) e)) c.in_ok-numbers.ensures.once;
    }
