use Rattle.std.proofs.Common.{◌≡◌, ◌<◌, ◌≤◌, ◌^◌, length, map, All, true, arith}
use Rattle.std.proofs.lemmas.Grind.{common_steps}
use Rattle.std.proofs.lemmas.List.{length-map}
use Rattle.std.proofs.lemmas.List.Elements.{All-map}
use Rattle.filing_image.specs.Program.{instruction_of, version_of, firsts_of, list_in}
use Rattle.filing_image.specs.Spelling.{last_operation}
use Rattle.filing_image.proofs.Written.{All-of_map}
use Rattle.filing_image.proofs.image.Image.of_instructions.Goals as goal

pub returns-then-not-are_short-clause-refused : goal.returns-then-not-are_short-clause-refused
returns-then-not-are_short-clause-refused c = λ _ h _.
    let short : All (λ t. length t.items < 2 ^ 16) c.args.texts.items =
    All-of_map (λ t. length t < 2 ^ 16) (λ t. t.items) c.args.texts.items h.texts in
    let t : c.are_short.result ≡ true = c.are_short.ensures.1 (rw c.deref.ensures.value short) in
    absurd (cc (t, c.if-not-are_short.true))

pub returns-then-not-are_of-clause-refused : goal.returns-then-not-are_of-clause-refused
returns-then-not-are_of-clause-refused c = λ _ _ h.
    let t : c.are_of.result ≡ true = c.are_of.ensures.1 (rw (c.version_of.ensures, c.deref-2.ensures.value) h.operations) in
    absurd (cc (t, c.if-not-are_of.true))

pub returns-in_err-code-clause-short : goal.returns-in_err-code-clause-short
returns-in_err-code-clause-short c = λ _. record {
  text_count = rw (length-map c.args.texts.items (λ t. t.items)) (grind (arith, common_steps));
  number_count = grind (arith, common_steps);
  procedure_count = rw (← c.listed-firsts.ensures) (omega arith);
  instruction_count = grind (arith, common_steps);
  texts = All-map (λ t. length t < 2 ^ 16) (λ t.
      t.items) c.args.texts.items (rw (← c.deref.ensures.value) (c.are_short.ensures.0 c.if-not-are_short.false));
}

pub invariant_of-image : goal.invariant_of-image
invariant_of-image c =
    let short : All (λ t. length t.items < 2 ^ 16) c.args.texts.items =
    rw (← c.deref.ensures.value) (c.are_short.ensures.0 c.if-not-are_short.false) in
    let few : length (firsts_of (list_in c.args.first_places)) < 2 ^ 16 = rw (← c.listed-firsts.ensures) (omega arith) in
    let small : All (λ f. f < 2 ^ 16) (firsts_of (list_in c.args.first_places)) = rw (← c.listed-firsts.ensures) c.places_fit.ensures in
    let known : All (λ i. i.op ≤ last_operation (version_of (list_in c.args.first_places))) c.args.instructions.items =
    rw (← c.version_of.ensures, ← c.deref-2.ensures.value) (c.are_of.ensures.0 c.if-not-are_of.false) in
    let same : map instruction_of c.in_ok-code.code.items ≡ c.args.instructions.items = rw (← c.deref-3.ensures.value) c.in_ok-code.ensures.made in (
      grind (arith, common_steps),
      grind (arith, common_steps),
      grind (arith, common_steps),
      short,
      grind (arith, common_steps),
      c.in_ok-code.ensures.fits,
      c.ranges.budget.fits,
      c.ranges.slots.fits,
      few,
      small,
      rw same known,
    )
