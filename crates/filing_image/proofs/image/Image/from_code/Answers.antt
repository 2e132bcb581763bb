use Rattle.std.proofs.Common.{◌≡◌, ◌<◌, ◌≤◌, ◌^◌, length, All, true, refl, arith}
use Rattle.std.proofs.lemmas.Grind.{common_steps}
use Rattle.std.proofs.lemmas.List.Elements.{All-map}
use Rattle.filing_image.specs.Program.{instruction_of, version_of, firsts_of, list_in}
use Rattle.filing_image.specs.Spelling.{FitsInstruction, last_operation}
use Rattle.filing_image.proofs.Written.{All-of_map}
use Rattle.filing_image.proofs.image.Image.from_code.Goals as goal

pub returns-then-has_long-clause-refused : goal.returns-then-has_long-clause-refused
returns-then-has_long-clause-refused c = (
  refl,
  λ h _. c.has_long.ensures.long c.if-has_long.true
      (rw c.deref.ensures.value (All-of_map (λ t. length t < 2 ^ 16) (λ t. t.items) c.args.texts.items h.texts)),
)

pub returns-then-not-has-clause-refused : goal.returns-then-not-has-clause-refused
returns-then-not-has-clause-refused c = (
  refl,
  λ _ h.
      let of_version : All (λ o. (instruction_of o).op ≤ last_operation (version_of (list_in c.args.first_places)))
      c.args.code.items = All-of_map (λ i. i.op ≤ last_operation (version_of (list_in c.args.first_places)))
      instruction_of c.args.code.items h in
      let t : c.has.result ≡ true = c.has.ensures.1 (rw (c.version_of.ensures, c.deref-2.ensures.value) of_version) in
      absurd (cc (t, c.if-not-has.true)),
)

pub invariant_of-result : goal.invariant_of-result
invariant_of-result c =
    let short : All (λ t. length t.items < 2 ^ 16) c.args.texts.items = rw (← c.deref.ensures.value) (c.has_long.ensures.short c.if-has_long.false) in
    let fit = All-map FitsInstruction instruction_of c.args.code.items (rw (← c.deref-3.ensures.value) c.all_fit.ensures) in
    let few : length (firsts_of (list_in c.args.first_places)) < 2 ^ 16 = rw (← c.listed-firsts.ensures) (omega arith) in
    let small : All (λ f. f < 2 ^ 16) (firsts_of (list_in c.args.first_places)) = rw (← c.listed-firsts.ensures) c.places_fit.ensures in
    let of_version : All (λ o. (instruction_of o).op ≤ last_operation (version_of (list_in c.args.first_places)))
    c.args.code.items = rw (
      ← c.version_of.ensures,
      ← c.deref-2.ensures.value,
    ) (c.has.ensures.0 c.if-not-has.false) in
    let known = All-map (λ i. i.op ≤ last_operation (version_of (list_in c.args.first_places))) instruction_of c.args.code.items of_version in (
      grind (arith, common_steps),
      grind (arith, common_steps),
      grind (arith, common_steps),
      short,
      grind (arith, common_steps),
      fit,
      c.ranges.budget.fits,
      c.ranges.slots.fits,
      few,
      small,
      known,
    )
