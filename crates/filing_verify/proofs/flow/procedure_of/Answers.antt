use Rattle.std.proofs.Common.{◌≡◌, ℕ, ◌-◌, ◌≤◌, leb, true, false, length, ap, ◌∙◌, arith, rules}
use Rattle.std.specs.List.Sorted.{IsPartitionedBy, IsPartitionPoint}
use Rattle.std.proofs.lemmas.List.Sorted.{IsPartitionPoint-from_clause}
use Rattle.filing_image.specs.Program.{first_places}
use Rattle.filing_verify.proofs.Procedures.{are_partitioned, begun_at}
use Rattle.filing_verify.proofs.flow.procedure_of.Goals as goal

pub returns : goal.returns
returns c =
    let p = c.args.image.now in
    let place = c.args.place in
    let fs = c.first_places.result.now in
    let i = c.partition_point-begun.result in
    let partitioned : IsPartitionedBy (λ f. leb f place) fs = rw c.first_places.ensures.value (are_partitioned p place c.requires) in
    let point : IsPartitionPoint (λ f. leb f place ≡ true) (λ f. leb f place ≡ false) fs i =
    IsPartitionPoint-from_clause (λ f. leb f place) fs i c.partition_point-begun.ensures.partitioned partitioned (λ a r f' k. search rules) in
    let within : i ≤ length (first_places p) = omega (arith, c.partition_point-begun.ensures.bound, ap length c.first_places.ensures.value) in
    let found = begun_at p place i within (rw c.first_places.ensures.value at point) in
    c.saturating_sub.ensures ∙ ap (λ (n : ℕ). n - 1) found
