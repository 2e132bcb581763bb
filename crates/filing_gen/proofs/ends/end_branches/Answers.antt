use Rattle.std.proofs.Common.{◌≡◌, ◌<◌, ℕ, List, length, ap, sym, ◌∙◌, arith}
use Rattle.std.specs.Prelude.{Some}
use Rattle.std.proofs.lemmas.List.{length-set}
use Rattle.std.proofs.lemmas.List.Elements.{All-pop, All-weaker}
use Rattle.filing_image.specs.declared.instruction.Operation.TheVariants.{Jump}
use Rattle.filing_gen.specs.declared.output.Output.{Output}
use Rattle.filing_gen.specs.Ends.{with_jumps}
use Rattle.filing_gen.proofs.Jumps.{jumps_last}
use Rattle.filing_gen.proofs.ends.end_branches.Goals as goal

pub loop-place-preserved : goal.loop-place-preserved
loop-place-preserved c =
    let e = c.len-end.result in
    let x = c.loop-place.out in
    let y = c.put_at.new.out in
    let ps = c.pop.new.self.items in
    let long : length y.code.items ≡ length x.code.items = ap (λ (o : Output). length o.code.items) c.put_at.ensures
    ∙ length-set x.code.items c.in-Some.place (Jump e) in
    record {
      out = ap (λ (o : Output). with_jumps e ps o) c.put_at.ensures ∙ sym (jumps_last e ps c.in-Some.place x)
          ∙ sym (ap (λ (l : List ℕ). with_jumps e l x) c.in-Some.ensures.items) ∙ c.loop-place.invariant.out;
      places = All-weaker (λ p. p < length x.code.items) (λ p. p < length y.code.items) (λ p lt. omega (arith, lt, long)) ps
          (All-pop (λ p. p < length x.code.items) c.loop-place.jumps.items ps (Some c.in-Some.place)
          c.in-Some.ensures.items c.loop-place.invariant.places).0;
    }
