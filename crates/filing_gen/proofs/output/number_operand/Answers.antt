use Rattle.std.proofs.Common.{refl, arith}
use Rattle.std.proofs.lemmas.Result.{on_ok_weaker}
use Rattle.filing_gen.proofs.output.number_operand.Goals as goal

pub returns-clause-brings : goal.returns-clause-brings
returns-clause-brings c =
    on_ok_weaker c.place.result (λ h.
    record {
      keeps = record {
        text = λ b t at. at;
        number = λ b k at. h.kept k b at;
        texts = omega arith;
        numbers =
            h.few;
      };
      code = refl;
    }) c.place.ensures.admits
