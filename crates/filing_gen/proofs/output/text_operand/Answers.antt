use Rattle.std.proofs.Common.{refl, arith}
use Rattle.std.proofs.lemmas.Result.{on_ok_weaker}
use Rattle.filing_gen.proofs.output.text_operand.Goals as goal

pub returns-clause-brings : goal.returns-clause-brings
returns-clause-brings c =
    on_ok_weaker c.place.result (λ h.
    record {
      keeps = record {
        text = λ b t at. h.kept t b at;
        number = λ b k at. at;
        texts = h.few;
        numbers =
            omega arith;
      };
      code = refl;
    }) c.place.ensures.admits
