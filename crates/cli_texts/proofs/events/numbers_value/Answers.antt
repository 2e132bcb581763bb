use Rattle.std.proofs.Common.{◌∙◌, ◌++◌, ap, sym, map, ℕ, List}
use Rattle.serde_json.specs.Data.{number, unsigned}
use Rattle.serde_json.specs.View.{view}
use Rattle.cli_texts.proofs.JsonLemmas.{number_next, pushed_value}
use Rattle.cli_texts.proofs.events.numbers_value.Goals as goal

pub loop-number-preserved : goal.loop-number-preserved
loop-number-preserved c =
    pushed_value c.loop-number.numbers.items c.push.new.self.items c.from.result (number (unsigned c.loop-number.number)) _ _
    c.in_ok-push.ensures.items c.from.ensures
    (ap (λ (ns : List ℕ). map view c.loop-number.numbers.items ++ map (λ n. number (unsigned n)) ns)
    (sym (number_next c.loop-number.number c.args.last c.loop-number-test.true))
    ∙ c.loop-number.invariant)
