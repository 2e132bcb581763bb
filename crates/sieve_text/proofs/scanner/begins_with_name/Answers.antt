use Rattle.std.proofs.Common.{◌≡◌, false, sym, ◌∙◌}
use Rattle.std.proofs.lemmas.Bool.{not-true}
use Rattle.sieve_text.specs.Strings.{begins_text}
use Rattle.sieve_text.proofs.FrontLemmas.{name_first}
use Rattle.sieve_text.proofs.scanner.begins_with_name.Goals as goal

pub returns-then-starts_word : goal.returns-then-starts_word
returns-then-starts_word c = λ h.
    let plain : begins_text c.args.text.now ≡ false = sym c.begins.ensures.value ∙ not-true c.begins.result h in
    name_first c.args.text.now (sym c.starts_word.ensures ∙ c.if-starts_word.true) plain
