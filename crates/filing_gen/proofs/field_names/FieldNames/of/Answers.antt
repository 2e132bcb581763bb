use Rattle.std.proofs.Common.{◌||◌, ap, ◌∙◌}
use Rattle.sieve_meaning.specs.Words.{same_word}
use Rattle.filing_gen.specs.Names.{has_name}
use Rattle.std.proofs.Math.Bool.{or-false}
use Rattle.filing_gen.proofs.field_names.FieldNames.of.Goals as goal

pub returns : goal.returns
returns c m = c.in_ok-insert.ensures.names m ∙ ap (λ l. same_word c.args.name.now m || has_name l m) c.new.ensures.empty
    ∙ or-false (same_word c.args.name.now m)
