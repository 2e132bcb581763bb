use Rattle.std.proofs.Common.{not, ap, ◌∙◌}
use Rattle.filing_gen.specs.Names.{has_name}
use Rattle.filing_gen.proofs.Names.{has_is, has_more}
use Rattle.filing_gen.proofs.field_names.FieldNames.insert.Goals as goal

pub returns-clause-added : goal.returns-clause-added
returns-clause-added c = c.in_ok-is_new.ensures.added
    ∙ ap not (has_is c.in_ok-lowercase.lowercase c.args.name.now c.in_ok-lowercase.ensures.ok
    c.args.self.now.lowercase.keys)

pub returns-clause-names : goal.returns-clause-names
returns-clause-names c m = ap (λ l. has_name l m) c.in_ok-is_new.ensures.keys
    ∙ has_more c.in_ok-lowercase.lowercase c.args.name.now c.in_ok-lowercase.ensures.ok m c.args.self.now.lowercase.keys
