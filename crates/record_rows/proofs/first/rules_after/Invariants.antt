use Rattle.std.proofs.Common.{◌≡◌, [], ◌∷◌, map, drop, option_map}
use Rattle.record_tables.specs.CodeRows.{rule_of, class_entry_of}
use Rattle.record_rows.specs.Rules.{rule_at}
use Rattle.record_rows.specs.Texts.{text_rules}
use Rattle.record_rows.proofs.FirstRows.{before}
use Rattle.record_rows.proofs.first.rules_after.Given as goal

abbrev pub invariant-loop-class : goal.invariant-loop-class
invariant-loop-class l =
    before (map rule_of l.rules.items) (text_rules (map class_entry_of (drop l.class-index l.classes)))
    ≡ option_map (λ rs. rule_at [] l.fn.root ∷ rs) (text_rules (map class_entry_of l.classes))
