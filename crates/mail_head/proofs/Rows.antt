-- Examples of the definitions.
use Rattle.std.proofs.Common.{◌≡◌, [], ◌∷◌, refl}
use Rattle.std.specs.Prelude.{codes}
use Rattle.mail_head.specs.Lines.{raw_lines, header_lines, logical_from, logical_lines}
use Rattle.mail_head.specs.Fields.{field_of, fields_of}

lenient : fields_of (codes "A : b\n c\nbad line\nD:e") ≡ (codes "A", codes " b\n c") ∷ (codes "D", codes "e") ∷ []
unfolding fields_of field_of logical_lines logical_from header_lines raw_lines
lenient = refl
