-- What a splitter keeps of the line that it read last.
use Rattle.std.specs.Prelude.{ℕ, List, [], ◌∷◌}
use Rattle.mail_boxes.specs.declared.splitter.LastLine.{LastLine}
use Rattle.mail_boxes.specs.declared.splitter.LastLine.TheVariants.{Full, Lf, CrLf}

-- the octets of an empty line
abbrev pub octets_of : LastLine → List ℕ
octets_of Full = []
octets_of Lf = 10 ∷ []
octets_of CrLf = 13 ∷ 10 ∷ []
