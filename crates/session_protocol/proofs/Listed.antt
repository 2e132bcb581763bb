-- Lists of lines as the program has them.
use Rattle.std.proofs.Common.{◌≡◌, ◌++◌, ◌<◌, List, [], ◌∷◌, ap, refl, length, arith}
use Rattle.std.specs.Prelude.{flat_map, map}
use Rattle.record_archive.specs.Lines.{line_view}
use Rattle.record_archive.specs.declared.line.Line as code
use Rattle.session_protocol.specs.Replies.{list_octets, line_octets, record_octets, records_octets}

pub list_is : (lines : List code.Line) → flat_map line_octets lines ≡ list_octets (map line_view lines)
list_is [] = refl
list_is (l ∷ ls) = ap (λ rest. record_octets (line_view l) ++ rest) (list_is ls)

pub records_is : (lines : List code.Line) → 0 < length lines → flat_map line_octets lines ≡ records_octets (map line_view lines)
records_is [] h = absurd (omega (arith, h))
records_is (l ∷ ls) h = list_is (l ∷ ls)
