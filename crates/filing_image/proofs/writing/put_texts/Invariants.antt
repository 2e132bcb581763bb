use Rattle.std.proofs.Common.{◌≡◌, ◌++◌, map, take}
use Rattle.std.specs.List.{flat_map}
use Rattle.filing_image.specs.Spelling.{text}
use Rattle.filing_image.proofs.writing.put_texts.Given as goal

abbrev pub invariant-loop-octets : goal.invariant-loop-octets
invariant-loop-octets l = l.out.items ≡ l.fn.out.items ++ flat_map text (map (λ t. t.items) (take l.octets-index l.texts))
