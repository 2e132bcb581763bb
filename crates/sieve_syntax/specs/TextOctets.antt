-- What texts hold, whatever their layout.
use Rattle.std.specs.Prelude.{ℕ, List, ◌≤◌, ⊤, take}
use Rattle.sieve_syntax.specs.declared.text.Octets.{Octets}
use Rattle.sieve_syntax.specs.declared.text.Octets.TheVariants.{Few, Many}

-- the octets of a text
abbrev pub octets_in : Octets → List ℕ
octets_in (Few n xs) = take n xs
octets_in (Many b) = b.value.items

-- the length fits the array
abbrev pub IsWithin : Octets → Type 0
IsWithin (Few n xs) = n ≤ 14
IsWithin (Many b) = ⊤
