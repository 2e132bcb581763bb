-- A name as it is read aloud, with one character more.
use Rattle.std.proofs.Common.{◌≡◌, ℕ, List, [], ◌∷◌, ◌++◌, flat_map, append_assoc, append-nil}
use Rattle.std.proofs.lemmas.Str.{encodes-append}
use Rattle.std.proofs.lemmas.Grind.{flat_map-append}
use Rattle.std.specs.Str.{encode_utf8_all}
use Rattle.cli_page.specs.Marks.{read_of}

pub read_more : (bs xs : List ℕ) (x : ℕ)
    → (bs ++ encode_utf8_all (flat_map read_of xs)) ++ encode_utf8_all (read_of x) ≡ bs ++ encode_utf8_all (flat_map read_of (xs ++ x ∷ []))
read_more bs xs x =
    rw (flat_map-append read_of xs (x ∷ []), append-nil (read_of x), encodes-append (flat_map read_of xs) (read_of x)) (append_assoc bs _ _)
