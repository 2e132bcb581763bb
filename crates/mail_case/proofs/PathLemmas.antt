-- A set of paths and the list of its paths.
use Rattle.std.proofs.Common.{◌≡◌, ℕ, ◌||◌, List, [], ◌∷◌, map, Vec, Global, nat_cmp, refl, ap}
use Rattle.std.proofs.lemmas.Map.Text.{is_eq-slice_cmp}
use Rattle.std.specs.BTreeMap.{is_at}
use Rattle.std.specs.Cmp.Lexicographic.{slice_cmp}
use Rattle.std.specs.List.{list_any}
use Rattle.std.specs.Str.{bytes_eq}
use Rattle.mail_case.specs.Message.{is_among}

-- the keys of a set have a path, by their order, where it is among them, octet for octet
pub keys_have : (q : List ℕ) (ks : List (Vec ℕ Global))
    → list_any (is_at (λ (k : Vec ℕ Global). slice_cmp nat_cmp q k.items)) ks ≡ is_among (map (λ v. v.items) ks) q
keys_have q [] = refl
keys_have q (k ∷ ks) = rw (is_eq-slice_cmp q k.items) (ap (λ b. bytes_eq q k.items || b) (keys_have q ks))
