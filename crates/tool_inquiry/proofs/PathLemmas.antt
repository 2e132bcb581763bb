-- Which paths are among those of a set to which some are added.
use Rattle.std.proofs.Common.{◌≡◌, ℕ, List, [], ◌∷◌, Bool, true, false, refl, ap, sym, ◌∙◌, is_eq}
use Rattle.std.proofs.Math.Path.{fun_ext}
use Rattle.std.proofs.lemmas.Map.Text.{is_eq-slice_cmp}
use Rattle.std.proofs.lemmas.Slice.Eq.{bytes_eq-Decides}
use Rattle.std.specs.Prelude.{◌||◌}
use Rattle.std.specs.Cmp.Lexicographic.{slice_cmp}
use Rattle.std.specs.Ordering.{nat_cmp, match_ordering}
use Rattle.std.specs.declared.cmp.Ordering.TheVariants.{Less, Equal, Greater}
use Rattle.std.specs.Str.{bytes_eq}
use Rattle.class_paths.specs.Paths.{Paths, insert_path}
use Rattle.mail_case.specs.Message.{is_among}

either_first : (a b c : Bool) → (a || (b || c)) ≡ (b || (a || c))
either_first true true c = refl
either_first true false c = refl
either_first false b c = refl

once : (a b : Bool) → (a || b) ≡ (a || (a || b))
once true b = refl
once false b = refl

-- the same, where the first two are in the other order
either_last : (a b c : Bool) → (b || (a || c)) ≡ ((a || b) || c)
either_last true true c = refl
either_last true false c = refl
either_last false b c = refl

either_none : (a : Bool) → (a || false) ≡ a
either_none true = refl
either_none false = refl

-- paths that compare as equal are the same
same_path : (p q : List ℕ) → slice_cmp nat_cmp p q ≡ Equal → p ≡ q
same_path p q e = (bytes_eq-Decides p q).0 (sym (is_eq-slice_cmp p q) ∙ ap is_eq e)

-- the paths of a set and another one
among_inserted : (p q : List ℕ) (xs : Paths) → is_among (insert_path p xs) q ≡ (bytes_eq q p || is_among xs q)
among_inserted p q [] = refl
among_inserted p q (x ∷ xs) =
    (elim (slice_cmp nat_cmp p x) as (λ o. slice_cmp nat_cmp p x ≡ o
    → is_among (match_ordering o (p ∷ x ∷ xs) (x ∷ xs) (x ∷ insert_path p xs)) q ≡ (bytes_eq q p || is_among (x ∷ xs) q)) [
      | Less ↦ λ less. refl
      | Equal ↦ λ same. once (bytes_eq q x) (is_among xs q)
          ∙ ap (λ y. bytes_eq q y || (bytes_eq q x || is_among xs q)) (sym (same_path p x same))
      | Greater ↦ λ greater. ap (λ b. bytes_eq q x || b) (among_inserted p q xs)
          ∙ either_first (bytes_eq q x) (bytes_eq q p) (is_among xs q)
    ]) refl

-- a set to which paths are added, one after another
abbrev pub with_paths : Paths → List (List ℕ) → Paths
with_paths xs [] = xs
with_paths xs (p ∷ ps) = with_paths (insert_path p xs) ps

among_with : (xs : Paths) (ps : List (List ℕ)) (q : List ℕ) → is_among (with_paths xs ps) q ≡ (is_among ps q || is_among xs q)
among_with xs [] q = refl
among_with xs (p ∷ ps) q =
    among_with (insert_path p xs) ps q ∙ ap (λ b. is_among ps q || b) (among_inserted p q xs)
    ∙ either_last (bytes_eq q p) (is_among ps q) (is_among xs q)

-- a set that only these paths were added to has these
pub among_all : (ps : List (List ℕ)) → is_among (with_paths [] ps) ≡ is_among ps
among_all ps = fun_ext (λ q. among_with [] ps q ∙ either_none (is_among ps q))
