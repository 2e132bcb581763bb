-- The paths that `open_paths` answers are those that are open in the plan.
use Rattle.std.proofs.Common.{◌≡◌, ℕ, Bool, true, false, ◌||◌, List, [], ◌∷◌, Less, nat_cmp, is_eq, refl, ap, sym, ◌∙◌, subst}
use Rattle.std.proofs.Math.Path.{fun_ext}
use Rattle.std.specs.Prelude.{filter}
use Rattle.std.proofs.lemmas.Map.Text.{is_eq-slice_cmp}
use Rattle.std.proofs.lemmas.Slice.Eq.{bytes_eq-Decides}
use Rattle.std.specs.Str.{bytes_eq}
use Rattle.std.specs.List.{AllByRecursion}
use Rattle.std.specs.List.Sorted.{IsStrictlySortedBy}
use Rattle.std.specs.Cmp.Lexicographic.{slice_cmp}
use Rattle.class_plan.specs.Plans.{Listing, Row, open_at, is_among, is_open_in, paths_of, open_paths_of, IsPlan}

abbrev opened : List Row → List (List ℕ)
opened rows = paths_of (filter (λ r. r.is_open) rows)

-- a path before all of these is none of them
none_later : (p : List ℕ) (rs : List Row) → AllByRecursion (λ y. slice_cmp nat_cmp p y ≡ Less) (paths_of rs) → is_among (opened rs) p ≡ false
none_later p [] h = refl
none_later p (r ∷ rs) h = go r.is_open refl (none_later p rs h.1)
  where
    go : (b : Bool) → r.is_open ≡ b → is_among (opened rs) p ≡ false → is_among (opened (r ∷ rs)) p ≡ false
    go true e rest = let other : bytes_eq p r.path ≡ false = sym (is_eq-slice_cmp p r.path) ∙ ap is_eq h.0 in rw e (rw other rest)
    go false e rest = rw e rest

open_among : (rows : List Row) (q : List ℕ) → IsStrictlySortedBy (slice_cmp nat_cmp) (paths_of rows) → is_among (opened rows) q ≡ open_at rows q
unfolding IsStrictlySortedBy
open_among [] q h = refl
open_among (r ∷ rs) q h = go (bytes_eq q r.path) r.is_open refl refl (open_among rs q h.1)
  where
    go : (b o : Bool) → bytes_eq q r.path ≡ b → r.is_open ≡ o → is_among (opened rs) q ≡ open_at rs q
        → is_among (opened (r ∷ rs)) q ≡ open_at (r ∷ rs) q
    go true true e f rest = rw f (rw e refl)
    go true false e f rest =
        let same : q ≡ r.path = (bytes_eq-Decides q r.path).0 e in
        let P : List ℕ → Type 0 = λ p. is_among (opened rs) p ≡ false in
        rw f (rw e (subst P (sym same) (none_later r.path rs h.0)))
    go false true e f rest = rw f (rw e rest)
    go false false e f rest = rw f (rw e rest)

pub open-paths_are : (p : Listing) → IsPlan p → is_among (open_paths_of p) ≡ is_open_in p
open-paths_are p h = fun_ext (λ q. open_among p.rows q h.in_order)
