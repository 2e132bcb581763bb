-- Whether each class of a map is one of some rows, key by key.
use Rattle.std.proofs.Common.{◌≡◌, ℕ, Bool, true, false, ◌&&◌, List, [], ◌∷◌, Vec, Global, refl, ap, ◌∙◌}
use Rattle.std.specs.List.{list_all}
use Rattle.std.specs.Map.{keys_of}
use Rattle.class_plan.specs.Plans.{Row, has}
use Rattle.class_plan.specs.Fields.{MapEntry, rows}

abbrev pub kept_keys : List Row → List (Vec ℕ Global) → Bool
kept_keys new ks = list_all (λ k. has new k.items) ks

pub kept-rows : (new : List Row) (es : List MapEntry) → kept_keys new (keys_of es) ≡ list_all (λ r. has new r.path) (rows es)
kept-rows new [] = refl
kept-rows new (e ∷ es) = ap (λ b. has new e.0.items && b) (kept-rows new es)

pub kept-more : (new : List Row) (k : Vec ℕ Global) (all s t : List (Vec ℕ Global)) → s ≡ k ∷ t
    → kept_keys new all ≡ kept_keys new s → has new k.items ≡ true → kept_keys new all ≡ kept_keys new t
kept-more new k all s t is so e = so ∙ rw (is, e)

pub kept-less : (new : List Row) (k : Vec ℕ Global) (all s t : List (Vec ℕ Global)) → s ≡ k ∷ t
    → kept_keys new all ≡ kept_keys new s → has new k.items ≡ false → kept_keys new all ≡ false
kept-less new k all s t is so e = so ∙ rw (is, e)

pub kept-all : (new : List Row) (all s : List (Vec ℕ Global)) → s ≡ [] → kept_keys new all ≡ kept_keys new s → kept_keys new all ≡ true
kept-all new all s is so = so ∙ rw is
