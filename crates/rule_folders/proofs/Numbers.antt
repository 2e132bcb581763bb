-- The numbers of scripts by their paths.
use Rattle.std.proofs.Common.{
  ◌≡◌,
  ℕ,
  suc,
  zero,
  Bool,
  true,
  false,
  cond,
  ◌||◌,
  List,
  [],
  ◌∷◌,
  ◌++◌,
  length,
  map,
  Option,
  Some,
  None,
  option_map,
  refl,
  sym,
  ap,
  ◌∙◌,
  subst,
}
use Rattle.std.proofs.lemmas.Bool.{false≢true}
use Rattle.std.proofs.lemmas.Slice.Eq.{bytes_eq-Decides}
use Rattle.std.specs.Cmp.Lexicographic.{nat_list_eq_equiv}
use Rattle.std.specs.List.{list_any, slice_get}
use Rattle.std.specs.Str.{bytes_eq}
use Rattle.rule_folders.specs.Reading.{Entry, number_at}

apart_step : (b : Bool) (o : Option ℕ) (rest : Bool) → cond b (Some zero) (option_map (λ n. suc n) o) ≡ None →
    (o ≡ None → rest ≡ false) → (b || rest) ≡ false
apart_step true o rest h k = absurd cc
apart_step false None rest h k = k refl
apart_step false (Some n) rest h k = absurd cc

-- a path that has no number is none of the scripts'
pub apart : (path : List ℕ) (es : List Entry) → number_at path es ≡ None → list_any (bytes_eq path) (map (λ (e : Entry). e.path) es) ≡ false
apart path [] h = refl
apart path (e ∷ es) h = apart_step (bytes_eq path e.path) (number_at path es) _ h (apart path es)

none_step : (b : Bool) (o : Option ℕ) → cond b (Some zero) (option_map (λ n. suc n) o) ≡ None → (b ≡ false) × (o ≡ None)
none_step true o h = absurd cc
none_step false None h = (refl, refl)
none_step false (Some n) h = absurd cc

more_step : (a b : Bool) (n : ℕ) (o m : Option ℕ) → m ≡ cond b (Some n) o → (a ≡ true → b ≡ false)
    → cond a (Some zero) (option_map (λ k. suc k) m) ≡ cond b (Some (suc n)) (cond a (Some zero) (option_map (λ k. suc k) o))
more_step true true n o m e h = absurd (false≢true (sym (h refl)))
more_step true false n o m e h = refl
more_step false true n o m e h = ap (option_map (λ k. suc k)) e
more_step false false n o m e h = ap (option_map (λ k. suc k)) e

-- one more script, whose path is new
pub number_more : (es : List Entry) (e : Entry) (q : List ℕ) → number_at e.path es ≡ None
    → number_at q (es ++ e ∷ []) ≡ cond (bytes_eq e.path q) (Some (length es)) (number_at q es)
number_more [] e q h = ap (λ b. cond b (Some zero) None) (nat_list_eq_equiv.symm q e.path)
number_more (x ∷ xs) e q h =
    let k = none_step (bytes_eq e.path x.path) (number_at e.path xs) h in
    more_step (bytes_eq q x.path) (bytes_eq e.path q) (length xs) (number_at q xs) (number_at q (xs ++ e ∷ []))
    (number_more xs e q k.1)
    (λ t. ap (bytes_eq e.path) ((bytes_eq-Decides q x.path).0 t) ∙ k.0)

found_step : (q : List ℕ) (e : Entry) (es : List Entry) (b : Bool) (o : Option ℕ) (n : ℕ) → bytes_eq q e.path ≡ b → number_at q es ≡ o
    → cond b (Some zero) (option_map (λ k. suc k) o) ≡ Some n
    → ((m : ℕ) → number_at q es ≡ Some m → (t : Entry) × (slice_get es m ≡ Some t) × (t.path ≡ q))
    → (t : Entry) × (slice_get (e ∷ es) n ≡ Some t) × (t.path ≡ q)
found_step q e es true o n is at h more =
    let z : zero ≡ n = cc in (e, subst (λ k. slice_get (e ∷ es) k ≡ Some e) z refl, sym ((bytes_eq-Decides q e.path).0 is))
found_step q e es false None n is at h more = absurd cc
found_step q e es false (Some m) n is at h more =
    let z : suc m ≡ n = cc in
    let k = more m at in
    (k.0, subst (λ j. slice_get (e ∷ es) j ≡ Some k.0) z k.1, k.2)

-- the script at a path, by its number
pub found_at : (q : List ℕ) (es : List Entry) (n : ℕ) → number_at q es ≡ Some n → (t : Entry) × (slice_get es n ≡ Some t) × (t.path ≡ q)
found_at q [] n h = absurd cc
found_at q (e ∷ es) n h = found_step q e es (bytes_eq q e.path) (number_at q es) n refl refl h (found_at q es)

-- a script's number stays
pub at_more : (es fs : List Entry) (n : ℕ) (t : Entry) → slice_get es n ≡ Some t → slice_get (es ++ fs) n ≡ Some t
at_more [] fs n t h = absurd cc
at_more (e ∷ es) fs zero t h = h
at_more (e ∷ es) fs (suc n) t h = at_more es fs n t h

pub at_push : (es : List Entry) (t : Entry) → slice_get (es ++ t ∷ []) (length es) ≡ Some t
at_push [] t = refl
at_push (e ∷ es) t = at_push es t
