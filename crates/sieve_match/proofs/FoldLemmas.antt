-- Octets as they are compared, and the two ways to ignore case.
use Rattle.std.proofs.Common.{◌≡◌, ℕ, Bool, List, [], ◌∷◌, map, IsTrue, ◌↔◌, refl, sym, ap, ◌∙◌, arith}
use Rattle.std.specs.Char.{to_ascii_lowercase}
use Rattle.std.specs.Str.{bytes_eq}
use Rattle.std.proofs.lemmas.Bool.Decides.{nat_tests, same_from_decides}
use Rattle.std.proofs.lemmas.Slice.Eq.{bytes_eq-Decides}
use Rattle.sieve_meaning.specs.declared.matching.Comparator.{Comparator}
use Rattle.sieve_meaning.specs.declared.matching.Comparator.TheVariants.{Octet, Casemap}
use Rattle.sieve_meaning.specs.Matching.{fold_octet, fold, equals, contains, Contains, IsEqualUnder}
use Rattle.sieve_meaning.proofs.MatchingLemmas.{equals_decided, contains_decided}

-- `i;octet` compares texts as they are
pub fold-octet : (text : List ℕ) → fold Octet text ≡ text
fold-octet [] = refl
fold-octet (b ∷ bs) = ap (λ (t : List ℕ). b ∷ t) (fold-octet bs)

upper_of_lower : (b : ℕ) → fold_octet Casemap (to_ascii_lowercase b) ≡ fold_octet Casemap b
upper_of_lower b = grind (arith, nat_tests)

lower_of_upper : (b : ℕ) → to_ascii_lowercase (fold_octet Casemap b) ≡ to_ascii_lowercase b
lower_of_upper b = grind (arith, nat_tests)

fold_of_lower : (text : List ℕ) → fold Casemap (map to_ascii_lowercase text) ≡ fold Casemap text
fold_of_lower [] = refl
fold_of_lower (b ∷ bs) = rw (upper_of_lower b, fold_of_lower bs) refl

lower_of_fold : (text : List ℕ) → map to_ascii_lowercase (fold Casemap text) ≡ map to_ascii_lowercase text
lower_of_fold [] = refl
lower_of_fold (b ∷ bs) = rw (lower_of_upper b, lower_of_fold bs) refl

-- texts are equal in lower case where they are in upper case
pub ignores_case : (key value : List ℕ) → (map to_ascii_lowercase key ≡ map to_ascii_lowercase value) ↔ IsEqualUnder Casemap key value
ignores_case key value = (
  λ e. sym (fold_of_lower key) ∙ ap (λ (t : List ℕ). fold Casemap t) e ∙ fold_of_lower value,
  λ e. sym (lower_of_fold key) ∙ ap (λ (t : List ℕ). map to_ascii_lowercase t) e ∙ lower_of_fold value,
)

-- what an answer to `:is` says of the test that computes it
pub is_test : (c : Comparator) (key value : List ℕ) (r : Bool) → IsTrue r ↔ IsEqualUnder c key value → r ≡ equals c key value
is_test c key value r h = let d = equals_decided c key value in same_from_decides r (equals c key value) (h.0, h.1) (d.0, d.1)

pub is_octet : (c : Comparator) (key value : List ℕ) (r : Bool) → c ≡ Octet → r ≡ bytes_eq key value → IsTrue r ↔ IsEqualUnder c key value
is_octet c key value r is e =
    let d = bytes_eq-Decides key value in
    rw is (λ t. fold-octet key ∙ d.0 (sym e ∙ t) ∙ sym (fold-octet value), λ q. e ∙ d.1 (sym (fold-octet key) ∙ q ∙ fold-octet value))

pub is_casemap : (c : Comparator) (key value : List ℕ) (r : Bool) → c ≡ Casemap
    → IsTrue r ↔ (map to_ascii_lowercase key ≡ map to_ascii_lowercase value) → IsTrue r ↔ IsEqualUnder c key value
is_casemap c key value r is h = let same = ignores_case key value in rw is (λ t. same.0 (h.0 t), λ q. h.1 (same.1 q))

-- what an answer to `:contains` says of the test that computes it
pub contains_test : (c : Comparator) (key value : List ℕ) (r : Bool) → IsTrue r ↔ Contains c key value → r ≡ contains c key value
contains_test c key value r h = let d = contains_decided c key value in same_from_decides r (contains c key value) (h.0, h.1) (d.0, d.1)
