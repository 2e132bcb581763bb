-- Values that are shorter than a key.
use Rattle.std.proofs.Common.{◌≡◌, ◌⊎◌, ◌<◌, ◌+◌, ◌∙◌, ◌++◌, ℕ, List, ap, arith, false, inl, inr, length, sym}
use Rattle.std.proofs.lemmas.Bool.{false_from_ne_true}
use Rattle.std.proofs.lemmas.List.{length-append, length-map}
use Rattle.sieve_meaning.specs.declared.matching.Comparator.{Comparator}
use Rattle.sieve_meaning.specs.declared.matching.MatchType.{MatchType}
use Rattle.sieve_meaning.specs.declared.matching.MatchType.TheVariants as match_types
use Rattle.sieve_meaning.specs.Matching.{contains, equals, fold, fold_octet, key_matches}
use Rattle.sieve_meaning.proofs.MatchingLemmas.{contains_decided, equals_decided}

module _ (c : Comparator) (key value : List ℕ) (short : length value < length key) where
  folded_key : length (fold c key) ≡ length key
  folded_key = length-map key (fold_octet c)

  folded_value : length (fold c value) ≡ length value
  folded_value = length-map value (fold_octet c)

  equals_no_shorter : equals c key value ≡ false
  equals_no_shorter = false_from_ne_true (equals c key value) (λ holds.
      let same : length (fold c key) ≡ length (fold c value) = ap length ((equals_decided c key value).0 holds) in
      omega (arith, short, same, folded_key, folded_value))

  no_shorter_contains : contains c key value ≡ false
  no_shorter_contains = false_from_ne_true (contains c key value) (λ holds.
      let found = (contains_decided c key value).0 holds in
      let whole : length (fold c value) ≡ length found.0 + (length (fold c key) + length found.1) =
      ap length found.2 ∙ length-append found.0 (fold c key ++ found.1)
      ∙ ap (λ n. length found.0 + n) (length-append (fold c key) found.1) in
      omega (arith, short, whole, folded_key, folded_value))

  -- no key of `:is` or `:contains` matches a shorter value
  pub short_fails : (m : MatchType) → (m ≡ match_types.Is) ⊎ (m ≡ match_types.Contains) → false ≡ key_matches m c key value
  short_fails m (inl is) = sym (ap (λ (x : MatchType). key_matches x c key value) is ∙ equals_no_shorter)
  short_fails m (inr is) = sym (ap (λ (x : MatchType). key_matches x c key value) is ∙ no_shorter_contains)
