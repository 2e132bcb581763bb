-- When a test is true (RFC 5228, section 5).
use Rattle.std.specs.Prelude.{ℕ, List, ◌∷◌, Bool, true, false, not, ◌&&◌, ◌||◌, nat_lt}
use Rattle.std.specs.List.{list_any, list_all}
use Rattle.sieve_meaning.specs.declared.matching.Comparator.{Comparator}
use Rattle.sieve_meaning.specs.declared.matching.MatchType.{MatchType}
use Rattle.sieve_meaning.specs.Matching.{key_matches}
use Rattle.sieve_meaning.specs.Case.{Facts, is_named}
use Rattle.sieve_meaning.specs.Program.{Test, always, negated, all_of, any_of, has_all, over, under, header, Tests, no_test, test_then}

-- `exists` of one name: some field has it (RFC 5228, section 5.5)
abbrev pub has_field : Facts → List ℕ → Bool
has_field facts name = list_any (is_named name) facts.fields

-- `header`: some field has one of the names, and its value matches some key (RFC 5228, section 5.7)
abbrev pub header_truth : Facts → MatchType → Comparator → (names keys : List (List ℕ)) → Bool
header_truth facts m c names keys = list_any (λ f. list_any (λ name. is_named name f) names &&
    list_any (λ key. key_matches m c key f.value) keys) facts.fields

abbrev mutual
  pub truth : Facts → Test → Bool
  truth facts (always b) = b
  truth facts (negated t) = not (truth facts t)
  truth facts (all_of ts) = all_true facts ts
  truth facts (any_of ts) = some_true facts ts
  truth facts (has_all names) = list_all (has_field facts) names
  truth facts (over n) = nat_lt n facts.size
  truth facts (under n) = nat_lt facts.size n
  truth facts (header m c n ns k ks) = header_truth facts m c (n ∷ ns) (k ∷ ks)

  pub all_true : Facts → Tests → Bool
  all_true facts no_test = true
  all_true facts (test_then t ts) = truth facts t && all_true facts ts

  pub some_true : Facts → Tests → Bool
  some_true facts no_test = false
  some_true facts (test_then t ts) = truth facts t || some_true facts ts
