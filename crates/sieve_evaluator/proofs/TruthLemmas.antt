-- Tests over fields and over lists of tests.
use Rattle.std.proofs.Common.{◌≡◌, ℕ, List, [], ◌∷◌, ◌&&◌, Bool, true, false, map, refl, sym, ap, ◌∙◌}
use Rattle.std.specs.Prelude.{◌||◌}
use Rattle.std.specs.List.{list_any, list_all}
use Rattle.sieve_syntax.specs.Tree.{TestTree, listed_tests}
use Rattle.sieve_syntax.specs.View.{row_of}
use Rattle.sieve_syntax.specs.Arguments.{strings_of}
use Rattle.sieve_syntax.specs.declared.tree.StringList.{StringList}
use Rattle.sieve_syntax.specs.declared.tree.Argument.{Argument}
use Rattle.class_paths.specs.Paths.{Paths}
use Rattle.sieve_meaning.specs.declared.matching.Comparator.{Comparator}
use Rattle.sieve_meaning.specs.declared.matching.MatchType.{MatchType}
use Rattle.sieve_meaning.specs.Matching.{key_matches}
use Rattle.sieve_meaning.specs.Case.{Facts, is_named}
use Rattle.sieve_meaning.specs.Reading.{string_lists, match_type, comparator_from, exists_of, header_of, test_in, tests_in, row_in}
use Rattle.sieve_meaning.specs.Truth.{truth, has_field, all_true, some_true}
use Rattle.sieve_evaluator.specs.declared.case.BorrowedCase.{BorrowedCase}
use Rattle.sieve_evaluator.specs.declared.case.BorrowedField.{BorrowedField}
use Rattle.sieve_evaluator.specs.Case.{field_of, facts_of}

pub list_any-map : {X Y : Type 0} (p : Y → Bool) (f : X → Y) (xs : List X) → list_any p (map f xs) ≡ list_any (λ x. p (f x)) xs
list_any-map p f [] = refl
list_any-map p f (x ∷ xs) = ap (λ b. p (f x) || b) (list_any-map p f xs)

-- the tests of a list
all_true-row : (facts : Facts) (ts : List TestTree) → all_true facts (row_in (row_of ts)) ≡ list_all (λ t. truth facts (test_in t)) ts
all_true-row facts [] = refl
all_true-row facts (t ∷ ts) = ap (λ b. truth facts (test_in t) && b) (all_true-row facts ts)

all_true-listed : (facts : Facts) (t : TestTree) (ts : List TestTree)
    → all_true facts (tests_in (listed_tests t (row_of ts)))
    ≡ (truth facts (test_in t) && list_all (λ t. truth facts (test_in t)) ts)
all_true-listed facts t ts = ap (λ b. truth facts (test_in t) && b) (all_true-row facts ts)

-- where the first one is true
pub all_true-others : (facts : Facts) (t : TestTree) (ts : List TestTree) → truth facts (test_in t) ≡ true
    → list_all (λ t. truth facts (test_in t)) ts ≡ all_true facts (tests_in (listed_tests t (row_of ts)))
all_true-others facts t ts h = sym (all_true-listed facts t ts ∙ ap (λ b. b && list_all (λ t. truth facts (test_in t)) ts) h)

some_true-row : (facts : Facts) (ts : List TestTree) → some_true facts (row_in (row_of ts)) ≡ list_any (λ t. truth facts (test_in t)) ts
some_true-row facts [] = refl
some_true-row facts (t ∷ ts) = ap (λ b. truth facts (test_in t) || b) (some_true-row facts ts)

some_true-listed : (facts : Facts) (t : TestTree) (ts : List TestTree)
    → some_true facts (tests_in (listed_tests t (row_of ts)))
    ≡ (truth facts (test_in t) || list_any (λ t. truth facts (test_in t)) ts)
some_true-listed facts t ts = ap (λ b. truth facts (test_in t) || b) (some_true-row facts ts)

-- where the first one is false
pub some_true-others : (facts : Facts) (t : TestTree) (ts : List TestTree) → truth facts (test_in t) ≡ false
    → list_any (λ t. truth facts (test_in t)) ts ≡ some_true facts (tests_in (listed_tests t (row_of ts)))
some_true-others facts t ts h = sym (some_true-listed facts t ts ∙ ap (λ b. b || list_any (λ t. truth facts (test_in t)) ts) h)

-- an `exists` over the fields of the code
pub exists-shown : (case : BorrowedCase Paths) (names : StringList) (more : List StringList)
    → truth (facts_of case) (exists_of (names ∷ more))
    ≡ list_all (λ name. list_any (λ f. is_named name (field_of f)) case.fields.items) (strings_of names)
exists-shown case names more = all_shown (strings_of names)
  where
    all_shown : (ns : List (List ℕ))
        → list_all (has_field (facts_of case)) ns
        ≡ list_all (λ name. list_any (λ f. is_named name (field_of f)) case.fields.items) ns
    all_shown [] = refl
    all_shown (n ∷ ns) =
        ap (λ b. b && list_all (has_field (facts_of case)) ns) (list_any-map (is_named n) field_of case.fields.items)
        ∙ ap (λ b. list_any (λ f. is_named n (field_of f)) case.fields.items && b) (all_shown ns)

-- a `header` over the fields of the code
pub header-shown : (case : BorrowedCase Paths) (m : MatchType) (c : Comparator) (names keys : StringList)
    (more : List StringList) → truth (facts_of case) (header_of m c (names ∷ keys ∷ more))
    ≡ list_any (λ f. list_any (λ name. is_named name (field_of f)) (strings_of names)
    && list_any (λ key. key_matches m c key (field_of f).value) (strings_of keys)) case.fields.items
header-shown case m c names keys more =
    list_any-map (λ f. list_any (λ name. is_named name f) (strings_of names)
    && list_any (λ key. key_matches m c key f.value) (strings_of keys)) field_of case.fields.items

-- what the code of `exists` and of `header` answers
pub exists_answer : (case : BorrowedCase Paths) (args : List Argument) (fields : List BorrowedField)
    (names : StringList) (more : List StringList) (answer : Bool) → fields ≡ case.fields.items
    → string_lists false args ≡ names ∷ more
    → answer ≡ list_all (λ name. list_any (λ f. is_named name (field_of f)) fields) (strings_of names)
    → answer ≡ truth (facts_of case) (exists_of (string_lists false args))
exists_answer case args fields names more answer same lists told =
    rw lists (told ∙ ap (λ xs. list_all (λ name. list_any (λ f. is_named name (field_of f)) xs) (strings_of names)) same
    ∙ sym (exists-shown case names more))

pub header_answer : (case : BorrowedCase Paths) (args rest : List Argument) (fields : List BorrowedField)
    (m : MatchType) (c : Comparator) (names keys : StringList) (more : List StringList) (answer : Bool)
    → fields ≡ case.fields.items → string_lists false args ≡ names ∷ string_lists false rest
    → string_lists false rest ≡ keys ∷ more → m ≡ match_type args → c ≡ comparator_from false args
    → answer ≡ list_any (λ f. list_any (λ name. is_named name (field_of f)) (strings_of names)
    && list_any (λ key. key_matches m c key (field_of f).value) (strings_of keys)) fields
    → answer ≡ truth (facts_of case) (header_of (match_type args) (comparator_from false args)
    (string_lists false args))
header_answer case args rest fields m c names keys more answer same lists lists_after how by told =
    rw (← how, ← by, lists, lists_after) (told
    ∙ ap (λ xs. list_any (λ f. list_any (λ name. is_named name (field_of f)) (strings_of names)
    && list_any (λ key. key_matches m c key (field_of f).value) (strings_of keys)) xs) same
    ∙ sym (header-shown case m c names keys more))
