-- The least number that tests break, one test after another.
use Rattle.std.proofs.Common.{◌≡◌, ℕ, ◌+◌, ◌<◌, Bool, List, [], ◌∷◌, ◌++◌, length, drop, get_or, map, Option, Some, refl, sym, ap, ◌∙◌, arith}
use Rattle.std.specs.List.{flat_map}
use Rattle.sieve_syntax.specs.declared.tree.Argument.{Argument}
use Rattle.sieve_syntax.specs.declared.tree.Test.{Test}
use Rattle.sieve_syntax.specs.Tree.{TestTree, test, InnerTests, listed_tests}
use Rattle.sieve_syntax.specs.View.{test_of, row_of}
use Rattle.sieve_check.specs.declared.table.Capability.{Capability}
use Rattle.sieve_check.specs.Lookup.{test_named}
use Rattle.sieve_check.specs.Pieces.{pieces}
use Rattle.sieve_check.specs.Rules.{PlacedCommand, breaches, lesser, least, form_rules, place_rules, place_breaches}
use Rattle.sieve_check.specs.Rules.{form_breaches, test_form_breaches, test_breaches, inner_breaches, row_breaches}
use Rattle.sieve_check.specs.Tables.{WordForm, CommandWord, TestWord}
use Rattle.sieve_check.specs.Walk.{first_breach}
use Rattle.sieve_check.proofs.Least.{lesser_none, lesser_assoc, least_append, least_is_first}
use Rattle.sieve_check.proofs.Strings.{drop_at}

pub form_least : (has : Capability → Bool) (form : WordForm) (args : List Argument) (inner : InnerTests)
    → least (form_breaches has form args inner) ≡ first_breach (form_rules has form (pieces form.tags args) inner)
form_least has form args inner = least_is_first 0 (form_rules has form (pieces form.tags args) inner) (
  omega arith,
  (omega arith, (omega arith, (omega arith, (omega arith, (omega arith, tt))))),
)

-- for a test that the table has
pub test_least : (has : Capability → Bool) (name : List ℕ) (args : List Argument) (inner : InnerTests) (w : TestWord)
    → Some w ≡ test_named name
    → lesser (first_breach (form_rules has w.form (pieces w.form.tags args) inner)) (least (inner_breaches has inner))
    ≡ least (test_breaches has (test name args inner))
test_least has name args inner w e =
    ap (λ (o : Option ℕ). lesser o (least (inner_breaches has inner))) (sym (form_least has w.form args inner))
    ∙ sym (least_append (form_breaches has w.form args inner) (inner_breaches has inner))
    ∙ ap (λ (o : Option TestWord). least (test_form_breaches has o args inner (inner_breaches has inner))) e

abbrev pub broken_by_each : (Capability → Bool) → List TestTree → List ℕ
broken_by_each has = flat_map (test_breaches has)

row_is_each : (has : Capability → Bool) (ts : List TestTree) → row_breaches has (row_of ts) ≡ broken_by_each has ts
row_is_each has [] = refl
row_is_each has (t ∷ ts) = ap (λ (xs : List ℕ). test_breaches has t ++ xs) (row_is_each has ts)

-- the first test of a list and the others
pub listed_least : (has : Capability → Bool) (t : TestTree) (ts : List TestTree)
    → lesser (least (test_breaches has t)) (least (broken_by_each has ts))
    ≡ least (inner_breaches has (listed_tests t (row_of ts)))
listed_least has t ts = ap (λ (xs : List ℕ). lesser (least (test_breaches has t)) (least xs)) (sym (row_is_each has ts))
    ∙ sym (least_append (test_breaches has t) (row_breaches has (row_of ts)))

-- one more test of a list
pub judge_turn : (has : Capability → Bool) (items : List Test) (i : ℕ) (t : Test) (f g r whole : Option ℕ)
    → i < length items → t ≡ get_or items i t → lesser f (least (broken_by_each has (map test_of (drop i items))))
    ≡ whole → g ≡ least (test_breaches has (test_of t)) → r ≡ lesser f g
    → lesser r (least (broken_by_each has (map test_of (drop (i + 1) items)))) ≡ whole
judge_turn has items i t f g r whole lt is h eg er =
    ap (λ (o : Option ℕ). lesser o (least (broken_by_each has (map test_of (drop (i + 1) items))))) (er ∙ ap (λ (o : Option ℕ). lesser f o) eg)
    ∙ lesser_assoc f (least (test_breaches has (test_of t))) (least (broken_by_each has (map test_of (drop (i + 1) items))))
    ∙ ap (λ (o : Option ℕ). lesser f o) (sym (least_append (test_breaches has (test_of t)) (broken_by_each has (map test_of (drop (i + 1) items)))))
    ∙ ap (λ (xs : List Test). lesser f (least (broken_by_each has (map test_of xs)))) (sym (drop_at items i t lt is))
    ∙ h

pub judge_done : (has : Capability → Bool) (f whole : Option ℕ) → lesser f (least (broken_by_each has [])) ≡ whole → f ≡ whole
judge_done has f whole h = sym (lesser_none f) ∙ h

-- for a command that the table has
pub command_least : (has : Capability
    → Bool) (begun : Bool) (w : CommandWord) (p : PlacedCommand) (place form inside rest all : Option ℕ)
    → place ≡ first_breach (place_rules begun w p)
    → form ≡ first_breach (form_rules has w.form (pieces w.form.tags p.args) p.inner)
    → inside ≡ least (inner_breaches has p.inner) → rest ≡ lesser form inside → all ≡ lesser place rest
    → all ≡ least (place_breaches has begun (Some w) p)
command_least has begun w p place form inside rest all ep ef ei er ea =
    ea
    ∙ ap (λ (o : Option ℕ). lesser o rest) (ep
    ∙ sym (least_is_first 0 (place_rules begun w p) (omega arith, (omega arith, (omega arith, (omega arith, tt))))))
    ∙ ap (λ (o : Option ℕ). lesser (least (breaches (place_rules begun w p))) o) (er
    ∙ ap (λ (o : Option ℕ). lesser o inside) (ef ∙ sym (form_least has w.form p.args p.inner))
    ∙ ap (λ (o : Option ℕ). lesser (least (form_breaches has w.form p.args p.inner)) o) ei
    ∙ sym (least_append (form_breaches has w.form p.args p.inner) (inner_breaches has p.inner)))
    ∙ sym (least_append (breaches (place_rules begun w p)) (form_breaches has w.form p.args p.inner ++ inner_breaches has p.inner))
