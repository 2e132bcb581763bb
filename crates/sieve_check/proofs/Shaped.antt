-- Scripts without refusal have the shape of the tables.
use Rattle.std.proofs.Common.{◌≡◌, ℕ, Bool, true, false, List, [], ◌∷◌, ◌++◌, Option, Some, None, refl, sym, ap, subst, ◌∙◌}
use Rattle.std.specs.Prelude.{◌||◌, ◌&&◌, not, codes}
use Rattle.std.specs.List.{list_any}
use Rattle.std.specs.Str.{bytes_eq, str_to_ascii_lowercase}
use Rattle.std.specs.Cmp.Lexicographic.{pointwise}
use Rattle.std.proofs.lemmas.Slice.Eq.{bytes_eq-Decides}
use Rattle.std.proofs.lemmas.Bool.{or_parts, and_parts, not-false}
use Rattle.sieve_syntax.specs.declared.tree.StringList.{StringList}
use Rattle.sieve_syntax.specs.declared.tree.StringList.TheVariants as string_lists
use Rattle.sieve_syntax.specs.declared.tree.Argument.{Argument}
use Rattle.sieve_syntax.specs.declared.tree.Argument.TheVariants as arguments
use Rattle.sieve_syntax.specs.Tree.{TestTree, test, InnerTests, no_tests, one_test, listed_tests, TestRow, last_test, next_test, CommandTree, command}
use Rattle.sieve_syntax.specs.Tree.{EndingTree, semicolon, block, CommandTrees, no_commands, command_then}
use Rattle.sieve_check.specs.declared.table.Capability.{Capability}
use Rattle.sieve_check.specs.declared.table.Positional.{Positional}
use Rattle.sieve_check.specs.declared.table.Positional.TheVariants as places
use Rattle.sieve_check.specs.declared.table.TagKind.TheVariants as kinds
use Rattle.sieve_check.specs.declared.table.Role.TheVariants as roles
use Rattle.sieve_check.specs.declared.table.TestsForm.{TestsForm}
use Rattle.sieve_check.specs.declared.table.TestsForm.TheVariants.{NoTest, OneTest, TestList}
use Rattle.sieve_check.specs.Tables.{WordForm, CommandWord, TestWord, command_table, test_table, plain, command_word}
use Rattle.sieve_check.specs.Tables.{test_word, fileinto_form, header_form, size_form}
use Rattle.sieve_check.specs.Lookup.{same_name, row_where, command_named, test_named}
use Rattle.sieve_check.specs.Pieces.{pieces, positional_arguments}
use Rattle.sieve_check.specs.Rules
use Rattle.sieve_check.specs.Rules.{PlacedCommand, Rule, breaches, least, lesser, earlier, form_breaches, test_form_breaches, place_breaches}
use Rattle.sieve_check.specs.Rules.{test_breaches, inner_breaches, row_breaches, command_breaches, refusal_from, refusal_of, command_in_order}
use Rattle.sieve_check.specs.Rules.{ending_in_order, in_order, is_block, is_branch, role_of, command_name, takes, has_wrong_tests, has_wrong_ending}
use Rattle.sieve_check.specs.Rules.{lacks_branch, named_by, has_begun, place_rules}
use Rattle.sieve_check.specs.Shapes.{Takes, TakesEach, HasTests, HasEnding, HasForm, HasTestRow, TestShape, InnerShape, RowShape, CommandShape}
use Rattle.sieve_check.specs.Shapes.{EndingShape, CommandsShape, ShapeLaw, NameLaw, IfLaw, FileintoLaw, HeaderLaw, SizeLaw}

-- ---- nothing is broken

nothing_before : (xs ys : List ℕ) → xs ++ ys ≡ [] → (xs ≡ []) × (ys ≡ [])
nothing_before [] ys h = (refl, h)
nothing_before (x ∷ xs) ys h = absurd cc

none_broken : (b : Bool) (n : ℕ) (rs : List Rule) → breaches ((b, n) ∷ rs) ≡ [] → (b ≡ false) × (breaches rs ≡ [])
none_broken true n rs h = absurd cc
none_broken false n rs h = (refl, h)

some_least : (n : ℕ) (o : Option ℕ) → lesser (Some n) o ≡ None → ⊥
some_least n None h = cc
some_least n (Some m) h = cc

none_least : (ns : List ℕ) → least ns ≡ None → ns ≡ []
none_least [] h = refl
none_least (n ∷ ns) h = absurd (some_least n (least ns) h)

none_earlier : (o r : Option ℕ) → earlier o r ≡ None → (o ≡ None) × (r ≡ None)
none_earlier None r h = (refl, h)
none_earlier (Some n) r h = absurd cc

-- ---- forms

is_taken : (p : Positional) (a : Argument) → takes p a ≡ true → Takes p a
is_taken places.OneString (arguments.Strings (string_lists.One s)) h = (s, refl)
is_taken places.StringList (arguments.Strings l) h = (l, refl)
is_taken places.OneNumber (arguments.Number n) h = (n, refl)
is_taken p a h = absurd cc

are_taken : (ps : List Positional) (given : List Argument) → pointwise takes ps given ≡ true → TakesEach ps given
are_taken [] [] h = tt
are_taken [] (a ∷ more) h = absurd cc
are_taken (p ∷ ps) [] h = absurd cc
are_taken (p ∷ ps) (a ∷ more) h = let b = and_parts (takes p a) (pointwise takes ps more) h in (is_taken p a b.0, are_taken ps more b.1)

has_tests : (f : TestsForm) (inner : InnerTests) → has_wrong_tests f inner ≡ false → HasTests f inner
has_tests NoTest no_tests h = refl
has_tests OneTest (one_test t) h = (t, refl)
has_tests TestList (listed_tests t row) h = (t, row, refl)
has_tests f inner h = absurd cc

has_ending : (b : Bool) (finish : EndingTree) → has_wrong_ending b (is_block finish) ≡ false → HasEnding b finish
has_ending true semicolon h = absurd cc
has_ending true (block cs) h = (cs, refl)
has_ending false semicolon h = refl
has_ending false (block cs) h = absurd cc

form_shape : (has : Capability → Bool) (form : WordForm) (args : List Argument) (inner : InnerTests)
    → form_breaches has form args inner ≡ [] → HasForm form args inner
form_shape has form args inner h =
    let ps = pieces form.tags args in
    let a = none_broken (Rules.lacks_capability has form ps) 34 ((Rules.has_wrong_tag ps, 35)
    ∷ (Rules.has_tag_twice form ps, 36) ∷ (Rules.has_wrong_arguments form ps, 37)
    ∷ (list_any Rules.is_unknown_comparator ps, 38) ∷ (has_wrong_tests form.tests inner, 41) ∷ []) h in
    let b = none_broken (Rules.has_wrong_tag ps) 35 ((Rules.has_tag_twice form ps, 36)
    ∷ (Rules.has_wrong_arguments form ps, 37) ∷ (list_any Rules.is_unknown_comparator ps, 38)
    ∷ (has_wrong_tests form.tests inner, 41) ∷ []) a.1 in
    let d = none_broken (Rules.has_tag_twice form ps) 36 ((Rules.has_wrong_arguments form ps, 37)
    ∷ (list_any Rules.is_unknown_comparator ps, 38) ∷ (has_wrong_tests form.tests inner, 41) ∷ []) b.1 in
    let e = none_broken (Rules.has_wrong_arguments form ps) 37 ((list_any Rules.is_unknown_comparator ps, 38)
    ∷ (has_wrong_tests form.tests inner, 41) ∷ []) d.1 in
    let f = none_broken (list_any Rules.is_unknown_comparator ps) 38 ((has_wrong_tests form.tests inner, 41) ∷ []) e.1 in
    let g = none_broken (has_wrong_tests form.tests inner) 41 [] f.1 in
    let k = or_parts (not (Rules.fits form ps)) (list_any Rules.lacks_string ps || Rules.lacks_tag form.needs_tag ps) e.0 in
    let m = or_parts (list_any Rules.lacks_string ps) (Rules.lacks_tag form.needs_tag ps) k.1 in
    record {
      tags = b.0;
      once = d.0;
      positional =
          are_taken form.positional (positional_arguments ps) (not-false (Rules.fits form ps) k.0);
      strings = m.0;
      needed = m.1;
      comparators = f.0;
      tests = has_tests form.tests inner g.0;
    }

-- ---- tests

record KnownTest (has : Capability → Bool) (name : List ℕ) (args : List Argument) (inner : InnerTests) : Type 0 where
  row : HasTestRow name args inner
  inside : inner_breaches has inner ≡ []

test_at : (has : Capability → Bool) (name : List ℕ) (args : List Argument) (inner : InnerTests) (o : Option TestWord)
    → test_named name ≡ o → test_form_breaches has o args inner (inner_breaches has inner) ≡ []
    → KnownTest has name args inner
test_at has name args inner None e h = absurd cc
test_at has name args inner (Some w) e h =
    let n = nothing_before (form_breaches has w.form args inner) (inner_breaches has inner) h in
    record { row = record { word = w; named = e; form = form_shape has w.form args inner n.0 }; inside = n.1 }

mutual
  test_shape : (has : Capability → Bool) (t : TestTree) → test_breaches has t ≡ [] → TestShape t
  test_shape has (test name args inner) h = let k = test_at has name args inner (test_named name) refl h in (k.row, inner_shape has inner k.inside)

  inner_shape : (has : Capability → Bool) (inner : InnerTests) → inner_breaches has inner ≡ [] → InnerShape inner
  inner_shape has no_tests h = tt
  inner_shape has (one_test t) h = test_shape has t h
  inner_shape has (listed_tests t row) h = let n = nothing_before (test_breaches has t) (row_breaches has row) h in
      (test_shape has t n.0, row_shape has row n.1)

  row_shape : (has : Capability → Bool) (row : TestRow) → row_breaches has row ≡ [] → RowShape row
  row_shape has last_test h = tt
  row_shape has (next_test t row) h = let n = nothing_before (test_breaches has t) (row_breaches has row) h in
      (test_shape has t n.0, row_shape has row n.1)

-- ---- commands

record Fine (p : PlacedCommand) : Type 0 where
  word : CommandWord
  named : p.word ≡ Some word
  form : HasForm word.form p.args p.inner
  ending : has_wrong_ending word.has_block p.has_block ≡ false
  branch : lacks_branch word.role p.follows_branch ≡ false
  tests : InnerShape p.inner

fine_at : (has : Capability → Bool) (begun : Bool) (p : PlacedCommand) (o : Option CommandWord) → p.word ≡ o
    → place_breaches has begun o p ≡ [] → Fine p
fine_at has begun p None e h = absurd cc
fine_at has begun p (Some w) e h =
    let n = nothing_before (breaches (place_rules begun w p)) (form_breaches has w.form p.args p.inner ++ inner_breaches has p.inner) h in
    let m = nothing_before (form_breaches has w.form p.args p.inner) (inner_breaches has p.inner) n.1 in
    let a = none_broken (Rules.is_require w.role && Rules.names_unknown p.args) 30 ((
      Rules.is_require w.role && begun,
      31,
    ) ∷ (lacks_branch w.role p.follows_branch, 39) ∷ (has_wrong_ending w.has_block p.has_block, 40) ∷ []) n.0 in
    let b = none_broken (Rules.is_require w.role && begun) 31 ((lacks_branch w.role p.follows_branch, 39)
    ∷ (has_wrong_ending w.has_block p.has_block, 40) ∷ []) a.1 in
    let d = none_broken (lacks_branch w.role p.follows_branch) 39 ((has_wrong_ending w.has_block p.has_block, 40) ∷ []) b.1 in
    let f = none_broken (has_wrong_ending w.has_block p.has_block) 40 [] d.1 in
    record { word = w; named = e; form = form_shape has w.form p.args p.inner m.0; ending = f.0; branch = d.0; tests = inner_shape has p.inner m.1 }

abbrev EachFine : List PlacedCommand → Type 0
EachFine [] = Unit {0}
EachFine (p ∷ ps) = Fine p × EachFine ps

each_fine : (before ps : List PlacedCommand) → refusal_from before ps ≡ None → EachFine ps
unfolding refusal_from
each_fine before [] h = tt
each_fine before (p ∷ ps) h =
    let n = none_earlier (least (command_breaches before p)) (refusal_from (before ++ p ∷ []) ps) h in
    (fine_at (named_by before) (has_begun before) p p.word refl (none_least (command_breaches before p) n.0), each_fine (before ++ p ∷ []) ps n.1)

parts_fine : (xs ys : List PlacedCommand) → EachFine (xs ++ ys) → EachFine xs × EachFine ys
parts_fine [] ys h = (tt, h)
parts_fine (x ∷ xs) ys h = let m = parts_fine xs ys h.1 in ((h.0, m.0), m.1)

mutual
  command_shape : (follows : Bool) (c : CommandTree) → EachFine (command_in_order follows c) → CommandShape follows c
  command_shape follows (command name args inner finish) h = (
    record {
      word = h.0.word;
      named = h.0.named;
      form = h.0.form;
      ending =
          has_ending h.0.word.has_block finish h.0.ending;
      branch = h.0.branch;
      tests = h.0.tests;
    },
    ending_shape finish h.1,
  )

  ending_shape : (finish : EndingTree) → EachFine (ending_in_order finish) → EndingShape finish
  ending_shape semicolon h = tt
  ending_shape (block cs) h = commands_shape false cs h

  commands_shape : (follows : Bool) (cs : CommandTrees) → EachFine (in_order follows cs) → CommandsShape follows cs
  commands_shape follows no_commands h = tt
  commands_shape follows (command_then c cs) h =
      let m = parts_fine (command_in_order follows c) (in_order (is_branch (role_of (command_named (command_name c)))) cs) h in
      (command_shape follows c m.0, commands_shape (is_branch (role_of (command_named (command_name c)))) cs m.1)

pub shape_law : ShapeLaw
unfolding refusal_of
shape_law tree h = commands_shape false tree (each_fine [] (in_order false tree) h)

-- ---- names

pub lower_is : (a b : List ℕ) → same_name a b ≡ true → str_to_ascii_lowercase a ≡ str_to_ascii_lowercase b
unfolding same_name
lower_is a b h = (bytes_eq-Decides (str_to_ascii_lowercase a) (str_to_ascii_lowercase b)).0 h

same_row : {R : Type 0} (name : R → List ℕ) (rs : List R) (a b : List ℕ)
    → str_to_ascii_lowercase a ≡ str_to_ascii_lowercase b
    → row_where (λ r. same_name a (name r)) rs ≡ row_where (λ r. same_name b (name r)) rs
unfolding same_name
same_row name rs a b e = ap (λ (l : List ℕ). row_where (λ r. bytes_eq l (str_to_ascii_lowercase (name r))) rs) e

pub name_law : NameLaw
name_law a b h = (
  same_row (λ (r : CommandWord). r.name) command_table a b (lower_is a b h),
  same_row (λ (r : TestWord). r.name) test_table a b (lower_is a b h),
)

-- ---- rows by name

the_same : {A : Type 0} (a b : A) → ◌≡◌ {A = Option A} (Some a) (Some b) → a ≡ b
the_same a b e = cc

if_row : command_named (codes "if") ≡ Some (command_word (codes "if") roles.If (plain [] OneTest) true)
unfolding same_name
if_row = refl

fileinto_row : command_named (codes "fileinto") ≡ Some (command_word (codes "fileinto") roles.Other fileinto_form false)
unfolding same_name
fileinto_row = refl

header_row : test_named (codes "header") ≡ Some (test_word (codes "header") header_form)
unfolding same_name
header_row = refl

size_row : test_named (codes "size") ≡ Some (test_word (codes "size") size_form)
unfolding same_name
size_row = refl

command_is : (name row : List ℕ) (w v : CommandWord) → same_name name row ≡ true → command_named name ≡ Some w → command_named row ≡ Some v → w ≡ v
command_is name row w v h e f = the_same w v (sym e ∙ (name_law name row h).0 ∙ f)

test_is : (name row : List ℕ) (w v : TestWord) → same_name name row ≡ true → test_named name ≡ Some w → test_named row ≡ Some v → w ≡ v
test_is name row w v h e f = the_same w v (sym e ∙ (name_law name row h).1 ∙ f)

no_arguments : (args : List Argument) → Rules.has_wrong_tag (pieces [] args) ≡ false
    → TakesEach [] (positional_arguments (pieces [] args)) → args ≡ []
no_arguments [] h k = refl
no_arguments (arguments.Strings l ∷ more) h k = absurd k
no_arguments (arguments.Number n ∷ more) h k = absurd k
no_arguments (arguments.Tag name ∷ more) h k = absurd cc

pub one_string : (xs : List Argument) → TakesEach (places.OneString ∷ []) xs → (s : List ℕ) × (xs ≡ arguments.Strings (string_lists.One s) ∷ [])
one_string [] h = absurd h
one_string (a ∷ []) h = (h.0.0, ap (λ (b : Argument). b ∷ []) h.0.1)
one_string (a ∷ b ∷ more) h = absurd h.1

pub one_number : (xs : List Argument) → TakesEach (places.OneNumber ∷ []) xs → (n : ℕ) × (xs ≡ arguments.Number n ∷ [])
one_number [] h = absurd h
one_number (a ∷ []) h = (h.0.0, ap (λ (b : Argument). b ∷ []) h.0.1)
one_number (a ∷ b ∷ more) h = absurd h.1

pub two_lists : (xs : List Argument) → TakesEach (places.StringList ∷ places.StringList ∷ []) xs → (names : StringList)
    × (keys : StringList) × (xs ≡ arguments.Strings names ∷ arguments.Strings keys ∷ [])
two_lists [] h = absurd h
two_lists (a ∷ []) h = absurd h.1
two_lists (a ∷ b ∷ []) h = (h.0.0, h.1.0.0, both_are a b (arguments.Strings h.0.0) (arguments.Strings h.1.0.0) h.0.1 h.1.0.1)
  where
    both_are : (a b c d : Argument) → a ≡ c → b ≡ d → ◌≡◌ {A = List Argument} (a ∷ b ∷ []) (c ∷ d ∷ [])
    both_are a b c d e f = cc
two_lists (a ∷ b ∷ c ∷ more) h = absurd h.1.1

pub if_law : IfLaw
if_law follows name args inner finish h r =
    let e = command_is name (codes "if") r.word (command_word (codes "if") roles.If (plain [] OneTest) true) h r.named if_row in
    let f = subst (λ (w : CommandWord). HasForm w.form args inner) e r.form in
    (no_arguments args f.tags f.positional, f.tests, subst (λ (w : CommandWord). HasEnding w.has_block finish) e r.ending)

pub fileinto_law : FileintoLaw
fileinto_law follows name args inner finish h r =
    let e = command_is name (codes "fileinto") r.word (command_word (codes "fileinto") roles.Other fileinto_form false) h r.named fileinto_row in
    let f = subst (λ (w : CommandWord). HasForm w.form args inner) e r.form in (
      one_string (positional_arguments (pieces fileinto_form.tags args)) f.positional,
      f.tests,
      subst (λ (w : CommandWord). HasEnding w.has_block finish) e r.ending,
    )

pub header_law : HeaderLaw
header_law name args inner h r =
    let e = test_is name (codes "header") r.word (test_word (codes "header") header_form) h r.named header_row in
    let f = subst (λ (w : TestWord). HasForm w.form args inner) e r.form in
    (two_lists (positional_arguments (pieces header_form.tags args)) f.positional, f.tests)

pub size_law : SizeLaw
size_law name args inner h r =
    let e = test_is name (codes "size") r.word (test_word (codes "size") size_form) h r.named size_row in
    let f = subst (λ (w : TestWord). HasForm w.form args inner) e r.form in (
      one_number (positional_arguments (pieces size_form.tags args)) f.positional,
      not-false (list_any (Rules.has_kind kinds.SizeLimit) (pieces size_form.tags args)) f.needed,
      f.tests,
    )
