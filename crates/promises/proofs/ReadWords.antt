-- What follows each name.
use Rattle.std.proofs.Common.{◌≡◌, ℕ, Bool, true, false, List, [], ◌∷◌, Option, Some, None, refl, sym, ap, subst, ◌∙◌, ◌⊎◌, inl, inr}
use Rattle.std.specs.Prelude.{not, codes, if◌then◌else◌}
use Rattle.std.specs.List.{list_any}
use Rattle.std.specs.Str.{bytes_eq, str_to_ascii_lowercase}
use Rattle.std.proofs.lemmas.Bool.{not-false}
use Rattle.sieve_syntax.specs.Tree.{TestTree, test, InnerTests, no_tests, one_test, listed_tests, TestRow, last_test, next_test, CommandTree, command}
use Rattle.sieve_syntax.specs.Tree.{EndingTree, semicolon, block, CommandTrees, no_commands, command_then}
use Rattle.sieve_syntax.specs.declared.tree.StringList.{StringList}
use Rattle.sieve_syntax.specs.declared.tree.StringList.TheVariants as string_list
use Rattle.sieve_syntax.specs.declared.tree.Argument.{Argument}
use Rattle.sieve_syntax.specs.declared.tree.Argument.TheVariants as arguments
use Rattle.sieve_check.specs.declared.table.Positional.{Positional}
use Rattle.sieve_check.specs.declared.table.Positional.TheVariants as places
use Rattle.sieve_check.specs.declared.table.TagKind.TheVariants as kinds
use Rattle.sieve_check.specs.Lookup.{same_name, row_where}
use Rattle.sieve_check.specs.Lookup as lookup
use Rattle.sieve_check.specs.Pieces.{pieces, positional_arguments}
use Rattle.sieve_check.specs.Rules as rules
use Rattle.sieve_check.specs.Shapes.{TakesEach, HasEnding, HasForm, TestShape, InnerShape, RowShape, HasCommandRow}
use Rattle.sieve_check.specs.Shapes.{CommandShape, EndingShape, CommandsShape}
use Rattle.sieve_check.specs.Tables as tables
use Rattle.sieve_check.specs.Tables.{WordForm, size_form}
use Rattle.sieve_check.proofs.Shaped.{shape_law, one_string, one_number, two_lists, lower_is}
use Rattle.sieve_meaning.specs.declared.words.CommandWord.{CommandWord}
use Rattle.sieve_meaning.specs.declared.words.CommandWord.TheVariants as commands
use Rattle.sieve_meaning.specs.declared.words.TestWord.{TestWord}
use Rattle.sieve_meaning.specs.declared.words.TestWord.TheVariants as tests
use Rattle.sieve_meaning.specs.Words.{command_word, test_word}
use Rattle.promises.specs.ReadingLaw.{header_tags, size_tags, fileinto_tags, include_tags, HasArguments, HasString}
use Rattle.promises.specs.ReadingLaw.{TestReads, TestIsRead, InnerIsRead, RowIsRead, CommandReads, is_branch}
use Rattle.promises.specs.ReadingLaw.{Follows, CommandIsRead, EndingIsRead, CommandsAreRead, ReadLaw}
use Rattle.promises.proofs.TagKinds.{AreKinds, are_once}
use Rattle.promises.proofs.ReadArguments.{AreRead, form_read, limit_there}

-- WORDS

command_same : (a b : List ℕ) → same_name a b ≡ true → command_word a ≡ command_word b
unfolding command_word
command_same a b h = ap (λ (l : List ℕ).
    if bytes_eq l (str_to_ascii_lowercase (codes "if")) then commands.If
    else if bytes_eq l (str_to_ascii_lowercase (codes "elsif")) then commands.ElsIf
    else if bytes_eq l (str_to_ascii_lowercase (codes "else")) then commands.Else
    else if bytes_eq l (str_to_ascii_lowercase (codes "require")) then commands.Require
    else if bytes_eq l (str_to_ascii_lowercase (codes "stop")) then commands.Stop
    else if bytes_eq l (str_to_ascii_lowercase (codes "keep")) then commands.Keep
    else if bytes_eq l (str_to_ascii_lowercase (codes "discard")) then commands.Discard
    else if bytes_eq l (str_to_ascii_lowercase (codes "return")) then commands.Return
    else if bytes_eq l (str_to_ascii_lowercase (codes "fileinto")) then commands.FileInto
    else if bytes_eq l (str_to_ascii_lowercase (codes "include")) then commands.Include
    else commands.Other) (lower_is a b h)

test_same : (a b : List ℕ) → same_name a b ≡ true → test_word a ≡ test_word b
unfolding test_word
test_same a b h = ap (λ (l : List ℕ).
    if bytes_eq l (str_to_ascii_lowercase (codes "header")) then tests.Header
    else if bytes_eq l (str_to_ascii_lowercase (codes "not")) then tests.Not
    else if bytes_eq l (str_to_ascii_lowercase (codes "allof")) then tests.AllOf
    else if bytes_eq l (str_to_ascii_lowercase (codes "anyof")) then tests.AnyOf
    else if bytes_eq l (str_to_ascii_lowercase (codes "exists")) then tests.Exists
    else if bytes_eq l (str_to_ascii_lowercase (codes "size")) then tests.Size
    else if bytes_eq l (str_to_ascii_lowercase (codes "true")) then tests.True
    else if bytes_eq l (str_to_ascii_lowercase (codes "false")) then tests.False
    else tests.Other) (lower_is a b h)

-- the row that was found is a row of the table that passes the test
Found : {R : Type 0} → (R → Bool) → List R → R → Type 0
Found holds [] w = ⊥
Found holds (r ∷ rs) w = ((holds r ≡ true) × (r ≡ w)) ⊎ Found holds rs w

no_row : {R : Type 0} (w : R) → ◌≡◌ {A = Option R} None (Some w) → ⊥
no_row w e = cc

one_row : {R : Type 0} (v w : R) → ◌≡◌ {A = Option R} (Some v) (Some w) → v ≡ w
one_row v w e = cc

found : {R : Type 0} (holds : R → Bool) (rs : List R) (w : R) → row_where holds rs ≡ Some w → Found holds rs w
unfolding Found
found holds [] w e = absurd (no_row w e)
found holds (r ∷ rs) w e = go (holds r) refl e (λ (e : row_where holds rs ≡ Some w). found holds rs w e)
  where
    go : (b : Bool) → holds r ≡ b → (if b then Some r else row_where holds rs) ≡ Some w
        → (row_where holds rs ≡ Some w → Found holds rs w) → ((holds r ≡ true) × (r ≡ w)) ⊎ Found holds rs w
    go true t e others = inl (t, one_row r w e)
    go false t e others = inr (others e)

-- POSITIONAL ARGUMENTS

takes_none : (xs : List Argument) → TakesEach [] xs → xs ≡ []
takes_none [] h = refl
takes_none (a ∷ more) h = absurd h

takes_list : (xs : List Argument) → TakesEach (places.StringList ∷ []) xs → (l : StringList) × (xs ≡ arguments.Strings l ∷ [])
takes_list [] h = absurd h
takes_list (a ∷ []) h = (h.0.0, ap (λ (b : Argument). b ∷ []) h.0.1)
takes_list (a ∷ b ∷ more) h = absurd h.1

-- the arguments of a form that has none, one string, one list, two lists, or a number
module _ (names : List (List (List ℕ))) {form : WordForm} {args : List Argument} {inner : InnerTests}
    (h : HasForm form args inner) (all : AreRead names form.tags) (each : AreKinds form names) where
  -- the arguments in their places, of a form that has these
  taken : {ps : List Positional} → form.positional ≡ ps → TakesEach ps (positional_arguments (pieces form.tags args))
  taken e = subst (λ (ps : List Positional). TakesEach ps (positional_arguments (pieces form.tags args))) e h.positional

  reads_none : form.positional ≡ [] → HasArguments names [] [] args
  reads_none e = form_read names form args inner all each h [] (takes_none _ (taken e))

  reads_string : form.positional ≡ places.OneString ∷ [] → HasString names args
  reads_string e =
      let t = one_string _ (taken e) in
      (t.0, form_read names form args inner all each h (arguments.Strings (string_list.One t.0) ∷ []) t.1)

  reads_list : form.positional ≡ places.StringList ∷ [] → (l : StringList) × HasArguments names (l ∷ []) [] args
  reads_list e = let t = takes_list _ (taken e) in (t.0, form_read names form args inner all each h (arguments.Strings t.0 ∷ []) t.1)

  reads_number : form.positional ≡ places.OneNumber ∷ [] → (n : ℕ) × HasArguments names [] (n ∷ []) args
  reads_number e = let t = one_number _ (taken e) in (t.0, form_read names form args inner all each h (arguments.Number t.0 ∷ []) t.1)

  reads_lists : form.positional ≡ places.StringList ∷ places.StringList ∷ [] → (names' : StringList)
      × (keys : StringList) × HasArguments names (names' ∷ keys ∷ []) [] args
  reads_lists e =
      let t = two_lists _ (taken e) in
      (t.0, t.1, form_read names form args inner all each h (arguments.Strings t.0 ∷ arguments.Strings t.1 ∷ []) t.2)

-- KINDS OF TAGS

header_kinds : AreKinds tables.header_form header_tags
header_kinds = (
  record { kind = kinds.Comparator; names_are = (refl, (refl, (refl, (refl, tt)))); once = λ ps h. (are_once ps tables.header_form.tags h).0 },
  (record { kind = kinds.MatchType; names_are = (refl, (refl, (refl, (refl, tt)))); once = λ ps h. (are_once ps tables.header_form.tags h).1.0 }, tt),
)

size_kinds : AreKinds size_form size_tags
size_kinds = (record { kind = kinds.SizeLimit; names_are = (refl, (refl, tt)); once = λ ps h. (are_once ps size_form.tags h).0 }, tt)

fileinto_kinds : AreKinds tables.fileinto_form fileinto_tags
fileinto_kinds = (record { kind = kinds.Copy; names_are = (refl, tt); once = λ ps h. (are_once ps tables.fileinto_form.tags h).0 }, tt)

include_kinds : AreKinds tables.include_form include_tags
include_kinds = (
  record { kind = kinds.Location; names_are = (refl, (refl, (refl, (refl, tt)))); once = λ ps h. (are_once ps tables.include_form.tags h).0 },
  (
    record { kind = kinds.Once; names_are = (refl, (refl, (refl, (refl, tt)))); once = λ ps h. (are_once ps tables.include_form.tags h).1.1.0 },
    (
      record {
        kind = kinds.Optional;
        names_are = (refl, (refl, (refl, (refl, tt))));
        once = λ ps h.
            (are_once ps tables.include_form.tags h).1.1.1.0;
      },
      tt,
    ),
  ),
)

-- TESTS

-- the word of each name of the table
record TestNames : Type 0 where
  header : test_word (codes "header") ≡ tests.Header
  exists : test_word (codes "exists") ≡ tests.Exists
  size : test_word (codes "size") ≡ tests.Size
  negated : test_word (codes "not") ≡ tests.Not
  allof : test_word (codes "allof") ≡ tests.AllOf
  anyof : test_word (codes "anyof") ≡ tests.AnyOf
  true_is : test_word (codes "true") ≡ tests.True
  false_is : test_word (codes "false") ≡ tests.False

test_names : TestNames
unfolding test_word
test_names = record { header = refl; exists = refl; size = refl; negated = refl; allof = refl; anyof = refl; true_is = refl; false_is = refl }

test_found : (name : List ℕ) (args : List Argument) (inner : InnerTests) (w : tables.TestWord)
    → HasForm w.form args inner → Found (λ (r : tables.TestWord). same_name name r.name) tables.test_table w
    → TestReads (test_word name) args inner
unfolding Found same_name
test_found name args inner w f t = by t
  where
    -- the form of the row, once it is known
    form : {v : tables.TestWord} → v ≡ w → HasForm v.form args inner
    form e = subst (λ (v : tables.TestWord). HasForm v.form args inner) (sym e) f

    is : (row : List ℕ) (v : TestWord) → test_word row ≡ v → same_name name row ≡ true → TestReads v args inner
        → TestReads (test_word name) args inner
    is row v e h r = subst (λ (u : TestWord). TestReads u args inner) (sym (test_same name row h ∙ e)) r

    by : Found (λ (r : tables.TestWord). same_name name r.name) tables.test_table w → TestReads (test_word name) args inner
    by (inl (h, e)) = is (codes "header") tests.Header test_names.header h (
      reads_lists header_tags (form e) (refl, refl, (refl, refl, (refl, refl, (refl, refl, tt)))) header_kinds refl,
      (form e).tests,
    )
    by (inr (inl (h, e))) = is (codes "exists") tests.Exists test_names.exists h (reads_list [] (form e) tt tt refl, (form e).tests)
    by (inr (inr (inl (h, e)))) = is (codes "size") tests.Size test_names.size h (
      reads_number size_tags (form e) (refl, refl, (refl, refl, tt)) size_kinds refl,
      limit_there args (not-false (list_any (rules.has_kind kinds.SizeLimit) (pieces size_form.tags args)) (form e).needed),
      (form e).tests,
    )
    by (inr (inr (inr (inl (h, e))))) = is (codes "not") tests.Not test_names.negated h (reads_none [] (form e) tt tt refl, (form e).tests)
    by (inr (inr (inr (inr (inl (h, e)))))) =
        is (codes "allof") tests.AllOf test_names.allof h (reads_none [] (form e) tt tt refl, (form e).tests)
    by (inr (inr (inr (inr (inr (inl (h, e))))))) =
        is (codes "anyof") tests.AnyOf test_names.anyof h (reads_none [] (form e) tt tt refl, (form e).tests)
    by (inr (inr (inr (inr (inr (inr (inl (h, e)))))))) =
        is (codes "true") tests.True test_names.true_is h (reads_none [] (form e) tt tt refl, (form e).tests)
    by (inr (inr (inr (inr (inr (inr (inr (inl (h, e))))))))) =
        is (codes "false") tests.False test_names.false_is h (reads_none [] (form e) tt tt refl, (form e).tests)
    by (inr (inr (inr (inr (inr (inr (inr (inr h)))))))) = absurd h

mutual
  test_read : (t : TestTree) → TestShape t → TestIsRead t
  test_read (test name args inner) h = (
    test_found name args inner h.0.word h.0.form (found (λ (r : tables.TestWord).
        same_name name r.name) tables.test_table h.0.word h.0.named),
    inner_read inner h.1,
  )

  inner_read : (inner : InnerTests) → InnerShape inner → InnerIsRead inner
  inner_read no_tests h = tt
  inner_read (one_test t) h = test_read t h
  inner_read (listed_tests t row) h = (test_read t h.0, row_read row h.1)

  row_read : (row : TestRow) → RowShape row → RowIsRead row
  row_read last_test h = tt
  row_read (next_test t row) h = (test_read t h.0, row_read row h.1)

-- COMMANDS

-- a command that is read
record IsCommand (follows : Bool) (name : List ℕ) (args : List Argument) (inner : InnerTests) (finish : EndingTree) : Type 0 where
  reads : CommandReads (command_word name) args inner finish
  follows_branch : Follows (command_word name) follows
  branch : rules.is_branch (rules.role_of (lookup.command_named name)) ≡ is_branch (command_word name)

-- the word of each name of the table
record CommandNames : Type 0 where
  require : command_word (codes "require") ≡ commands.Require
  if_is : command_word (codes "if") ≡ commands.If
  elsif : command_word (codes "elsif") ≡ commands.ElsIf
  else_is : command_word (codes "else") ≡ commands.Else
  stop : command_word (codes "stop") ≡ commands.Stop
  keep : command_word (codes "keep") ≡ commands.Keep
  discard : command_word (codes "discard") ≡ commands.Discard
  return_is : command_word (codes "return") ≡ commands.Return
  fileinto : command_word (codes "fileinto") ≡ commands.FileInto
  include : command_word (codes "include") ≡ commands.Include

command_names : CommandNames
unfolding command_word
command_names = record {
  require = refl;
  if_is = refl;
  elsif = refl;
  else_is = refl;
  stop = refl;
  keep = refl;
  discard = refl;
  return_is = refl;
  fileinto = refl;
  include = refl;
}

command_found : (follows : Bool) (name : List ℕ) (args : List Argument) (inner : InnerTests) (finish : EndingTree)
    (r : HasCommandRow follows name args inner finish)
    → Found (λ (v : tables.CommandWord). same_name name v.name) tables.command_table r.word
    → IsCommand follows name args inner finish
unfolding Found same_name
command_found follows name args inner finish r t = by t
  where
    -- what the row says, once it is known
    form : {v : tables.CommandWord} → v ≡ r.word → HasForm v.form args inner
    form e = subst (λ (v : tables.CommandWord). HasForm v.form args inner) (sym e) r.form

    ending : {v : tables.CommandWord} → v ≡ r.word → HasEnding v.has_block finish
    ending e = subst (λ (v : tables.CommandWord). HasEnding v.has_block finish) (sym e) r.ending

    branch : {v : tables.CommandWord} → v ≡ r.word → rules.lacks_branch v.role follows ≡ false
    branch e = subst (λ (v : tables.CommandWord). rules.lacks_branch v.role follows ≡ false) (sym e) r.branch

    is : (row : List ℕ) (w : CommandWord) {v : tables.CommandWord} → command_word row ≡ w → v ≡ r.word → same_name name row ≡ true
        → CommandReads w args inner finish → Follows w follows → rules.is_branch v.role ≡ is_branch w
        → IsCommand follows name args inner finish
    is row w c e h reads f b =
        let same : w ≡ command_word name = sym (command_same name row h ∙ c) in
        record {
          reads = subst (λ (u : CommandWord). CommandReads u args inner finish) same reads;
          follows_branch = subst (λ (u : CommandWord). Follows u follows) same f;
          branch = ap (λ (o : Option tables.CommandWord). rules.is_branch (rules.role_of o)) (r.named
              ∙ ap (λ (u : tables.CommandWord). Some u) (sym e)) ∙ b ∙ ap is_branch same;
        }

    by : Found (λ (v : tables.CommandWord). same_name name v.name) tables.command_table r.word
        → IsCommand follows name args inner finish
    by (inl (h, e)) =
        is (codes "require") commands.Require command_names.require e h (reads_list [] (form e) tt tt refl, (form e).tests, ending e) tt refl
    by (inr (inl (h, e))) =
        is (codes "if") commands.If command_names.if_is e h (reads_none [] (form e) tt tt refl, (form e).tests, ending e) tt refl
    by (inr (inr (inl (h, e)))) =
        is (codes "elsif") commands.ElsIf command_names.elsif e h
        (reads_none [] (form e) tt tt refl, (form e).tests, ending e) (not-false follows (branch e)) refl
    by (inr (inr (inr (inl (h, e))))) =
        is (codes "else") commands.Else command_names.else_is e h
        (reads_none [] (form e) tt tt refl, (form e).tests, ending e) (not-false follows (branch e)) refl
    by (inr (inr (inr (inr (inl (h, e)))))) =
        is (codes "stop") commands.Stop command_names.stop e h (reads_none [] (form e) tt tt refl, (form e).tests, ending e) tt refl
    by (inr (inr (inr (inr (inr (inl (h, e))))))) =
        is (codes "keep") commands.Keep command_names.keep e h (reads_none [] (form e) tt tt refl, (form e).tests, ending e) tt refl
    by (inr (inr (inr (inr (inr (inr (inl (h, e)))))))) =
        is (codes "discard") commands.Discard command_names.discard e h (reads_none [] (form e) tt tt refl, (form e).tests, ending e) tt refl
    by (inr (inr (inr (inr (inr (inr (inr (inl (h, e))))))))) =
        is (codes "return") commands.Return command_names.return_is e h (reads_none [] (form e) tt tt refl, (form e).tests, ending e) tt refl
    by (inr (inr (inr (inr (inr (inr (inr (inr (inl (h, e)))))))))) = is (codes "fileinto") commands.FileInto command_names.fileinto e h (
      reads_string fileinto_tags (form e) (refl, refl, tt) fileinto_kinds refl,
      (form e).tests,
      ending e,
    ) tt refl
    by (inr (inr (inr (inr (inr (inr (inr (inr (inr (inl (h, e))))))))))) = is (codes "include") commands.Include command_names.include e h (
      reads_string include_tags (form e) (refl, refl, (refl, refl, (refl, refl, (refl, refl, tt)))) include_kinds refl,
      (form e).tests,
      ending e,
    ) tt refl
    by (inr (inr (inr (inr (inr (inr (inr (inr (inr (inr h)))))))))) = absurd h

mutual
  command_read : (follows : Bool) (c : CommandTree) → CommandShape follows c → CommandIsRead follows c
  command_read follows (command name args inner finish) h =
      let r = command_found follows name args inner finish h.0 (found (λ (v : tables.CommandWord).
      same_name name v.name) tables.command_table h.0.word h.0.named) in
      (r.reads, r.follows_branch, inner_read inner h.0.tests, ending_read finish h.1)

  ending_read : (finish : EndingTree) → EndingShape finish → EndingIsRead finish
  ending_read semicolon h = tt
  ending_read (block cs) h = commands_read false cs h

  commands_read : (follows : Bool) (cs : CommandTrees) → CommandsShape follows cs → CommandsAreRead follows cs
  commands_read follows no_commands h = tt
  commands_read follows (command_then (command name args inner finish) cs) h =
      let r = command_found follows name args inner finish h.0.0 (found (λ (v : tables.CommandWord).
      same_name name v.name) tables.command_table h.0.0.word h.0.0.named) in (
        command_read follows (command name args inner finish) h.0,
        subst (λ (b : Bool).
            CommandsAreRead b cs) r.branch (commands_read (rules.is_branch (rules.role_of (lookup.command_named name))) cs
            h.1),
      )

pub read_law : ReadLaw
read_law tree h = commands_read false tree (shape_law tree h)
