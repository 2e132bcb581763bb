-- The entries of one command or test after another.
use Rattle.std.proofs.Common.{◌≡◌, ℕ, zero, suc, ◌+◌, ◌<◌, ◌≤◌, List, [], ◌∷◌, ◌++◌, length, map}
use Rattle.std.proofs.Common.{drop, set, get_or, add-one, drop-cons, refl, sym, ap, ◌∙◌, append_assoc, length-append, arith}
use Rattle.std.proofs.lemmas.List.{length-map, map-set, map-append, get_or-map}
use Rattle.sieve_syntax.specs.Tree.{TestTree, test, InnerTests, no_tests, one_test, listed_tests, TestRow, last_test, next_test}
use Rattle.sieve_syntax.specs.Tree.{CommandTree, command, EndingTree, semicolon, block, CommandTrees, no_commands, command_then}
use Rattle.sieve_syntax.specs.View.{test_of, inner_of, command_of, ending_of}
use Rattle.sieve_syntax.proofs.Views.{test_of-fields, command_of-fields}
use Rattle.sieve_syntax.specs.declared.tree.Test.{Test, out-Test}
use Rattle.sieve_syntax.specs.declared.tree.Command.{Command}
use Rattle.sieve_syntax.specs.declared.tree.Ending.TheViews.{out-Command}
use Rattle.tool_places.specs.Heads.{test_names, inner_names, row_names, command_names, ending_names, commands_names}
use Rattle.tool_report.specs.declared.nodes.Node.{Node}
use Rattle.tool_report.specs.declared.nodes.Thing.{Thing}
use Rattle.tool_report.specs.declared.nodes.Thing.TheVariants as things
use Rattle.tool_report.specs.Nodes.{test_name, command_name, thing_name, node_names, Part, command_part, test_part, part_of, PartWithEnd, node_entry}
use Rattle.tool_report.specs.Nodes.{node_entries, with_inside, followed_by, test_entries}
use Rattle.tool_report.specs.Nodes.{inner_entries, row_entries, command_entries, ending_entries, commands_entries}

-- ---- the end of a node

set_after : (before inside : List PartWithEnd) (e f : PartWithEnd) (n : ℕ) → n ≡ length before
    → set (before ++ e ∷ inside) n f ≡ before ++ f ∷ inside
set_after [] inside e f n is = ap (λ (k : ℕ). set (e ∷ inside) k f) is
set_after (b ∷ before) inside e f zero is = absurd (omega (arith, is))
set_after (b ∷ before) inside e f (suc n) is = ap (λ (es : List PartWithEnd). b ∷ es) (set_after before inside e f n (omega (arith, is)))

get_after : (before inside : List PartWithEnd) (e d : PartWithEnd) (n : ℕ) → n ≡ length before → get_or (before ++ e ∷ inside) n d ≡ e
get_after [] inside e d n is = ap (λ (k : ℕ). get_or (e ∷ inside) k d) is
get_after (b ∷ before) inside e d zero is = absurd (omega (arith, is))
get_after (b ∷ before) inside e d (suc n) is = get_after before inside e d n (omega (arith, is))

length_after : (before inside : List PartWithEnd) (e : PartWithEnd) → length (before ++ e ∷ inside) ≡ length before + 1 + length inside
length_after before inside e = omega (arith, length-append before (e ∷ inside))

-- the node at a number, with the end of the list as its end
pub end_set : (ns : List Node) (number : ℕ) (old new : Node) (before inside : List PartWithEnd) (part : Part) (n : ℕ)
    → number < length ns → old ≡ get_or ns number old → new.thing ≡ old.thing → new.end ≡ length ns
    → node_entries ns ≡ before ++ (part, n) ∷ inside → number ≡ length before
    → node_entries (set ns number new) ≡ before ++ with_inside part number inside
end_set ns number old new before inside part n within read thing end is at =
    let there : node_entry old ≡ (part, n) =
    ap node_entry read ∙ sym (get_or-map node_entry ns number old (node_entry old) within)
    ∙ ap (λ (es : List PartWithEnd). get_or es number (node_entry old)) is ∙ get_after before inside (part, n) (node_entry old) number at in
    let same : part_of new.thing ≡ part = ap part_of thing ∙ ap (λ (e : PartWithEnd). e.0) there in
    let long : new.end ≡ number + 1 + length inside =
    end ∙ sym (length-map ns node_entry) ∙ ap length is ∙ length_after before inside (part, n)
    ∙ ap (λ (k : ℕ). k + 1 + length inside) (sym at) in
    let entry : node_entry new ≡ (part, number + 1 + length inside) = λ i. (same i, long i) in
    map-set node_entry ns number new
    ∙ ap (λ (es : List PartWithEnd). set es number (node_entry new)) is
    ∙ set_after before inside (part, n) (node_entry new) number at
    ∙ ap (λ (e : PartWithEnd). before ++ e ∷ inside) entry

-- too few nodes for this to be so
pub end_past : (ns : List Node) (number : ℕ) (before inside : List PartWithEnd) (e : PartWithEnd) → length ns ≤ number
    → node_entries ns ≡ before ++ e ∷ inside → number ≡ length before → ⊥
end_past ns number before inside e past is at =
    omega (arith, past, at, sym (length-map ns node_entry) ∙ ap length is ∙ length_after before inside e)

-- ---- the fields of trees

pub test_entries-fields : (t : Test) (n : ℕ) → test_entries (test_of t) n
    ≡ with_inside (test_part (test_of t)) n (inner_entries (inner_of (out-Test t).tests) (n + 1))
test_entries-fields t n =
    ap (λ (x : TestTree). test_entries x n) (test_of-fields t)
    ∙ ap (λ (x : TestTree). with_inside (test_part x) n (inner_entries (inner_of (out-Test t).tests) (n + 1))) (sym (test_of-fields t))

pub command_entries-fields : (c : Command) (n : ℕ) → command_entries (command_of c) n
    ≡ with_inside (command_part (command_of c)) n
    (followed_by (n + 1) (inner_entries (inner_of (out-Command c).tests) (n + 1)) (ending_entries (ending_of (out-Command c).ending)))
command_entries-fields c n =
    ap (λ (x : CommandTree). command_entries x n) (command_of-fields c)
    ∙ ap (λ (x : CommandTree). with_inside (command_part x) n (followed_by (n + 1) (inner_entries (inner_of (out-Command c).tests) (n + 1))
    (ending_entries (ending_of (out-Command c).ending)))) (sym (command_of-fields c))

-- ---- nodes after nodes

plus_none : (k : ℕ) → k + 1 + 0 ≡ k + 1
plus_none k = omega arith

-- a node, and then those that are inside
pub entered_then : (n0 n1 n2 n3 : List Node) (part : Part) (number : ℕ) (next : ℕ → List PartWithEnd) (all : List PartWithEnd)
    → number ≡ length n0 → node_entries n1 ≡ node_entries n0 ++ (part, length n0) ∷ []
    → node_entries n2 ≡ node_entries n1 ++ next (length n1)
    → ((before inside : List PartWithEnd) (p : Part) (k : ℕ) → node_entries n2 ≡ before ++ (p, k) ∷ inside → number ≡ length before
    → node_entries n3 ≡ before ++ with_inside p number inside)
    → all ≡ with_inside part (length n0) (next (length n0 + 1))
    → node_entries n3 ≡ node_entries n0 ++ all
entered_then n0 n1 n2 n3 part number next all at first then last whole =
    let long : length n1 ≡ length n0 + 1 =
    sym (length-map n1 node_entry) ∙ ap length first ∙ length_after (node_entries n0) [] (part, length n0)
    ∙ ap (λ (k : ℕ). k + 1 + 0) (length-map n0 node_entry) ∙ plus_none (length n0) in
    let inside : List PartWithEnd = next (length n0 + 1) in
    let there : node_entries n2 ≡ node_entries n0 ++ (part, length n0) ∷ inside =
    then ∙ ap (λ (k : ℕ). node_entries n1 ++ next k) long ∙ ap (λ (es : List PartWithEnd). es ++ inside) first
    ∙ append_assoc (node_entries n0) ((part, length n0) ∷ []) inside in
    last (node_entries n0) inside part (length n0) there (at ∙ sym (length-map n0 node_entry))
    ∙ ap (λ (k : ℕ). node_entries n0 ++ with_inside part k inside) at
    ∙ ap (λ (es : List PartWithEnd). node_entries n0 ++ es) (sym whole)

-- some nodes, and then others
pub followed : (n0 n1 n2 : List Node) (first : List PartWithEnd) (next : ℕ → List PartWithEnd) → node_entries n1 ≡ node_entries n0 ++ first
    → node_entries n2 ≡ node_entries n1 ++ next (length n1)
    → node_entries n2 ≡ node_entries n0 ++ followed_by (length n0) first next
followed n0 n1 n2 first next one then =
    let long : length n1 ≡ length n0 + length first =
    sym (length-map n1 node_entry) ∙ ap length one ∙ length-append (node_entries n0) first
    ∙ ap (λ (k : ℕ). k + length first) (length-map n0 node_entry) in
    then ∙ ap (λ (k : ℕ). node_entries n1 ++ next k) long
    ∙ ap (λ (es : List PartWithEnd). es ++ next (length n0 + length first)) one
    ∙ append_assoc (node_entries n0) first (next (length n0 + length first))

-- the next one of a row
pub followed_more : (n0 n1 : List Node) (all first : List PartWithEnd) (next : ℕ → List PartWithEnd) → node_entries n1 ≡ node_entries n0 ++ first
    → node_entries n0 ++ followed_by (length n0) first next ≡ all → node_entries n1 ++ next (length n1) ≡ all
followed_more n0 n1 all first next one before =
    let long : length n1 ≡ length n0 + length first =
    sym (length-map n1 node_entry) ∙ ap length one ∙ length-append (node_entries n0) first
    ∙ ap (λ (k : ℕ). k + length first) (length-map n0 node_entry) in
    ap (λ (k : ℕ). node_entries n1 ++ next k) long
    ∙ ap (λ (es : List PartWithEnd). es ++ next (length n0 + length first)) one
    ∙ append_assoc (node_entries n0) first (next (length n0 + length first))
    ∙ before

-- the first one of a row
pub row_begins : (n0 n1 : List Node) (t : TestTree) (row : TestRow) (i : InnerTests) → i ≡ listed_tests t row
    → node_entries n1 ≡ node_entries n0 ++ test_entries t (length n0)
    → node_entries n1 ++ row_entries row (length n1) ≡ node_entries n0 ++ inner_entries i (length n0)
row_begins n0 n1 t row i is one =
    followed_more n0 n1 _ (test_entries t (length n0)) (row_entries row) one
    (ap (λ (x : InnerTests). node_entries n0 ++ inner_entries x (length n0)) (sym is))

-- the next element of a list, and the rest
pub next_of : {A : Type 0} (xs : List A) (k : ℕ) (x : A) → k < length xs → x ≡ get_or xs k x → drop k xs ≡ x ∷ drop (k + 1) xs
next_of {A} xs k x lt is = rw (add-one, drop-cons xs k x) (ap (λ (y : A). y ∷ drop (suc k) xs) (sym is))

-- ---- their names

abbrev part_name : Part → List ℕ
part_name (command_part c) = command_name c
part_name (test_part t) = test_name t

abbrev entry_names : List PartWithEnd → List (List ℕ)
entry_names es = map (λ (e : PartWithEnd). part_name e.0) es

names-append : (es fs : List PartWithEnd) → entry_names (es ++ fs) ≡ entry_names es ++ entry_names fs
names-append es fs = map-append (λ (e : PartWithEnd). part_name e.0) es fs

thing_part : (t : Thing) → thing_name t ≡ part_name (part_of t)
thing_part (things.Command c) = refl
thing_part (things.Test t) = refl

pub names_of_nodes : (ns : List Node) → node_names ns ≡ entry_names (node_entries ns)
names_of_nodes [] = refl
names_of_nodes (n ∷ ns) = λ i. thing_part n.thing i ∷ names_of_nodes ns i

mutual
  test_named : (t : TestTree) (n : ℕ) → entry_names (test_entries t n) ≡ test_names t
  test_named (test name args inner) n = ap (λ (ns : List (List ℕ)). name ∷ ns) (inner_named inner (n + 1))

  inner_named : (i : InnerTests) (n : ℕ) → entry_names (inner_entries i n) ≡ inner_names i
  inner_named no_tests n = refl
  inner_named (one_test t) n = test_named t n
  inner_named (listed_tests t row) n =
      names-append (test_entries t n) (row_entries row (n + length (test_entries t n)))
      ∙ (λ i. test_named t n i ++ row_named row (n + length (test_entries t n)) i)

  row_named : (r : TestRow) (n : ℕ) → entry_names (row_entries r n) ≡ row_names r
  row_named last_test n = refl
  row_named (next_test t row) n =
      names-append (test_entries t n) (row_entries row (n + length (test_entries t n)))
      ∙ (λ i. test_named t n i ++ row_named row (n + length (test_entries t n)) i)

mutual
  command_named : (c : CommandTree) (n : ℕ) → entry_names (command_entries c n) ≡ command_names c
  command_named (command name args inner finish) n =
      let m : ℕ = n + 1 + length (inner_entries inner (n + 1)) in
      ap (λ (ns : List (List ℕ)). name ∷ ns) (names-append (inner_entries inner (n + 1)) (ending_entries finish m)
      ∙ (λ i. inner_named inner (n + 1) i ++ ending_named finish m i))

  ending_named : (e : EndingTree) (n : ℕ) → entry_names (ending_entries e n) ≡ ending_names e
  ending_named semicolon n = refl
  ending_named (block cs) n = commands_named cs n

  commands_named : (cs : CommandTrees) (n : ℕ) → entry_names (commands_entries cs n) ≡ commands_names cs
  commands_named no_commands n = refl
  commands_named (command_then c cs) n =
      names-append (command_entries c n) (commands_entries cs (n + length (command_entries c n)))
      ∙ (λ i. command_named c n i ++ commands_named cs (n + length (command_entries c n)) i)

pub named_by_entries : (ns : List Node) (cs : CommandTrees) → node_entries ns ≡ commands_entries cs 0 → node_names ns ≡ commands_names cs
named_by_entries ns cs is = names_of_nodes ns ∙ ap entry_names is ∙ commands_named cs 0
