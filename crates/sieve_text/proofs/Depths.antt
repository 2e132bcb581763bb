-- Whether a tree is within a number of nested tests and a number of nested blocks, as a function that computes it.
use Rattle.std.proofs.Common.{◌≡◌, ℕ, zero, suc, ◌≤◌, ◌<◌, Bool, true, false, refl, ◌⊎◌, inl, inr, arith}
use Rattle.std.specs.Prelude.{◌&&◌}
use Rattle.std.proofs.lemmas.Bool.{and_parts}
use Rattle.sieve_syntax.specs.Tree.{TestTree, test, InnerTests, no_tests, one_test, listed_tests, TestRow, last_test, next_test, CommandTree, command}
use Rattle.sieve_syntax.specs.Tree.{EndingTree, semicolon, block, CommandTrees, no_commands, command_then, test_depth, inner_depth, row_depth}
use Rattle.sieve_syntax.specs.Tree.{command_test_depth, ending_test_depth, commands_test_depth, command_block_depth, ending_block_depth}
use Rattle.sieve_syntax.specs.Tree.{commands_block_depth}

abbrev mutual
  pub test_fits : TestTree → ℕ → Bool
  test_fits (test n args inner) zero = false
  test_fits (test n args inner) (suc d) = inner_fits inner d

  pub inner_fits : InnerTests → ℕ → Bool
  inner_fits no_tests d = true
  inner_fits (one_test t) d = test_fits t d
  inner_fits (listed_tests t row) d = test_fits t d && row_fits row d

  pub row_fits : TestRow → ℕ → Bool
  row_fits last_test d = true
  row_fits (next_test t row) d = test_fits t d && row_fits row d

abbrev mutual
  pub command_fits : CommandTree → ℕ → ℕ → Bool
  command_fits (command n args inner finish) d b = inner_fits inner d && ending_fits finish d b

  pub ending_fits : EndingTree → ℕ → ℕ → Bool
  ending_fits semicolon d b = true
  ending_fits (block cs) d zero = false
  ending_fits (block cs) d (suc b) = commands_fit cs d b

  pub commands_fit : CommandTrees → ℕ → ℕ → Bool
  commands_fit no_commands d b = true
  commands_fit (command_then c cs) d b = command_fits c d b && commands_fit cs d b

both : (a b : Bool) → a ≡ true → b ≡ true → (a && b) ≡ true
both true b p q = q
both false b p q = absurd cc

mutual
  pub test_within : (t : TestTree) (d : ℕ) → test_depth t ≤ d → test_fits t d ≡ true
  test_within (test n args inner) zero h = absurd (omega arith)
  test_within (test n args inner) (suc d) h = inner_within inner d (omega arith)

  inner_within : (i : InnerTests) (d : ℕ) → inner_depth i ≤ d → inner_fits i d ≡ true
  inner_within no_tests d h = refl
  inner_within (one_test t) d h = test_within t d h
  inner_within (listed_tests t row) d h = both (test_fits t d) (row_fits row d) (test_within t d (omega arith)) (row_within row d (omega arith))

  row_within : (r : TestRow) (d : ℕ) → row_depth r ≤ d → row_fits r d ≡ true
  row_within last_test d h = refl
  row_within (next_test t row) d h = both (test_fits t d) (row_fits row d) (test_within t d (omega arith)) (row_within row d (omega arith))

mutual
  pub test_depth-fits : (t : TestTree) (d : ℕ) → test_fits t d ≡ true → test_depth t ≤ d
  test_depth-fits (test n args inner) zero h = absurd cc
  test_depth-fits (test n args inner) (suc d) h = let k = inner_depth-fits inner d h in omega arith

  inner_depth-fits : (i : InnerTests) (d : ℕ) → inner_fits i d ≡ true → inner_depth i ≤ d
  inner_depth-fits no_tests d h = omega arith
  inner_depth-fits (one_test t) d h = test_depth-fits t d h
  inner_depth-fits (listed_tests t row) d h =
      let p = and_parts (test_fits t d) (row_fits row d) h in
      let k = test_depth-fits t d p.0 in
      let l = row_depth-fits row d p.1 in
      omega arith

  row_depth-fits : (r : TestRow) (d : ℕ) → row_fits r d ≡ true → row_depth r ≤ d
  row_depth-fits last_test d h = omega arith
  row_depth-fits (next_test t row) d h =
      let p = and_parts (test_fits t d) (row_fits row d) h in
      let k = test_depth-fits t d p.0 in
      let l = row_depth-fits row d p.1 in
      omega arith

mutual
  command_within : (c : CommandTree) (d b : ℕ) → command_test_depth c ≤ d → command_block_depth c ≤ b → command_fits c d b ≡ true
  command_within (command n args inner finish) d b h k =
      both (inner_fits inner d) (ending_fits finish d b) (inner_within inner d (omega arith))
      (ending_within finish d b (omega arith) k)

  ending_within : (f : EndingTree) (d b : ℕ) → ending_test_depth f ≤ d → ending_block_depth f ≤ b → ending_fits f d b ≡ true
  ending_within semicolon d b h k = refl
  ending_within (block cs) d zero h k = absurd (omega arith)
  ending_within (block cs) d (suc b) h k = commands_within cs d b h (omega arith)

  pub commands_within : (cs : CommandTrees) (d b : ℕ) → commands_test_depth cs ≤ d → commands_block_depth cs ≤ b → commands_fit cs d b ≡ true
  commands_within no_commands d b h k = refl
  commands_within (command_then c cs) d b h k =
      both (command_fits c d b) (commands_fit cs d b) (command_within c d b (omega arith) (omega arith))
      (commands_within cs d b (omega arith) (omega arith))

mutual
  command_depth-fits : (c : CommandTree) (d b : ℕ) → command_fits c d b ≡ true → (command_test_depth c ≤ d) × (command_block_depth c ≤ b)
  command_depth-fits (command n args inner finish) d b h =
      let p = and_parts (inner_fits inner d) (ending_fits finish d b) h in
      let k = inner_depth-fits inner d p.0 in
      let l = ending_depth-fits finish d b p.1 in
      (omega arith, l.1)

  ending_depth-fits : (f : EndingTree) (d b : ℕ) → ending_fits f d b ≡ true → (ending_test_depth f ≤ d) × (ending_block_depth f ≤ b)
  ending_depth-fits semicolon d b h = (omega arith, omega arith)
  ending_depth-fits (block cs) d zero h = absurd cc
  ending_depth-fits (block cs) d (suc b) h = let l = commands_depth-fit cs d b h in (l.0, omega arith)

  pub commands_depth-fit : (cs : CommandTrees) (d b : ℕ) → commands_fit cs d b ≡ true → (commands_test_depth cs ≤ d) × (commands_block_depth cs ≤ b)
  commands_depth-fit no_commands d b h = (omega arith, omega arith)
  commands_depth-fit (command_then c cs) d b h =
      let p = and_parts (command_fits c d b) (commands_fit cs d b) h in
      let k = command_depth-fits c d b p.0 in
      let l = commands_depth-fit cs d b p.1 in
      (omega arith, omega arith)

is_false : (b : Bool) → (b ≡ true → ⊥) → b ≡ false
is_false true h = absurd (h refl)
is_false false h = refl

-- a tree that is too deep in tests or in blocks does not fit
pub commands_deep : (cs : CommandTrees) (d b : ℕ) → (d < commands_test_depth cs) ⊎ (b < commands_block_depth cs) → commands_fit cs d b ≡ false
commands_deep cs d b (inl h) = is_false (commands_fit cs d b) (λ e. let k = commands_depth-fit cs d b e in omega arith)
commands_deep cs d b (inr h) = is_false (commands_fit cs d b) (λ e. let k = commands_depth-fit cs d b e in omega arith)
