-- Scripts as code in blocks: each jump goes to the end of a block around it. Field names, keys, paths and numbers are
-- in the code as they are in the script.
use Rattle.std.specs.Prelude.{ℕ, suc, List, [], ◌∷◌, Bool, true, false}
use Rattle.sieve_meaning.specs.Program.{Test, always, negated, all_of, any_of, has_all, over, under, header, Tests, no_test, test_then, Include, Command, require, keep, discard, stop, return, file_into, branch, include, Commands, no_command, command_then, Branches, no_branch, otherwise, if_then}
use Rattle.filing_table.specs.Comparison.{comparison}
use Rattle.filing_gen.specs.Names.{each_once, others_once}
use Rattle.filing_flow.specs.Structure.{Push, Negate, ValuesOf, JoinTwo, MatchKey, Drop, HasField, PushSize, PushNumber, IsLess, FileInto, SetKept, SetCancelled, End, Flow, nothing, action, sequence, block, leave, leave_if}

-- TESTS (RFC 5228, section 5): each pushes its truth value

-- tests that may jump out: where none does, this truth value is pushed, and where one does, the other
abbrev pub either : Bool → Bool → Flow → Flow
either past out a = block (sequence (block (sequence a (sequence (action (Push past)) (leave 1)))) (action (Push out)))

-- joins the values of the fields with these names to the list on the top
abbrev pub values_flow : List (List ℕ) → Flow
values_flow [] = nothing
values_flow (n ∷ ns) = sequence (action (ValuesOf n)) (sequence (action JoinTwo) (values_flow ns))

-- jumps out where one of these keys matches
abbrev pub keys_flow : ℕ → List (List ℕ) → Flow
keys_flow a [] = nothing
keys_flow a (k ∷ ks) = sequence (action (MatchKey a k)) (sequence (leave_if true 0) (keys_flow a ks))

-- jumps out where a field with one of these names is missing
abbrev pub names_flow : List (List ℕ) → Flow
names_flow [] = nothing
names_flow (n ∷ ns) = sequence (action (HasField n)) (sequence (leave_if false 0) (names_flow ns))

-- the values of all fields that have the names, in one list; true where some key matches
abbrev pub header_flow : ℕ → List ℕ → List (List ℕ) → List ℕ → List (List ℕ) → Flow
header_flow a n ns k ks =
    block (sequence
    (block (sequence (sequence (action (ValuesOf n)) (values_flow ns))
    (sequence (keys_flow a (k ∷ ks)) (sequence (action Drop) (sequence (action (Push false)) (leave 1))))))
    (sequence (action Drop) (action (Push true))))

abbrev mutual
  pub test_flow : Test → Flow
  test_flow (always b) = action (Push b)
  test_flow (negated t) = sequence (test_flow t) (action Negate)
  test_flow (all_of ts) = either true false (tests_flow false ts)
  test_flow (any_of ts) = either false true (tests_flow true ts)
  test_flow (has_all names) = either true false (names_flow (each_once names))
  test_flow (over n) = sequence (action (PushNumber n)) (sequence (action PushSize) (action IsLess))
  test_flow (under n) = sequence (action PushSize) (sequence (action (PushNumber n)) (action IsLess))
  test_flow (header m c n ns k ks) = header_flow (comparison m c) n (others_once n ns) k ks

  -- each test, and a jump out where it has this truth value
  pub tests_flow : Bool → Tests → Flow
  tests_flow b no_test = nothing
  tests_flow b (test_then t ts) = sequence (test_flow t) (sequence (leave_if b 0) (tests_flow b ts))

-- COMMANDS (RFC 5228, sections 3 and 4): inc gives the code of an include, and `return` leaves the block with this
-- number

-- 1 for a copy (RFC 3894, section 3)
abbrev pub copy_number : Bool → ℕ
copy_number true = 1
copy_number false = 0

abbrev mutual
  pub flow : (Include → Flow) → ℕ → Commands → Flow
  flow inc n no_command = nothing
  flow inc n (command_then x xs) = sequence (flow_one inc n x) (flow inc n xs)

  pub flow_one : (Include → Flow) → ℕ → Command → Flow
  flow_one inc n require = nothing
  flow_one inc n keep = action SetKept
  flow_one inc n discard = action SetCancelled
  flow_one inc n stop = action End
  flow_one inc n return = leave n
  flow_one inc n (file_into copy path) = action (FileInto (copy_number copy) path)
  flow_one inc n (branch bs) = block (branches_flow inc (suc n) bs)
  flow_one inc n (include i) = inc i

  -- each branch: its test, past the block where it is false, and from the block's end to the end of all branches
  pub branches_flow : (Include → Flow) → ℕ → Branches → Flow
  branches_flow inc n no_branch = nothing
  branches_flow inc n (otherwise xs) = flow inc n xs
  branches_flow inc n (if_then t xs bs) = sequence
      (block (sequence (test_flow t) (sequence (leave_if false 0) (sequence (flow inc (suc n) xs) (leave 1)))))
      (branches_flow inc n bs)

-- one branch
abbrev pub branch_flow : (Include → Flow) → ℕ → Test → Commands → Flow
branch_flow inc n t xs = block
    (sequence (test_flow t) (sequence (leave_if false 0) (sequence (flow inc (suc n) xs) (leave 1))))

-- the script, whose `return` jumps to the end of the block that it is in
abbrev pub script_flow : (Include → Flow) → Commands → Flow
script_flow inc main = flow inc 0 main
