-- Commands of the tree that were written one after the other.
use Rattle.std.proofs.Common.{◌≡◌, ℕ, suc, ◌+◌, ◌≤◌, List, [], ◌∷◌, Bool, true, false, length, map, refl, ap, subst, arith, drop, get_or, ◌<◌}
use Rattle.std.specs.Prelude.{if◌then◌else◌}
use Rattle.filing_image.specs.declared.instruction.Operation.TheVariants.{Jump, JumpUnless}
use Rattle.sieve_syntax.specs.Tree.{CommandTree, command, CommandTrees, no_commands, InnerTests, EndingTree}
use Rattle.sieve_syntax.specs.Tree as trees
use Rattle.sieve_syntax.specs.declared.tree.Argument.{Argument}
use Rattle.sieve_syntax.specs.declared.tree.Command.{Command as TreeCommand}
use Rattle.sieve_syntax.specs.declared.tree.Ending.TheViews.{out-Command}
use Rattle.sieve_syntax.specs.View.{command_of, commands_of, inner_of, ending_of}
use Rattle.sieve_syntax.proofs.Views.{command_of-fields}
use Rattle.sieve_meaning.specs.declared.words.CommandWord.{CommandWord}
use Rattle.sieve_meaning.specs.declared.words.CommandWord.TheVariants as words
use Rattle.sieve_meaning.specs.Words.{command_word}
use Rattle.sieve_meaning.specs.Program as program
use Rattle.sieve_meaning.specs.Program.{Test, Include, Commands, Branches}
use Rattle.sieve_meaning.specs.Reading.{only_in, block_in, program_of, branches_of, command_named}
use Rattle.filing_flow.specs.Structure.{Flow, nothing, sequence, block, leave, leave_if, size}
use Rattle.filing_flow.specs.Code.{Stands, end_at}
use Rattle.filing_gen.specs.BlockCode.{test_flow, flow, flow_one, branches_flow, branch_flow}
use Rattle.filing_flow.specs.Whole.{whole}
use Rattle.filing_gen.specs.Adds.{operands_of, Puts, Emits, IsCode}
use Rattle.sieve_meaning.specs.Branching.{part_of, is_branch}
use Rattle.filing_gen.specs.Emission.{commands_long, one_long, branches_long, plain_long, part_long, long_from}
use Rattle.filing_gen.specs.Emission.{plain_flow, part_flow, part_ends, rest_flow, is_apart, EmitsPart}
use Rattle.filing_gen.specs.declared.output.Output.{Output}
use Rattle.sieve_meaning.specs.declared.branches.BranchPart.{BranchPart}
use Rattle.sieve_meaning.specs.declared.branches.BranchPart.TheVariants.{Branch, Otherwise, Plain}
use Rattle.filing_gen.proofs.Emitted.{emits_sequence, emits_block, emits_nothing, after_nothing, first_of_block}
use Rattle.filing_gen.proofs.Emitted.{leave_emitted, leave_if_emitted, Grows, grows, turn}

-- how many operations commands take, wherever `return` goes
module _ (g : Include → Flow) where
  mutual
    pub flow_long : (n : ℕ) (xs : Commands) → size (flow g n xs) ≡ commands_long (λ i. size (g i)) xs
    flow_long n program.no_command = refl
    flow_long n (program.command_then x xs) = omega (arith, one_is_long n x, flow_long n xs)

    one_is_long : (n : ℕ) (x : program.Command) → size (flow_one g n x) ≡ one_long (λ i. size (g i)) x
    one_is_long n program.require = refl
    one_is_long n program.keep = refl
    one_is_long n program.discard = refl
    one_is_long n program.stop = refl
    one_is_long n program.return = refl
    one_is_long n (program.file_into copy path) = refl
    one_is_long n (program.branch bs) = branches_are_long (suc n) bs
    one_is_long n (program.include i) = refl

    branches_are_long : (n : ℕ) (bs : Branches) → size (branches_flow g n bs) ≡ branches_long (λ i. size (g i)) bs
    branches_are_long n program.no_branch = refl
    branches_are_long n (program.otherwise xs) = flow_long n xs
    branches_are_long n (program.if_then t xs bs) = omega (arith, flow_long (suc n) xs, branches_are_long n bs)

-- one command before others
long_then : (w : Include → ℕ) (word : CommandWord) (is_open : Bool) (name : List ℕ) (args : List Argument)
    (inner : InnerTests) (finish : EndingTree) (more : CommandTrees) → command_word name ≡ word
    → long_from w is_open (trees.command_then (command name args inner finish) more)
    ≡ part_long w (part_of word is_open) (command name args inner finish) + long_from w
    (is_branch (part_of word is_open)) more
long_then w words.If true name args inner finish more is = rw is (omega arith)
long_then w words.If false name args inner finish more is = rw is (omega arith)
long_then w word true name args inner finish more is = rw is (omega arith)
long_then w word false name args inner finish more is = rw is (omega arith)

-- how many operations open branches still take
abbrev pub open_long : (Include → ℕ) → (is_open : Bool) → CommandTrees → ℕ
open_long w true cs = branches_long w (branches_of cs)
open_long w false cs = 0

pub open_then : (w : Include → ℕ) (word : CommandWord) (is_open : Bool) (name : List ℕ) (args : List Argument)
    (inner : InnerTests) (finish : EndingTree) (more : CommandTrees) → command_word name ≡ word
    → open_long w is_open (trees.command_then (command name args inner finish) more)
    ≡ (if is_apart word (part_of word is_open) then 0 else part_long w (part_of word is_open)
    (command name args inner finish) + open_long w (is_branch (part_of word is_open)) more)
open_then w words.If true name args inner finish more is = rw is refl
open_then w words.If false name args inner finish more is = refl
open_then w word true name args inner finish more is = rw is (omega arith)
open_then w word false name args inner finish more is = refl

-- no branches were open
none_open : (x z : Output) (f : Flow) (ends : List ℕ) → Emits x z f ends → Emits x z (sequence (block nothing) f) ends
none_open x z f ends h =
    emits_sequence x x z (block nothing) f ends (emits_block x x nothing ends (length x.code.items + 0) refl
    (emits_nothing x ((length x.code.items + 0) ∷ ends))) h

plain_is_long : (g : Include → Flow) (n : ℕ) (word : CommandWord) (args : List Argument)
    → size (plain_flow g n word args) ≡ plain_long (λ i. size (g i)) word args
plain_is_long g n words.Keep args = refl
plain_is_long g n word args = refl

part_is_long : (g : Include → Flow) (n : ℕ) (part : BranchPart) (c : CommandTree) → size (part_flow g n part c) ≡ part_long (λ i. size (g i)) part c
part_is_long g n Branch (command name args inner finish) = omega (arith, flow_long g (suc (suc n)) (block_in finish))
part_is_long g n Otherwise (command name args inner finish) = flow_long g (suc n) (block_in finish)
part_is_long g n Plain (command name args inner finish) = plain_is_long g n (command_word name) args

pub part_grows : (g : Include → Flow) (back : ℕ) (part : BranchPart) (end : ℕ) (c : CommandTree) (x y : Output)
    → EmitsPart g back part end c x y → Grows x y (part_long (λ i. size (g i)) part c)
part_grows g back part end c x y e =
    subst (λ (n : ℕ). Grows x y n) (part_is_long g 0 part c)
    (grows x y (part_flow g 0 part c) (part_ends part end (back ∷ [])) (e 0 (back ∷ []) refl))

module _ (g : Include → Flow) (back : ℕ) (x y : Output) where
  -- a branch, before the others of its block
  branch_then : (t : Test) (inside : Commands) (others : Branches) (rest : Commands) (n : ℕ) (ends : List ℕ) (z : Output)
      → length y.code.items ≡ length x.code.items + (size (test_flow t) + commands_long (λ i. size (g i)) inside + 2)
      → Emits x y (branch_flow g (suc n) t inside) ((length y.code.items + branches_long (λ i. size (g i)) others) ∷ ends)
      → Emits y z (sequence (block (branches_flow g (suc n) others)) (flow g n rest)) ends
      → Emits x z (sequence (block (branches_flow g (suc n) (program.if_then t inside others))) (flow g n rest)) ends
  branch_then t inside others rest n ends z grown e k =
      first_of_block x y z (branch_flow g (suc n) t inside) (branches_flow g (suc n) others) (flow g n rest)
      (length y.code.items + branches_long (λ i. size (g i)) others) ends (omega (
        arith,
        grown,
        flow_long g (suc (suc n)) inside,
        branches_are_long g (suc n) others,
      )) e k

  -- a command that is no part of branches, before others
  plain_then : (word : CommandWord) (args : List Argument) (t : Test) (inside : Commands) (others : Branches)
      (rest : Commands) (n : ℕ) (ends : List ℕ) (z : Output) → part_of word false ≡ Plain
      → Emits x y (plain_flow g n word args) ends → Emits y z (flow g n rest) ends
      → Emits x z (flow g n (command_named word args t inside others rest)) ends
  plain_then words.If args t inside others rest n ends z is e k = absurd (cc is)
  plain_then words.ElsIf args t inside others rest n ends z is e k = after_nothing x y z (flow g n rest) ends e k
  plain_then words.Else args t inside others rest n ends z is e k = after_nothing x y z (flow g n rest) ends e k
  plain_then words.Other args t inside others rest n ends z is e k = after_nothing x y z (flow g n rest) ends e k
  plain_then word args t inside others rest n ends z is e k =
      emits_sequence x y z (plain_flow g n word args) (flow g n rest) ends e k

  -- once what follows a command is written, so is the whole
  part_emits : (word : CommandWord) (is_open : Bool) (name : List ℕ) (args : List Argument) (inner : InnerTests)
      (finish : EndingTree) (more : CommandTrees) → command_word name ≡ word
      → length y.code.items ≡ length x.code.items + part_long (λ i. size (g i)) (part_of word is_open) (command name args inner finish)
      → EmitsPart g back (part_of word is_open) (length y.code.items + open_long (λ i.
      size (g i)) (is_branch (part_of word is_open)) more) (command name args inner finish) x y
      → (n : ℕ) (ends : List ℕ) (z : Output) → end_at ends n ≡ back
      → Emits y z (rest_flow g n (is_branch (part_of word is_open)) more) ends
      → Emits x z (rest_flow g n is_open (trees.command_then (command name args inner finish) more)) ends
  part_emits words.If true name args inner finish more is grown e n ends z eq k =
      let t = only_in inner in
      let inside = block_in finish in
      let others = branches_of more in
      rw is (none_open x z (sequence (block (branches_flow g (suc n) (program.if_then t inside others))) (flow g n (program_of more))) ends
      (branch_then t inside others (program_of more) n ends z grown (e n ends eq) k))
  part_emits words.If false name args inner finish more is grown e n ends z eq k =
      rw is (branch_then (only_in inner) (block_in finish) (branches_of more) (program_of more) n ends z grown (e n ends eq) k)
  part_emits words.ElsIf true name args inner finish more is grown e n ends z eq k =
      rw is (branch_then (only_in inner) (block_in finish) (branches_of more) (program_of more) n ends z grown (e n ends eq) k)
  part_emits words.Else true name args inner finish more is grown e n ends z eq k =
      rw is (emits_sequence x y z (block (flow g (suc n) (block_in finish))) (flow g n (program_of more)) ends
      (emits_block x y (flow g (suc n) (block_in finish)) ends (length y.code.items + 0) (omega (
        arith,
        grown,
        flow_long g (suc n) (block_in finish),
      )) (e n ends eq)) k)
  part_emits word true name args inner finish more is grown e n ends z eq k =
      rw is (none_open x z
      (flow g n (command_named word args (only_in inner) (block_in finish) (branches_of more) (program_of more))) ends
      (plain_then word args (only_in inner) (block_in finish) (branches_of more) (program_of more) n ends z refl
      ((rw is at e) n ends eq) k))
  part_emits word false name args inner finish more is grown e n ends z eq k =
      rw is (plain_then word args (only_in inner) (block_in finish) (branches_of more) (program_of more) n ends z refl
      ((rw is at e) n ends eq) k)

-- What was written so far, in commands.
pub record Remains (g : Include → Flow) (back : ℕ) (old now : Output) (is_open : Bool) (rest : CommandTrees) (whole : Commands) : Type 0 where
  pub emits : (n : ℕ) (ends : List ℕ) (z : Output) → end_at ends n ≡ back
      → Emits now z (rest_flow g n is_open rest) ends → Emits old z (flow g n whole) ends
  pub code : length now.code.items + long_from (λ i. size (g i)) is_open rest ≡ length old.code.items + commands_long (λ i. size (g i)) whole
  pub texts : length now.texts + long_from (λ i. size (g i)) is_open rest ≤ length old.texts + commands_long (λ i. size (g i)) whole
  pub numbers : length now.numbers + long_from (λ i. size (g i)) is_open rest ≤ length old.numbers + commands_long (λ i. size (g i)) whole

-- one more command; branches end after those that are still open
pub remains_turn : (g : Include → Flow) (back : ℕ) (old now new : Output) (word : CommandWord) (is_open : Bool)
    (name : List ℕ) (args : List Argument) (inner : InnerTests) (finish : EndingTree) (more : CommandTrees)
    (whole : Commands)
    → Remains g back old now is_open (trees.command_then (command name args inner finish) more) whole → command_word name ≡ word
    → EmitsPart g back (part_of word is_open) (length new.code.items + open_long (λ i.
    size (g i)) (is_branch (part_of word is_open)) more) (command name args inner finish) now new
    → Remains g back old new (is_branch (part_of word is_open)) more whole
remains_turn g back old now new word is_open name args inner finish more whole h is e =
    let c = command name args inner finish in
    let q = part_grows g back (part_of word is_open) (length new.code.items + open_long (λ i.
    size (g i)) (is_branch (part_of word is_open)) more) c now new e in
    let long = long_then (λ i. size (g i)) word is_open name args inner finish more is in
    record {
      emits = λ n ends z eq k. h.emits n ends z eq (part_emits g back now new word is_open name args inner finish more is q.code e n ends z eq k);
      code = omega (arith, h.code, q.code, long);
      texts = omega (arith, h.texts, q.texts, long);
      numbers = omega (arith, h.numbers, q.numbers, long);
    }

-- at the end of all commands
pub remains_last : (g : Include → Flow) (back : ℕ) (old now : Output) (is_open : Bool) (whole : Commands)
    → Remains g back old now is_open no_commands whole → (n : ℕ) (ends : List ℕ) → end_at ends n ≡ back
    → Emits old now (flow g n whole) ends
remains_last g back old now true whole h n ends eq = h.emits n ends now eq (none_open now now nothing ends (emits_nothing now ends))
remains_last g back old now false whole h n ends eq = h.emits n ends now eq (emits_nothing now ends)

-- a test, a jump past the block where it is false, the block, and a jump to the end of all branches
pub branch_emitted : (g : Include → Flow) (o0 o1 o2 o3 o4 : Output) (t : Test) (xs : Commands) (next end back : ℕ)
    → next ≡ length o0.code.items + (size (test_flow t) + commands_long (λ i. size (g i)) xs + 2)
    → ((ends : List ℕ) → Emits o0 o1 (test_flow t) ends) → Puts o1 o2 (JumpUnless next)
    → ((n : ℕ) (ends : List ℕ) → end_at ends n ≡ back → Emits o2 o3 (flow g n xs) ends) → Puts o3 o4 (Jump end)
    → (n : ℕ) (ends : List ℕ) → end_at ends n ≡ back → Emits o0 o4 (branch_flow g (suc n) t xs) (end ∷ ends)
branch_emitted g o0 o1 o2 o3 o4 t xs next end back is e1 e2 e3 e4 n ends eq =
    let es = next ∷ end ∷ ends in
    let body = flow g (suc (suc n)) xs in
    let tail = emits_sequence o1 o2 o4 (leave_if false 0) (sequence body (leave 1)) es
    (leave_if_emitted o1 o2 false next 0 es e2 refl)
    (emits_sequence o2 o3 o4 body (leave 1) es (e3 (suc (suc n)) es eq) (leave_emitted o3 o4 end 1 es e4 refl)) in
    emits_block o0 o4 (sequence (test_flow t) (sequence (leave_if false 0) (sequence body (leave 1)))) (end
    ∷ ends) next (omega (arith, is, flow_long g (suc (suc n)) xs))
    (emits_sequence o0 o1 o4 (test_flow t) (sequence (leave_if false 0) (sequence body (leave 1))) es (e1 es) tail)

-- the command at a place, before those that follow it
pub turn_long : (w : Include
    → ℕ) (word : CommandWord) (is_open : Bool) (xs : List TreeCommand) (i : ℕ) (x : TreeCommand) → x ≡ get_or xs i x
    → i < length xs → command_word (out-Command x).name ≡ word
    → long_from w is_open (commands_of (map command_of (drop i xs)))
    ≡ part_long w (part_of word is_open) (command_of x) + long_from w (is_branch (part_of word is_open))
    (commands_of (map command_of (drop (i + 1) xs)))
turn_long w word is_open xs i x is lt named =
    rw (
      turn xs i x is lt,
      command_of-fields x,
    ) (long_then w word is_open (out-Command x).name (out-Command x).arguments
    (inner_of (out-Command x).tests) (ending_of (out-Command x).ending)
    (commands_of (map command_of (drop (i + 1) xs))) named)

-- a script and the end of the run, written from nothing
pub code_of_empty : (x y : Output) (a : Flow) → x.texts ≡ [] → x.numbers ≡ [] → x.code.items ≡ [] → Emits x y (whole a) [] → IsCode y a
code_of_empty x y a no_texts no_numbers none e =
    let first : length x.code.items ≡ 0 = ap length none in
    record {
      stands = subst (λ (n : ℕ). Stands (operands_of y) y.code.items (whole a) [] n) first e.stands;
      long = omega (arith, first, (grows x y (whole a) [] e).code);
      texts = omega (arith, ap length no_texts, e.keeps.texts);
      numbers = omega (arith, ap length no_numbers, e.keeps.numbers);
    }
