-- Commands of the tree that were written one after the other, where the ends of open branches are not known yet.
use Rattle.std.proofs.Common.{◌≡◌, ℕ, suc, ◌+◌, ◌<◌, ◌≤◌, List, [], ◌∷◌, ◌++◌, Bool, true, false, length, map, refl}
use Rattle.std.proofs.Common.{sym, ap, ◌∙◌, subst, arith, drop, get_or}
use Rattle.std.specs.Prelude.{if◌then◌else◌}
use Rattle.std.specs.List.{All}
use Rattle.std.proofs.lemmas.List.{length-set}
use Rattle.std.proofs.Math.ListN.{drop_of_length-le}
use Rattle.std.proofs.lemmas.List.Elements.{All-nil}
use Rattle.filing_image.specs.declared.instruction.Operation.TheVariants.{Jump, JumpUnless}
use Rattle.sieve_syntax.specs.Tree.{CommandTree, command, CommandTrees, no_commands}
use Rattle.sieve_syntax.specs.Tree as trees
use Rattle.sieve_syntax.specs.declared.tree.Argument.{Argument}
use Rattle.sieve_syntax.specs.declared.tree.Command.{Command as TreeCommand}
use Rattle.sieve_syntax.specs.declared.tree.Ending.TheViews.{out-Command}
use Rattle.sieve_syntax.specs.View.{command_of, commands_of, inner_of, ending_of}
use Rattle.sieve_syntax.proofs.Views.{command_of-fields}
use Rattle.sieve_meaning.specs.declared.words.CommandWord.{CommandWord}
use Rattle.sieve_meaning.specs.Words.{command_word}
use Rattle.sieve_meaning.specs.Program.{Include, Commands}
use Rattle.sieve_meaning.specs.Reading.{only_in, block_in}
use Rattle.sieve_meaning.specs.Branching.{part_of, is_branch}
use Rattle.sieve_meaning.specs.declared.branches.BranchPart.{BranchPart}
use Rattle.sieve_meaning.specs.declared.branches.BranchPart.TheVariants.{Branch, Otherwise, Plain}
use Rattle.filing_flow.specs.Structure.{Flow, size}
use Rattle.filing_flow.specs.Code.{end_at}
use Rattle.filing_gen.specs.declared.output.Output.{Output}
use Rattle.filing_gen.specs.BlockCode.{test_flow, flow, branch_flow}
use Rattle.filing_gen.specs.Adds.{Puts, Emits, HasRoom}
use Rattle.filing_gen.specs.Ends.{no_place, with_operation, with_jumps}
use Rattle.filing_gen.specs.Emission.{commands_long, part_long, long_from, plain_flow, part_flow, part_ends, is_apart, EmitsPart, EmitsOpen}
use Rattle.filing_gen.proofs.Emitted.{grows, put_grows, turn}
use Rattle.filing_gen.proofs.Jumps.{placed, emits_under, jumps_length, jumps_texts, jumps_numbers, jumps_last, emits_jumps}
use Rattle.filing_gen.proofs.Turns.{flow_long, turn_long, part_grows, branch_emitted, open_long, open_then, Remains, remains_turn, remains_last}

-- PARTS

-- a part that has no jump to the end of branches
part_open : (g : Include → Flow) (back : ℕ) (part : BranchPart) (c : CommandTree) (x y : Output) (jumps : List ℕ)
    → All (λ p. p < length x.code.items) jumps → ((end : ℕ) → EmitsPart g back part end c x y)
    → EmitsOpen g back part c x jumps y jumps
part_open g back part c x y jumps low h end n ends eq =
    emits_jumps end jumps x y (part_flow g n part c) (part_ends part end ends) low (h end n ends eq)

module _ (g : Include → Flow) (back : ℕ) (c : TreeCommand) (x y : Output) (jumps : List ℕ) (low : All (λ p. p < length x.code.items) jumps) where
  -- the block of an `else`
  pub otherwise_open : ((n : ℕ) (ends : List ℕ) → end_at ends n ≡ back
      → Emits x y (flow g n (block_in (ending_of (out-Command c).ending))) ends)
      → EmitsOpen g back Otherwise (command_of c) x jumps y jumps
  otherwise_open h =
      part_open g back Otherwise (command_of c) x y jumps low
      (λ end n ends eq.
      subst (λ (k : CommandTree). Emits x y (part_flow g n Otherwise k) (end ∷ ends)) (sym (command_of-fields c))
      (h (suc n) (end ∷ ends) eq))

  -- a command that has no block
  pub plain_open : (word : CommandWord) → command_word (out-Command c).name ≡ word → (args : List Argument) → args ≡ (out-Command c).arguments
      → ((n : ℕ) (ends : List ℕ) → end_at ends n ≡ back → Emits x y (plain_flow g n word args) ends)
      → EmitsOpen g back Plain (command_of c) x jumps y jumps
  plain_open word named args are h =
      part_open g back Plain (command_of c) x y jumps low
      (λ end n ends eq. subst (λ (k : CommandTree). Emits x y (part_flow g n Plain k) ends) (sym (command_of-fields c))
      (subst (λ (w : CommandWord). Emits x y (plain_flow g n w (out-Command c).arguments) ends) (sym named)
      (subst (λ (l : List Argument). Emits x y (plain_flow g n word l) ends) are (h n ends eq))))

  -- a test, a jump past the block where it is false, the block, and a jump to the end of all branches
  pub branch_open : (o1 o2 o3 p3 : Output) (past last : ℕ) (kept : List ℕ) → past ≡ length o1.code.items
      → last ≡ length o3.code.items → p3 ≡ with_operation o3 past (JumpUnless (last + 1)) → kept ≡ jumps ++ last ∷ []
      → ((ends : List ℕ) → Emits x o1 (test_flow (only_in (inner_of (out-Command c).tests))) ends)
      → Puts o1 o2 (JumpUnless no_place)
      → ((n : ℕ) (ends : List ℕ) → end_at ends n ≡ back
      → Emits o2 o3 (flow g n (block_in (ending_of (out-Command c).ending))) ends)
      → Puts p3 y (Jump no_place) → EmitsOpen g back Branch (command_of c) x jumps y kept
  branch_open o1 o2 o3 p3 past last kept at here is are e1 e2 e3 e4 end n ends eq =
      let t = only_in (inner_of (out-Command c).tests) in
      let xs = block_in (ending_of (out-Command c).ending) in
      let next = last + 1 in
      let long1 = grows x o1 (test_flow t) [] (e1 []) in
      let long2 = put_grows o1 o2 (JumpUnless no_place) e2 in
      let long3 = grows o2 o3 (flow g 0 xs) (back ∷ []) (e3 0 (back ∷ []) refl) in
      let same : length p3.code.items ≡ length o3.code.items = ap (λ (o : Output). length o.code.items) is
      ∙ length-set o3.code.items past (JumpUnless next) in
      let p2 = with_operation o2 past (JumpUnless next) in
      let out = with_operation y last (Jump end) in
      let jump : Puts o1 p2 (JumpUnless next) =
      subst (λ (k : ℕ). Puts o1 (with_operation o2 k (JumpUnless next)) (JumpUnless next)) (sym at)
      (placed o1 o2 (JumpUnless no_place) (JumpUnless next) e2) in
      let body : (m : ℕ) (es : List ℕ) → end_at es m ≡ back → Emits p2 p3 (flow g m xs) es =
      λ m es known.
      subst (λ (o : Output).
      Emits p2 o (flow g m xs) es) (sym is) (emits_under o2 o3 (flow g m xs) es past (JumpUnless next)
      (omega (arith, at, long2.code)) (e3 m es known)) in
      let leaves : Puts p3 out (Jump end) =
      subst (λ (k : ℕ). Puts p3 (with_operation y k (Jump end)) (Jump end)) (same ∙ sym here) (placed p3 y (Jump no_place) (Jump end) e4) in
      let whole : Emits x out (branch_flow g (suc n) t xs) (end ∷ ends) =
      branch_emitted g x o1 p2 p3 out t xs next end back (omega (
        arith,
        here,
        long1.code,
        long2.code,
        long3.code,
        flow_long g 0 xs,
      )) e1 jump body leaves n ends eq in
      subst (λ (k : CommandTree). Emits (with_jumps end jumps x) (with_jumps end kept y) (part_flow g n Branch k) (end
      ∷ ends)) (sym (command_of-fields c))
      (subst (λ (o : Output). Emits (with_jumps end jumps x) o (branch_flow g (suc n) t xs) (end ∷ ends))
      (sym (ap (λ (l : List ℕ). with_jumps end l y) are ∙ jumps_last end jumps last y))
      (emits_jumps end jumps x out (branch_flow g (suc n) t xs) (end ∷ ends) low whole))

-- COMMANDS

-- where the branches end that are open
abbrev chain_end : (Include → Flow) → Output → Bool → CommandTrees → ℕ
chain_end g now is_open rest = length now.code.items + open_long (λ i. size (g i)) is_open rest

-- What was written so far, and the jumps of open branches, which have no end yet.
pub record Stands (g : Include
    → Flow) (back : ℕ) (old now : Output) (jumps : List ℕ) (is_open : Bool) (rest : CommandTrees) (whole : Commands) :
    Type 0 where
  pub remains : Remains g back old (with_jumps (chain_end g now is_open rest) jumps now) is_open rest whole
  pub places : All (λ p. p < length now.code.items) jumps

-- the room for the rest
pub stands_room : (g : Include
    → Flow) (back : ℕ) (old now : Output) (jumps : List ℕ) (is_open : Bool) (rest : CommandTrees) (whole : Commands)
    → Stands g back old now jumps is_open rest whole
    → HasRoom old (commands_long (λ i. size (g i)) whole) → HasRoom now (long_from (λ i. size (g i)) is_open rest)
stands_room g back old now jumps is_open rest whole h room =
    let r = h.remains in
    let e = chain_end g now is_open rest in (
      omega (arith, room.0, r.code, jumps_length e jumps now),
      omega (arith, room.1, r.texts, ap (λ (t : List (List ℕ × ℕ)). length t) (jumps_texts e jumps now)),
      omega (arith, room.2, r.numbers, ap (λ (t : List (ℕ × ℕ)). length t) (jumps_numbers e jumps now)),
    )

module _ (g : Include → Flow) (back : ℕ) (old : Output) (whole : Commands) (word : CommandWord) (is_open : Bool)
    (x : TreeCommand) (more : CommandTrees) (named : command_word (out-Command x).name ≡ word) where
  abbrev rest : CommandTrees
  rest = trees.command_then (command_of x) more

  -- the length of the branches that are open before the command
  open_before : (b : Bool) → is_apart word (part_of word is_open) ≡ b
      → open_long (λ i. size (g i)) is_open rest
      ≡ (if b then 0 else part_long (λ i. size (g i)) (part_of word is_open) (command_of x) + open_long (λ i.
      size (g i)) (is_branch (part_of word is_open)) more)
  open_before b apart =
      let f = out-Command x in
      let w : Include → ℕ = λ i. size (g i) in
      let part = part_of word is_open in
      subst (λ (c : CommandTree). open_long w is_open (trees.command_then c more)
      ≡ (if b then 0 else part_long w part c + open_long w (is_branch part) more)) (sym (command_of-fields x))
      (rw apart at (open_then w word is_open f.name f.arguments (inner_of f.tests) (ending_of f.ending) more named))

  ended_before : (b : Bool) → is_apart word (part_of word is_open) ≡ b → (now : Output) (jumps : List ℕ)
      → Stands g back old now jumps is_open rest whole → (new : Output) (kept : List ℕ)
      → new ≡ (if b then with_jumps (length now.code.items) jumps now else now) → kept ≡ (if b then [] else jumps)
      → Stands g back old new kept is_open rest whole × (b ≡ true → kept ≡ [])
  ended_before true apart now jumps h new kept is are =
      let o = with_jumps (length now.code.items) jumps now in
      let end : chain_end g now is_open rest ≡ length now.code.items = omega (arith, open_before true apart) in
      let r : Remains g back old o is_open rest whole =
      subst (λ (e : ℕ). Remains g back old (with_jumps e jumps now) is_open rest whole) end h.remains in
      let ended : Stands g back old o [] is_open rest whole = record { remains = r; places = All-nil (λ p. p < length o.code.items) } in (
        subst (λ (k : List ℕ). Stands g back old new k is_open rest whole) (sym are) (subst (λ (n : Output).
            Stands g back old n [] is_open rest whole) (sym is) ended),
        λ b. are,
      )
  ended_before false apart now jumps h new kept is are = (
    subst (λ (k : List ℕ). Stands g back old new k is_open rest whole) (sym are) (subst (λ (n : Output).
        Stands g back old n jumps is_open rest whole) (sym is) h),
    λ b. absurd (cc b),
  )

  -- the branches before the command were ended where it is none of them
  stands_apart : (now : Output) (jumps : List ℕ) → Stands g back old now jumps is_open rest whole → (new : Output) (kept : List ℕ)
      → new ≡ (if is_apart word (part_of word is_open) then with_jumps (length now.code.items) jumps now else now)
      → kept ≡ (if is_apart word (part_of word is_open) then [] else jumps)
      → Stands g back old new kept is_open rest whole × (is_apart word (part_of word is_open) ≡ true → kept ≡ [])
  stands_apart now jumps h new kept is are = ended_before (is_apart word (part_of word is_open)) refl now jumps h new kept is are

  -- the end of branches before the command and after it
  same_end : (b : Bool) → is_apart word (part_of word is_open) ≡ b → (now new : Output) (jumps : List ℕ) → (b ≡ true → jumps ≡ [])
      → length new.code.items ≡ length now.code.items + part_long (λ i. size (g i)) (part_of word is_open) (command_of x)
      → with_jumps (chain_end g now is_open rest) jumps now ≡ with_jumps (chain_end g new (is_branch (part_of word is_open)) more) jumps now
  same_end true apart now new jumps none grown =
      ap (λ (l : List ℕ). with_jumps (chain_end g now is_open rest) l now) (none refl)
      ∙ sym (ap (λ (l : List ℕ). with_jumps (chain_end g new (is_branch (part_of word is_open)) more) l now)
      (none refl))
  same_end false apart now new jumps none grown =
      let same : chain_end g now is_open rest ≡ chain_end g new (is_branch (part_of word is_open)) more =
      omega (arith, grown, open_before false apart) in
      ap (λ (e : ℕ). with_jumps e jumps now) same

  -- the command was written
  stands_turn : (now new : Output) (jumps kept : List ℕ) → Stands g back old now jumps is_open rest whole
      → (is_apart word (part_of word is_open) ≡ true → jumps ≡ [])
      → EmitsOpen g back (part_of word is_open) (command_of x) now jumps new kept
      → All (λ p. p < length new.code.items) kept
      → Stands g back old new kept (is_branch (part_of word is_open)) more whole
  stands_turn now new jumps kept h none e low =
      let f = out-Command x in
      let fields = command_of-fields x in
      let part = part_of word is_open in
      let c = command f.name f.arguments (inner_of f.tests) (ending_of f.ending) in
      let end = chain_end g new (is_branch part) more in
      let grown = part_grows g back part end (command_of x) (with_jumps end jumps now) (with_jumps end kept new) (e end) in
      let long : length new.code.items ≡ length now.code.items + part_long (λ i. size (g i)) part (command_of x) =
      omega (arith, grown.code, jumps_length end jumps now, jumps_length end kept new) in
      let before : Remains g back old (with_jumps end jumps now) is_open (trees.command_then c more) whole =
      subst (λ (k : CommandTree). Remains g back old (with_jumps end jumps now) is_open (trees.command_then k more) whole) fields
      (subst (λ (o : Output). Remains g back old o is_open rest whole) (same_end (is_apart word part) refl now new jumps none long) h.remains) in
      let written : EmitsPart g back part (length (with_jumps end kept new).code.items + open_long (λ i.
      size (g i)) (is_branch part) more) c (with_jumps end jumps now) (with_jumps end kept new) =
      subst (λ (k : ℕ).
      EmitsPart g back part (k + open_long (λ i. size (g i)) (is_branch part) more) c (with_jumps end jumps now)
      (with_jumps end kept new)) (sym (jumps_length end kept new))
      (subst (λ (k : CommandTree). EmitsPart g back part end k (with_jumps end jumps now) (with_jumps end kept new)) fields (e end)) in
      record {
        remains = remains_turn g back old (with_jumps end jumps now) (with_jumps end kept new) word is_open f.name
            f.arguments (inner_of f.tests) (ending_of f.ending) more whole before named written;
        places = low;
      }

-- at the end of all commands
stands_last : (g : Include
    → Flow) (back : ℕ) (old now new : Output) (jumps : List ℕ) (is_open : Bool) (whole : Commands)
    → Stands g back old now jumps is_open no_commands whole → new ≡ with_jumps (length now.code.items) jumps now
    → (n : ℕ) (ends : List ℕ) → end_at ends n ≡ back → Emits old new (flow g n whole) ends
stands_last g back old now new jumps is_open whole h is n ends eq =
    let none : open_long (λ i. size (g i)) is_open no_commands ≡ 0 = none_open is_open in
    let end : chain_end g now is_open no_commands ≡ length now.code.items = omega (arith, none) in
    let r : Remains g back old new is_open no_commands whole =
    subst (λ (o : Output). Remains g back old o is_open no_commands whole) (ap (λ (e : ℕ). with_jumps e jumps now) end ∙ sym is) h.remains in
    remains_last g back old new is_open whole r n ends eq where
      none_open : (b : Bool) → open_long (λ i. size (g i)) b no_commands ≡ 0
      none_open true = refl
      none_open false = refl

-- BY THE COMMANDS OF A LIST

module _ (g : Include → Flow) (back : ℕ) (old : Output) (whole : Commands) (word : CommandWord) (is_open : Bool)
    (xs : List TreeCommand) (i : ℕ) (x : TreeCommand) (at : x ≡ get_or xs i x) (lt : i < length xs)
    (named : command_word (out-Command x).name ≡ word)
    (part : BranchPart) (told : part ≡ part_of word is_open) (now ended : Output) (jumps kept : List ℕ)
    (h : Stands g back old now jumps is_open (commands_of (map command_of (drop i xs))) whole)
    (is : ended ≡ (if is_apart word part then with_jumps (length now.code.items) jumps now else now)) (are : kept
    ≡ (if is_apart word part then [] else jumps)) where
  abbrev following : CommandTrees
  following = commands_of (map command_of (drop (i + 1) xs))

  split : commands_of (map command_of (drop i xs)) ≡ trees.command_then (command_of x) following
  split = ap (λ (l : List TreeCommand). commands_of (map command_of l)) (turn xs i x at lt)

  before : Stands g back old ended kept is_open (trees.command_then (command_of x) following) whole
      × (is_apart word (part_of word is_open) ≡ true → kept ≡ [])
  before = stands_apart g back old whole word is_open x following named now jumps (subst (λ (cs : CommandTrees).
      Stands g back old now jumps is_open cs whole) split h) ended kept (rw told at is) (rw told at are)

  -- before the command is written
  pub turn_ready : HasRoom old (commands_long (λ j. size (g j)) whole)
      → HasRoom ended (part_long (λ j. size (g j)) part (command_of x)) × All (λ p. p < length ended.code.items) kept
  turn_ready room =
      let r = stands_room g back old ended kept is_open (trees.command_then (command_of x) following) whole before.0 room in
      let long = turn_long (λ j. size (g j)) word is_open xs i x at lt named in
      let same = ap (λ (cs : CommandTrees). long_from (λ j. size (g j)) is_open cs) split in
      let mine = ap (λ (p : BranchPart). part_long (λ j. size (g j)) p (command_of x)) told in (
        (omega (arith, r.0, long, same, mine), omega (arith, r.1, long, same, mine), omega (arith, r.2, long, same, mine)),
        before.0.places,
      )

  pub turn_stands : (new : Output) (after : List ℕ) → EmitsOpen g back part (command_of x) ended kept new after
      → All (λ p. p < length new.code.items) after → (opened : Bool) → opened ≡ is_branch part
      → Stands g back old new after opened following whole
  turn_stands new after e low opened branches =
      subst (λ (b : Bool). Stands g back old new after b following whole) (sym (branches ∙ ap is_branch told))
      (stands_turn g back old whole word is_open x following named ended new kept after before.0 before.1
      (subst (λ (p : BranchPart). EmitsOpen g back p (command_of x) ended kept new after) told e) low)

pub last_stands : (g : Include
    → Flow) (back : ℕ) (old now new : Output) (jumps : List ℕ) (is_open : Bool) (xs : List TreeCommand) (i : ℕ)
    (whole : Commands) → Stands g back old now jumps is_open (commands_of (map command_of (drop i xs))) whole
    → length xs ≤ i
    → new ≡ with_jumps (length now.code.items) jumps now → (n : ℕ) (ends : List ℕ) → end_at ends n ≡ back → Emits old new (flow g n whole) ends
last_stands g back old now new jumps is_open xs i whole h past is =
    stands_last g back old now new jumps is_open whole (subst (λ (l : List TreeCommand).
    Stands g back old now jumps is_open (commands_of (map command_of l)) whole) (drop_of_length-le xs past) h) is
