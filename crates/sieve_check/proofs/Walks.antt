-- Going over commands, one part after another, and what it says of the refusal.
use Rattle.std.proofs.Common.{◌≡◌, ℕ, ◌+◌, ◌<◌, Bool, List, [], ◌∷◌, ◌++◌, length, drop, get_or, map, Option, Some}
use Rattle.std.proofs.Common.{None, Result, Ok, Err, refl, sym, ap, ◌∙◌}
use Rattle.sieve_syntax.specs.declared.tree.Argument.{Argument}
use Rattle.sieve_syntax.specs.declared.tree.Command.{Command}
use Rattle.sieve_syntax.specs.Tree.{command, EndingTree, InnerTests}
use Rattle.sieve_syntax.specs.View.{command_of, commands_of}
use Rattle.sieve_check.specs.declared.context.Context.{Context}
use Rattle.sieve_check.specs.Lookup.{command_named}
use Rattle.sieve_check.specs.Tables.{CommandWord}
use Rattle.sieve_check.specs.Context.{has_of}
use Rattle.sieve_check.specs.Rules.{PlacedCommand, least, place_breaches, is_require, head_of, command_in_order}
use Rattle.sieve_check.specs.Rules.{ending_in_order, in_order, is_branch, role_of, command_name}
use Rattle.sieve_check.specs.Walk.{walk, unless, breach_of, context_after, after_command}
use Rattle.sieve_check.proofs.Strings.{drop_at}

infixl 10 ◌>>=◌
abbrev pub ◌>>=◌ : Result Context ℕ → (Context → Result Context ℕ) → Result Context ℕ
(Ok x) >>= f = f x
(Err e) >>= f = Err e

unless_bind : (o : Option ℕ) (r : Result Context ℕ) (f : Context → Result Context ℕ) → (unless o r >>= f) ≡ unless o (r >>= f)
unless_bind None r f = refl
unless_bind (Some n) r f = refl

pub walk_append : (c : Context) (xs ys : List PlacedCommand) → walk c (xs ++ ys) ≡ (walk c xs >>= λ d. walk d ys)
unfolding walk
walk_append c [] ys = refl
walk_append c (x ∷ xs) ys =
    ap (λ (r : Result Context ℕ). unless (breach_of c x) r) (walk_append (context_after c x) xs ys)
    ∙ sym (unless_bind (breach_of c x) (walk (context_after c x) xs) (λ d. walk d ys))

-- one more command of a block or a script
pub walk_turn : (items : List Command) (i : ℕ) (x : Command) (known following : Context) (follows branch : Bool)
    (whole : Result Context ℕ) → i < length items → x ≡ get_or items i x
    → walk known (in_order follows (commands_of (map command_of (drop i items)))) ≡ whole
    → Ok following ≡ walk known (command_in_order follows (command_of x))
    → branch ≡ is_branch (role_of (command_named (command_name (command_of x))))
    → walk following (in_order branch (commands_of (map command_of (drop (i + 1) items)))) ≡ whole
walk_turn items i x known following follows branch whole lt is h ok eb =
    ap (λ (b : Bool). walk following (in_order b (commands_of (map command_of (drop (i + 1) items))))) eb
    ∙ ap (λ (r : Result Context ℕ). r >>= λ d. walk d rest) ok
    ∙ sym (walk_append known (command_in_order follows (command_of x)) rest)
    ∙ ap (λ (xs : List Command). walk known (in_order follows (commands_of (map command_of xs)))) (sym (drop_at items i x lt is))
    ∙ h
  where
    rest : List PlacedCommand
    rest = in_order (is_branch (role_of (command_named (command_name (command_of x))))) (commands_of (map command_of (drop (i + 1) items)))

-- the first refusal of a part is that of the whole
pub walk_stops : (items : List Command) (i : ℕ) (x : Command) (known : Context) (follows : Bool) (n : ℕ)
    (whole : Result Context ℕ) → i < length items → x ≡ get_or items i x
    → walk known (in_order follows (commands_of (map command_of (drop i items)))) ≡ whole
    → Err n ≡ walk known (command_in_order follows (command_of x)) → Err n ≡ whole
walk_stops items i x known follows n whole lt is h e =
    ap (λ (r : Result Context ℕ). r >>= λ d.
    walk d (in_order (is_branch (role_of (command_named (command_name (command_of x)))))
    (commands_of (map command_of (drop (i + 1) items))))) e
    ∙ sym (walk_append known (command_in_order follows (command_of x))
    (in_order (is_branch (role_of (command_named (command_name (command_of x)))))
    (commands_of (map command_of (drop (i + 1) items)))))
    ∙ ap (λ (xs : List Command). walk known (in_order follows (commands_of (map command_of xs)))) (sym (drop_at items i x lt is))
    ∙ h

module _ (c : Context) (follows : Bool) (name : List ℕ) (args : List Argument) (inner : InnerTests) (finish : EndingTree) where
  abbrev at_row : Option CommandWord → Option ℕ
  at_row o = least (place_breaches (has_of c.named) c.begun o (head_of follows (command name args inner finish)))

  -- a command that the table does not have
  pub walk_unknown : None ≡ command_named name → Err 32 ≡ walk c (command_in_order follows (command name args inner finish))
  unfolding walk
  walk_unknown e =
      ap (λ (o : Option CommandWord).
      unless (at_row o) (walk (context_after c (head_of follows (command name args inner finish)))
      (ending_in_order finish))) e

  -- a command that breaks a rule
  pub walk_faulty : (w : CommandWord) (n : ℕ) → Some w ≡ command_named name → Some n ≡ at_row (Some w)
      → Err n ≡ walk c (command_in_order follows (command name args inner finish))
  unfolding walk
  walk_faulty w n e h =
      ap (λ (o : Option ℕ). unless o (walk (context_after c (head_of follows (command name args inner finish))) (ending_in_order finish))) h
      ∙ ap (λ (o : Option CommandWord).
      unless (at_row o) (walk (context_after c (head_of follows (command name args inner finish)))
      (ending_in_order finish))) e

  -- a command that breaks none
  pub walk_fine : (w : CommandWord) → Some w ≡ command_named name → None ≡ at_row (Some w)
      → walk (after_command (is_require w.role) c args) (ending_in_order finish)
      ≡ walk c (command_in_order follows (command name args inner finish))
  unfolding walk
  walk_fine w e h =
      ap (λ (o : Option CommandWord). walk (after_command (is_require (role_of o)) c args) (ending_in_order finish)) e
      ∙ ap (λ (o : Option ℕ). unless o (walk (context_after c (head_of follows (command name args inner finish))) (ending_in_order finish))) h
      ∙ ap (λ (o : Option CommandWord).
      unless (at_row o) (walk (context_after c (head_of follows (command name args inner finish)))
      (ending_in_order finish))) e
