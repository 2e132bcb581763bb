-- What a reading says of the trees that tokens spell.
use Rattle.std.proofs.Common.{◌≡◌, ℕ, ◌≤◌, max, List, Bool, true, false, Ok, Err, ap, sym, ◌∙◌, arith}
use Rattle.sieve_syntax.specs.declared.token.TokenKind.{TokenKind}
use Rattle.sieve_syntax.specs.Tree.{CommandTrees, commands_tokens, commands_test_depth, commands_block_depth}
use Rattle.sieve_text.specs.declared.parser.stop.Misfit.TheVariants.{Syntax, Nesting}
use Rattle.sieve_text.specs.Grammar.{IsShallow, IsDeep}
use Rattle.sieve_text.specs.Reading.{script_at}
use Rattle.sieve_text.proofs.Depths.{commands_fit, commands_within, commands_depth-fit, commands_deep}
use Rattle.sieve_text.proofs.Spelled.{ok_is, script_sound}
use Rattle.sieve_text.proofs.Again.{answer, script_reads}

-- a tree within the numbers is read
pub script_again : (t : CommandTrees) (d b : ℕ) → commands_test_depth t ≤ d → commands_block_depth t ≤ b → script_at d b (commands_tokens t) ≡ Ok t
script_again t d b h k = script_reads t d b ∙ ap (λ (f : Bool). answer f t) (commands_within t d b h k)

-- a deeper one is refused
pub script_nests : (t : CommandTrees) → IsDeep t → script_at 32 32 (commands_tokens t) ≡ Err Nesting
script_nests t h = script_reads t 32 32 ∙ ap (λ (f : Bool). answer f t) (commands_deep t 32 32 h)

-- no spelling of a tree is outside the grammar
pub script_grammar : (t : CommandTrees) (d b : ℕ) → script_at d b (commands_tokens t) ≡ Err Syntax → ⊥
script_grammar t d b e = never (commands_fit t d b) (sym (script_reads t d b) ∙ e)
  where
    never : (f : Bool) → answer f t ≡ Err Syntax → ⊥
    never true e = cc
    never false e = cc

-- what is read is within the limits
pub script_shallow : (ks : List TokenKind) (t : CommandTrees) → script_at 32 32 ks ≡ Ok t → (ks ≡ commands_tokens t) × IsShallow t
script_shallow ks t e =
    let spelled = script_sound 32 32 ks t e in
    (spelled, commands_depth-fit t 32 32 (fits (commands_fit t 32 32) (sym (script_reads t 32 32) ∙ ap (script_at 32 32) (sym spelled) ∙ e)))
  where
    fits : (f : Bool) → answer f t ≡ Ok t → f ≡ true
    fits true e = cc
    fits false e = absurd cc

-- tokens have at most one tree
pub at_most_one : (t u : CommandTrees) → commands_tokens t ≡ commands_tokens u → t ≡ u
at_most_one t u e =
    let d = max (commands_test_depth t) (commands_test_depth u) in
    let b = max (commands_block_depth t) (commands_block_depth u) in
    ok_is t u (sym (script_again t d b (omega arith) (omega arith)) ∙ ap (script_at d b) e ∙ script_again u d b (omega arith) (omega arith))
