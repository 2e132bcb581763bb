-- Which texts are scripts, and their trees (RFC 5228, section 8): a text is scanned into tokens, which spell a tree
-- with at most 32 nested tests and at most 32 nested blocks.
use Rattle.std.specs.Prelude.{◌≡◌, ℕ, ◌≤◌, ◌<◌, ◌⊎◌, List, Result, Ok, Err, map}
use Rattle.sieve_syntax.specs.declared.token.Token.{Token}
use Rattle.sieve_syntax.specs.declared.token.TokenKind.{TokenKind}
use Rattle.sieve_syntax.specs.declared.tree.Script.{Script}
use Rattle.sieve_syntax.specs.Tree.{CommandTrees, commands_tokens, commands_test_depth, commands_block_depth}
use Rattle.sieve_syntax.specs.View.{tree_of}
use Rattle.sieve_text.specs.declared.fault.ScanFault.{ScanFault}
use Rattle.sieve_text.specs.declared.fault.ScanFault.TheVariants as scan_faults
use Rattle.sieve_text.specs.declared.fault.TextRefusal.{TextRefusal}
use Rattle.sieve_text.specs.declared.fault.TextRefusal.TheVariants.{Scan, Syntax, Nesting}
use Rattle.sieve_text.specs.declared.fault.TextFault.{TextFault}
use Rattle.sieve_text.specs.declared.fault.TextFault.TheVariants.{NoMemory, Refused}
use Rattle.sieve_text.specs.Tokens.{IsScan, IsFaulty, scan_number}

-- the numbers of refusals
abbrev pub text_number : TextRefusal → ℕ
text_number (Scan r) = scan_number r
text_number Syntax = 20
text_number Nesting = 21

-- a fault of the scanner, as one of the parser
abbrev pub text_fault_of : ScanFault → TextFault
text_fault_of scan_faults.NoMemory = NoMemory
text_fault_of (scan_faults.Refused r at) = Refused (Scan r) at

-- the content of tokens, without their places
abbrev pub kinds : List Token → List TokenKind
kinds = map (λ (t : Token). t.kind)

-- at most 32 tests and at most 32 blocks are nested
abbrev pub IsShallow : CommandTrees → Type 0
IsShallow t = (commands_test_depth t ≤ 32) × (commands_block_depth t ≤ 32)

-- more than 32 tests or more than 32 blocks are nested
abbrev pub IsDeep : CommandTrees → Type 0
IsDeep t = (32 < commands_test_depth t) ⊎ (32 < commands_block_depth t)

-- the text's tokens spell this tree, of any depth
abbrev pub Spells : List ℕ → CommandTrees → Type 0
Spells script t = (ts : List Token) × IsScan script ts × (kinds ts ≡ commands_tokens t)

-- the text is a script with this tree
abbrev pub IsScript : List ℕ → CommandTrees → Type 0
IsScript script t = Spells script t × IsShallow t

-- the answer is this tree, unless memory ran out
abbrev pub AnswersTree : CommandTrees → Result Script TextFault → Type 0
AnswersTree t (Ok s) = tree_of s ≡ t
AnswersTree t (Err NoMemory) = Unit {0}
AnswersTree t (Err (Refused refusal at)) = ⊥

-- the answer is this refusal, unless memory ran out
abbrev pub AnswersRefusal : TextRefusal → Result Script TextFault → Type 0
AnswersRefusal r (Ok s) = ⊥
AnswersRefusal r (Err NoMemory) = Unit {0}
AnswersRefusal r (Err (Refused refusal at)) = refusal ≡ r

-- what a fault says of the text. A refusal of the scanner is the text's. After `Syntax` the text has tokens, and they
-- have no tree of any depth. After `Nesting` it has tokens, and they have no tree within the limits. No memory says
-- nothing
abbrev pub Explains : List ℕ → TextFault → Type 0
Explains script NoMemory = Unit {0}
Explains script (Refused (Scan r) at) = IsFaulty script r
Explains script (Refused Syntax at) = ((ts : List Token) × IsScan script ts) ×
    ((t : CommandTrees) → ¬ (Spells script t))
Explains script (Refused Nesting at) = ((ts : List Token) × IsScan script ts) ×
    ((t : CommandTrees) → ¬ (IsScript script t))
