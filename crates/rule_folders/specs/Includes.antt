-- The includes of a script.
use Rattle.std.specs.Prelude.{◌≡◌, ◌⊎◌, ℕ, List, []}
use Rattle.sieve_syntax.specs.declared.token.Token.{Token}
use Rattle.sieve_text.specs.declared.fault.ScanRefusal.{ScanRefusal}
use Rattle.sieve_text.specs.Tokens.{IsFaulty, IsScan}
use Rattle.tool_findings.specs.Commands.{Include, includes_among}
use Rattle.rule_folders.specs.declared.includes.Included.{Included}

-- an include, without where it lies in memory
abbrev pub include_of : Included → Include
include_of i = record { name = i.name.items; is_global = i.is_global; is_once = i.is_once; at = i.at }

-- the tokens of a text; none where it has no sequence of tokens
abbrev pub AreTokensOf : List ℕ → List Token → Type 0
AreTokensOf text ts = IsScan text ts ⊎ (((refusal : ScanRefusal) × IsFaulty text refusal) × (ts ≡ []))

-- THESE ARE THE INCLUDES OF A TEXT, in text order; also of a text that is refused, as far as it has commands
unfoldable pub Leads : List ℕ → List Include → Type 0
Leads text includes = (ts : List Token) × AreTokensOf text ts × (includes ≡ includes_among ts)
