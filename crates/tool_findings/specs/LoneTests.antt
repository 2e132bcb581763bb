-- What is found wrong with a test that stands by itself (RFC 5228, section 5).
use Rattle.std.specs.Prelude.{◌≡◌, ◌⊎◌, ℕ, ◌==◌, Bool, true, List, [], ◌∷◌}
use Rattle.std.specs.List.{list_any}
use Rattle.sieve_syntax.specs.declared.token.Token.{Token}
use Rattle.sieve_text.specs.Tokens.{IsScan}
use Rattle.sieve_check.specs.declared.fault.CheckFault.{CheckFault}
use Rattle.sieve_check.specs.Faults.{number_of}
use Rattle.tool_findings.specs.declared.findings.Finding.{Finding}

-- the tokens of a text, or none where it has no sequence of tokens
abbrev pub AreTokens : List ℕ → List Token → Type 0
AreTokens text ts = IsScan text ts ⊎ (ts ≡ [])

-- these tokens after one more
abbrev pub AreTokensFromIf : List ℕ → List Token → Type 0
AreTokensFromIf text [] = ⊥
AreTokensFromIf text (t ∷ ts) = AreTokens text ts

abbrev pub begins_at : ℕ → Token → Bool
begins_at place t = t.start == place

-- one of these tokens begins at the place, or it is the beginning of the text
abbrev pub IsAtToken : List Token → ℕ → Type 0
IsAtToken ts place = (place ≡ 0) ⊎ (list_any (begins_at place) ts ≡ true)

-- It has the number of the refusal, and is shown where a token of the test begins.
pub record IsFindingIn (test : List ℕ) (fault : CheckFault) (found : Finding) : Type 0 where
  pub number : found.number ≡ number_of fault
  pub place : (ts : List Token) × AreTokens test ts × IsAtToken ts found.place
