-- The commands of a script by their tokens (RFC 5228, section 8.2), and the scripts that they include (RFC 6609, section 3.2).
use Rattle.std.specs.Prelude.{ℕ, Bool, true, false, List, [], ◌∷◌, ◌++◌, Option, Some, None, take, drop, codes, if◌then◌else◌}
use Rattle.std.specs.List.{list_any, flat_map}
use Rattle.std.specs.Option.{option_map}
use Rattle.std.specs.Str.{str_eq_ignore_ascii_case}
use Rattle.sieve_syntax.specs.declared.token.Mark.TheVariants.{Semicolon, OpenBrace, CloseBrace}
use Rattle.sieve_syntax.specs.declared.token.Token.{Token}
use Rattle.sieve_syntax.specs.declared.token.TokenKind.{TokenKind}
use Rattle.sieve_syntax.specs.declared.token.TokenKind.TheVariants as kinds
use Rattle.tool_findings.specs.declared.fronts.Front.{Front}
use Rattle.tool_findings.specs.declared.fronts.Part.{Part}
use Rattle.tool_findings.specs.declared.fronts.Part.TheVariants.{Inside, Last, Closing}
use Rattle.tool_findings.specs.declared.names.Named.{Named}
use Rattle.tool_findings.specs.declared.names.Named.TheVariants.{Class, Script}

-- a front of a command ends with `;` or `{`, and `}` is no part of one
abbrev pub part_of : TokenKind → Part
part_of (kinds.Mark Semicolon) = Last false
part_of (kinds.Mark OpenBrace) = Last true
part_of (kinds.Mark CloseBrace) = Closing
part_of _ = Inside

-- with a token that is this part: what was begun is a front now, or goes on, or is dropped
abbrev pub fronts_at : Part → (begun : List Token) → (fresh more : List (List Token)) → List (List Token)
fronts_at Inside begun fresh more = more
fronts_at (Last has_block) begun fresh more = begun ∷ fresh
fronts_at Closing begun fresh more = fresh

-- THE FRONTS OF COMMANDS: the tokens of each up to the `;` or `{` that ends it. What was begun is the beginning of the first one;
-- what nothing ends is no front.
abbrev pub fronts_from : (begun : List Token) → List Token → List (List Token)
fronts_from begun [] = []
fronts_from begun (t ∷ ts) = fronts_at (part_of t.kind) (begun ++ t ∷ []) (fronts_from [] ts) (fronts_from (begun ++ t ∷ []) ts)

-- the tokens of a front by their numbers
abbrev pub own_tokens : List Token → Front → List Token
own_tokens ts f = drop f.tokens.0 (take f.tokens.1 ts)

-- a tag of this name, in whatever case
abbrev pub is_tag_kind : List ℕ → TokenKind → Bool
is_tag_kind name (kinds.Tag tag) = str_eq_ignore_ascii_case tag name
is_tag_kind name _ = false

abbrev pub is_tag : List ℕ → Token → Bool
is_tag name t = is_tag_kind name t.kind

-- an identifier of this name, in whatever case
abbrev pub is_identifier : List ℕ → TokenKind → Bool
is_identifier name (kinds.Identifier word) = str_eq_ignore_ascii_case word name
is_identifier name _ = false

-- the first string among tokens, and where it stands
abbrev pub string_or : TokenKind → ℕ → Option (List ℕ × ℕ) → Option (List ℕ × ℕ)
string_or (kinds.StringValue text) at rest = Some (text, at)
string_or _ at rest = rest

abbrev pub first_string : List Token → Option (List ℕ × ℕ)
first_string [] = None
first_string (t ∷ ts) = string_or t.kind t.start (first_string ts)

-- an include: the name of the script, whether it is one for all officers, whether nothing is done where it was entered
-- before, and where it is named
pub record Include : Type 0 where
  pub name : List ℕ
  pub is_global : Bool
  pub is_once : Bool
  pub at : ℕ

abbrev pub include_of : List Token → List ℕ × ℕ → Include
include_of ts s = record {
  name = s.0;
  is_global = list_any (is_tag (codes "global")) ts;
  is_once = list_any (is_tag (codes "once")) ts;
  at = s.1;
}

-- THE INCLUDE THAT A COMMAND IS, by the tokens of its front: its first token is `include`, and its first string is the name
abbrev pub include_by : List Token → Option Include
include_by [] = None
include_by (t ∷ ts) = if is_identifier (codes "include") t.kind then option_map (include_of (t ∷ ts)) (first_string (t ∷ ts)) else None

-- what is named at a place, if it is an include
abbrev pub include_named : Named → ℕ → Option Include
include_named (Class path) at = None
include_named (Script name is_global is_optional is_once) at =
    Some (record { name = name.now; is_global = is_global; is_once = is_once; at = at })

abbrev pub items_of : Option Include → List Include
items_of None = []
items_of (Some i) = i ∷ []

-- THE INCLUDES OF A SCRIPT, in the order of its commands
abbrev pub includes_among : List Token → List Include
includes_among ts = flat_map (λ front. items_of (include_by front)) (fronts_from [] ts)
