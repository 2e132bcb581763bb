-- What a step of a walk does, which makes some of its reads.
use Rattle.std.specs.Prelude.{◌≡◌, ℕ, Bool, List, [], ◌∷◌, ◌++◌, Option, Some, None}
use Rattle.std.specs.List.{Contains, slice_get}
use Rattle.tool_findings.specs.declared.circles.Edge.{Edge}
use Rattle.tool_findings.specs.Commands.{Include}
use Rattle.rule_folders.specs.Reading.{Entry, Makes, Read}
use Rattle.rule_folders.specs.Reached.{IsEdge, IsMissing, IsWalk}

-- the number of a script that is looked for at a path; none where it was answered that none is there
abbrev pub IsNumberOf : (path : List ℕ) (is_global : Bool) → List Read → List Entry → Option ℕ → Type 0
IsNumberOf path is_global reads scripts None = Contains reads (record { path = path; is_global = is_global; answer = None })
IsNumberOf path is_global reads scripts (Some n) = (t : Entry) × (slice_get scripts n ≡ Some t) × (t.path ≡ path)

-- the edge that an include is, if it is one
abbrev pub IsEdgeOf : (place : List ℕ → Bool → Option (List ℕ)) → List Read → List Entry → Include → Option Edge → Type 0
IsEdgeOf place reads scripts i None = IsMissing place reads i
IsEdgeOf place reads scripts i (Some e) = IsEdge place scripts i e

-- edges, and one more if there is one
abbrev pub with_edge : List Edge → Option Edge → List Edge
with_edge edges None = edges
with_edge edges (Some e) = edges ++ e ∷ []

module _ {S : Type 0} (made : S → List Read → Type 0) (place : S → List ℕ → Bool → Option (List ℕ)) where
  -- These reads were made for includes of a script of which this holds, from one moment to another, and scripts were added: what
  -- was a walk is one with them.
  pub record Goes (old new : S) (before after : List Entry) (Of : Entry → Type 0) (reads : List Read) : Type 0 where
    pub calls : Makes made old new reads
    pub places : place new ≡ place old
    pub added : List Entry
    pub more : after ≡ before ++ added
    pub walk : (program s : Entry) (earlier : List Read) → Of s → Contains before s → IsWalk (place old) program earlier before
        → IsWalk (place old) program (earlier ++ reads) after
