-- Which scripts a program reaches by its includes.
use Rattle.std.specs.Prelude.{◌≡◌, ◌⊎◌, ◌↔◌, ℕ, Bool, List, [], ◌∷◌, ◌++◌, Option, Some, None, Vec, map, filter, is_some}
use Rattle.std.specs.declared.alloc.Global.{Global}
use Rattle.std.specs.List.{AllByRecursion, Contains, IsDistinct, slice_get}
use Rattle.std.specs.Option.{IsSome}
use Rattle.std.specs.Str.{bytes_eq}
use Rattle.tool_findings.specs.declared.circles.Edge.{Edge}
use Rattle.rule_folders.specs.Includes.{Leads}
use Rattle.tool_findings.specs.Commands.{Include}
use Rattle.rule_folders.specs.Reading.{Entry, Read, octets, octets_of}

-- a text has an include
abbrev pub HasInclude : List ℕ → Include → Type 0
HasInclude text i = (includes : List Include) × Leads text includes × Contains includes i

-- the read that found a script
abbrev pub read_of : Entry → Read
read_of e = record { path = e.path; is_global = e.is_global; answer = Some e.text }

abbrev pub is_found : Read → Bool
is_found r = is_some r.answer

-- a read answered what is there. `files` is what each path has
abbrev pub Answers : (files : List ℕ → Option (Option (List ℕ))) → Read → Type 0
Answers files r = r.answer ≡ files r.path

-- `place` is the path at which a script is looked for, by its name and whether it is one for all officers; none where no
-- script can have the name
module _ (place : List ℕ → Bool → Option (List ℕ)) where
  -- a script includes another one by the name that this has
  abbrev pub Includes : Entry → Entry → Type 0
  Includes s t = (i : Include) × HasInclude (octets s) i × (i.name ≡ t.name) × (i.is_global ≡ t.is_global)
      × (place i.name i.is_global ≡ Some t.path)

  -- a read was made for an include of one of these scripts
  abbrev pub IsAskedBy : List Entry → Read → Type 0
  IsAskedBy scripts r = (s : Entry) × Contains scripts s × ((i : Include) × HasInclude (octets s) i
      × (place i.name i.is_global ≡ Some r.path) × (i.is_global ≡ r.is_global))

  -- EACH OF THESE SCRIPTS IS INCLUDED BY ONE THAT STANDS BEFORE IT
  abbrev pub AreLedTo : (before : List Entry) → List Entry → Type 0
  AreLedTo before [] = Unit {0}
  AreLedTo before (t ∷ ts) = ((s : Entry) × Contains before s × Includes s t) × AreLedTo (before ++ t ∷ []) ts

  -- The program stands first, each other script is included by one before it, no path stands twice, the others are what the
  -- reads found, in their order, and nothing was read that none of these scripts includes.
  pub record IsWalk (program : Entry) (reads : List Read) (scripts : List Entry) : Type 0 where
    pub others : List Entry
    pub first : scripts ≡ program ∷ others
    pub led : AreLedTo (program ∷ []) others
    pub once : IsDistinct bytes_eq (map (λ (e : Entry). e.path) scripts)
    pub found : map read_of others ≡ filter is_found reads
    pub asked : AllByRecursion (IsAskedBy scripts) reads

  -- no script can have the name, or it was answered that none is there
  abbrev pub IsMissingAt : Option (List ℕ) → Bool → List Read → Type 0
  IsMissingAt None is_global reads = Unit {0}
  IsMissingAt (Some path) is_global reads = Contains reads (record { path = path; is_global = is_global; answer = None })

  abbrev pub IsMissing : List Read → Include → Type 0
  IsMissing reads i = IsMissingAt (place i.name i.is_global) i.is_global reads

  -- an edge leads from an include to its script among these
  abbrev pub IsEdge : List Entry → Include → Edge → Type 0
  IsEdge scripts i e = ((t : Entry) × (slice_get scripts e.to ≡ Some t) × (place i.name i.is_global ≡ Some t.path))
      × (e.at ≡ i.at) × (e.is_once ≡ i.is_once)

  module _ (reads : List Read) (scripts : List Entry) where
    -- EACH INCLUDE IS MISSING OR AN EDGE, in their order, and there are no other edges
    abbrev pub AreEdges : List Include → List Edge → Type 0
    AreEdges [] [] = Unit {0}
    AreEdges [] (e ∷ es) = ⊥
    AreEdges (i ∷ is) [] = IsMissing reads i × AreEdges is []
    AreEdges (i ∷ is) (e ∷ es) = (IsMissing reads i × AreEdges is (e ∷ es)) ⊎ (IsEdge scripts i e × AreEdges is es)

    -- the edges are those of a script's includes
    abbrev pub IsFollowed : Entry → List Edge → Type 0
    IsFollowed s edges = (includes : List Include) × Leads (octets s) includes × AreEdges includes edges

    abbrev pub AreFollowed : List Entry → List (Vec Edge Global) → Type 0
    AreFollowed [] [] = Unit {0}
    AreFollowed (s ∷ ss) (v ∷ vs) = IsFollowed s v.items × AreFollowed ss vs
    AreFollowed _ _ = ⊥

  -- A WALK: each include of each script of the answer is followed.
  pub record Follows (program : Entry) (reads : List Read) (scripts : List Entry) (edges : List (Vec Edge Global)) : Type 0 where
    pub walk : IsWalk program reads scripts
    pub followed : AreFollowed reads scripts scripts edges

  -- THE PATHS THAT A PROGRAM REACHES: its own, and that of each script that is there and that a script at one of them
  -- includes. `files` is what each path has.
  module _ (files : List ℕ → Option (Option (List ℕ))) (program : List ℕ) where
    pub data IsReached : List ℕ → Type 0 where
      itself : IsReached program
      included : (from to : List ℕ) (text : Option (List ℕ)) (i : Include) → IsReached from → files from ≡ Some text
          → HasInclude (octets_of text) i → place i.name i.is_global ≡ Some to → IsSome (files to) → IsReached to

  -- THE SCRIPTS ARE EXACTLY WHAT IS REACHED: each has the text that is there, and their paths are those that the program reaches.
  pub record AreExactly (files : List ℕ → Option (Option (List ℕ))) (program : List ℕ) (scripts : List Entry) : Type 0 where
    pub texts : AllByRecursion (λ (s : Entry). files s.path ≡ Some s.text) scripts
    pub paths : (path : List ℕ) → Contains (map (λ (s : Entry). s.path) scripts) path ↔ IsReached files program path
