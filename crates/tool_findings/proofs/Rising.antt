-- Lists of findings that rise.
use Rattle.std.proofs.Common.{◌≡◌, refl, true, List, [], ◌∷◌, ◌++◌}
use Rattle.tool_findings.specs.declared.findings.Finding.{Finding}
use Rattle.tool_findings.specs.Judgements.{comes_after, Rises}

-- the last of the findings, or this one where there are none
abbrev pub last_of : Finding → List Finding → Finding
last_of f [] = f
last_of f (g ∷ gs) = last_of g gs

pub last_of_more : (f : Finding) (gs : List Finding) (h : Finding) → last_of f (gs ++ h ∷ []) ≡ h
last_of_more f [] h = refl
last_of_more f (g ∷ gs) h = last_of_more g gs h

pub rises_more : (f : Finding) (gs : List Finding) (h : Finding) → Rises f gs → comes_after h (last_of f gs) ≡ true
    → Rises f (gs ++ h ∷ [])
rises_more f [] h _ after = (after, tt)
rises_more f (g ∷ gs) h (first, rest) after = (first, rises_more g gs h rest after)
