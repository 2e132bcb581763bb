-- What any list of calls of an intake satisfies, said of the calls alone.
use Rattle.std.specs.Prelude.{◌≡◌, ◌⊎◌, ℕ, List, [], ◌∷◌, Option, Some, Ok, Err}
use Rattle.mail_intake.specs.Calls.{Call, Cause, read, capture, move, tell, remember, taken, refused}

-- the call before, if there is one, was this message's capture, answered with success
abbrev pub IsCaptured : (name : List ℕ) → Option Call → Type 0
IsCaptured name (Some (capture n octets (taken how))) = n ≡ name
IsCaptured name _ = ⊥

-- the call before read these octets of the message
abbrev pub IsRead : (name octets : List ℕ) → Option Call → Type 0
IsRead name octets (Some (read n (Ok found))) = (n ≡ name) × (found ≡ octets)
IsRead name octets _ = ⊥

-- the call before found that the message stays for this reason
abbrev pub IsLeft : (name : List ℕ) (why : Cause) → Option Call → Type 0
IsLeft name why (Some (read n (Err w))) = (n ≡ name) × (w ≡ why)
IsLeft name why (Some (capture n octets (refused w))) = (n ≡ name) × (w ≡ why)
IsLeft name why _ = ⊥

-- the call before told it so
abbrev pub IsTold : (name : List ℕ) (why : Cause) → Option Call → Type 0
IsTold name why (Some (tell n w)) = (n ≡ name) × (w ≡ why)
IsTold name why before = IsLeft name why before

-- what comes right before a call: A MOVE COMES RIGHT AFTER ITS MESSAGE WAS ANSWERED AS CAPTURED, a capture right after its
-- octets were read, and what is told right after it was found
abbrev pub MayFollow : (before : Option Call) → Call → Type 0
MayFollow before (move name done) = IsCaptured name before
MayFollow before (capture name octets answer) = IsRead name octets before
MayFollow before (tell name why) = IsLeft name why before
MayFollow before (remember name why) = IsTold name why before
MayFollow before _ = Unit {0}

abbrev pub AreInOrder : (before : Option Call) → List Call → Type 0
AreInOrder before [] = Unit {0}
AreInOrder before (c ∷ calls) = MayFollow before c × AreInOrder (Some c) calls

-- the names of the messages that the archive was handed
abbrev pub handed_over : List Call → List (List ℕ)
handed_over [] = []
handed_over (capture name octets answer ∷ calls) = name ∷ handed_over calls
handed_over (_ ∷ calls) = handed_over calls

-- some of these, in their order, each as often as it is there or not at all
abbrev pub AreSomeOf : {X : Type 0} → List X → List X → Type 0
AreSomeOf [] xs = Unit {0}
AreSomeOf (y ∷ ys) [] = ⊥
AreSomeOf (y ∷ ys) (x ∷ xs) = ((y ≡ x) × AreSomeOf ys xs) ⊎ AreSomeOf (y ∷ ys) xs
