-- Octets that are read ahead and taken.
use Rattle.std.proofs.Common.{◌≡◌, ℕ, ◌<◌, ◌++◌, [], ◌∷◌, List, Bool, true, false, length, take, drop}
use Rattle.std.proofs.Common.{min, arith, ap, sym, ◌∙◌, refl, append_assoc}
use Rattle.std.specs.Prelude.{Option, Some, None, IsTrue, ◌↔◌}
use Rattle.std.specs.Io.KnownBytes.{Consumes, IsAtEnd, prepend_known}
use Rattle.std.proofs.lemmas.List.{take-append-drop}

in_parts : (n : ℕ) (ahead rest room : List ℕ) → take n room ≡ take n ahead → ahead ++ rest ≡ take n room ++ (drop n ahead ++ rest)
in_parts n ahead rest room e =
    ap (λ s. s ++ rest) (sym (take-append-drop n ahead)) ∙ append_assoc (take n ahead) (drop n ahead) rest
    ∙ ap (λ s. s ++ (drop n ahead ++ rest)) (sym e)

-- octets that were read ahead are taken
pub took : (ahead after : List ℕ) (known : Option (List ℕ)) (n : ℕ) (room : List ℕ) → take n room ≡ take n ahead
    → after ≡ drop n ahead → Consumes (prepend_known ahead known) (prepend_known after known) (take n room)
took ahead after None n room e f = tt
took ahead after (Some rest) n room e f = in_parts n ahead rest room e ∙ ap (λ s. take n room ++ (s ++ rest)) (sym f)

-- octets are read ahead where there are none, and taken
pub filled : (before ahead after : List ℕ) (old mid : Option (List ℕ)) (n : ℕ) (room : List ℕ) → before ≡ []
    → Consumes old mid ahead → take n room ≡ take n ahead → after ≡ drop n ahead
    → Consumes (prepend_known before old) (prepend_known after mid) (take n room)
filled before ahead after None mid n room none h e f = tt
filled before ahead after (Some all) None n room none h e f = absurd h
filled before ahead after (Some all) (Some rest) n room none h e f =
    ap (λ s. s ++ all) none ∙ h ∙ in_parts n ahead rest room e ∙ ap (λ s. take n room ++ (s ++ rest)) (sym f)

-- where nothing is taken, nothing was there
nothing : (ahead : List ℕ) (n size : ℕ) → n ≡ min (length ahead) size → 0 < size → n ≡ 0 → ahead ≡ []
nothing [] n size e pos z = refl
nothing (x ∷ ahead) n size e pos z = absurd (omega (arith, e, pos, z))

pub some_taken : (ahead : List ℕ) (n size : ℕ) (empty : Bool) → (IsTrue empty ↔ ahead ≡ []) → empty ≡ false
    → n ≡ min (length ahead) size → 0 < size → n ≡ 0 → ⊥
some_taken ahead n size empty tells not e pos z =
    let t : empty ≡ true = tells.1 (nothing ahead n size e pos z) in
    cc (t, not)

at_end : (ahead after : List ℕ) (known : Option (List ℕ)) (n : ℕ) → ahead ≡ [] → IsAtEnd known → after ≡ drop n ahead
    → n ≡ 0 → IsAtEnd (prepend_known after known)
at_end ahead after None n none end f z = tt
at_end ahead after (Some rest) n none end f z = ap (λ s. s ++ rest) (f ∙ ap (λ k. drop k ahead) z ∙ none) ∙ end

pub ended : (ahead after : List ℕ) (known : Option (List ℕ)) (n size : ℕ) → (ahead ≡ [] → IsAtEnd known)
    → after ≡ drop n ahead → n ≡ min (length ahead) size → 0 < size → n ≡ 0 → IsAtEnd (prepend_known after known)
ended ahead after known n size tells f e pos z =
    let none = nothing ahead n size e pos z in
    at_end ahead after known n none (tells none) f z
