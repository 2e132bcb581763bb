-- What the compiler answers is what is pinned.
use Rattle.std.proofs.Common.{◌≡◌, ℕ, List, refl, ◌∙◌, sym, Bool, true, false, Option, Some, Result}
use Rattle.std.specs.Prelude.{IfOk}
use Rattle.sieve_meaning.specs.Program.{Commands}
use Rattle.sieve_meaning.specs.Meaning.{Library}
use Rattle.sieve_meaning.specs.TooHeavy.{is_too_heavy, IsTooHeavy}
use Rattle.filing_image.specs.Program.{Program}
use Rattle.filing_flow.specs.Compiled.{IsCompiled}
use Rattle.desk_commands.specs.Pinning.{PinsChoice, PinsScript, script, script_if, one_fault}

pub compiled_pins : (lib : Library) (name : List ℕ) (c : Commands) (p : Program) → IsCompiled lib (Some name) c p
    → (IsTooHeavy lib (Some name) c → ⊥) → PinsChoice (script name c) lib p
compiled_pins lib name c p h light = go _ refl
  where
    go : (heavy : Bool) → is_too_heavy lib (Some name) c ≡ heavy → PinsScript heavy lib name c p
    go true is = absurd (light is)
    go false is = h

pub heavy_pins : (lib : Library) (name : List ℕ) (c : Commands) (p : Program) → p ≡ one_fault
    → IsTooHeavy lib (Some name) c → PinsChoice (script name c) lib p
heavy_pins lib name c p h over = go _ refl
  where
    go : (heavy : Bool) → is_too_heavy lib (Some name) c ≡ heavy → PinsScript heavy lib name c p
    go true is = h
    go false is = absurd (let f : true ≡ false = sym over ∙ is in cc)

-- a program that is pinned for a script is pinned for the name that has it
pub some_pins : (lib : Library) (name : List ℕ) (c : Commands) (found : Option Commands) (r : Result Program (Unit {0}))
    → found ≡ Some c → IfOk r (PinsChoice (script name c) lib) → IfOk r (PinsChoice (script_if name found) lib)
some_pins lib name c found r is h = rw is h
