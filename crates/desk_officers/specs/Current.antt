-- Which images are kept.
use Rattle.std.specs.Prelude.{◌≡◌, ℕ, ◌<◌, ◌≤◌, List, [], ◌∷◌, Some, None, Option, Vec}
use Rattle.std.specs.declared.alloc.Global.{Global}
use Rattle.sieve_library.specs.Libraries.{NamedScript}
use Rattle.desk_commands.specs.Scripts.{meanings_of}
use Rattle.desk_officers.specs.declared.profile.KeptImage.{KeptImage}
use Rattle.desk_officers.specs.declared.profile.Profile.{Profile}
use Rattle.desk_officers.specs.Register.{Settings, PinsFor, officer_of}
use Rattle.desk_officers.specs.Profiles.{settings_of}

-- The last edition of the global scripts; all later changes share it.
abbrev pub last_edition : ℕ
last_edition = 18446744073709551615

-- The image was made at an edition of the global scripts up to this one. Where it is this one, the image is what is
-- pinned now.
pub record IsCurrent (edition : ℕ) (globals : List NamedScript) (s : Settings) (k : KeptImage) : Type 0 where
  pub so_far : k.edition ≤ edition
  pub told_apart : k.edition < last_edition
  pub pinned : k.edition ≡ edition → PinsFor (officer_of s) (meanings_of globals) k.image.value

-- An image that is kept is current.
abbrev pub KeepsCurrent : (edition : ℕ) (globals : List NamedScript) → Settings → Option KeptImage → Type 0
KeepsCurrent edition globals s None = Unit {0}
KeepsCurrent edition globals s (Some k) = IsCurrent edition globals s k

-- The same for each officer.
abbrev pub AllKeepCurrent : (edition : ℕ) (globals : List NamedScript) → List (Vec ℕ Global × Profile) → Type 0
AllKeepCurrent edition globals [] = Unit {0}
AllKeepCurrent edition globals (e ∷ es) = KeepsCurrent edition globals (settings_of e.1) e.1.kept ×
    AllKeepCurrent edition globals es
