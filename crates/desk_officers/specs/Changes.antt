-- The effect of a change of one officer.
use Rattle.std.specs.Prelude.{◌≡◌, ℕ, List, if◌then◌else◌, Vec}
use Rattle.std.specs.Str.{bytes_eq}
use Rattle.std.specs.declared.alloc.Global.{Global}
use Rattle.sieve_library.specs.Libraries.{NamedScript}
use Rattle.desk_commands.specs.Pinning.{Officer}
use Rattle.desk_officers.specs.declared.profile.Profile.{Profile}
use Rattle.desk_officers.specs.Profiles.{officer_in}
use Rattle.desk_officers.specs.Current.{AllKeepCurrent}

-- The officer of that name is now o, and each other officer is the same. No kept image of the officer's is left.
pub record ChangesOnly (old new : List (Vec ℕ Global × Profile)) (name : List ℕ) (o : Officer) : Type 0 where
  pub officers : (n : List ℕ) → officer_in new n ≡ (if bytes_eq n name then o else officer_in old n)
  pub images : (edition : ℕ) (globals : List NamedScript) → AllKeepCurrent edition globals old →
      AllKeepCurrent edition globals new
