-- What is kept of officers in memory.
use Rattle.std.specs.Prelude.{ℕ, List, map, Vec}
use Rattle.std.specs.declared.alloc.Global.{Global}
use Rattle.desk_commands.specs.Pinning.{Officer}
use Rattle.desk_commands.specs.Pinning as commands
use Rattle.desk_officers.specs.declared.profile.Active.{Active}
use Rattle.desk_officers.specs.declared.profile.Active.TheVariants as code
use Rattle.desk_officers.specs.declared.profile.Profile.{Profile}
use Rattle.desk_officers.specs.Register.{Settings, officer_at}

abbrev pub active_of : Active → commands.Active
active_of code.NoProgram = commands.no_program
active_of (code.Script name) = commands.script_named name.items
active_of (code.Image image) = commands.image image.value

abbrev pub settings_of : Profile → Settings
settings_of p = record { active = active_of p.active; scripts = p.scripts }

abbrev pub settings_in : List (Vec ℕ Global × Profile) → List (List ℕ × Settings)
settings_in es = map (λ e. (e.0.items, settings_of e.1)) es

-- the officer of that name
abbrev pub officer_in : List (Vec ℕ Global × Profile) → (name : List ℕ) → Officer
officer_in es name = officer_at name (settings_in es)
