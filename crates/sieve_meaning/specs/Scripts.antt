-- What the code's script names and includes mean (RFC 6609, section 3.2).
use Rattle.std.specs.Prelude.{Bool, true, false}
use Rattle.sieve_meaning.specs.Meaning as meaning
use Rattle.sieve_meaning.specs.Program as program
use Rattle.sieve_meaning.specs.declared.scripts.Location.{Location}
use Rattle.sieve_meaning.specs.declared.scripts.Location.TheVariants.{Personal, Global}
use Rattle.sieve_meaning.specs.declared.scripts.ScriptName.{ScriptName}
use Rattle.sieve_meaning.specs.declared.scripts.Include.{Include}

abbrev pub is_global : Location → Bool
is_global Personal = false
is_global Global = true

abbrev pub script_of : ScriptName → meaning.ScriptName
script_of s = record { global = is_global s.location; name = s.name.now }

-- what an include requests
abbrev pub include_view : Include → program.Include
include_view i = record { global = is_global i.script.location; once = i.is_once; optional = i.is_optional; name = i.script.name.now }
