-- The library that scripts of files make.
use Rattle.std.specs.Prelude.{◌≡◌, List, [], ◌∷◌, ◌⊎◌, string_bytes}
use Rattle.sieve_meaning.specs.declared.scripts.Location.{Location}
use Rattle.sieve_meaning.specs.declared.scripts.Location.TheVariants.{Personal, Global}
use Rattle.sieve_meaning.specs.Scripts.{is_global}
use Rattle.sieve_library.specs.Libraries.{Scripts, NamedScript, named_script, with_entry, location_of, HasNoRoom}
use Rattle.tool_inquiry.specs.Names.{name_of}
use Rattle.tool_inquiry.specs.Files.{script_in}
use Rattle.tool_inquiry.specs.declared.faults.InquiryFault.{InquiryFault}
use Rattle.tool_inquiry.specs.declared.faults.InquiryFault.TheVariants.{Full, TooLong, NoMemory}
use Rattle.tool_inquiry.specs.declared.scripts.ScriptFile.{ScriptFile}

-- a script under the name of its file
abbrev pub entry_of : ScriptFile → NamedScript
entry_of f = named_script (name_of (string_bytes f.path)) (script_in f)

abbrev pub with_entry_at : Location → NamedScript → Scripts → Scripts
with_entry_at Personal e l = record l { personal = with_entry e l.personal }
with_entry_at Global e l = record l { global = with_entry e l.global }

-- the scripts with another one at its name in its location, in the place of the one that has the name
abbrev pub with_file : ScriptFile → Scripts → Scripts
with_file f l = with_entry_at f.location (entry_of f) l

-- the scripts with more of them, one after another
abbrev pub with_files : List ScriptFile → Scripts → Scripts
with_files [] l = l
with_files (f ∷ fs) l = with_files fs (with_file f l)

-- the name is new in a location that has thirty-two scripts
abbrev pub HasNoRoomFor : ScriptFile → Scripts → Type 0
HasNoRoomFor f l = HasNoRoom (location_of (is_global f.location) l) (name_of (string_bytes f.path))

-- there is room for each of the scripts when its turn comes
abbrev pub HasRoomForAll : List ScriptFile → Scripts → Type 0
HasRoomForAll [] l = Unit {0}
HasRoomForAll (f ∷ fs) l = (HasNoRoomFor f l → ⊥) × HasRoomForAll fs (with_file f l)

-- there is no room for a script, whose path the fault has; or there was no memory
abbrev pub IsFullFor : ScriptFile → Scripts → InquiryFault → Type 0
IsFullFor f l (Full path) = HasNoRoomFor f l × (string_bytes path ≡ string_bytes f.path)
IsFullFor f l TooLong = ⊥
IsFullFor f l NoMemory = Unit {0}

-- there is no room for one of the scripts when its turn comes, whose path the fault has; or there was no memory
abbrev pub IsFullForAll : List ScriptFile → Scripts → InquiryFault → Type 0
IsFullForAll [] l (Full path) = ⊥
IsFullForAll [] l TooLong = ⊥
IsFullForAll [] l NoMemory = Unit {0}
IsFullForAll (f ∷ fs) l fault = IsFullFor f l fault ⊎ IsFullForAll fs (with_file f l) fault
