-- The words of `mailfile-tool`.
use Rattle.std.specs.Prelude.{List, [], ◌∷◌, codes}
use Rattle.clap.specs.Simple.{App, Shape}
use Rattle.clap.specs.Walk.{Rule}
use Rattle.command_lines.specs.Tables.{app_over, flag, letter, needed, option, place, places, tied, with_arguments}

-- where scripts are: in the folder of all rules, or else in one of their own and one for all officers
abbrev folders : List Rule
folders = option (codes "rules") ∷ tied (option (codes "personal")) ∷ tied (option (codes "global")) ∷ []

abbrev script : Rule
script = needed (place (codes "script"))

abbrev image : Rule
image = needed (place (codes "image"))

-- THE SUBCOMMANDS OF `mailfile-tool`
abbrev pub tools : List Shape
tools =
    with_arguments (codes "frame") (place (codes "file") ∷ []) ∷
    with_arguments (codes "explain") (option (codes "script") ∷ flag (codes "numbers") ∷ place (codes "number") ∷ []) ∷
    with_arguments (codes "check") (places (codes "files") ∷ option (codes "plan") ∷ folders) ∷
    with_arguments (codes "compile") (script ∷ needed (letter 111 (codes "image")) ∷ folders) ∷
    with_arguments (codes "dump") (image ∷ []) ∷
    with_arguments (codes "why") (
    script ∷ place (codes "message") ∷ option (codes "plan") ∷ option (codes "day") ∷ flag (codes "steps") ∷
    flag (codes "json") ∷ tied (option (codes "image")) ∷ folders) ∷
    with_arguments (codes "recipients") (needed (option (codes "rules")) ∷ needed (places (codes "domains")) ∷ []) ∷
    []

-- THE COMMAND LINE OF `mailfile-tool`
unfoldable pub tool_app : App
tool_app = app_over (codes "mailfile-tool") tools
