-- The command line of `mailfile`.
use Rattle.std.specs.Prelude.{◌≡◌, ℕ, List, [], ◌∷◌, codes, option_map, string_bytes}
use Rattle.clap.specs.Simple.{App, matches_of}
use Rattle.clap.specs.Walk.{first_of}
use Rattle.command_lines.specs.Tables.{app_alone, option}
use Rattle.command_lines.specs.declared.session.CommandLine.{CommandLine}

-- THE WORDS OF `mailfile`: the store may be named
unfoldable pub session_app : App
session_app = app_alone (codes "mailfile") (option (codes "store") ∷ [])

-- THE OPTIONS OF THE WORDS THAT ARE TYPED: the store is the value of `--store`, if that is typed
abbrev pub IsSession : (words : List (List ℕ)) → CommandLine → Type 0
IsSession words line = option_map string_bytes line.store ≡ first_of (codes "store") (matches_of session_app words)
