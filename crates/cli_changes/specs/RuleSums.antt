-- What stands for rules in a history.
use Rattle.std.specs.Prelude.{ℕ, List, [], ◌++◌, flat_map, codes, string_bytes}
use Rattle.cli_texts.specs.Sums.{shown_sum}
use Rattle.desk_commands.specs.declared.payload.Payload.{Payload}
use Rattle.desk_commands.specs.declared.payload.Payload.TheVariants as payload
use Rattle.cli_sources.specs.declared.reading.Rules.{Rules}
use Rattle.cli_sources.specs.declared.reading.Script.{Script}

-- the line that `sha256sum` prints of a file of these octets; there is none for a script that is too long to be kept
abbrev pub sum_line : (folder name : List ℕ) → Payload → List ℕ
sum_line folder name (payload.Whole text) =
    shown_sum text.items ++ codes "  " ++ folder ++ codes "/" ++ name ++ codes ".sieve\n"
sum_line folder name payload.TooLong = []
sum_line folder name payload.NoMemory = []

abbrev pub script_line : (folder : List ℕ) → Script → List ℕ
script_line folder script = sum_line folder (string_bytes script.name) script.text

-- the lines of the officer's own scripts, the program first, and then of those for all officers
abbrev pub rules_lines : Rules → List ℕ
rules_lines rules =
    flat_map (script_line (string_bytes rules.officer)) rules.scripts.items ++ flat_map (script_line (codes "global")) rules.globals.items

-- THE SUM OF RULES: the SHA-256 of these lines
abbrev pub rules_sum : Rules → List ℕ
rules_sum rules = shown_sum (rules_lines rules)
