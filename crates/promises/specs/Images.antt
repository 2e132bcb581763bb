-- What a script is compiled to.
use Rattle.std.specs.Prelude.{ℕ, List, Some}
use Rattle.sieve_meaning.specs.Meaning.{Library}
use Rattle.sieve_meaning.specs.Program.{Commands}
use Rattle.filing_image.specs.Program.{Program}
use Rattle.sieve_meaning.specs.TooHeavy.{is_too_heavy}
use Rattle.desk_commands.specs.Pinning.{PinsScript}

-- A script of that name, with what it can include, is compiled to the program: what the compiler owes, or one FAULT 5
-- where the script is too heavy.
abbrev pub Compiles : Library → (name : List ℕ) → Commands → Program → Type 0
Compiles lib name script p = PinsScript (is_too_heavy lib (Some name) script) lib name script p
