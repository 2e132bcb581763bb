-- The values of the strings that are written in a script.
use Rattle.std.specs.Prelude.{ℕ, List}
use Rattle.sieve_text.specs.declared.lexeme.WrittenString.{WrittenString}
use Rattle.sieve_text.specs.declared.lexeme.WrittenString.TheVariants.{Quoted, Lines}
use Rattle.sieve_text.specs.Strings.{quoted_value, lines_value}

abbrev pub string_of : WrittenString → List ℕ
string_of (Quoted body) = quoted_value body.now
string_of (Lines lines) = lines_value lines.now
