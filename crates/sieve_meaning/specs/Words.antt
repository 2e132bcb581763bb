-- The names of commands, tests and tags, which ignore ASCII case (RFC 5228, section 2.1).
use Rattle.std.specs.Prelude.{ℕ, List, Bool, codes, if◌then◌else◌}
use Rattle.std.specs.Str.{str_eq_ignore_ascii_case}
use Rattle.sieve_meaning.specs.declared.words.CommandWord.{CommandWord}
use Rattle.sieve_meaning.specs.declared.words.CommandWord.TheVariants as commands
use Rattle.sieve_meaning.specs.declared.words.TestWord.{TestWord}
use Rattle.sieve_meaning.specs.declared.words.TestWord.TheVariants as tests

abbrev pub same_word : List ℕ → List ℕ → Bool
same_word a b = str_eq_ignore_ascii_case a b

unfoldable pub command_word : List ℕ → CommandWord
command_word name =
    if same_word name (codes "if") then commands.If
    else if same_word name (codes "elsif") then commands.ElsIf
    else if same_word name (codes "else") then commands.Else
    else if same_word name (codes "require") then commands.Require
    else if same_word name (codes "stop") then commands.Stop
    else if same_word name (codes "keep") then commands.Keep
    else if same_word name (codes "discard") then commands.Discard
    else if same_word name (codes "return") then commands.Return
    else if same_word name (codes "fileinto") then commands.FileInto
    else if same_word name (codes "include") then commands.Include
    else commands.Other

unfoldable pub test_word : List ℕ → TestWord
test_word name =
    if same_word name (codes "header") then tests.Header
    else if same_word name (codes "not") then tests.Not
    else if same_word name (codes "allof") then tests.AllOf
    else if same_word name (codes "anyof") then tests.AnyOf
    else if same_word name (codes "exists") then tests.Exists
    else if same_word name (codes "size") then tests.Size
    else if same_word name (codes "true") then tests.True
    else if same_word name (codes "false") then tests.False
    else tests.Other
