-- The arguments of a command or test, whatever their layout.
use Rattle.std.specs.Prelude.{List, [], ◌∷◌}
use Rattle.sieve_syntax.specs.declared.tree.Argument.{Argument}
use Rattle.sieve_syntax.specs.declared.tree.ArgumentList.{ArgumentList}
use Rattle.sieve_syntax.specs.declared.tree.ArgumentList.TheVariants as argument_list

abbrev pub arguments_in : ArgumentList → List Argument
arguments_in argument_list.None = []
arguments_in (argument_list.One a) = a.value ∷ []
arguments_in (argument_list.Many v) = v.value.items
