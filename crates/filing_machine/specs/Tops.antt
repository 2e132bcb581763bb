-- What a machine answers about the top of its stack, and about the fields of a list there.
use Rattle.std.specs.Prelude.{ℕ, Bool, false, List, ◌∷◌, length, Option, option_map, slice_get}
use Rattle.std.specs.List.{list_any}
use Rattle.sieve_meaning.specs.Case.{Facts}
use Rattle.filing_table.specs.Machine.{Entry, T, L, N, comparison_holds}
use Rattle.mail_case.specs.Fields.{field_at}
use Rattle.filing_machine.specs.declared.top.Top.{Top}
use Rattle.filing_machine.specs.declared.top.Top.TheVariants.{Truth, Values, Number}

-- an entry as it is answered: a list by the number of its values
abbrev pub top_of : Entry → Top
top_of (T b) = Truth b
top_of (L xs) = Values (length xs)
top_of (N n) = Number n

abbrev pub top_of_stack : List Entry → Option Top
top_of_stack es = option_map top_of (slice_get es 0)

-- whether a list is on the top, and one of its values matches a key
abbrev pub any_on_top : ℕ → List ℕ → List Entry → Bool
any_on_top comparison key (L xs ∷ es) = list_any (comparison_holds comparison key) xs
any_on_top comparison key _ = false

-- whether the value of the field at a place matches a key
abbrev pub value_matches : Facts → ℕ → List ℕ → ℕ → Bool
value_matches c comparison key place = comparison_holds comparison key (field_at c place).value
