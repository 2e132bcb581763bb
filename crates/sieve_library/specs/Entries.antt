-- What an entry of a shelf holds.
use Rattle.sieve_library.specs.declared.shelf.Entry.{Entry}
use Rattle.sieve_library.specs.Libraries.{NamedScript}

abbrev pub entry_of : Entry → NamedScript
entry_of e = record { name = e.name.items; script = e.script.value.script }
