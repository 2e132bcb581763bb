-- The scripts of two borrowed shelves.
use Rattle.sieve_meaning.specs.Meaning.{Library}
use Rattle.sieve_library.specs.declared.shelves.Shelves.{Shelves}
use Rattle.sieve_library.specs.Libraries.{Scripts, library_of}

abbrev pub scripts_of : Shelves → Scripts
scripts_of s = record { personal = s.personal.now; global = s.global.now }

-- what an include finds on two shelves
abbrev pub library_on : Shelves → Library
library_on s = library_of (scripts_of s)
