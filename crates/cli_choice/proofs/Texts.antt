-- The texts of found records, with more of these.
use Rattle.std.proofs.Common.{◌≡◌, List, ◌++◌, map, refl}
use Rattle.std.proofs.lemmas.List.{map-append}
use Rattle.record_archive.specs.Archive.{Archive}
use Rattle.record_choice.specs.Entries.{RecordEntry}
use Rattle.cli_choice.specs.Headers.{texts_in, texts_found}
use Rattle.cli_choice.specs.declared.search.Beside.{Beside}
use Rattle.cli_choice.specs.declared.search.Beside.TheVariants.{Nothing, Headers}

pub texts_more : (a : Archive) (b : Beside) (es fs : List RecordEntry)
    → texts_found a b (es ++ fs) ≡ texts_found a b es ++ texts_found a b fs
texts_more a Nothing es fs = refl
texts_more a Headers es fs = map-append (texts_in a) es fs
