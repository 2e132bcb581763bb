-- How a search of records ends.
use Rattle.std.specs.Prelude.{◌≡◌}
use Rattle.choice_words.specs.declared.choice.Choice as words
use Rattle.record_archive.specs.Archive.{Archive}
use Rattle.cli_choice.specs.declared.questions.Questions.{Questions}
use Rattle.cli_console.specs.Finds.{found_in, missing_among, missing_of, numbers_of}
use Rattle.cli_console.specs.declared.search.Search.{Search}

-- A SEARCH IS AT ITS END: of the numbers that are typed by themselves it misses exactly those that no record has which is found
abbrev pub IsEnded : words.Choice → Questions → Archive → Search → Type 0
IsEnded typed questions a search = missing_of search ≡ missing_among typed.numbers.items (numbers_of (found_in typed questions a))
