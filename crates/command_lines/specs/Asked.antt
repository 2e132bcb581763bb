-- What `clap` found of the words of a subcommand, by the names of these words.
use Rattle.std.specs.Prelude.{ℕ, Bool, false, List, [], codes, Option, Some, None, option_map, unwrap_or}
use Rattle.std.specs.Borrow.{Bor}
use Rattle.std.specs.Str.{bytes_eq, trim}
use Rattle.clap.specs.Matches.{first_value, matched_of, one_text, raw_values}
use Rattle.clap.specs.declared.parser.matches.Found.{Found}

-- THE VALUE OF THE WORD OF A NAME, if it is given
abbrev pub value_in : Found → (name : List ℕ) → Option (List ℕ)
value_in found name = first_value found name

-- all values of the word of a name, in the order in which they are given, if any is
abbrev pub all_values_in : Found → (name : List ℕ) → Option (List (List ℕ))
all_values_in found name = option_map raw_values (matched_of found name)

-- THE VALUES OF THE WORD OF A NAME; none where it is not given
abbrev pub values_in : Found → (name : List ℕ) → List (List ℕ)
values_in found name = unwrap_or (all_values_in found name) []

abbrev pub is_yes : Option (List ℕ) → Bool
is_yes None = false
is_yes (Some text) = bytes_eq text (codes "true")

-- THE FLAG OF A NAME IS GIVEN
abbrev pub is_given : Found → (name : List ℕ) → Bool
is_given found name = is_yes (one_text found name)

-- the text that is looked for by the word of a name: without the white space at its ends
abbrev pub text_in : Found → (name : List ℕ) → Option (List ℕ)
text_in found name = option_map trim (value_in found name)

-- a text that may be missing, as it is read
abbrev pub text_of : Option (Bor (List ℕ)) → Option (List ℕ)
text_of text = option_map (λ s. s.now) text
