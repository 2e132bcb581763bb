-- Arguments, grouped: each tag with the string that belongs to it, and the positional arguments (RFC 5228,
-- section 2.6).
use Rattle.std.specs.Prelude.{ℕ, Bool, true, false, List, [], ◌∷◌, drop, Option, Some, None}
use Rattle.std.specs.List.{filter_map}
use Rattle.sieve_syntax.specs.declared.tree.StringList.TheVariants as string_lists
use Rattle.sieve_syntax.specs.declared.tree.Argument.{Argument}
use Rattle.sieve_syntax.specs.declared.tree.Argument.TheVariants as arguments
use Rattle.sieve_check.specs.Tables.{TagWord}
use Rattle.sieve_check.specs.Lookup.{tag_named}

pub data PieceWord : Type 0 where
  -- a tag, with its row if the table has one for it, and with the comparator that it names
  tagged : (word : Option TagWord) (comparator : Option (List ℕ)) → PieceWord
  positional : Argument → PieceWord

-- the string outside brackets that comes first
abbrev pub string_first : List Argument → Option (List ℕ)
string_first [] = None
string_first (arguments.Strings (string_lists.One s) ∷ more) = Some s
string_first (arguments.Strings (string_lists.Listed s ss) ∷ more) = None
string_first (arguments.Number n ∷ more) = None
string_first (arguments.Tag name ∷ more) = None

abbrev pub comparator_pieces : Bool → TagWord → Option (List ℕ) → List PieceWord → List PieceWord
comparator_pieces false w next following = tagged (Some w) None ∷ following
comparator_pieces true w None following = tagged (Some w) None ∷ following
comparator_pieces true w (Some s) following = tagged (Some w) (Some s) ∷ drop 1 following

-- a tag of the table that names a comparator takes the string directly after it, if there is one
abbrev pub tag_pieces : Option TagWord → Option (List ℕ) → List PieceWord → List PieceWord
tag_pieces None next following = tagged None None ∷ following
tag_pieces (Some w) next following = comparator_pieces w.names_comparator w next following

abbrev pub pieces : List TagWord → List Argument → List PieceWord
pieces tags [] = []
pieces tags (arguments.Strings l ∷ more) = positional (arguments.Strings l) ∷ pieces tags more
pieces tags (arguments.Number n ∷ more) = positional (arguments.Number n) ∷ pieces tags more
pieces tags (arguments.Tag name ∷ more) = tag_pieces (tag_named name tags) (string_first more) (pieces tags more)

abbrev pub is_tagged : PieceWord → Bool
is_tagged (tagged w c) = true
is_tagged (positional a) = false

abbrev pub positional_part : PieceWord → Option Argument
positional_part (tagged w c) = None
positional_part (positional a) = Some a

-- the positional arguments, in order
abbrev pub positional_arguments : List PieceWord → List Argument
positional_arguments = filter_map positional_part
