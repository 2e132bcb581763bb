-- What the pieces of the code represent.
use Rattle.std.specs.Prelude.{List, map}
use Rattle.std.specs.Option.{option_map}
use Rattle.sieve_check.specs.Pieces.{PieceWord, tagged, positional, pieces}
use Rattle.sieve_check.specs.Views.{tag_view, form_view}
use Rattle.sieve_syntax.specs.declared.tree.Argument.{Argument}
use Rattle.sieve_check.specs.declared.table.Form.{Form}
use Rattle.sieve_check.specs.declared.pieces.Piece.{Piece}
use Rattle.sieve_check.specs.declared.pieces.Piece.TheVariants.{Tagged, Positional}
use Rattle.sieve_check.specs.declared.pieces.Pieces.{Pieces}

abbrev pub piece_view : Piece → PieceWord
piece_view (Tagged row comparator) = tagged (option_map tag_view row) (option_map (λ t. t.now) comparator)
piece_view (Positional a) = positional a.now

abbrev pub pieces_left : Pieces → List PieceWord
pieces_left p = pieces (map tag_view p.tags.now) p.rest.now

-- the pieces of the arguments of a command or test of that form
abbrev pub pieces_of : Form → List Argument → List PieceWord
pieces_of form arguments = pieces (form_view form).tags arguments
