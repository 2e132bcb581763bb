use Rattle.std.proofs.Common.{rules}
use Rattle.std.proofs.lemmas.Iterator.Search.{any_from_yields_List}
use Rattle.std.proofs.lemmas.Iterator.Consumers.{YieldsList-from_first}
use Rattle.sieve_check.specs.PieceViews.{piece_view, pieces_left}
use Rattle.sieve_check.specs.Rules.{has_kind}
use Rattle.sieve_check.specs.Pieces.{pieces}
use Rattle.sieve_check.specs.Views.{form_view}
use Rattle.sieve_check.proofs.rules.has_tag.Goals as goal

pub returns : goal.returns
returns c = any_from_yields_List (has_kind c.args.kind) c.any.new.self _ c.any.result c.any.ensures.ran
    (YieldsList-from_first piece_view pieces_left (pieces (form_view c.args.form.now).tags c.args.arguments.now) cc)
    (λ x b q k. search rules)
