use Rattle.std.proofs.Common.{rules, ◌∙◌, sym}
use Rattle.std.specs.Prelude.{not}
use Rattle.std.proofs.lemmas.Iterator.Search.{any_from_yields_List}
use Rattle.std.proofs.lemmas.Iterator.Consumers.{YieldsList-from_first}
use Rattle.std.proofs.lemmas.Iterator.Adapters.{YieldsList-from_skip_while, YieldsList-from_skip}
use Rattle.sieve_check.specs.PieceViews.{piece_view, pieces_left}
use Rattle.sieve_check.specs.Pieces.{PieceWord, pieces}
use Rattle.sieve_check.specs.Views.{form_view}
use Rattle.sieve_check.specs.Rules.{has_kind}
use Rattle.sieve_check.proofs.Twice.{stands_twice_is}
use Rattle.sieve_check.proofs.rules.has_kind_twice.Goals as goal

pub returns : goal.returns
returns c =
    any_from_yields_List (has_kind c.args.kind) c.any.new.self _ c.any.result c.any.ensures.ran
    (YieldsList-from_skip 1 (YieldsList-from_skip_while _ piece_view _ (λ (p : PieceWord).
    not (has_kind c.args.kind p)) c.skip_while.result.p (λ x b q k.
    search rules) (YieldsList-from_first piece_view pieces_left
    (pieces (form_view c.args.form.now).tags c.args.arguments.now) cc) (cc) (cc)) (cc)) (λ x b q k. search rules)
    ∙ sym (stands_twice_is c.args.kind (pieces (form_view c.args.form.now).tags c.args.arguments.now))
