use Rattle.std.proofs.Common.{◌≡◌, ◌++◌, ◌∷◌, [], map}
use Rattle.std.proofs.lemmas.Result.{err_from_is_err_and}
use Rattle.std.proofs.lemmas.List.{map_push}
use Rattle.filing_image.specs.Reading.{text_at, many_at}
use Rattle.filing_image.proofs.Loop.{goes_on, ends, is_done}
use Rattle.filing_image.proofs.reading.texts_of.Goals as goal

pub returns-in_err-text : goal.returns-in_err-text
returns-in_err-text c =
    let p = err_from_is_err_and c.from_residual.result c.from_residual.ensures.1 in
    rw (p.1, p.2) (ends text_at c.in_err-text.field-0.0 (map (λ t. t.items) c.loop.texts.items) c.args.count
    c.loop.counter c.loop.rest.now (many_at text_at c.args.count c.args.octets.now) c.loop-test.true
    c.in_err-text.ensures c.loop.invariant)

pub loop-preserved : goal.loop-preserved
loop-preserved c =
    let n = c.in_ok-text.text in
    let e : map (λ t. t.items) c.push.new.self.items ≡ map (λ t. t.items) c.loop.texts.items
    ++ n.items ∷ [] = rw c.in_ok-push.ensures.items (map_push _ c.loop.texts.items n) in
    rw e (goes_on text_at (map (λ t. t.items) c.loop.texts.items) c.args.count c.loop.counter c.loop.rest.now n.items
    c.in_ok-text.after.now (many_at text_at c.args.count c.args.octets.now) c.loop-test.true c.in_ok-text.ensures
    c.loop.invariant)

pub returns : goal.returns
returns c = is_done text_at (map (λ t. t.items) c.loop.texts.items) c.args.count c.loop.counter c.loop.rest.now
    (many_at text_at c.args.count c.args.octets.now) c.loop-test.false c.loop.invariant
