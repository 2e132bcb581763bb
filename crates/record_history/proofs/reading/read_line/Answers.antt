use Rattle.std.proofs.Common.{◌≡◌, ap, sym, ◌∙◌, subst, Option, Some, None, unwrap_or, List, ℕ, true, false, not}
use Rattle.std.specs.Str.{bytes_eq}
use Rattle.std.proofs.lemmas.Bool.{false≢true}
use Rattle.std.proofs.lemmas.Slice.Eq.{bytes_eq-Decides}
use Rattle.std.proofs.lemmas.Result.{err_from_is_err_and}
use Rattle.record_history.specs.Events.{Event}
use Rattle.record_history.specs.Lines.{line_of}
use Rattle.record_history.specs.Readable.{IsReadable}
use Rattle.record_history.specs.Reading.{Fails, event_at}
use Rattle.record_history.specs.Views.{event_view}
use Rattle.record_history.proofs.LinesAgain.{event_again}
use Rattle.record_history.proofs.reading.read_line.Goals as goal

pub returns-clause-only : goal.returns-clause-only
returns-clause-only c = λ n e h r same. sym (event_again n e h r) ∙ ap event_at (sym same) ∙ c.in_ok-number.ensures.event

pub returns-then-not-is_readable-clause-only : goal.returns-then-not-is_readable-clause-only
returns-then-not-is_readable-clause-only c = λ n e h r same.
    let first : ℕ × Event = (n, e) in
    let second : ℕ × Event = (c.in_ok-number.number, event_view c.in_ok-number.event) in
    let both : Some first ≡ Some second = sym (event_again n e h r) ∙ ap event_at (sym same) ∙ c.in_ok-number.ensures.event in
    let event : Option (ℕ × Event) → Event = λ o. (unwrap_or o first).1 in
    let readable : IsReadable (event_view c.in_ok-number.event) = subst IsReadable (ap event both) r in
    absurd (false≢true (sym c.if-not-is_readable.true ∙ c.is_readable.ensures.1 readable))

pub returns-then-ne-clause-only : goal.returns-then-ne-clause-only
returns-then-ne-clause-only c = λ n e h r same.
    let first : ℕ × Event = (n, e) in
    let second : ℕ × Event = (c.in_ok-number.number, event_view c.in_ok-number.event) in
    let both : Some first ≡ Some second = sym (event_again n e h r) ∙ ap event_at (sym same) ∙ c.in_ok-number.ensures.event in
    let line : Option (ℕ × Event) → List ℕ = λ o. line_of (unwrap_or o first).0 (unwrap_or o first).1 in
    let equal : c.as_slice.result.now ≡ c.args.line.now = c.as_slice.ensures.value ∙ c.in_ok-again.ensures ∙ sym (ap line both) ∙ sym same in
    let test : not (bytes_eq c.as_slice.result.now c.args.line.now) ≡ false = ap not ((bytes_eq-Decides _ _).1 equal) in
    let told = c.if-ne.true in
    let is = c.ne.ensures in
    absurd (cc)

pub returns-in_err-number-clause-only : goal.returns-in_err-number-clause-only
returns-in_err-number-clause-only c = λ n e h r same.
    let whole : ℕ × Event = (n, e) in
    let is : event_at c.args.line.now ≡ Some whole = ap event_at same ∙ event_again n e h r in
    let P : Option (ℕ × Event) → Type 0 = λ o. Fails c.in_err-number.field-0.0 o in
    let p = err_from_is_err_and c.from_residual.result c.from_residual.ensures.1 in
    rw (p.1, p.2) (subst P is c.in_err-number.ensures.event)
