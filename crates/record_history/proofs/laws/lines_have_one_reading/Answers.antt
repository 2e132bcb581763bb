use Rattle.std.proofs.Common.{◌≡◌, ap, sym, ◌∙◌, Option, Some, unwrap_or, ℕ}
use Rattle.record_history.specs.Events.{Event}
use Rattle.record_history.specs.Reading.{event_at}
use Rattle.record_history.proofs.LinesAgain.{event_again}
use Rattle.record_history.proofs.laws.lines_have_one_reading.Goals as goal

pub returns : goal.returns
returns c = λ n m e f hn hm re rf same.
    let first : ℕ × Event = (n, e) in
    let second : ℕ × Event = (m, f) in
    let both : Some first ≡ Some second = sym (event_again n e hn re) ∙ ap event_at same ∙ event_again m f hm rf in
    let value : Option (ℕ × Event) → ℕ × Event = λ o. unwrap_or o first in
    (ap (λ o. (value o).0) both, ap (λ o. (value o).1) both)
