-- How a capture begins.
use Rattle.std.proofs.Common.{◌≡◌, ℕ, List, arith, ap, ◌∙◌, sym}
use Rattle.mail_case.specs.Message.{case_of, is_among}
use Rattle.desk_flights.specs.FlightViews.{FlightView, facts_in}
use Rattle.desk_flights.specs.Begun.{HoldsBegun}

-- a capture with the case of its message and paths, and with no step made, holds each flight that begins with these
pub holds_begun : (x : FlightView) (paths : List (List ℕ)) → facts_in x.case ≡ case_of x.message (is_among paths)
    → x.machine.steps ≡ 0 → HoldsBegun x.ticket x.program x.message paths x.day x
holds_begun x paths case none = λ f b.
    let granted = b.fresh in
    record {
      ticket = sym b.ticket;
      program = sym b.program;
      pinned = b.pinned;
      message = sym b.message;
      facts = case ∙ ap (λ m. case_of m (is_among paths)) (sym b.message) ∙ ap (case_of f.at_begin.message) (sym b.paths);
      day = b.day;
      steps = omega (arith, none, granted);
    }
