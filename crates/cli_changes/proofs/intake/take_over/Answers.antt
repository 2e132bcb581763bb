use Rattle.std.proofs.Common.{ap, sym, ◌∙◌}
use Rattle.std.proofs.lemmas.Result.{on_ok_weaker}
use Rattle.std.specs.Prelude.{is_some}
use Rattle.cli_changes.specs.Rounds.{IsEndAfter}
use Rattle.cli_changes.specs.declared.intake_room.Room.{Room}
use Rattle.cli_changes.proofs.IntakeLaws.{not_closed, taken_all, where_done}
use Rattle.cli_changes.proofs.intake.take_over.Goals as goal

pub returns-then-is_full : goal.returns-then-is_full
returns-then-is_full g c =
    let quiet = c.hear_nameless.ensures in
    let ended = c.end_round.ensures in
    taken_all g.A.Records.keeper _ _ c.args.room.now c.take_in.new.room c.end_round.new.self c.in_ok-taking.taking c.in_ok-taking.ensures
    (ap (λ (r : Room g.row.A.Denot). r.desk) ended ∙ quiet.desk) (ap (λ (r : Room g.row.A.Denot). r.next) ended ∙ quiet.place.next)
    (not_closed _ (ap (λ (r : Room g.row.A.Denot). is_some r.next) ended ∙ sym c.is_full.ensures ∙ c.if-is_full.true))

pub returns : goal.returns
returns g c =
    let room = c.hear_nameless.new.self in
    let quiet = c.hear_nameless.ensures in
    let taking = c.in_ok-taking.taking in
    on_ok_weaker c.close.result (λ ended.
    taken_all g.A.Records.keeper _ _ c.args.room.now c.take_in.new.room room taking c.in_ok-taking.ensures quiet.desk quiet.place.next
    (λ none. ended)) (where_done (λ r. IsEndAfter room.before taking r) c.close.result c.close.ensures)
