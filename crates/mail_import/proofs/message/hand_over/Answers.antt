use Rattle.std.proofs.Common.{[], ◌∷◌, Err, refl, sym, subst}
use Rattle.mail_intake.specs.Calls.{cause_of}
use Rattle.mail_import.specs.Calls.{answer_of, capture}
use Rattle.mail_import.specs.Fates.{FirstRecords, Knows}
use Rattle.mail_import.specs.Findings.{captured, turned_away}
use Rattle.mail_import.specs.Sources.{OnlyMakes}
use Rattle.mail_import.proofs.FindingLaws.{only_then}
use Rattle.mail_import.proofs.message.hand_over.Goals as goal

pub returns-in-Ok-clause-taken : goal.returns-in-Ok-clause-taken
returns-in-Ok-clause-taken g c = (
  captured c.args.moment c.in-Ok.first,
  refl,
  c.in-Ok.ensures.call,
  c.in_ok-note-in-Ok.ensures.tally,
  λ (first : FirstRecords) is known. c.in_ok-note-in-Ok.ensures.known c.args.octets.items first is known,
)

pub returns-in-Err-Stays-clause-taken : goal.returns-in-Err-Stays-clause-taken
returns-in-Err-Stays-clause-taken g c =
    let goes = g.M.OldMailroom.goes in
    let has = g.M.OldMailroom.has in (
      turned_away c.args.moment (cause_of c.in-Err-Stays.reason),
      refl,
      only_then goes has g.met.M.OldMailroom.goes_none g.met.M.OldMailroom.goes_then c.args.room.now c.capture.new.self c.leave.new.room _ _
          (subst (λ e. OnlyMakes goes has c.args.room.now c.capture.new.self
          (capture c.args.name.now c.args.moment c.args.octets.items (answer_of (Err e)) ∷ []))
          c.in-Err-Stays.field-0-is c.in-Err-Stays.ensures.call)
          c.leave.ensures.calls,
      c.leave.ensures.tally,
      λ (first : FirstRecords) is known. subst (λ k. Knows k first) (sym c.leave.ensures.known) known,
    )
