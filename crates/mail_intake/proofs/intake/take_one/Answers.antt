use Rattle.std.proofs.Common.{refl, sym, subst, Err, ◌∷◌, []}
use Rattle.mail_intake.specs.Calls.{Makes, answer_of, capture, cause_of}
use Rattle.mail_intake.specs.Fates.{filed, unread, turned_away, at_capture, at_move}
use Rattle.mail_intake.specs.Folders.{Folders}
use Rattle.mail_intake.proofs.Passing.{makes_then}
use Rattle.mail_intake.proofs.intake.take_one.Goals as goal

pub returns-in-Err-clause-taken : goal.returns-in-Err-clause-taken
returns-in-Err-clause-taken g c = (
  unread c.args.name.now (cause_of c.in-Err.reason),
  refl,
  sym c.leave.ensures.outcome,
  makes_then g.M.Mailroom.made c.args.room.now c.read.new.self c.leave.new.room _ _ c.in-Err.ensures.call.made c.leave.ensures.calls.made,
  λ (f : Folders) h. (tt, c.leave.ensures.calls.kept f (c.in-Err.ensures.call.kept f h)),
)

pub returns-in-Ok-file_away-clause-taken : goal.returns-in-Ok-file_away-clause-taken
returns-in-Ok-file_away-clause-taken g c =
    let made = g.M.Mailroom.made in (
      filed c.args.name.now c.in-Ok.octets.items c.in-Ok-capture.field-0,
      refl,
      refl,
      makes_then made c.args.room.now c.capture.new.self c.file_away.new.self _ _
          (makes_then made c.args.room.now c.read.new.self c.capture.new.self _ _ c.in-Ok.ensures.call.made c.in-Ok-capture.ensures.call.made)
          c.in-Ok-file_away.ensures.made,
      λ (f : Folders) h. (
        c.in-Ok.ensures.found f h,
        c.in-Ok-file_away.ensures.moved f (c.in-Ok-capture.ensures.call.kept f (c.in-Ok.ensures.call.kept f h)),
      ),
    )

pub returns-in-Err-file_away-clause-ended : goal.returns-in-Err-file_away-clause-ended
returns-in-Err-file_away-clause-ended g c =
    let made = g.M.Mailroom.made in (
      at_move c.args.name.now c.in-Ok.octets.items c.in-Ok-capture.field-0,
      tt,
      ([], refl),
      makes_then made c.args.room.now c.capture.new.self c.file_away.new.self _ _
          (makes_then made c.args.room.now c.read.new.self c.capture.new.self _ _ c.in-Ok.ensures.call.made c.in-Ok-capture.ensures.call.made)
          c.in-Err-file_away.ensures.made,
      λ (f : Folders) h. (
        c.in-Ok.ensures.found f h,
        c.in-Err-file_away.ensures.kept f (c.in-Ok-capture.ensures.call.kept f (c.in-Ok.ensures.call.kept f h)),
      ),
    )

pub returns-in-Err-Stays-clause-taken : goal.returns-in-Err-Stays-clause-taken
returns-in-Err-Stays-clause-taken g c =
    let made = g.M.Mailroom.made in (
      turned_away c.args.name.now c.in-Ok.octets.items (cause_of c.in-Err-Stays.reason),
      refl,
      sym c.leave-in-Err-Stays.ensures.outcome,
      makes_then made c.args.room.now c.capture.new.self c.leave-in-Err-Stays.new.room _ _
          (makes_then made c.args.room.now c.read.new.self c.capture.new.self _ _ c.in-Ok.ensures.call.made
          (subst (λ e. Makes made c.read.new.self c.capture.new.self (capture c.args.name.now c.in-Ok.octets.items (answer_of (Err e)) ∷ []))
          c.in-Err-Stays.field-0-is c.in-Err-Stays.ensures.call.made))
          c.leave-in-Err-Stays.ensures.calls.made,
      λ (f : Folders) h. (
        c.in-Ok.ensures.found f h,
        c.leave-in-Err-Stays.ensures.calls.kept f (c.in-Err-Stays.ensures.call.kept f (c.in-Ok.ensures.call.kept f h)),
      ),
    )

pub returns-in-Err-Ends-clause-ended : goal.returns-in-Err-Ends-clause-ended
returns-in-Err-Ends-clause-ended g c =
    let made = g.M.Mailroom.made in (
      at_capture c.args.name.now c.in-Ok.octets.items,
      tt,
      ([], refl),
      makes_then made c.args.room.now c.read.new.self c.capture.new.self _ _ c.in-Ok.ensures.call.made
          (subst (λ e. Makes made c.read.new.self c.capture.new.self (capture c.args.name.now c.in-Ok.octets.items (answer_of (Err e)) ∷ []))
          c.in-Err-Ends.field-0-is c.in-Err-Ends.ensures.call.made),
      λ (f : Folders) h. (
        c.in-Ok.ensures.found f h,
        c.in-Err-Ends.ensures.call.kept f (c.in-Ok.ensures.call.kept f h),
      ),
    )
