use Rattle.std.proofs.Common.{refl, sym, subst}
use Rattle.mail_intake.specs.Calls.{no_memory}
use Rattle.mail_import.specs.Fates.{FirstRecords, because, no_mail, undated}
use Rattle.mail_import.specs.Imports.{Takes}
use Rattle.mail_import.specs.Findings.{known, stays}
use Rattle.mail_import.specs.declared.fate.Fate.TheVariants as fate
use Rattle.mail_import.specs.declared.message.Progress.{Progress}
use Rattle.mail_import.proofs.Taken.{takes_by, takes_no_memory}
use Rattle.mail_import.proofs.message.take.Goals as goal
use Rattle.mail_import.proofs.message.take.Goals.{in-Known, in-NoMail, in-Undated}

pub returns-in_default-clause-taken : goal.returns-in_default-clause-taken
returns-in_default-clause-taken g c = (
  stays (because no_memory),
  takes_no_memory g.M.OldMailroom.goes g.M.OldMailroom.has c.args.terms.now c.args.room.now c.args.progress.now c.args.name.now
      c.args.octets.items c.leave.new.room c.leave.new.progress c.leave.ensures.calls c.leave.ensures.tally c.leave.ensures.known,
)

pub returns-clause-taken : goal.returns-clause-taken
returns-clause-taken g c =
    let goes = g.M.OldMailroom.goes in
    let has = g.M.OldMailroom.has in
    let terms = c.args.terms.now in
    let name = c.args.name.now in
    let octets = c.args.octets.items in
    let room = c.args.room.now in
    let progress = c.args.progress.now in
    elim c.match-fate.branch [
      | in-Known w ↦
          let o = known w.in-Known.first in (
            o,
            subst (λ (r : g.row.M.Denot). Takes goes has terms room progress name octets o r c.match-fate.progress) (sym w.room-is)
                (subst (λ (q : Progress). Takes goes has terms room progress name octets o w.pass_over.new.room q) (sym w.progress-is)
                (takes_by goes has terms room progress name octets o w.pass_over.new.room w.pass_over.new.progress
                (fate.Known w.in-Known.first) w.pass_over.ensures.calls w.pass_over.ensures.tally w.pass_over.ensures.known (λ first. refl)
                (λ (first : FirstRecords) k.
                let a = w.in-Known.is in let b = c.in-Ok.ensures.fate first k in let d = c.in-Ok.fate-is in let e = c.as_slice.ensures.value in cc)
                refl)),
          )
      | in-NoMail w ↦
          let o = stays (no_mail w.in-NoMail.why) in (
            o,
            subst (λ (r : g.row.M.Denot). Takes goes has terms room progress name octets o r c.match-fate.progress) (sym w.room-is)
                (subst (λ (q : Progress). Takes goes has terms room progress name octets o w.leave-in-NoMail.new.room q) (sym w.progress-is)
                (takes_by goes has terms room progress name octets o w.leave-in-NoMail.new.room w.leave-in-NoMail.new.progress
                (fate.NoMail w.in-NoMail.why) w.leave-in-NoMail.ensures.calls w.leave-in-NoMail.ensures.tally w.leave-in-NoMail.ensures.known
                (λ first. refl)
                (λ (first : FirstRecords) k.
                let a = w.in-NoMail.is in let b = c.in-Ok.ensures.fate first k in let d = c.in-Ok.fate-is in let e = c.as_slice.ensures.value in cc)
                refl)),
          )
      | in-Undated w ↦
          let o = stays (undated w.in-Undated.dated) in (
            o,
            subst (λ (r : g.row.M.Denot). Takes goes has terms room progress name octets o r c.match-fate.progress) (sym w.room-is)
                (subst (λ (q : Progress). Takes goes has terms room progress name octets o w.leave-in-Undated.new.room q) (sym w.progress-is)
                (takes_by goes has terms room progress name octets o w.leave-in-Undated.new.room w.leave-in-Undated.new.progress
                (fate.Undated w.in-Undated.dated) w.leave-in-Undated.ensures.calls w.leave-in-Undated.ensures.tally
                w.leave-in-Undated.ensures.known (λ first. refl)
                (λ (first : FirstRecords) k.
                let a = w.in-Undated.is in let b = c.in-Ok.ensures.fate first k in let d = c.in-Ok.fate-is in let e = c.as_slice.ensures.value in cc)
                refl)),
          )
    ]
