use Rattle.std.proofs.Common.{◌≡◌, [], ◌∷◌, sym, ◌∙◌, refl, subst}
use Rattle.mail_boxes.specs.Boxes.{message_view}
use Rattle.mail_boxes.specs.declared.splitter.BoxMessage.{BoxMessage}
use Rattle.mail_import.specs.Imports.{Breaks, TakesAll}
use Rattle.mail_import.specs.Findings.{IsBoxed, boxed_name, found_of, message, stays}
use Rattle.mail_import.specs.Fates.{too_long}
use Rattle.mail_import.specs.Sources.{Mail}
use Rattle.mail_import.proofs.FindingLaws.{breaks_at_once}
use Rattle.mail_import.proofs.Taken.{breaks_boxed, on_err, on_err_by, on_ok_by, takes_boxed, takes_over}
use Rattle.mail_import.proofs.import.take_boxed.Goals as goal

pub returns-in_err-name-clause-ended : goal.returns-in_err-name-clause-ended
returns-in_err-name-clause-ended g c =
    let goes = g.M.OldMailroom.goes in
    let has = g.M.OldMailroom.has in
    let none = g.met.M.OldMailroom.goes_none in
    let and_then = g.met.M.OldMailroom.goes_then in
    let terms = c.args.terms.now in
    let octets = message_view c.args.message in
    let name = boxed_name c.args.path.now c.args.number in
    on_err _ _ (breaks_at_once goes has none and_then terms (IsBoxed c.args.path.now c.args.number octets) c.args.room.now c.args.progress.now
    (λ (m : Mail). (message name (found_of octets) (stays too_long) ∷ [], (refl, refl))))

pub returns-in-Whole-clause-taken : goal.returns-in-Whole-clause-taken
returns-in-Whole-clause-taken g c =
    let goes = g.M.OldMailroom.goes in
    let has = g.M.OldMailroom.has in
    let none = g.met.M.OldMailroom.goes_none in
    let and_then = g.met.M.OldMailroom.goes_then in
    let terms = c.args.terms.now in
    let path = c.args.path.now in
    let number = c.args.number in
    let named : c.as_str.result.now ≡ boxed_name path number = c.as_str.ensures.value ∙ c.in_ok-name.ensures in
    on_ok_by _ _ c.take.result (λ t.
    subst (λ (w : BoxMessage). TakesAll goes has terms (IsBoxed path number (message_view w)) c.args.room.now c.args.progress.now
    c.take.new.room c.take.new.progress) (sym c.in-Whole.is)
    (takes_boxed goes has none and_then terms c.args.room.now c.take.new.room c.args.progress.now c.take.new.progress path number c.as_str.result.now
    c.in-Whole.octets.items t.0 named t.1)) c.take.ensures.taken

pub returns-in-Whole-clause-ended : goal.returns-in-Whole-clause-ended
returns-in-Whole-clause-ended g c =
    let goes = g.M.OldMailroom.goes in
    let has = g.M.OldMailroom.has in
    let none = g.met.M.OldMailroom.goes_none in
    let and_then = g.met.M.OldMailroom.goes_then in
    let terms = c.args.terms.now in
    let path = c.args.path.now in
    let number = c.args.number in
    let named : c.as_str.result.now ≡ boxed_name path number = c.as_str.ensures.value ∙ c.in_ok-name.ensures in
    on_err_by _ _ c.take.result (λ h.
    subst (λ (w : BoxMessage). Breaks goes has terms (IsBoxed path number (message_view w)) c.args.room.now c.args.progress.now
    c.take.new.room c.take.new.progress) (sym c.in-Whole.is)
    (breaks_boxed goes has none and_then terms c.args.room.now c.take.new.room c.args.progress.now c.take.new.progress path number
    c.as_str.result.now
    c.in-Whole.octets.items
    named h)) c.take.ensures.ended

pub returns-clause-taken : goal.returns-clause-taken
returns-clause-taken g c =
    let goes = g.M.OldMailroom.goes in
    let has = g.M.OldMailroom.has in
    let none = g.met.M.OldMailroom.goes_none in
    let and_then = g.met.M.OldMailroom.goes_then in
    let terms = c.args.terms.now in
    let path = c.args.path.now in
    let number = c.args.number in
    let name = c.as_str-in-TooLong.result.now in
    let named : name ≡ boxed_name path number = c.as_str-in-TooLong.ensures.value ∙ c.in_ok-name.ensures in
    subst (λ (w : BoxMessage). TakesAll goes has terms (IsBoxed path number (message_view w)) c.args.room.now c.args.progress.now
    c.leave.new.room c.leave.new.progress) (sym c.in-TooLong.is)
    (takes_over goes has none and_then terms c.args.room.now c.leave.new.room c.args.progress.now c.leave.new.progress path number name named
    c.leave.ensures.calls c.leave.ensures.tally c.leave.ensures.known)
