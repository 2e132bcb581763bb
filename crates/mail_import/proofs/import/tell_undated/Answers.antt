use Rattle.std.proofs.Common.{[], ◌∷◌, sym, ◌∙◌}
use Rattle.mail_import.specs.Findings.{undated_lines}
use Rattle.mail_import.specs.Sources.{Mail}
use Rattle.mail_import.specs.declared.message.Progress.{Progress}
use Rattle.mail_import.specs.declared.message.Terms.{Terms}
use Rattle.mail_import.proofs.SourceLaws.{undated_none, undated_some}
use Rattle.mail_import.proofs.FindingLaws.{does_none}
use Rattle.mail_import.proofs.Taken.{does_undated}
use Rattle.mail_import.proofs.import.tell_undated.Goals as goal

pub returns-in-Some : goal.returns-in-Some
returns-in-Some g c =
    let goes = g.M.OldMailroom.goes in
    let has = g.M.OldMailroom.has in
    let none = g.met.M.OldMailroom.goes_none in
    let and_then = g.met.M.OldMailroom.goes_then in
    let path = c.args.path.now in
    let count = c.undated-lines.result.count in (
      undated_lines path c.in-Some.first count ∷ [],
      λ (terms : Terms) (p : Progress).
          does_undated goes has none and_then terms c.args.room.now c.tell_undated.new.self p path c.in-Some.first count
          c.tell_undated.ensures.call,
      λ (m : Mail) h left.
          let lines = c.undated-lines.ensures.lines m h left in
          undated_some path (m.undated path) c.in-Some.first count (sym c.in-Some.is ∙ lines.first) lines.count,
    )

pub returns-in_default : goal.returns-in_default
returns-in_default g c =
    let goes = g.M.OldMailroom.goes in
    let has = g.M.OldMailroom.has in
    let none = g.met.M.OldMailroom.goes_none in
    let and_then = g.met.M.OldMailroom.goes_then in
    let path = c.args.path.now in (
      [],
      λ (terms : Terms) (p : Progress). does_none goes has none and_then terms c.args.room.now p,
      λ (m : Mail) h left. undated_none path (m.undated path) (sym c.in_default.is ∙ (c.undated-lines.ensures.lines m h left).first),
    )
