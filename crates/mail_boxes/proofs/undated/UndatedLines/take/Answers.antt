use Rattle.std.proofs.Common.{◌≡◌, ◌+◌, ap, sym, ◌∙◌, arith}
use Rattle.mail_boxes.specs.declared.undated.UndatedLines.{UndatedLines}
use Rattle.mail_boxes.proofs.UndatedLemmas.{read_one, read_other}
use Rattle.mail_boxes.proofs.undated.UndatedLines.take.Goals as goal
use Rattle.mail_boxes.proofs.undated.UndatedLines.take.Goals.{then-has_next, else-has_next}

pub returns : goal.returns
returns c = λ lines fits h.
    elim c.if-has_next.branch [
      | then-has_next w ↦
          let is = w.self-is ∙ w.note.ensures in
          let next : c.if-has_next.self.next ≡ c.args.self.now.next = ap (λ (u : UndatedLines). u.next) is in
          read_one lines c.args.line.now c.args.self.now _ h (sym c.has_next.ensures ∙ w.if-has_next.true)
          (ap (λ (u : UndatedLines). u.first) is) (ap (λ (u : UndatedLines). u.count) is)
          (omega (arith, next, h.next, fits, c.saturating_add-self.ensures)) c.is_empty_line-self.ensures
      | else-has_next w ↦
          let next : c.if-has_next.self.next ≡ c.args.self.now.next = ap (λ (u : UndatedLines). u.next) w.self-is in
          read_other lines c.args.line.now c.args.self.now _ h (sym c.has_next.ensures ∙ w.if-has_next.false)
          (ap (λ (u : UndatedLines). u.first) w.self-is) (ap (λ (u : UndatedLines). u.count) w.self-is)
          (omega (arith, next, h.next, fits, c.saturating_add-self.ensures)) c.is_empty_line-self.ensures
    ]
