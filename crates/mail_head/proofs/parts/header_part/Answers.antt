use Rattle.std.proofs.Common.{◌≡◌, ◌++◌, sym, ap, refl, ◌∙◌, arith, length, take, drop, false}
use Rattle.std.proofs.lemmas.List.{length-drop}
use Rattle.std.specs.Prelude.{◌&&◌}
use Rattle.mail_head.specs.Fields.{begins_with}
use Rattle.mail_head.specs.Pieces.{header_octets, ends_in_lone_cr}
use Rattle.mail_head.proofs.FeedLemmas.{part_at_line_start}
use Rattle.mail_head.proofs.PartLemmas.{part_inside, part_lone}
use Rattle.mail_head.proofs.parts.header_part.Goals as goal
use Rattle.mail_head.proofs.parts.header_part.Goals.{else-has_lone_cr-via-then-has_lone_cr+else-begins_with_lf, else-has_lone_cr-via-else-has_lone_cr}

pub returns-then-is_at_line_start : goal.returns-then-is_at_line_start
returns-then-is_at_line_start c = (
  c.header_len.ensures.within,
  λ e. part_at_line_start c.args.kept.now c.args.piece.now (sym c.is_at_line_start.ensures
      ∙ c.if-is_at_line_start.true) e ∙ ap (λ x. c.args.kept.now ++ x) c.header_len.ensures.value,
)

pub returns-then-begins_with_lf : goal.returns-then-begins_with_lf
returns-then-begins_with_lf c = part_lone c.args.kept.now c.args.piece.now (sym c.has_lone_cr.ensures
    ∙ c.if-has_lone_cr.true) (sym c.begins_with_lf.ensures ∙ c.if-begins_with_lf.true)

pub returns : goal.returns
returns c =
    let long = c.split_at.ensures.front_len in
    let lone : (ends_in_lone_cr c.args.kept.now && begins_with 10 c.args.piece.now) ≡ false =
    elim c.else-has_lone_cr.branch [
      | else-has_lone_cr-via-then-has_lone_cr+else-begins_with_lf w ↦
          rw (
            ← w.begins_with_lf.ensures,
            w.if-begins_with_lf.false,
            ← c.has_lone_cr.ensures,
            w.if-has_lone_cr.true,
          ) refl
      | else-has_lone_cr-via-else-has_lone_cr w ↦ rw (← c.has_lone_cr.ensures, w.if-has_lone_cr.false) refl
    ] in
    let octets : header_octets (drop c.first_line_len.result c.args.piece.now)
    ≡ take c.header_len-2.result (drop c.first_line_len.result c.args.piece.now) =
    rw c.split_at.ensures.back at c.header_len-2.ensures.value in (
      rw long (omega (
        arith,
        c.header_len-2.ensures.within,
        ap length c.split_at.ensures.back,
        length-drop c.first_line_len.result c.args.piece.now,
        c.first_line_len.ensures.within,
      )),
      λ e. rw long (part_inside c.args.kept.now c.args.piece.now c.first_line_len.result c.header_len-2.result
          (sym c.is_at_line_start.ensures ∙ c.if-is_at_line_start.false) lone c.first_line_len.ensures.value octets e),
    )
