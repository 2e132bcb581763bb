use Rattle.std.proofs.Common.{◌≡◌, ◌<◌, ◌∷◌, ◌++◌, [], length, map, take, get_or, arith, sym, ap, ◌∙◌, append_assoc}
use Rattle.std.specs.List.{join_with_byte}
use Rattle.std.proofs.lemmas.List.{get_or-map, length-map}
use Rattle.tool_texts.specs.Framing.{session_word}
use Rattle.tool_texts.proofs.Joins.{join_start, join_more}
use Rattle.tool_texts.proofs.framing.framed_line.Goals.{then-index-gt0+in_ok-push, else-index-gt0}
use Rattle.tool_texts.proofs.framing.framed_line.Goals as goal

pub loop-index-preserved : goal.loop-index-preserved
loop-index-preserved c =
    let words = c.args.words.now in
    let k = c.loop-index.index in
    let word = c.index-words-index.result in
    let lt : k < length words = omega (arith, c.loop-index-test.true, c.loop-index.auto.index-end) in
    let within : k < length (map session_word words) = omega (arith, lt, length-map words session_word) in
    let mapped : session_word word ≡ get_or (map session_word words) k (session_word word) =
    ap session_word c.index-words-index.is ∙ sym (get_or-map session_word words k word (session_word word) lt) in
    elim c.if-index-gt0.branch [
      | then-index-gt0+in_ok-push w ↦
          c.in_ok-spell.ensures
          ∙ ap (λ line. line.items ++ session_word word) w.line-is
          ∙ ap (λ items. items ++ session_word word) w.in_ok-push.ensures.items
          ∙ append_assoc c.loop-index.line.items (32 ∷ []) (session_word word)
          ∙ ap (λ items. items ++ (32 ∷ session_word word)) c.loop-index.invariant
          ∙ ap (λ octets. join_with_byte 32 (take k (map session_word words)) ++ (32 ∷ octets)) mapped
          ∙ sym (join_more 32 (map session_word words) k (session_word word) w.if-index-gt0.true within)
      | else-index-gt0 w ↦
          c.in_ok-spell.ensures
          ∙ ap (λ line. line.items ++ session_word word) w.line-is
          ∙ ap (λ items. items ++ session_word word) c.loop-index.invariant
          ∙ ap (λ octets. join_with_byte 32 (take k (map session_word words)) ++ octets) mapped
          ∙ sym (join_start 32 (map session_word words) k (session_word word) w.if-index-gt0.false within)
    ]
