use Rattle.std.proofs.Common.{◌≡◌, ◌<◌, ◌-◌, ◌+◌, ◌∷◌, ◌++◌, [], length, map, take, drop, arith, sym, ap, ◌∙◌}
use Rattle.std.specs.List.{join_with_byte}
use Rattle.std.proofs.lemmas.List.{take_all, map-append, length-drop}
use Rattle.tool_texts.proofs.Typed.{pending, pending_last, pending_more, split_at}
use Rattle.tool_texts.proofs.framing.typed_words.Goals as goal

pub returns-then-end-rest : goal.returns-then-end-rest
returns-then-end-rest c =
    let ws = map (λ w. w.now) c.loop-words.words.items in
    let r = c.loop-words.rest.now in
    let end = c.word_end-end.result in
    let whole : take end r ≡ r = take_all end r (omega (arith, c.if-end-rest.true)) in
    ap (λ xs. join_with_byte 32 (map (λ w. w.now) xs)) c.in_ok-push.ensures.items
    ∙ ap (join_with_byte 32) (map-append (λ w. w.now) c.loop-words.words.items _)
    ∙ ap (λ w. join_with_byte 32 (ws ++ w ∷ [])) whole
    ∙ pending_last ws r
    ∙ c.loop-words.invariant

pub loop-words-preserved : goal.loop-words-preserved
loop-words-preserved c =
    let ws = map (λ w. w.now) c.loop-words.words.items in
    let r = c.loop-words.rest.now in
    let end = c.word_end-end.result in
    let lt : end < length r = omega (arith, c.word_end-end.ensures.within, c.if-end-rest.false) in
    let rest : take (length r - (end + 1)) (drop (end + 1) r) ≡ drop (end + 1) r =
    take_all _ (drop (end + 1) r) (omega (arith, length-drop (end + 1) r)) in
    ap (λ xs. pending (map (λ w. w.now) xs) (take (length r - (end + 1)) (drop (end + 1) r))) c.in_ok-push.ensures.items
    ∙ ap (λ xs. pending xs (take (length r - (end + 1)) (drop (end + 1) r))) (map-append (λ w. w.now) c.loop-words.words.items _)
    ∙ ap (pending (ws ++ take end r ∷ [])) rest
    ∙ sym (pending_more ws (take end r) (drop (end + 1) r))
    ∙ sym (ap (pending ws) (split_at r end lt (c.word_end-end.ensures.space lt)))
    ∙ c.loop-words.invariant
