use Rattle.std.proofs.Common.{◌≡◌, ◌≤◌, ◌+◌, ◌++◌, ◌∷◌, ◌∙◌, [], ℕ, List, ap, arith, drop, length, map, sym}
use Rattle.std.proofs.lemmas.List.{append-nil, at_drop_all, at_drop_more}
use Rattle.std.specs.Borrow.{Bor}
use Rattle.cli_texts.specs.HistoryLines.{volume_before, words_in}
use Rattle.cli_texts.proofs.HistoryLineLemmas.{word_added}
use Rattle.cli_texts.proofs.history_lines.push_words.Goals as goal

pub loop-at-preserved : goal.loop-at-preserved
loop-at-preserved c =
    let words = c.args.words.now in
    let at = c.loop-at.at in
    let text = λ (ws : List (Bor (List ℕ))). words_in c.args.volume.now c.args.places at (map (λ w. w.now) ws) in
    word_added c.args.volume.now c.args.places at _ (map (λ w. w.now) (drop (at + 1) words)) c.loop-at.line.items
    c.push_blank.new.line.items c.push_volume.new.line.items c.extend_from_slice.new.self.items c.in_ok-push_blank.ensures
    (c.in_ok-push_volume.ensures ∙ ap (λ b. c.push_blank.new.line.items ++ volume_before c.args.volume.now b) c.has.ensures)
    c.in_ok-extend_from_slice.ensures.items
    ∙ ap (λ t. c.loop-at.line.items ++ t) (sym (at_drop_more text words at _ (omega arith))) ∙ c.loop-at.invariant

pub returns : goal.returns
returns c =
    let words = c.args.words.now in
    let at = c.loop-at.at in
    let text = λ (ws : List (Bor (List ℕ))). words_in c.args.volume.now c.args.places at (map (λ w. w.now) ws) in
    let all : length words ≤ at = omega arith in
    sym (append-nil c.loop-at.line.items) ∙ ap (λ t. c.loop-at.line.items ++ t) (sym (at_drop_all text words at all)) ∙ c.loop-at.invariant
