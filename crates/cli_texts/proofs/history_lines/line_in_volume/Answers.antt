use Rattle.std.proofs.Common.{◌∙◌, ◌++◌, ap, ap₂, map, ℕ, List}
use Rattle.std.specs.Borrow.{Bor}
use Rattle.cli_texts.specs.HistoryLines.{words_in}
use Rattle.cli_texts.proofs.history_lines.line_in_volume.Goals as goal

pub returns : goal.returns
returns c =
    let now = map (λ (w : Bor (List ℕ)). w.now) in
    c.in_ok-push_words.ensures
    ∙ ap (λ l. l ++ words_in c.as_str.result.now c.args.places 0 (now c.as_slice.result.now)) c.new-named.ensures.items
    ∙ ap₂ (λ v ws. words_in v c.args.places 0 ws) (c.as_str.ensures.value ∙ c.in_ok-volume.ensures.ok)
    (ap now c.as_slice.ensures.value ∙ c.in_ok-words.ensures)
