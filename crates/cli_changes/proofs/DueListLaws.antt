-- The lines of what is due, with one more.
use Rattle.std.proofs.Common.{◌≡◌, ◌<◌, ◌∙◌, ◌∷◌, ◌++◌, ℕ, List, [], Option, ap, get_or, length, sym, take}
use Rattle.std.specs.Prelude.{◌+◌}
use Rattle.std.proofs.lemmas.Grind.{flat_map-append}
use Rattle.std.proofs.lemmas.List.{append-nil, take_more}
use Rattle.record_archive.specs.declared.line.Line.{Line}
use Rattle.record_choice.specs.Disposals.{is_one_of}
use Rattle.cli_changes.specs.DueLines.{due_line, due_lines}

pub due_more : (volume : Option ℕ) (altered : List ℕ) (lines : List Line) (i : ℕ) (line : Line) → i < length lines
    → line ≡ get_or lines i line
    → due_lines volume altered (take i lines) ++ due_line volume line (is_one_of altered line.number)
    ≡ due_lines volume altered (take (i + 1) lines)
due_more volume altered lines i line low is =
    let own = λ (l : Line). due_line volume l (is_one_of altered l.number) in
    sym (ap (due_lines volume altered) (take_more lines i line low ∙ ap (λ l. take i lines ++ l ∷ []) (sym is))
    ∙ flat_map-append own (take i lines) (line ∷ [])
    ∙ ap (λ text. due_lines volume altered (take i lines) ++ text) (append-nil (own line)))
