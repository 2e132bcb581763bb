use Rattle.std.proofs.Common.{◌≡◌, ◌++◌, ◌∙◌, OnOk, List, ℕ, ap, flat_map}
use Rattle.std.proofs.lemmas.Result.{on_ok_weaker}
use Rattle.cli_changes.specs.ReasonLines.{hold_words}
use Rattle.cli_changes.proofs.ReasonLaws.{behind, said_of}
use Rattle.cli_changes.proofs.destroying.put_reason.Goals as goal

pub returns-in-NoRecord : goal.returns-in-NoRecord
returns-in-NoRecord c =
    let words = c.words-in-NoRecord in
    said_of (λ (said : List ℕ). OnOk words.result (words.new.self ≡ c.args.text.now ++ said)) _ _ c.in-NoRecord.is words.ensures

pub returns-in-Destroyed : goal.returns-in-Destroyed
returns-in-Destroyed c =
    let words = c.words-in-Destroyed in
    said_of (λ (said : List ℕ). OnOk words.result (words.new.self ≡ c.args.text.now ++ said)) _ _ c.in-Destroyed.is words.ensures

pub returns-in_ok-words-in-Held : goal.returns-in_ok-words-in-Held
returns-in_ok-words-in-Held c =
    let names = c.put_names in
    let text = c.args.text.now in
    said_of (λ (said : List ℕ). OnOk names.result (names.new.text ≡ text ++ said)) _ _ c.in-Held.is
    (on_ok_weaker names.result (λ told. behind text _ _ c.words.new.self names.new.text c.in_ok-words-in-Held.ensures
    (told ∙ ap (λ ns. c.words.new.self ++ flat_map hold_words ns) c.as_slice.ensures.value)) names.ensures)
