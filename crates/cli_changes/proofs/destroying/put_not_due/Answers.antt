use Rattle.std.proofs.Common.{◌≡◌, ◌++◌, OnOk, List, ℕ}
use Rattle.cli_changes.proofs.ReasonLaws.{due_said_of}
use Rattle.cli_changes.proofs.destroying.put_not_due.Goals as goal

pub returns-in-None : goal.returns-in-None
returns-in-None c =
    let words = c.words in
    due_said_of (λ (said : List ℕ). OnOk words.result (words.new.self ≡ c.args.text.now ++ said)) _ _ c.in-None.is words.ensures

pub returns-in-Some : goal.returns-in-Some
returns-in-Some c =
    let later = c.put_day in
    due_said_of (λ (said : List ℕ). OnOk later.result (later.new.text ≡ c.args.text.now ++ said)) _ _ c.in-Some.is later.ensures
