use Rattle.cli_history.proofs.printing.text_of.Goals as goal

pub returns-then-is_json : goal.returns-then-is_json
returns-then-is_json c = rw c.if-is_json.true c.object_of.ensures
