use Rattle.std.proofs.Common.{string_bytes}
use Rattle.std.proofs.lemmas.Result.{IfOk-weaker}
use Rattle.cli_texts.proofs.AsciiLemmas.{ascii_printable}
use Rattle.cli_texts.proofs.json.json_text.Goals as goal

pub returns-clause-ascii : goal.returns-clause-ascii
returns-clause-ascii c = IfOk-weaker c.in_ascii.result _ _ (λ t is. ascii_printable _ (string_bytes t) is) c.in_ascii.ensures
