use Rattle.std.proofs.Common.{sym, ◌∙◌, length}
use Rattle.std.proofs.lemmas.Bool.{le-ltb}
use Rattle.sieve_text.proofs.StringLemmas.{few_quoted, few_lines}
use Rattle.sieve_text.proofs.scanner.strings.is_too_long.Goals as goal

pub returns-else-body-gt-FEW_OCTETS : goal.returns-else-body-gt-FEW_OCTETS
returns-else-body-gt-FEW_OCTETS c =
    rw c.in-Quoted.is (le-ltb 32767 (length c.in-Quoted.body.now) c.if-body-gt-FEW_OCTETS.false
    ∙ sym (few_quoted c.in-Quoted.body.now c.if-body-gt-FEW_OCTETS.false))

pub returns-else-lines-gt-FEW_OCTETS : goal.returns-else-lines-gt-FEW_OCTETS
returns-else-lines-gt-FEW_OCTETS c =
    rw c.in-Lines.is (le-ltb 32767 (length c.in-Lines.lines.now) c.if-lines-gt-FEW_OCTETS.false
    ∙ sym (few_lines c.in-Lines.lines.now c.if-lines-gt-FEW_OCTETS.false))
