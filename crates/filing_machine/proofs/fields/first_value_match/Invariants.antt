use Rattle.std.proofs.Common.{◌≡◌, None, take}
use Rattle.std.specs.List.{find}
use Rattle.sieve_meaning.specs.Matching.{key_matches}
use Rattle.mail_case.specs.Fields.{field_at}
use Rattle.filing_machine.proofs.fields.first_value_match.Given as goal

-- none of the fields so far matches
abbrev pub invariant-loop-index : goal.invariant-loop-index
invariant-loop-index g l =
    find (λ n. key_matches l.match_type l.comparator l.key (field_at (g.C.Case.facts l.case) n).value)
    (take l.index l.fields) ≡ None
