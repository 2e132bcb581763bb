use Rattle.sieve_match.proofs.FoldLemmas.{is_test, is_octet, is_casemap}
use Rattle.sieve_match.proofs.octets.is.Goals as goal

pub returns-in-Octet-clause-answer : goal.returns-in-Octet-clause-answer
returns-in-Octet-clause-answer c = is_octet c.args.comparator c.args.key.now c.args.value.now c.eq.result c.in-Octet.is c.eq.ensures

pub returns-in-Octet-clause-test : goal.returns-in-Octet-clause-test
returns-in-Octet-clause-test c = is_test c.args.comparator c.args.key.now c.args.value.now c.eq.result (returns-in-Octet-clause-answer c)

pub returns-in-Casemap-clause-answer : goal.returns-in-Casemap-clause-answer
returns-in-Casemap-clause-answer c =
    is_casemap c.args.comparator c.args.key.now c.args.value.now c.eq_ignore_ascii_case.result c.in-Casemap.is
    c.eq_ignore_ascii_case.ensures.test

pub returns-in-Casemap-clause-test : goal.returns-in-Casemap-clause-test
returns-in-Casemap-clause-test c =
    is_test c.args.comparator c.args.key.now c.args.value.now c.eq_ignore_ascii_case.result
    (returns-in-Casemap-clause-answer c)
