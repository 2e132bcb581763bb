use Rattle.sieve_match.proofs.OccurrenceLemmas.{found_octet}
use Rattle.sieve_match.proofs.TwoWayLemmas.{found_casemap}
use Rattle.sieve_match.proofs.substring.find.Goals as goal

pub returns-in-Octet : goal.returns-in-Octet
returns-in-Octet c =
    found_octet c.args.comparator c.args.key.now c.args.value.now c.find.result c.in-Octet.is c.find.ensures

pub returns-in-Casemap : goal.returns-in-Casemap
returns-in-Casemap c =
    found_casemap c.args.comparator c.args.key.now c.args.value.now c.find_folded.result c.in-Casemap.is
    c.find_folded.ensures
