use Rattle.std.proofs.Common.{◌≡◌, ◌<◌, ◌≤◌, ℕ, Bool, true, false, List, [], length, MatchBool, arith, rules, tests}
use Rattle.std.specs.Prelude.{◌↔◌, IsTrue}
use Rattle.std.specs.List.{AllByRecursion, AllWithin, HoldsAt}
use Rattle.std.proofs.lemmas.Bool.{false≢true}
use Rattle.std.proofs.lemmas.Iterator.{cases_from_all, YieldsList-from_slice}
use Rattle.std.proofs.lemmas.Iterator.Search.{true_from_All}
use Rattle.std.proofs.lemmas.List.Elements.{All-from_recursion, recursion_from_All}
use Rattle.sqlite.specs.Table.{Table}
use Rattle.cli_files.proofs.opening.is_apart.Goals as goal

abbrev IsLone : Table → Type 0
IsLone t = t.references ≡ []

abbrev Refers : Table → Type 0
Refers t = t.references ≡ [] → ⊥

all_lone : (r : Bool) (xs : List Table) → MatchBool r (AllWithin IsLone xs 0 (length xs)) ((k : ℕ) × (k < length xs) × HoldsAt Refers xs k)
    → IsTrue r → AllByRecursion IsLone xs
all_lone true xs answer is = recursion_from_All IsLone xs (λ k d small. answer k d (omega arith) small)
all_lone false xs answer is = absurd (false≢true is)

apart_where : (r : Bool) (xs : List Table) → MatchBool r (AllWithin IsLone xs 0 (length xs)) ((k : ℕ) × (k < length xs) × HoldsAt Refers xs k)
    → IsTrue r ↔ AllByRecursion IsLone xs
apart_where r xs answer =
    (all_lone r xs answer, λ apart. true_from_All IsLone Refers r xs (λ t is not. not is) answer (All-from_recursion IsLone xs apart))

pub returns : goal.returns
returns c =
    let xs = c.args.schema.now.tables in
    apart_where _ xs (cases_from_all _ _ c.all.result IsLone Refers c.all.ensures.ran (YieldsList-from_slice xs (cc))
    (λ x q k. search (rules, tests)) (λ x q k. search (rules, tests)))
