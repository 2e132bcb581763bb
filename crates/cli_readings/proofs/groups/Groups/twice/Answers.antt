use Rattle.std.proofs.Common.{◌≡◌, ◌∙◌, ◌++◌, ◌∷◌, [], ap, ap₂, append-nil, filter, sym}
use Rattle.std.proofs.lemmas.Map.Iter.{rest_all, rest_more}
use Rattle.cli_readings.specs.Groups.{KeyedGroup, twice_in, was_twice}
use Rattle.cli_readings.proofs.Grouped.{more_twice}
use Rattle.cli_readings.proofs.groups.Groups.twice.Goals as goal

pub loop-keyed-init : goal.loop-keyed-init
loop-keyed-init c =
    ap₂ (λ ts es. ts ++ filter was_twice es) c.new-twice.ensures.items c.into_iter-keyed-iterator.ensures.into_iter_gives.0

pub loop-keyed-preserved : goal.loop-keyed-preserved
loop-keyed-preserved c =
    let left = c.loop-keyed.keyed-iterator in
    let next : left ≡ c.in-Some.keyed ∷ c.next.new.self =
    rest_more (λ (k : KeyedGroup). k) left c.next.new.self c.next.result c.in-Some.keyed c.in-Some.is c.next.ensures.steps in
    more_twice c.loop-keyed.twice.items c.push_twice.new.twice.items left c.next.new.self c.in-Some.keyed (twice_in c.args.self.groups)
    c.in_ok-push_twice.ensures next c.loop-keyed.invariant

pub returns-clause-groups : goal.returns-clause-groups
returns-clause-groups c =
    let left = c.loop-keyed.keyed-iterator in
    let none : left ≡ [] = rest_all (λ (k : KeyedGroup). k) left c.next.new.self c.next.result c.in-None.is c.next.ensures.steps in
    let kept = c.loop-keyed.twice.items in
    sym (append-nil kept) ∙ ap (λ l. kept ++ filter was_twice l) (sym none) ∙ c.loop-keyed.invariant

pub returns-clause-ordered : goal.returns-clause-ordered
returns-clause-ordered c = c.into_iter-keyed-iterator.ensures.into_iter_gives.5
