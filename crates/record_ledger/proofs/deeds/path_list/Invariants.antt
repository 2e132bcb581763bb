use Rattle.std.proofs.Common.{◌≡◌, map, take}
use Rattle.record_ledger.proofs.deeds.path_list.Given as goal

abbrev pub invariant-loop-path : goal.invariant-loop-path
invariant-loop-path l = map (λ p. p.now) l.list.items ≡ take l.path-index l.path-items
