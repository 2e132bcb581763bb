use Rattle.std.proofs.Common.{◌≡◌, ◌∷◌, map, take}
use Rattle.sieve_meaning.specs.Scripts.{script_of}
use Rattle.filing_procedures.proofs.procedure.Procedure.entered.Given as goal

abbrev pub invariant-loop-name : goal.invariant-loop-name
invariant-loop-name l = map script_of l.chain.items ≡ script_of l.fn.name ∷ map script_of (take l.name-index l.name-items)
