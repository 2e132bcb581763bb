-- The numbers of the faults with which a run can end.
use Rattle.std.specs.Prelude.{ℕ, zero, suc, Option, Some, None}
use Rattle.sieve_meaning.specs.declared.run_fault.RunFault.{RunFault}
use Rattle.sieve_meaning.specs.declared.run_fault.RunFault.TheVariants.{ClassNotOpen, ScriptMissing, RecursiveInclude, NestingTooDeep, TooHeavy}

abbrev pub number_of : RunFault → ℕ
number_of ClassNotOpen = 1
number_of ScriptMissing = 2
number_of RecursiveInclude = 3
number_of NestingTooDeep = 4
number_of TooHeavy = 5

-- the fault with a number; none where the number is not 1 to 5
abbrev pub fault_of : ℕ → Option RunFault
fault_of zero = None
fault_of (suc zero) = Some ClassNotOpen
fault_of (suc (suc zero)) = Some ScriptMissing
fault_of (suc (suc (suc zero))) = Some RecursiveInclude
fault_of (suc (suc (suc (suc zero)))) = Some NestingTooDeep
fault_of (suc (suc (suc (suc (suc zero))))) = Some TooHeavy
fault_of (suc (suc (suc (suc (suc (suc n)))))) = None
