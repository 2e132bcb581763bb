-- The faults of runs by their numbers.
use Rattle.std.proofs.Common.{◌≡◌, ◌≤◌, ℕ, zero, suc, Some, refl, arith}
use Rattle.sieve_meaning.specs.declared.run_fault.RunFault.{RunFault}
use Rattle.sieve_meaning.specs.declared.run_fault.RunFault.TheVariants.{ClassNotOpen, ScriptMissing, RecursiveInclude, NestingTooDeep, TooHeavy}
use Rattle.sieve_meaning.specs.RunFaults.{number_of, fault_of}

-- each fault is the one with its number
pub fault_of_number : (fault : RunFault) → fault_of (number_of fault) ≡ Some fault
fault_of_number ClassNotOpen = refl
fault_of_number ScriptMissing = refl
fault_of_number RecursiveInclude = refl
fault_of_number NestingTooDeep = refl
fault_of_number TooHeavy = refl

pub number_at_most_five : (fault : RunFault) → number_of fault ≤ 5
number_at_most_five ClassNotOpen = omega arith
number_at_most_five ScriptMissing = omega arith
number_at_most_five RecursiveInclude = omega arith
number_at_most_five NestingTooDeep = omega arith
number_at_most_five TooHeavy = omega arith

-- each number from 2 to 5 is that of a fault
pub fault_between : (n : ℕ) → 2 ≤ n → n ≤ 5 → (fault : RunFault) × (fault_of n ≡ Some fault)
fault_between zero least most = absurd (omega (arith, least))
fault_between (suc zero) least most = absurd (omega (arith, least))
fault_between (suc (suc zero)) least most = (ScriptMissing, refl)
fault_between (suc (suc (suc zero))) least most = (RecursiveInclude, refl)
fault_between (suc (suc (suc (suc zero)))) least most = (NestingTooDeep, refl)
fault_between (suc (suc (suc (suc (suc zero))))) least most = (TooHeavy, refl)
fault_between (suc (suc (suc (suc (suc (suc n)))))) least most = absurd (omega (arith, most))
