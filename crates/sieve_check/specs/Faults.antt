-- The numbers of the refusals.
use Rattle.std.specs.Prelude.{ℕ}
use Rattle.sieve_check.specs.declared.fault.CheckFault.{CheckFault}
use Rattle.sieve_check.specs.declared.fault.CheckFault.TheVariants as faults

abbrev pub number_of : CheckFault → ℕ
number_of faults.UnknownCapability = 30
number_of faults.RequireTooLate = 31
number_of faults.UnknownCommand = 32
number_of faults.UnknownTest = 33
number_of faults.CapabilityNotRequired = 34
number_of faults.TagNotAllowed = 35
number_of faults.TagTwice = 36
number_of faults.WrongArguments = 37
number_of faults.UnknownComparator = 38
number_of faults.ElseWithoutIf = 39
number_of faults.Block = 40
number_of faults.Tests = 41
