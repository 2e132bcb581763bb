-- The numbers by which faults are reported.
use Rattle.std.specs.Prelude.{ℕ}
use Rattle.filing_image.specs.declared.fault.FormFault.{FormFault}
use Rattle.filing_image.specs.declared.fault.FormFault.TheVariants.{NoMemory, BadForm}

abbrev pub form_number : FormFault → ℕ
form_number BadForm = 60
form_number NoMemory = 99
