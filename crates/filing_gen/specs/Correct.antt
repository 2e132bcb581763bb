-- What is said of an image besides its meaning, and the refusals of the compiler.
use Rattle.std.specs.Prelude.{ℕ}
use Rattle.filing_image.specs.Program.{Program, parts}
use Rattle.filing_image.specs.Spelling.{IsShort, IsOfVersion}
use Rattle.filing_verify.specs.Well.{IsWell}
use Rattle.filing_gen.specs.Pools.{IsOnce}
use Rattle.filing_gen.specs.declared.fault.GenFault.{GenFault}
use Rattle.filing_gen.specs.declared.fault.GenFault.TheVariants.{TooLarge, NoMemory}

-- No text and no number stands in the program twice.
pub record NamesOnce (p : Program) : Type 0 where
  pub texts : IsOnce p.texts
  pub numbers : IsOnce p.numbers

-- The program may run, and its version has an image of it.
pub record FitsImage (p : Program) : Type 0 where
  pub well : IsWell p
  pub short : IsShort (parts p)
  pub of_version : IsOfVersion (parts p)

-- the numbers by which faults are reported
abbrev pub gen_number : GenFault → ℕ
gen_number TooLarge = 5
gen_number NoMemory = 99
