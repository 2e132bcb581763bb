-- Refusals of rows that were read.
use Rattle.std.specs.Prelude.{◌≡◌, ◌≤◌, ◌<◌, ◌⊎◌, List}
use Rattle.std.specs.List.{AllByRecursion}
use Rattle.record_archive.specs.Archive.{Record}
use Rattle.record_archive.specs.Lists.{IsAscending}
use Rattle.record_tables.specs.declared.fault.Fault.{Fault}
use Rattle.record_tables.specs.declared.fault.Fault.TheVariants.{NoMemory, NoArchive}

-- no memory, or rows that are no archive's; it is no error of sqlite
abbrev pub IsOfRows : Fault → Type 0
IsOfRows f = (f ≡ NoMemory) ⊎ (f ≡ NoArchive)

-- the numbers of the records ascend, and each was captured by 2199, as in every archive
pub record AreInOrder (rs : List Record) : Type 0 where
  pub numbers : IsAscending (λ (x y : Record). x.number < y.number) rs
  pub days : AllByRecursion (λ (r : Record). r.day ≤ 84005) rs
