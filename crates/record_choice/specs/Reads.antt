-- Calls that only read a repository.
use Rattle.record_archive.specs.Archive.{Archive}

-- It keeps the archive that it kept; and where what is read after the call is what was written, that was so before it.
pub record OnlyReads {R : Type 0} (Clean : R → Type 0) (Stands : R → Archive → Type 0) (old new : R) : Type 0 where
  pub stands : (a : Archive) → Stands old a → Stands new a
  pub falls : Clean new → Clean old
