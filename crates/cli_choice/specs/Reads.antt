-- What a reading of an archive ensures.
use Rattle.record_archive.specs.Archive.{Archive}

-- THIS IS SO OF THE ARCHIVE that a repository stood for before a reading, where what is read after it is what was written
abbrev pub IsReadOf : {R : Type 0} → (Clean : R → Type 0) → (Stands : R → Archive → Type 0) → (old new : R)
    → (Is : Archive → Type 0) → Type 0
IsReadOf Clean Stands old new Is = Clean new → (a : Archive) → Stands old a → Is a
