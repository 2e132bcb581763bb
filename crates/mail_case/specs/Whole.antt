-- The facts of a case.
use Rattle.std.specs.Prelude.{ℕ, List, Bool, Vec}
use Rattle.std.specs.BTreeSet.{BTreeSet}
use Rattle.std.specs.declared.alloc.Global.{Global}
use Rattle.sieve_meaning.specs.Case.{Facts}
use Rattle.mail_case.specs.Views.{is_in}
use Rattle.mail_case.specs.declared.whole.WholeCase.{WholeCase}

-- what a run learns about a message, where a function decides which paths are open
abbrev pub facts_by : {P : Type 0} → (P → List ℕ → Bool) → WholeCase P → Facts
facts_by opens c = record { size = c.size; fields = c.fields; is_open = opens c.paths }

-- the same, where the open paths are those of a set
abbrev pub facts_of : WholeCase (BTreeSet (Vec ℕ Global)) → Facts
facts_of c = facts_by is_in c
