-- What procedures are for, and what reaching means.
use Rattle.std.specs.Prelude.{◌≡◌, ◌↔◌, ◌≤◌, List, length, map, IsTrue, Some}
use Rattle.sieve_meaning.specs.Case.{Facts}
use Rattle.sieve_meaning.specs.Program.{Commands}
use Rattle.sieve_meaning.specs.Meaning.{Library, ScriptName, script_named, is_among, Filing, run, inclusion_within}
use Rattle.sieve_meaning.specs.Weight.{weight}
use Rattle.sieve_meaning.specs.Procedures.{includes_of, reaches, Procedure, is_shared, included_path}

-- Where includes share a procedure, their scripts run alike in every case, each after the active scripts of its own
-- include, and weigh the same on every path.
abbrev pub SharingLaw : Type 0
SharingLaw =
    (lib : Library) (p q : Procedure) → p.script ≡ q.script → p.left ≤ 7 → IsTrue (is_shared lib p q)
    → ((c : Facts) (f : Filing) → run c (inclusion_within c lib p.left p.chain) p.script f ≡
    run c (inclusion_within c lib q.left q.chain) q.script f) ×
    (weight (included_path lib p.left p.chain) p.script ≡ weight (included_path lib q.left q.chain) q.script)

-- The script includes the one of the name, anywhere, and it is there.
pub record Includes (lib : Library) (script : Commands) (s : ScriptName) (x : Commands) : Type 0 where
  pub named : IsTrue (is_among (map script_named (includes_of script)) s)
  pub there : lib.find s ≡ Some x

-- A script reaches those that it includes, and those that these reach.
pub data Reaches (lib : Library) : Commands → ScriptName → Type 0 where
  at_once : (script : Commands) (s : ScriptName) (x : Commands) → Includes lib script s x → Reaches lib script s
  over : (script : Commands) (s : ScriptName) (x : Commands) (t : ScriptName) → Includes lib script s x →
      Reaches lib x t → Reaches lib script t

-- The test says what the relation says, where at most sixty-four scripts are there.
abbrev pub ReachLaw : Type 0
ReachLaw =
    (lib : Library) (names : List ScriptName) → length names ≤ 64 → ((s : ScriptName) (x : Commands) →
    lib.find s ≡ Some x → IsTrue (is_among names s)) → (script : Commands) (s : ScriptName) →
    IsTrue (reaches lib script s) ↔ Reaches lib script s
