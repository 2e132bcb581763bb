-- Finding the row of a name. Names of commands, tests and tags ignore ASCII case (RFC 5228, section 2.1);
-- capabilities are exact octets (RFC 5228, section 3.2).
use Rattle.std.specs.Prelude.{ℕ, Bool, false, ◌==◌, List, [], ◌∷◌, Option, Some, None, if◌then◌else◌}
use Rattle.std.specs.Str.{bytes_eq, str_eq_ignore_ascii_case}
use Rattle.sieve_check.specs.Tables.{CapabilityWord, TagWord, CommandWord, TestWord, capability_table, command_table, test_table}
use Rattle.sieve_check.specs.declared.table.Capability.{Capability}
use Rattle.sieve_check.specs.declared.table.Capability.TheVariants.{Fileinto, Copy, Include, OctetComparator, CasemapComparator}

unfoldable pub same_name : List ℕ → List ℕ → Bool
same_name a b = str_eq_ignore_ascii_case a b

unfoldable pub same_text : List ℕ → List ℕ → Bool
same_text a b = bytes_eq a b

-- the first row whose test holds
abbrev pub row_where : {R : Type 0} → (R → Bool) → List R → Option R
row_where test [] = None
row_where test (r ∷ rs) = if test r then Some r else row_where test rs

abbrev pub tag_named : List ℕ → List TagWord → Option TagWord
tag_named name = row_where (λ r. same_name name r.name)

abbrev pub command_named : List ℕ → Option CommandWord
command_named name = row_where (λ r. same_name name r.name) command_table

abbrev pub test_named : List ℕ → Option TestWord
test_named name = row_where (λ r. same_name name r.name) test_table

abbrev pub capability_named : List ℕ → Option CapabilityWord
capability_named text = row_where (λ r. same_text text r.text) capability_table

abbrev pub capability_place : Capability → ℕ
capability_place Fileinto = 0
capability_place Copy = 1
capability_place Include = 2
capability_place OctetComparator = 3
capability_place CasemapComparator = 4

abbrev pub is_capability : Option CapabilityWord → Capability → Bool
is_capability None c = false
is_capability (Some w) c = capability_place w.capability == capability_place c

-- whether these octets name the capability
abbrev pub names : List ℕ → Capability → Bool
names text c = is_capability (capability_named text) c
