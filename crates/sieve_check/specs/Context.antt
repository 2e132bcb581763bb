-- What the checker knows from the commands before a command.
use Rattle.std.specs.Prelude.{ℕ, Bool, true, false, List, [], ◌∷◌, Option, Some, None}
use Rattle.sieve_check.specs.Tables.{CapabilityWord}
use Rattle.sieve_check.specs.Lookup.{capability_named}
use Rattle.sieve_check.specs.declared.capability_set.CapabilitySet.{CapabilitySet}
use Rattle.sieve_check.specs.declared.table.Capability.{Capability}
use Rattle.sieve_check.specs.declared.table.Capability.TheVariants.{Fileinto, Copy, Include, OctetComparator, CasemapComparator}

abbrev pub no_capabilities : CapabilitySet
no_capabilities = record { fileinto = false; copy = false; include = false; octet_comparator = false; casemap_comparator = false }

abbrev pub has_of : CapabilitySet → Capability → Bool
has_of n Fileinto = n.fileinto
has_of n Copy = n.copy
has_of n Include = n.include
has_of n OctetComparator = n.octet_comparator
has_of n CasemapComparator = n.casemap_comparator

abbrev pub set_with : CapabilitySet → Capability → CapabilitySet
set_with n Fileinto = record n { fileinto = true }
set_with n Copy = record n { copy = true }
set_with n Include = record n { include = true }
set_with n OctetComparator = record n { octet_comparator = true }
set_with n CasemapComparator = record n { casemap_comparator = true }

-- these, and the capability if the octets name one
abbrev pub set_and : CapabilitySet → Option CapabilityWord → CapabilitySet
set_and n None = n
set_and n (Some w) = set_with n w.capability

-- these, and the capabilities that the strings name
abbrev pub set_after : CapabilitySet → List (List ℕ) → CapabilitySet
set_after n [] = n
set_after n (s ∷ ss) = set_after (set_and n (capability_named s)) ss
