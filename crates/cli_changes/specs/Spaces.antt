-- The space that is left in a volume.
use Rattle.std.specs.Prelude.{ℕ, ◌+◌, ◌-◌, ◌^◌, min, nat_lt, Bool, false, Option, Some, None}
use Rattle.cli_changes.specs.declared.space.Space.{Space}

-- A STORE WHICH IS NO VOLUME has space without end
abbrev pub no_end : Space
no_end = record { left = None; captured = 0 }

-- A VOLUME of so many octets may get as many more as the size of volumes is greater
abbrev pub space_of : (octets size : ℕ) → Space
space_of octets size = record { left = Some (size - octets); captured = 0 }

-- A VOLUME AS IT IS may have as many octets as its size, and has these
abbrev pub space_as_it_is : (octets size : ℕ) → Space
space_as_it_is octets size = record { left = Some size; captured = octets }

abbrev pub is_more_than : (captured : ℕ) → (left : Option ℕ) → Bool
is_more_than captured None = false
is_more_than captured (Some left) = nat_lt left captured

-- A VOLUME IS FULL once what was captured into it has more octets than it may get
abbrev pub is_full : Space → Bool
is_full s = is_more_than s.captured s.left

-- OF A MESSAGE THAT IS CAPTURED its octets are counted, and 1,024 more for what stands beside it in the store
abbrev pub with_message : (octets : ℕ) → Space → Space
with_message octets s = record s { captured = min (s.captured + octets + 1024) (2 ^ 64 - 1) }
