-- The messages that are captured for an officer, by their seals.
use Rattle.std.specs.Prelude.{ℕ, ◌==◌, ◌&&◌, Bool, false, List, Vec, if◌then◌else◌, Option, Some, None}
use Rattle.std.specs.declared.alloc.Global.{Global}
use Rattle.std.specs.declared.cmp.Ordering.{Ordering}
use Rattle.std.specs.Ordering.{nat_cmp, ordering_then}
use Rattle.std.specs.Cmp.Lexicographic.{slice_cmp}
use Rattle.std.specs.BTreeMap.{get}
use Rattle.std.specs.Str.{bytes_eq}
use Rattle.record_history.specs.Events.{Deed, Filing, Seal, Captured}
use Rattle.record_known.specs.declared.known.Known.{Known}

-- the SHA-256 of a message and its length
abbrev pub Key : Type 0
Key = Vec ℕ Global × ℕ

abbrev pub key_cmp : Key → Key → Ordering
key_cmp k q = ordering_then (slice_cmp nat_cmp k.0.items q.0.items) (nat_cmp k.1 q.1)

-- the same sum and length
abbrev pub is_key : Key → Key → Bool
is_key k q = bytes_eq k.0.items q.0.items && (k.1 == q.1)

-- THE FIRST RECORD of a message with this seal, if one is known
abbrev pub record_of : Known → Key → Option ℕ
record_of known k = get key_cmp known.records k

-- the key of a message with this seal
abbrev pub has_seal : Key → Seal → Bool
has_seal k seal = bytes_eq seal.sum k.0.items && (seal.octets == k.1)

-- the officer's rules filed it
abbrev pub is_filed_for : (officer : List ℕ) → Option Filing → Bool
is_filed_for officer None = false
is_filed_for officer (Some filing) = bytes_eq filing.officer officer

-- the first record of a message with this seal, where a deed captured it for the officer
abbrev pub captured_for : (officer : List ℕ) → Deed → Key → Option ℕ
captured_for officer (Captured first seal day filing paths) k =
    if is_filed_for officer filing && has_seal k seal then Some first else None
captured_for officer deed k = None

-- what a later deed tells, or else what was known before
abbrev pub later : {X : Type 0} → Option X → Option X → Option X
later (Some x) before = Some x
later None before = before
