-- Which messages are captured already: in stores, and since what these have was read.
use Rattle.std.specs.Prelude.{◌≡◌, ℕ, Bool, true, not, ◌==◌, List, [], ◌∷◌, ◌++◌, filter, Option, Some, None, is_some, option_map}
use Rattle.std.specs.BTreeMap.{get}
use Rattle.std.specs.Option.{option_or}
use Rattle.record_known.specs.Known.{Key, key_cmp, record_of}
use Rattle.mail_import.specs.declared.known.AllKnown.{AllKnown}
use Rattle.mail_import.specs.declared.known.FirstRecord.{FirstRecord}
use Rattle.mail_import.specs.declared.known.StoreKnown.{StoreKnown}

-- the first record of a message with this seal in a store, if it has one, with the volume that the store is
abbrev pub record_in : StoreKnown → Key → Option FirstRecord
record_in s k = option_map (λ n. record { volume = s.volume; number = n }) (record_of s.known k)

-- THE SAME IN STORES, of which the last that has one counts; or what was found before these
abbrev pub record_among : (before : Option FirstRecord) → List StoreKnown → Key → Option FirstRecord
record_among before [] k = before
record_among before (s ∷ stores) k = record_among (option_or (record_in s k) before) stores k

-- THE FIRST RECORD of a message with this seal: that of its last capture since then, or else the one that the stores have
abbrev pub first_record : AllKnown → Key → Option FirstRecord
first_record all k = option_or (get key_cmp all.captured k) (record_among None all.stores.items k)

-- a store is another one than that of this volume, which is none where the store is no volume
abbrev pub is_another : (volume own : Option ℕ) → Bool
is_another None own = is_some own
is_another (Some v) None = true
is_another (Some v) (Some own) = not (own == v)

-- what is known of a store is of another volume than this one
abbrev pub is_of_another : (volume : Option ℕ) → StoreKnown → Bool
is_of_another volume s = is_another volume s.volume

-- NO MESSAGE IS KNOWN to be captured
pub record KnowsNone (known : AllKnown) : Type 0 where
  pub stores : known.stores.items ≡ []
  pub captured : (k : Key) → get key_cmp known.captured k ≡ None

-- WHAT A STORE HAS IS KNOWN TOO, in the place of what was known of that store before
pub record Puts (store : StoreKnown) (before after : AllKnown) : Type 0 where
  pub stores : after.stores.items ≡ filter (is_of_another store.volume) before.stores.items ++ store ∷ []
  pub captured : after.captured ≡ before.captured
