-- What sources and sinks report about their octets and their troubles.
use Rattle.std.specs.Prelude.{◌≡◌, ℕ, ◌+◌, ◌-◌, ◌^◌, ◌≤◌, ◌⊎◌, ◌↔◌, List, ◌++◌, take, Bool, true, false, not, ◌&&◌, ◌==◌, nat_lt, min, max, Result, Ok, Err, OnOk, OnErr}
use Rattle.session_protocol.specs.declared.tally.Tally.{Tally}
use Rattle.session_protocol.specs.declared.stream.Trouble.{Trouble}
use Rattle.session_protocol.specs.declared.stream.Trouble.TheVariants.{Interrupted, Failed}

-- the counts before the first call
abbrev pub no_troubles : Tally
no_troubles = record { failures = 0; interruptions = 0; most_interruptions = 0; all_interruptions = 0 }

-- a read into room for one octet or more that answered 0
abbrev pub tells_end : (room : ℕ) → Result ℕ Trouble → Bool
tells_end room (Ok n) = nat_lt 0 room && (n == 0)
tells_end room (Err e) = false

-- a trouble that is no interruption
abbrev pub is_failed : Trouble → Bool
is_failed Failed = true
is_failed Interrupted = false

-- a read that failed
abbrev pub fails_to_read : Result ℕ Trouble → Bool
fails_to_read (Ok n) = false
fails_to_read (Err e) = is_failed e

-- a write that failed, or that took no octet of one or more
abbrev pub fails_to_write : (size : ℕ) → Result ℕ Trouble → Bool
fails_to_write size (Ok n) = nat_lt 0 size && (n == 0)
fails_to_write size (Err e) = is_failed e

-- a call that was interrupted
abbrev pub is_interrupted : Result ℕ Trouble → Bool
is_interrupted (Ok n) = false
is_interrupted (Err e) = not (is_failed e)

-- a trouble is told as an interruption exactly where its error is one
abbrev pub TellsKind : (was_interrupted : Bool) → Result ℕ Trouble → Type 0
TellsKind was_interrupted (Ok n) = Unit {0}
TellsKind was_interrupted (Err e) = (e ≡ Interrupted) ↔ (was_interrupted ≡ true)

-- how many octets a call moved
abbrev pub transfer_length : Result ℕ Trouble → ℕ
transfer_length (Ok n) = n
transfer_length (Err e) = 0

-- what was there, and then a prefix of these octets
abbrev pub IsAfter : (old octets new : List ℕ) → Type 0
IsAfter old octets new = (n : ℕ) × (new ≡ old ++ take n octets)

-- a count rose by this number or more, or it is at its greatest value
abbrev pub RisesBy : (number before now : ℕ) → Type 0
RisesBy number before now = min (before + number) (2 ^ 64 - 1) ≤ now

-- a count rose, or it is at its greatest value
abbrev pub Rises : (before now : ℕ) → Type 0
Rises before now = RisesBy 1 before now

-- The last 64 calls or more were interrupted, and 64 interruptions or more came after the earlier counts. So none of
-- these 64 is an earlier one.
abbrev pub IsInterrupted64 : (before now : Tally) → Type 0
IsInterrupted64 before now = (64 ≤ now.interruptions) × RisesBy 64 before.all_interruptions now.all_interruptions

-- some call failed, or 64 in a row were interrupted, all after the earlier counts
abbrev pub StreamFails : (before now : Tally) → Type 0
StreamFails before now = Rises before.failures now.failures ⊎ IsInterrupted64 before now

-- the most interruptions there ever were in a row, where there come no more than this number of others
abbrev pub most_with : Tally → (more : ℕ) → ℕ
most_with before more = max before.most_interruptions (before.interruptions + more)

-- What a result says about the troubles between two counts. After a fault some call failed or 64 in a row were
-- interrupted, and never more were. Without a fault no call failed, and fewer than 64 in a row were interrupted. No
-- interruption is forgotten.
abbrev pub TellsTroubles : {V T F : Type 0} → (troubles : V → Tally) → Result T F → (old new : V) → Type 0
TellsTroubles troubles result old new = record {
  fault : OnErr result (StreamFails (troubles old) (troubles new));
  within : (troubles new).most_interruptions ≤ most_with (troubles old) 64;
  outlasts : OnOk result ((troubles new).failures ≡ (troubles old).failures);
  over : OnOk result ((troubles new).interruptions ≤ (troubles old).interruptions);
  patient : OnOk result ((troubles new).most_interruptions ≤ most_with (troubles old) 63);
  all : (troubles old).all_interruptions ≤ (troubles new).all_interruptions;
}

-- no call is made again after 64 interruptions in a row, and where there is no fault there were fewer
abbrev pub TriesOn : {T F : Type 0} → Result T F → (before now : Tally) → Type 0
TriesOn result before now = record {
  within : now.most_interruptions ≤ most_with before 64;
  patient : OnOk result (now.most_interruptions ≤ most_with before 63);
}

-- where the result says that the input has ended, a read met its end, by the counts of such reads before and now; no
-- such read is forgotten
abbrev pub TellsEnd : (ended : Type 0) → (before now : ℕ) → Type 0
TellsEnd ended before now = record {
  rises : before ≤ now;
  told : ended → Rises before now;
}

-- an event is counted once, and nothing else is
abbrev pub Counts : Bool → (before now : ℕ) → Type 0
Counts true before now = (before ≤ now) × Rises before now × (now ≤ before + 1)
Counts false before now = now ≡ before

-- an interruption is one more in a row, and any other call ends the row
abbrev pub CountsInARow : (is_interruption : Bool) → (before now : ℕ) → Type 0
CountsInARow true before now = Rises before now × (now ≤ before + 1)
CountsInARow false before now = now ≡ 0

-- A CALL IS COUNTED: as one that failed, as one that was interrupted, or as neither
pub record CountsCall (failed interrupted : Bool) (before now : Tally) : Type 0 where
  pub failures : Counts failed before.failures now.failures
  pub interruptions : CountsInARow interrupted before.interruptions now.interruptions
  pub most : now.most_interruptions ≡ max before.most_interruptions now.interruptions
  pub all : Counts interrupted before.all_interruptions now.all_interruptions
