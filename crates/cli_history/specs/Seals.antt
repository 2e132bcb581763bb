-- The seals of messages, as a history tells them, and what a message is beside the one that was captured.
use Rattle.std.specs.Prelude.{◌≡◌, ℕ, ◌==◌, ◌&&◌, Bool, List, if◌then◌else◌, option_map, Option, Some, None, [], codes}
use Rattle.std.specs.Ordering.{nat_cmp}
use Rattle.std.specs.BTreeMap.{get}
use Rattle.std.specs.Str.{bytes_eq}
use Rattle.record_history.specs.Events.{Deed, Seal, Captured, FoundMessage}
use Rattle.record_history.specs.Views.{seal_view}
use Rattle.cli_history.specs.declared.seals.Told.{Told}
use Rattle.cli_history.specs.declared.seals.Seals.{Seals}
use Rattle.cli_history.specs.declared.seals.Fidelity.{Fidelity}
use Rattle.cli_history.specs.declared.seals.Fidelity.TheVariants.{Unsealed, Same, Altered}

-- a seal, and the number of the event that tells it
abbrev pub told_view : Told → Seal × ℕ
told_view t = (seal_view t.seal, t.event)

-- THE SEAL OF A MESSAGE that is known, if one is
abbrev pub known : Seals → ℕ → Option (Seal × ℕ)
known s message = option_map told_view (get nat_cmp s.told message)

-- two seals have the same length and the same sum
abbrev pub is_seal : Seal → Seal → Bool
is_seal one other = (one.octets == other.octets) && bytes_eq one.sum other.sum

-- WHAT A MESSAGE WITH A SEAL IS beside the one whose seal is known
abbrev pub fidelity : Option (Seal × ℕ) → Seal → Fidelity
fidelity None seal = Unsealed
fidelity (Some t) seal = if is_seal t.0 seal then Same else Altered t.1

-- the length and the sum of a message whose seal is known
abbrev pub length_and_sum : Seal × ℕ → ℕ × List ℕ
length_and_sum t = (t.0.octets, t.0.sum)

-- a seal where the message is the one with that number
abbrev pub seal_at : ℕ → Seal → ℕ → ℕ → Option (Seal × ℕ)
seal_at message seal event n = if n == message then Some (seal, event) else None

-- the seal that the deed of an event tells of a message, if it tells one
abbrev pub sealed_by : ℕ → Deed → ℕ → Option (Seal × ℕ)
sealed_by event (Captured first seal day filing paths) n = seal_at first seal event n
sealed_by event (FoundMessage number seal) n = seal_at number seal event n
sealed_by event deed n = None

-- what a later event tells, or else what was known before
abbrev pub later : {X : Type 0} → Option X → Option X → Option X
later (Some x) before = Some x
later None before = before

-- the seals, if they are kept, are those from before and the one that the deed of an event tells
abbrev pub KeepsSeal : (event : ℕ) → Deed → (old new : Option Seals) → Type 0
KeepsSeal event deed (Some old) (Some new) = (n : ℕ) → known new n ≡ later (sealed_by event deed n) (known old n)
KeepsSeal event deed None None = Unit {0}
KeepsSeal event deed None (Some new) = ⊥
KeepsSeal event deed (Some old) None = ⊥

-- THE NOTES of the destruction of a record, by what its message is
abbrev pub notes_for : Fidelity → List ℕ
notes_for Unsealed = []
notes_for Same = []
notes_for (Altered event) = codes "message=altered"
