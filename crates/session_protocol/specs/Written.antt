-- What was written.
use Rattle.std.specs.Prelude.{◌≡◌, ◌≤◌, ℕ, List, [], ◌++◌, length, Result, MatchResult}
use Rattle.session_protocol.specs.Streams.{IsAfter, TellsTroubles}
use Rattle.session_protocol.specs.declared.stream.Sink.{Ghosts}
use Rattle.session_protocol.specs.declared.stream.WriteFault.{WriteFault}

-- all these octets follow those that were there, or after a fault a prefix of them does
abbrev pub Writes : {F : Type 0} → Result (Unit {0}) F → (old octets new : List ℕ) → Type 0
Writes r old octets new = MatchResult r (λ _. new ≡ old ++ octets) (λ _. IsAfter old octets new)

-- THE FIRST OF SOME OCTETS ARE SENT, behind those that were written before, and the rest of them is left. None is sent where
-- all of them fit a buffer.
pub record Sends (octets left old new : List ℕ) : Type 0 where
  pub sent : List ℕ
  pub written : new ≡ old ++ sent
  pub rest : octets ≡ sent ++ left
  pub together : length octets ≤ 4096 → sent ≡ []

-- OCTETS COME BEHIND THOSE THAT A BUFFER HOLDS: the first of them all are sent, and the rest is held. After a fault some
-- prefix of them all is sent.
abbrev pub Buffers : {F : Type 0} → Result (Unit {0}) F → (old held octets new kept : List ℕ) → Type 0
Buffers r old held octets new kept =
    MatchResult r (λ _. Sends (held ++ octets) kept old new) (λ _. (rest : List ℕ) × Sends (held ++ octets) rest old new)

-- WHAT A CALL ENSURES THAT WRITES OCTETS TO A SINK: where the sink knows its octets, these are written; and the result tells
-- the troubles that the sink met.
pub record WritesTo {K F : Type 0} (g : Ghosts K) (result : Result (Unit {0}) F) (old : K) (octets : List ℕ) (new : K) : Type 0 where
  pub written : g.tells → Writes result (g.written old) octets (g.written new)
  pub troubles : TellsTroubles g.troubles result old new

-- AND WHAT ONE ENSURES THAT ADDS OCTETS TO A BUFFER, by way of which they go to the sink
pub record Adds {K : Type 0} (g : Ghosts K) (result : Result (Unit {0}) WriteFault) (old : K) (held octets : List ℕ)
    (new : K) (kept : List ℕ) : Type 0 where
  pub written : g.tells → Buffers result (g.written old) held octets (g.written new) kept
  pub troubles : TellsTroubles g.troubles result old new
