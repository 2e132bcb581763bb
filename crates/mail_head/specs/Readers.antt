-- What holds of each reader of pieces, whatever it was fed.
use Rattle.std.specs.Prelude.{◌≡◌, ℕ, ◌<◌, ◌≤◌, List, [], length, count_by, ◌==◌}
use Rattle.mail_head.specs.declared.buffer.TheConstants.{MAX_OCTETS}

-- a reader keeps no more octets than it was fed, and these are no more than a message may have
pub record IsBounded (kept : List ℕ) (size : ℕ) : Type 0 where
  pub kept_within : length kept ≤ size
  pub size_within : size ≤ MAX_OCTETS

-- the kept octets have no more line ends than were counted, and there is room for all fields that they can have
pub record IsReady (kept : List ℕ) (size line_ends : ℕ) (starts : List ℕ) (room : ℕ) : Type 0 where
  pub counted : count_by (λ b. b == 10) kept ≤ line_ends
  pub few : line_ends ≤ size
  pub empty : starts ≡ []
  pub roomy : 0 < length kept → line_ends < room
