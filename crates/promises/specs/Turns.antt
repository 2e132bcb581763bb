-- The turns that a session grants to a ticket, and what is answered about them.
use Rattle.std.specs.Prelude.{◌≡◌, ℕ, ◌+◌, ◌<◌, ◌≤◌, List, [], ◌∷◌, ◌==◌, MatchBool}
use Rattle.desk_commands.specs.Answers.{Answer, running, ended, refused}
use Rattle.desk_commands.specs.Standing.{Command, turn, Flight}

-- The turns that a TURN of this count granted, by its answer: all of them; fewer where it was answered 99; none where
-- it was refused otherwise.
abbrev pub TurnGrants : (count : ℕ) → Answer → (turns : ℕ) → Type 0
TurnGrants k (running m) n = n ≡ k
TurnGrants k (ended m) n = n ≡ k
TurnGrants k (refused m at) n = MatchBool (m == 99) (n < k) (n ≡ 0)
TurnGrants k _ n = ⊥

-- the turns that a command granted to a ticket, by its answer: none where it is no TURN of that ticket
abbrev pub Grants : (ticket : ℕ) → Command → Answer → (turns : ℕ) → Type 0
Grants t (turn u k) a n = MatchBool (u == t) (TurnGrants k a n) (n ≡ 0)
Grants t _ a n = n ≡ 0

-- the turns that commands granted to a ticket in all, by their answers
abbrev pub AllGrant : (ticket : ℕ) → List Command → List Answer → (turns : ℕ) → Type 0
AllGrant t [] [] n = n ≡ 0
AllGrant t (c ∷ commands) (a ∷ answers) n = (first : ℕ) × (rest : ℕ) × Grants t c a first ×
    AllGrant t commands answers rest × (n ≡ first + rest)
AllGrant t [] (a ∷ answers) n = ⊥
AllGrant t (c ∷ commands) [] n = ⊥

-- The answer to a TURN that leaves a capture with this number of turns in all, by the length of the capture's run: the
-- length where the turns reach it, and else the turns; or 99.
abbrev pub TellsTurns : (granted run_length : ℕ) → Answer → Type 0
TellsTurns k n (ended m) = (n ≤ k) × (m ≡ n)
TellsTurns k n (running m) = (k < n) × (m ≡ k)
TellsTurns k n (refused m at) = m ≡ 99
TellsTurns k n _ = ⊥

-- the steps granted to the capture do not reach the length of its run
abbrev pub IsRunning : Flight → Type 0
IsRunning f = f.granted < f.run_length

-- the capture has come to its end
abbrev pub HasEnded : Flight → Type 0
HasEnded f = f.run_length ≤ f.granted
