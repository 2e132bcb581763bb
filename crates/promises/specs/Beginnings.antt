-- Where a capture in flight began, and what keeps one from beginning.
use Rattle.std.specs.Prelude.{◌≡◌, ℕ, ◌+◌, ◌<◌, ◌≤◌, List, [], ◌∷◌, ◌++◌, length}
use Rattle.desk_commands.specs.Answers.{Answer, done, dry_run, begun, running, ended, captured, listed, refused}
use Rattle.desk_commands.specs.Limits.{greatest_message, last_moment, last_ticket, most_in_flight}
use Rattle.desk_commands.specs.Standing.{Command, begin, Flight, Standing, Step, begin_state}
use Rattle.promises.specs.Runs.{Steps}

-- One of the commands, with these answers, was a BEGIN that gave the ticket and answered the budget of what is pinned.
-- What stood then, in the state that the commands before it left, still holds for the capture.
pub record HasBegun (old : Standing) (commands : List Command) (answers : List Answer) (f : Flight) : Type 0 where
  pub officer : List ℕ
  pub moment : ℕ
  pub message : List ℕ
  pub earlier : List Command
  pub earlier_answers : List Answer
  pub later : List Command
  pub later_answers : List Answer
  pub begins : commands ≡ earlier ++ begin officer moment message ∷ later
  pub told : answers ≡ earlier_answers ++ begun f.ticket f.pinned.budget ∷ later_answers
  pub state : Standing
  pub run : Steps old earlier earlier_answers state
  pub at_begin : f.at_begin ≡ begin_state state.office officer moment message

-- a BEGIN in a state, its answer, and the state that it leaves
pub record BeginFrom (s : Standing) : Type 0 where
  pub officer : List ℕ
  pub moment : ℕ
  pub message : List ℕ
  pub answer : Answer
  pub new : Standing
  pub step : Step s (begin officer moment message) answer new

-- as many captures are in flight as may be
abbrev pub HasNoPlace : Standing → Type 0
HasNoPlace s = length s.flights ≡ most_in_flight

-- fewer captures are in flight than may be
abbrev pub HasPlace : Standing → Type 0
HasPlace s = length s.flights < most_in_flight

-- the last of all tickets was given
abbrev pub HasNoTicket : Standing → Type 0
HasNoTicket s = s.last ≡ last_ticket

-- a BEGIN is refused neither for its moment (94) nor for its message (95)
abbrev pub MayBegin : (moment : ℕ) → (message : List ℕ) → Type 0
MayBegin moment message = (moment ≤ last_moment) × (length message ≤ greatest_message)

-- the tickets that were given, in order
abbrev pub tickets_given : List Answer → List ℕ
tickets_given [] = []
tickets_given (begun t b ∷ answers) = t ∷ tickets_given answers
tickets_given (done ∷ answers) = tickets_given answers
tickets_given (dry_run o ∷ answers) = tickets_given answers
tickets_given (running k ∷ answers) = tickets_given answers
tickets_given (ended k ∷ answers) = tickets_given answers
tickets_given (captured fault lines ∷ answers) = tickets_given answers
tickets_given (listed lines ∷ answers) = tickets_given answers
tickets_given (refused n at ∷ answers) = tickets_given answers

-- the numbers after the first one up to the last one, each once and in order
abbrev pub AreNumbersUpTo : (first : ℕ) → List ℕ → (last : ℕ) → Type 0
AreNumbersUpTo first [] last = last ≡ first
AreNumbersUpTo first (n ∷ ns) last = (n ≡ first + 1) × AreNumbersUpTo n ns last
