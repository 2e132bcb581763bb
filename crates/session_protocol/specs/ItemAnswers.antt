-- What one line and its payloads lead to.
use Rattle.std.specs.Prelude.{◌≡◌, ℕ, List, Result, Ok, Err}
use Rattle.desk_commands.specs.Answers.{Answer}
use Rattle.desk_commands.specs.Standing.{Command}
use Rattle.session_protocol.specs.Replies.{answer_of}
use Rattle.session_protocol.specs.Session.{Item, InputStart, Got, Stop, ItemStep, EndsByInput}
use Rattle.session_protocol.specs.declared.items.Reaction.{Reaction}
use Rattle.session_protocol.specs.declared.stream.ReadFault.{ReadFault}
use Rattle.session_protocol.specs.declared.items.Reaction.TheVariants as reaction

-- An item is executed with this answer, and an ending changes nothing. Where the source knows its octets, they begin
-- with this item or ending, and it leaves the rest of them.
abbrev pub Answers : {D : Type 0} (tells : Type 0) → (D → Command → Answer → D → Type 0) → D → InputStart → Reaction → D →
    (left : List ℕ) → Type 0
Answers tells Does s start (reaction.Reply r) new left =
    (item : Item) × ItemStep Does s item (answer_of r) new × (tells → start ≡ Got item left)
Answers tells Does s start (reaction.End e) new left = (new ≡ s) × (tells → start ≡ Stop e left)

-- and after a fault of the source nothing has changed
abbrev pub Reacts : {D : Type 0} (tells : Type 0) → (D → Command → Answer → D → Type 0) → D → InputStart →
    Result Reaction ReadFault → D → (left : List ℕ) → Type 0
Reacts tells Does s start (Ok a) new left = Answers tells Does s start a new left
Reacts tells Does s start (Err f) new left = new ≡ s

-- the result says that the input has ended
abbrev pub SaysEnd : Result Reaction ReadFault → Type 0
SaysEnd (Ok (reaction.Reply r)) = ⊥
SaysEnd (Ok (reaction.End e)) = EndsByInput e
SaysEnd (Err f) = ⊥
