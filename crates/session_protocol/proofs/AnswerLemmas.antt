-- What lines lead to, by what an input begins with.
use Rattle.std.proofs.Common.{◌≡◌, ◌∙◌, ℕ, List, sym}
use Rattle.std.specs.Prelude.{Result, Ok, Err}
use Rattle.desk_commands.specs.Answers.{Answer}
use Rattle.desk_commands.specs.Standing.{Command}
use Rattle.session_protocol.specs.ItemAnswers.{Answers, Reacts}
use Rattle.session_protocol.specs.Session.{InputStart}
use Rattle.session_protocol.specs.declared.items.Reaction.{Reaction}
use Rattle.session_protocol.specs.declared.items.Reaction.TheVariants as reaction
use Rattle.session_protocol.specs.declared.stream.ReadFault.{ReadFault}

module _ {D : Type 0} (tells : Type 0) (Does : D → Command → Answer → D → Type 0) where
  along : (a : Reaction) (s new : D) (start start' : InputStart) (left : List ℕ) → (tells → start ≡ start')
      → Answers tells Does s start a new left → Answers tells Does s start' a new left
  along (reaction.Reply r) s new start start' left same h = (h.0, h.1, λ t. sym (same t) ∙ h.2 t)
  along (reaction.End e) s new start start' left same h = (h.0, λ t. sym (same t) ∙ h.1 t)

  -- where an input begins with the same
  pub reacts_along : (r : Result Reaction ReadFault) (s new : D) (start start' : InputStart) (left : List ℕ)
      → (tells → start ≡ start') → Reacts tells Does s start r new left → Reacts tells Does s start' r new left
  reacts_along (Ok a) s new start start' left same h = along a s new start start' left same h
  reacts_along (Err f) s new start start' left same h = h
