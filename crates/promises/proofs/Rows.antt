-- Rows of sessions.
use Rattle.std.proofs.Common.{◌≡◌, [], ◌∷◌, ℕ, List, None, refl, arith, inl, inr}
use Rattle.record_archive.specs.Archive.{Line}
use Rattle.desk_commands.specs.Answers.{begun, running, ended, captured, refused}
use Rattle.desk_commands.specs.Office.{PlainCommand}
use Rattle.desk_commands.specs.Standing.{plain, begin, turn, finish}
use Rattle.promises.specs.Alike.{AreAlike}
use Rattle.promises.specs.Beginnings.{tickets_given, AreNumbersUpTo}
use Rattle.promises.specs.Serial.{kept_commands, kept_answers}
use Rattle.promises.specs.Turns.{AllGrant, TellsTurns}

-- Two captures whose turns are mixed. The turns are struck, and so are a plain command that found no memory, a finish
-- before the end, and one that the database refused.
module _ (officer message : List ℕ) (c : PlainCommand) (lines : List Line) where
  mixed_kept :
      kept_commands
      (begin officer 0 message ∷ begin officer 9 message ∷ turn 1 5 ∷ plain c ∷ finish 1 ∷ turn 2 8 ∷ finish 2
      ∷ turn 1 4 ∷ finish 1 ∷ finish 1 ∷ plain c ∷ [])
      (begun 1 9 ∷ begun 2 8 ∷ running 5 ∷ refused 99 None ∷ refused 92 None ∷ ended 8 ∷ captured None lines ∷ ended 9
      ∷ refused 89 None ∷ captured None lines ∷ refused 54 None ∷ [])
      ≡ begin officer 0 message ∷ begin officer 9 message ∷ finish 2 ∷ finish 1 ∷ plain c ∷ []
  mixed_kept = refl

  mixed_answers :
      kept_answers
      (begin officer 0 message ∷ begin officer 9 message ∷ turn 1 5 ∷ plain c ∷ finish 1 ∷ turn 2 8 ∷ finish 2
      ∷ turn 1 4 ∷ finish 1 ∷ finish 1 ∷ plain c ∷ [])
      (begun 1 9 ∷ begun 2 8 ∷ running 5 ∷ refused 99 None ∷ refused 92 None ∷ ended 8 ∷ captured None lines ∷ ended 9
      ∷ refused 89 None ∷ captured None lines ∷ refused 54 None ∷ [])
      ≡ begun 1 9 ∷ begun 2 8 ∷ captured None lines ∷ captured None lines ∷ refused 54 None ∷ []
  mixed_answers = refl

no_trees_alike : AreAlike (refused 20 None) (refused 21 None)
no_trees_alike = inr (inl refl, inr refl)

-- a TURN before the BEGIN, one of another ticket, and one that was answered 99 after two of its three turns
eleven_turns :
    AllGrant 1
    (turn 1 6 ∷ turn 1 5 ∷ turn 2 7 ∷ turn 1 3 ∷ turn 1 4 ∷ [])
    (refused 91 None ∷ running 5 ∷ running 7 ∷ refused 99 None ∷ ended 9 ∷ [])
    11
eleven_turns = (0, 11, refl, (5, 6, refl, (0, 6, refl, (2, 4, omega arith, (4, 0, refl, refl, refl), refl), refl), refl), refl)

running_before_the_end : TellsTurns 8 9 (running 8)
running_before_the_end = (omega arith, refl)

ended_at_the_end : TellsTurns 9 9 (ended 9)
ended_at_the_end = (omega arith, refl)

ended_after_more_turns : TellsTurns 12 9 (ended 9)
ended_after_more_turns = (omega arith, refl)

two_tickets : AreNumbersUpTo 0 (tickets_given (begun 1 9 ∷ refused 92 None ∷ begun 2 1 ∷ [])) 2
two_tickets = (refl, (refl, refl))
