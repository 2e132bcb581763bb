-- The commands among the lines of a session.
use Rattle.std.proofs.Common.{[], ◌∷◌, List, refl, subst}
use Rattle.record_archive.specs.Calls.{Keeper}
use Rattle.desk_commands.specs.Answers.{Answer}
use Rattle.desk_commands.specs.Standing.{Standing, Step}
use Rattle.session_protocol.specs.Session.{Item, Call, UnknownCommand, WrongWord}
use Rattle.session_protocol.specs.Session as session
use Rattle.session_protocol.specs.Laws.{RunsLead}
use Rattle.promises.specs.Lines.{LineSession, IsSession, answers_in, commands_in}
use Rattle.promises.specs.Runs.{Steps}

-- lines that are no commands change nothing
pub commands_run : (s new : Standing) (items : List Item) (answers : List Answer) → session.Run Step s items answers new
    → Steps s (commands_in items) (answers_in items answers) new
commands_run s new [] [] h = h
commands_run s new (Call c ∷ items) (a ∷ answers) h = (h.0, h.1, commands_run h.0 new items answers h.2)
commands_run s new (UnknownCommand ∷ items) (a ∷ answers) h =
    let P : Standing → Type 0 = λ x. Steps x (commands_in items) (answers_in items answers) new in
    subst P h.1.1 (commands_run h.0 new items answers h.2)
commands_run s new (WrongWord ∷ items) (a ∷ answers) h =
    let P : Standing → Type 0 = λ x. Steps x (commands_in items) (answers_in items answers) new in
    subst P h.1.1 (commands_run h.0 new items answers h.2)
commands_run s new [] (a ∷ answers) h = absurd h
commands_run s new (i ∷ items) [] h = absurd h

module _ {D : Type 0} (keeper : Keeper D Standing) (leads : RunsLead keeper) where
  pub is_session : (x : LineSession keeper) → IsSession keeper x.state x.items x.answers x.new
  is_session x =
      let led = leads x.items x.answers x.old x.new x.run x.state x.at_begin in
      record {
        of_commands = record {
          commands = commands_in x.items;
          answers = answers_in x.items x.answers;
          new = led.to;
          run = commands_run x.state led.to x.items x.answers led.is_one;
        };
        commands = refl;
        answered = refl;
        at_end = led.there;
      }
