-- Sessions of lines without what is struck of them.
use Rattle.std.proofs.Common.{◌≡◌, [], ◌∷◌, ℕ, List, None, refl, inl, ap, ◌∙◌, sym, subst, Bool, true, false}
use Rattle.record_archive.specs.Calls.{Keeper}
use Rattle.desk_commands.specs.Answers.{Answer, refused}
use Rattle.desk_commands.specs.Standing.{Standing, Step}
use Rattle.promises.specs.Alike.{AreAlike, AllAlike}
use Rattle.promises.specs.Serial.{Serial, SerialStep, SameButTurns, forget, is_struck}
use Rattle.promises.proofs.CitedLaws.{OutcomesAreOne, ProgramsAreOne, TextsAreOne}
use Rattle.promises.proofs.SerialOnce.{step_once}
use Rattle.promises.proofs.Sessions.{Follows, step_follows}
use Rattle.session_protocol.specs.Session.{Item, Call, UnknownCommand, WrongWord, ItemStep, Run, session_in}
use Rattle.session_protocol.specs.Laws.{RunsLead}
use Rattle.promises.specs.Lines.{is_struck_item, kept_items, kept_replies, LineSession, ServedSession, EqualLinesLeft}
use Rattle.promises.specs.Lines.{ReplyAlike, LeaveTheSame, AreServedAlike}

-- items with their answers, one after the other, none of them struck
abbrev SerialItems : Serial → List Item → List Answer → Serial → Type 0
SerialItems s [] [] new = new ≡ s
SerialItems s (i ∷ items) (a ∷ answers) new = (mid : Serial) × (is_struck_item i a ≡ false)
    × ItemStep SerialStep s i a mid × SerialItems mid items answers new
SerialItems s [] (a ∷ answers) new = ⊥
SerialItems s (i ∷ items) [] new = ⊥

-- what an item is to the serial session: nothing where it is struck
abbrev ItemFollows : (struck : Bool) → Serial → Item → Answer → Serial → Type 0
ItemFollows true s i a new = new ≡ s
ItemFollows false s i a new = ItemStep SerialStep s i a new

call_follows : (struck : Bool) (s new : Serial) (i : Item) (a : Answer) → (c : _) → i ≡ Call c
    → Follows struck s c a new → ItemFollows struck s i a new
call_follows true s new i a c e h = h
call_follows false s new i a c e h = rw e h

item_follows : (s : Standing) (i : Item) (a : Answer) (new : Standing) → ItemStep Step s i a new
    → ItemFollows (is_struck_item i a) (forget s) i a (forget new)
item_follows s (Call c) a new h = call_follows (is_struck c a) (forget s) (forget new) (Call c) a c refl (step_follows s c a new h)
item_follows s UnknownCommand a new h = (h.0, ap forget h.1)
item_follows s WrongWord a new h = (h.0, ap forget h.1)

refused_alike : (a b : Answer) (n : ℕ) → a ≡ refused n None → b ≡ refused n None → AreAlike a b
refused_alike a b n h k = rw (h, k) (inl refl)

joined : (struck : Bool) (s mid new : Serial) (i : Item) (a : Answer) (items : List Item) (answers : List Answer)
    → is_struck_item i a ≡ struck → ItemFollows struck s i a mid
    → SerialItems mid (kept_items items answers) (kept_replies items answers) new
    → SerialItems s (kept_items (i ∷ items) (a ∷ answers)) (kept_replies (i ∷ items) (a ∷ answers)) new
joined true s mid new i a items answers e f rest =
    let P : Serial → Type 0 = λ x. SerialItems x (kept_items items answers) (kept_replies items answers) new in
    rw e (subst P f rest)
joined false s mid new i a items answers e f rest = rw e (mid, e, f, rest)

lines : (s : Standing) (items : List Item) (answers : List Answer) (new : Standing) → Run Step s items answers new
    → SerialItems (forget s) (kept_items items answers) (kept_replies items answers) (forget new)
lines s [] [] new h = ap forget h
lines s (i ∷ items) (a ∷ answers) new h =
    joined (is_struck_item i a) (forget s) (forget h.0) (forget new) i a items answers refl (item_follows s i a h.0 h.1)
    (lines h.0 items answers new h.2)
lines s [] (a ∷ answers) new h = absurd h
lines s (i ∷ items) [] new h = absurd h

module _ (texts : TextsAreOne) (one_start : ProgramsAreOne) (one_outcome : OutcomesAreOne) where
  item_once : (s : Serial) (i : Item) (a b : Answer) (x y : Serial) → is_struck_item i a ≡ false
      → is_struck_item i b ≡ false → ItemStep SerialStep s i a x → ItemStep SerialStep s i b y → AreAlike a b × (x ≡ y)
  item_once s (Call c) a b x y d e h k = step_once texts one_start one_outcome s c a b x y d e h k
  item_once s UnknownCommand a b x y d e h k = (refused_alike a b 70 h.0 k.0, h.1 ∙ sym k.1)
  item_once s WrongWord a b x y d e h k = (refused_alike a b 71 h.0 k.0, h.1 ∙ sym k.1)

  lines_once : (s : Serial) (items : List Item) (answers others : List Answer) (x y : Serial)
      → SerialItems s items answers x → SerialItems s items others y → AllAlike answers others × (x ≡ y)
  lines_once s [] [] [] x y h k = (tt, h ∙ sym k)
  lines_once s (i ∷ items) (a ∷ answers) (b ∷ others) x y h k =
      let first = item_once s i a b h.0 k.0 h.1 k.1 h.2 k.2 in
      let P : Serial → Type 0 = λ z. SerialItems z items answers x in
      let rest = lines_once k.0 items answers others x y (subst P first.1 h.3) k.3 in
      ((first.0, rest.0), rest.1)
  lines_once s [] (a ∷ answers) others x y h k = absurd h
  lines_once s [] [] (b ∷ others) x y h k = absurd k
  lines_once s (i ∷ items) [] others x y h k = absurd h
  lines_once s (i ∷ items) (a ∷ answers) [] x y h k = absurd k

  equal_states : (s t : Standing) (items others : List Item) (answers replies : List Answer) (x y : Standing)
      → forget s ≡ forget t → Run Step s items answers x → Run Step t others replies y
      → kept_items items answers ≡ kept_items others replies
      → AllAlike (kept_replies items answers) (kept_replies others replies) × (forget x ≡ forget y)
  equal_states s t items others answers replies x y same h k e =
      let P : Serial → Type 0 = λ z. SerialItems z (kept_items items answers) (kept_replies items answers) (forget x) in
      let Q : List Item → Type 0 = λ z. SerialItems (forget t) z (kept_replies items answers) (forget x) in
      lines_once (forget t) (kept_items others replies) (kept_replies items answers) (kept_replies others replies)
      (forget x) (forget y) (subst Q e (subst P same (lines s items answers x h))) (lines t others replies y k)

module _ {D : Type 0} (keeper : Keeper D Standing) (leads : RunsLead keeper) (texts : TextsAreOne) (one_start : ProgramsAreOne)
    (one_outcome : OutcomesAreOne) where
  pub equal_lines : (x y : LineSession keeper) → SameButTurns x.state y.state → EqualLinesLeft x y
      → ReplyAlike x y × LeaveTheSame keeper x.new y.new
  equal_lines x y same e =
      let one = leads x.items x.answers x.old x.new x.run x.state x.at_begin in
      let two = leads y.items y.answers y.old y.new y.run y.state y.at_begin in
      let equal = equal_states texts one_start one_outcome x.state y.state x.items y.items x.answers y.answers one.to
      two.to same one.is_one two.is_one e in
      (equal.0, record { first = one.to; second = two.to; first_stands = one.there; second_stands = two.there; same = equal.1 })

  -- the lines of a session that was served
  served_lines : (x : ServedSession keeper) → LineSession keeper
  served_lines x = record {
    state = x.state;
    old = x.old;
    items = (session_in x.input).items;
    answers = x.served.0;
    new = x.new;
    at_begin = x.at_begin;
    run = x.served.1;
  }

  pub equal_octets : (x y : ServedSession keeper) → SameButTurns x.state y.state → AreServedAlike x y
  unfolding served_lines
  equal_octets x y same = record {
    answers = x.served.0;
    replies = y.served.0;
    first_run = x.served.1;
    second_run = y.served.1;
    first = x.served.2;
    second = y.served.2;
    equal = equal_lines (served_lines x) (served_lines y) same;
  }
