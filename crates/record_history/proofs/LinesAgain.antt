-- The line of an event is read again.
use Rattle.std.proofs.Common.{◌≡◌, ℕ, ◌+◌, ◌<◌, ◌≤◌, ◌^◌, List, [], ◌∷◌, ◌++◌, codes, Option, Some, None, refl, ap, sym, ◌∙◌, arith, append_assoc}
use Rattle.std.specs.Fmt.{decimal}
use Rattle.record_history.specs.Events.{Event}
use Rattle.record_history.specs.Lines.{deed_text, line_of, moment_text, notes_text, reason_text}
use Rattle.record_history.specs.Readable.{AreNotes, IsReadable}
use Rattle.record_history.specs.Reading.{ending_at, event_at, from, reason_at, stripped, until}
use Rattle.record_history.proofs.Again.{IsAfter, from_word, number_again, stripped_again, until_word}
use Rattle.record_history.proofs.DayAgain.{moment_plain, moment_word}
use Rattle.record_history.proofs.DeedsAgain.{deed_again}
use Rattle.record_history.proofs.FieldsAgain.{name_plain}

reason_again : (rs : List ℕ) → reason_at (reason_text rs) ≡ Some rs
unfolding reason_at stripped
reason_again [] = refl
reason_again (c ∷ cs) = refl

after_notes : (rs : List ℕ) → IsAfter 32 (reason_text rs)
after_notes [] = tt
after_notes (c ∷ cs) = refl

ending_again : (ns rs : List ℕ) → AreNotes ns → ending_at (notes_text ns ++ reason_text rs) ≡ Some (ns, rs)
unfolding ending_at stripped
ending_again [] [] h = refl
ending_again [] (c ∷ cs) h = refl
ending_again (n ∷ ns) rs h =
    rw (
      h.0,
      from_word 32 (n ∷ ns) (reason_text rs) (name_plain (n ∷ ns) h.1) (after_notes rs),
      until_word 32 (n ∷ ns) (reason_text rs) (name_plain (n ∷ ns) h.1) (after_notes rs),
      reason_again rs,
    ) refl

after_deed : (ns rs : List ℕ) → IsAfter 32 (notes_text ns ++ reason_text rs)
after_deed [] [] = tt
after_deed [] (c ∷ cs) = refl
after_deed (n ∷ ns) rs = refl

regroup : (a b c d f g : List ℕ) → a ++ b ++ c ++ d ++ f ++ g ≡ a ++ (b ++ (c ++ (d ++ (f ++ g))))
regroup a b c d f g = simp append_assoc

read : (n : ℕ) (e : Event) → n < 2 ^ 64 → IsReadable e
    → event_at (decimal n ++ (codes " " ++ moment_text e.moment ++ (codes " " ++ e.who ++ (codes " " ++ deed_text e.deed
    ++ (notes_text e.notes ++ reason_text e.reason))))) ≡ Some (n, e)
unfolding event_at
read n e h r =
    let ending = notes_text e.notes ++ reason_text e.reason in
    let told = codes " " ++ deed_text e.deed ++ ending in
    let by = codes " " ++ e.who ++ told in
    rw (
      number_again 18446744073709551615 n (codes " " ++ moment_text e.moment ++ by) (omega (arith, h)) h refl,
      stripped_again (codes " ") (moment_text e.moment ++ by),
      until_word 32 (moment_text e.moment) by (moment_plain e.moment) refl,
      from_word 32 (moment_text e.moment) by (moment_plain e.moment) refl,
      moment_word e.moment r.moment,
      stripped_again (codes " ") (e.who ++ told),
      until_word 32 e.who told (name_plain e.who r.who) refl,
      from_word 32 e.who told (name_plain e.who r.who) refl,
      stripped_again (codes " ") (deed_text e.deed ++ ending),
      deed_again e.deed ending r.deed (after_deed e.notes e.reason),
      ending_again e.notes e.reason r.notes,
    ) refl

-- THE EVENT OF A LINE is read again
pub event_again : (n : ℕ) (e : Event) → n < 2 ^ 64 → IsReadable e → event_at (line_of n e) ≡ Some (n, e)
event_again n e h r =
    ap event_at (regroup (decimal n) (codes " " ++ moment_text e.moment) (codes " " ++ e.who) (codes " " ++ deed_text e.deed) (notes_text e.notes)
    (reason_text e.reason)) ∙ read n e h r
