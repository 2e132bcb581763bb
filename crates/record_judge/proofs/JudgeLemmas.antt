-- A judge who has seen one line more.
use Rattle.std.proofs.Common.{◌≡◌, ◌+◌, ℕ, List, [], ◌∷◌, ◌++◌, length, Some, Result}
use Rattle.std.proofs.Common.{Ok, Err, refl, sym, ap, subst, ◌∙◌, arith, Option, None, option_and_then}
use Rattle.record_archive.specs.Archive.{Archive, empty_archive}
use Rattle.record_history.specs.Chain.{mark_after, chain, chain_from}
use Rattle.record_history.specs.Events.{Event}
use Rattle.record_history.specs.Lines.{line_of, lines_from}
use Rattle.record_history.specs.Replay.{IsTrueOf, after, replay}
use Rattle.record_judge.specs.Judging.{Judges, IsFlaw}
use Rattle.record_judge.specs.declared.judge.Flaw.TheVariants as flaw
use Rattle.record_judge.specs.Sealed.{archive_view, IsKept}
use Rattle.record_judge.specs.declared.judge.Judge.{Judge}
use Rattle.record_judge.proofs.FindingLemmas.{replay_append, lines_append, lines_length}
use Rattle.record_judge.proofs.TruthLemmas.{true_more}

chain_more : (mark : List ℕ) (ls : List (List ℕ)) (l : List ℕ) → chain_from mark (ls ++ l ∷ []) ≡ mark_after (chain_from mark ls) l
chain_more mark [] l = refl
chain_more mark (x ∷ ls) l = chain_more (mark_after mark x) ls l

length_more : (ls : List (List ℕ)) (l : List ℕ) → length (ls ++ l ∷ []) ≡ length ls + 1
length_more [] l = omega arith
length_more (x ∷ ls) l = omega (arith, length_more ls l)

-- the line of one event more
one_line : (ls : List (List ℕ)) (es : List Event) (e : Event) (line : List ℕ) (n : ℕ) → ls ≡ lines_from 1 es → n ≡ length ls + 1
    → line ≡ line_of n e → ls ++ line ∷ [] ≡ lines_from 1 (es ++ e ∷ [])
one_line ls es e line n lines next is =
    let k : n ≡ 1 + length es = omega (arith, next, ap length lines, lines_length 1 es) in
    ap (λ l. l ++ line ∷ []) lines ∙ ap (λ l. lines_from 1 es ++ l ∷ []) (is ∙ ap (λ m. line_of m e) k) ∙ sym (lines_append 1 es (e ∷ []))

pub taken : (old new : Judge) (ls : List (List ℕ)) (number : ℕ) (line mark : List ℕ) (e : Event) → Judges old ls → number ≡ old.next
    → mark ≡ mark_after old.mark.items line → line ≡ line_of old.next e → IsTrueOf e.deed (archive_view old.archive)
    → after e.deed (archive_view old.archive) ≡ Some (archive_view new.archive)
    → IsKept new.archive → new.next ≡ old.next + 1 → new.mark.items ≡ mark
    → Judges new (ls ++ line ∷ []) × ((number ≡ length ls + 1) × (mark ≡ chain (ls ++ line ∷ [])))
taken old new ls number line mark e was turn marked is so done kept next ends =
    let end : mark ≡ chain (ls ++ line ∷ []) = marked ∙ ap (λ m. mark_after m line) was.mark ∙ sym (chain_more [] ls line) in (
      record {
        next = omega (arith, next, was.next, length_more ls line);
        mark = ends ∙ end;
        kept = kept;
        events = was.events ++ e ∷ [];
        lines = one_line ls was.events e line old.next was.lines was.next is;
        replayed = replay_append was.events (e ∷ []) empty_archive (archive_view old.archive) was.replayed
            ∙ again (after e.deed (archive_view old.archive)) done;
        told_truly = true_more empty_archive (archive_view old.archive) was.events e was.told_truly was.replayed so;
      },
      (turn ∙ was.next, end),
    )
  where
    again : (o : Option Archive) → o ≡ Some (archive_view new.archive) → option_and_then (replay []) o ≡ Some (archive_view new.archive)
    again None h = h
    again (Some b) h = h

pub other_number : (j : Judge) (number : ℕ) (line mark : List ℕ) (n : ℕ) (e : Event) → line ≡ line_of n e → (n ≡ j.next → ⊥)
    → IsFlaw j number line mark flaw.OtherNumber
other_number j number line mark n e is other = (n, (e, (is, other)))
