-- Records that get another class, as they are found in volumes, one after another.
use Rattle.std.proofs.Common.{◌≡◌, ◌+◌, ◌++◌, ◌∷◌, [], ℕ, List, refl, subst, sym}
use Rattle.std.proofs.lemmas.List.Elements.{All-nil, All-push, All-weaker}
use Rattle.sqlite.specs.Store.{Ghosts}
use Rattle.choice_words.specs.declared.typed.TypedChoice.{TypedChoice}
use Rattle.cli_choice.specs.declared.questions.Questions.{Questions}
use Rattle.cli_changes.proofs.SeriesLaws.{or_first, or_second}
use Rattle.cli_changes.specs.Moves.{moves_in_both}
use Rattle.cli_changes.specs.declared.refile.MoveTally.{MoveTally}
use Rattle.record_store.specs.declared.store.Store.{Store}
use Rattle.cli_tasks.specs.Refiles.{MovesEach, MovesIn, MovesListed}
use Rattle.cli_tasks.specs.declared.volume_changes.Listed.{Listed}
use Rattle.cli_tasks.specs.declared.volume_refilings.Moved.{Moved}
use Rattle.cli_tasks.proofs.ReleaseLaws.{volumes_next}

module _ {S : Type 0} (g : Ghosts S) (IsAt : (path : List ℕ) → Store S → Type 0) (folder to : List ℕ) (typed : TypedChoice)
    (questions : Questions) where
  pub moved_in_none : (tally : MoveTally) (ls : List Listed) → ls ≡ [] → MovesEach g IsAt folder to typed questions 0 tally ls
  moved_in_none tally ls none = subst (λ xs. MovesEach g IsAt folder to typed questions 0 tally xs) (sym none)
      (record { are = refl; each = All-nil (MovesListed g IsAt folder to typed questions tally) })

  -- what was found in the volumes so far, and in the next one
  pub moved_in_next : (below : ℕ) (tally : MoveTally) (ls : List Listed) (moved : Moved) (l : Listed) (both : MoveTally) (all : List Listed)
      → both ≡ moves_in_both tally moved.tally → all ≡ ls ++ l ∷ [] → moved.numbers.items ≡ l.numbers.items → l.volume ≡ below + 1
      → MovesEach g IsAt folder to typed questions below tally ls → MovesIn g IsAt folder to typed questions l.volume moved
      → MovesEach g IsAt folder to typed questions (below + 1) both all
  moved_in_next below tally ls moved l both all sums these numbers is was found =
      let Before = MovesListed g IsAt folder to typed questions tally in
      let Now = MovesListed g IsAt folder to typed questions (moves_in_both tally moved.tally) in
      subst (λ t. MovesEach g IsAt folder to typed questions (below + 1) t all) (sym sums)
      (subst (λ xs. MovesEach g IsAt folder to typed questions (below + 1) (moves_in_both tally moved.tally) xs) (sym these) (record {
        are = volumes_next below ls l was.are is;
        each = All-push Now ls l
            (All-weaker Before Now (λ (x : Listed) (m : Before x). (
              m.0,
              m.1,
              λ none. m.2 (or_first tally.is_refused moved.tally.is_refused none),
              m.3,
            )) ls was.each)
            (moved, numbers, λ none. or_second tally.is_refused moved.tally.is_refused none, found);
      }))
