-- Histories that are begun, and in which findings are accepted, in one volume after another.
use Rattle.std.specs.Prelude.{Result, Ok, Err, OnOk, IfOk, Option, Some, None, is_some}
use Rattle.std.proofs.Common.{◌≡◌, ◌+◌, ◌<◌, ◌∙◌, ◌||◌, ℕ, Bool, true, false, arith, below_more, refl, subst, sym}
use Rattle.sqlite.specs.Store.{Ghosts}
use Rattle.sqlite.specs.Held.{Held}
use Rattle.record_noted.specs.Openings.{Opens, OpensHistory}
use Rattle.record_noted.specs.declared.opening.Opened.TheVariants.{Plain}
use Rattle.record_noted.specs.declared.store.NotedStore.{NotedStore}
use Rattle.record_store.specs.declared.store.Store.{Store}
use Rattle.cli_console.specs.declared.failure.Failure.{Failure}
use Rattle.cli_history.specs.declared.author.Author.{Author}
use Rattle.cli_tasks.specs.Histories.{AcceptsWhereFound, BeginsWhereNone, DoneInSome, HasNoneToAccept, IsBegun}
use Rattle.cli_tasks.specs.Histories.{HasSoundHistory, MayHaveBegun}
use Rattle.cli_tasks.specs.declared.volume_beginnings.Begun.{Begun}

-- what succeeds is what it is where it succeeds
pub ok_itself : {X F : Type 0} (r : Result X F) → IfOk r (λ x. r ≡ Ok x)
ok_itself (Ok x) = refl
ok_itself (Err failure) = tt

module _ {S T : Type 0} (g : Ghosts S) (before : Store S) (noted : NotedStore S) (after : Held S) (answer : T) where
  abbrev IsJudged : T → Type 0
  IsJudged x = (x ≡ answer) × ((store : Store S) → OpensHistory g store noted → HasSoundHistory g store after)

  -- a history that was judged is that of the store of which it was opened
  pub sound_there : (result : Result T Failure) → OpensHistory g before noted → IfOk result IsJudged
      → OnOk result (HasSoundHistory g before after)
  sound_there (Ok x) opens judged = judged.1 before opens
  sound_there (Err failure) opens judged = tt

  pub answered : (result : Result T Failure) → IfOk result IsJudged → IfOk result (λ x. x ≡ answer)
  answered (Ok x) judged = judged.0
  answered (Err failure) judged = tt

module _ {S : Type 0} (g : Ghosts S) (before : Store S) (after : Held S) where
  -- a store that has a sound history has begun with it
  pub has_begun : (result : Result Bool Failure) → IfOk result (λ b. b ≡ true) → OnOk result (HasSoundHistory g before after)
      → IfOk result (λ b. MayHaveBegun g b before after)
  has_begun (Ok b) has sound = subst (λ c. MayHaveBegun g c before after) (sym has) sound
  has_begun (Err failure) has sound = tt

module _ (Holds : (is_new : Bool) → (volume : ℕ) → Type 0) where
  pub none_done : DoneInSome Holds false 0
  none_done = record { each = λ k less. absurd (omega arith); some = λ e. absurd (cc e) }

  -- the next volume
  pub next_done : (is_any is_new : Bool) (below : ℕ) → DoneInSome Holds is_any below → Holds is_new (below + 1)
      → DoneInSome Holds (is_any || is_new) (below + 1)
  next_done is_any is_new below had holds = record {
    each = below_more (λ k. (b : Bool) × Holds b (k + 1)) below had.each (is_new, holds);
    some = go is_any had.some;
  }
    where
      go : (b : Bool) → (b ≡ true → (k : ℕ) × (k < below) × Holds true (k + 1)) → (b || is_new) ≡ true
          → (k : ℕ) × (k < below + 1) × Holds true (k + 1)
      go true before e = let at = before refl in (at.0, omega (arith, at.1), at.2)
      go false before e = (below, omega arith, subst (λ b. Holds b (below + 1)) e holds)

module _ {S : Type 0} (g : Ghosts S) (before : Store S) (noted : NotedStore S) (after : Held S) where
  -- a history that was there is opened
  pub was_there : (result : Result Begun Failure) → OpensHistory g before noted → after ≡ noted.store.conn
      → IfOk result (λ b. b.events ≡ None) → IfOk result (λ b. BeginsWhereNone g (is_some b.events) before after)
  was_there (Ok b) opens left none = subst (λ (o : Option ℕ). BeginsWhereNone g (is_some o) before after) (sym none) (noted, opens, left)
  was_there (Err failure) opens left none = tt

  -- one that was begun is opened
  pub is_new : (events : ℕ) (result : Result Begun Failure) → OpensHistory g before noted → after ≡ noted.store.conn
      → IfOk result (λ b. b.events ≡ Some events) → IfOk result (λ b. IsBegun g (is_some b.events) after)
  is_new events (Ok b) opens left some =
      subst (λ (o : Option ℕ). IsBegun g (is_some o) after) (sym some) (refl, before, (noted, opens, left))
  is_new events (Err failure) opens left some = tt

module _ {S : Type 0} (g : Ghosts S) (before : Store S) (after : Held S) where
  -- a history is begun where there was none
  pub begun_where_none : (result : Result Begun Failure) → Opens g before (Plain before)
      → IfOk result (λ b. IsBegun g (is_some b.events) after) → IfOk result (λ b. BeginsWhereNone g (is_some b.events) before after)
  begun_where_none (Ok b) none begun =
      subst (λ n. BeginsWhereNone g n before after) (sym begun.0) (record { none = none; begun = begun.1; opens = begun.2 })
  begun_where_none (Err failure) none begun = tt

module _ {S : Type 0} (g : Ghosts S) (author : Author) where
  -- nothing was left to accept
  pub none_accepted : (noted : NotedStore S) (after : Held S) (result : Result (Option ℕ) Failure)
      → IfOk result (λ number. (number ≡ None) × HasNoneToAccept g author after)
      → IfOk result (λ number. (before : Store S) → OpensHistory g before noted → AcceptsWhereFound g author (is_some number) before after)
  none_accepted noted after (Ok number) none = λ before opens.
      subst (λ (o : Option ℕ). AcceptsWhereFound g author (is_some o) before after) (sym none.0) none.1
  none_accepted noted after (Err failure) none = tt

  -- what is so of a history is so of the store of which it was opened
  pub of_opened : (before : Store S) (noted : NotedStore S) (after : Held S) (result : Result (Option ℕ) Failure) → OpensHistory g before noted
      → IfOk result (λ number. (store : Store S) → OpensHistory g store noted → AcceptsWhereFound g author (is_some number) store after)
      → IfOk result (λ number. AcceptsWhereFound g author (is_some number) before after)
  of_opened before noted after (Ok number) opens accepts = accepts before opens
  of_opened before noted after (Err failure) opens accepts = tt
