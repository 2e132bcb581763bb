-- What is done in volumes, one after another.
use Rattle.std.specs.Prelude.{◌⊎◌, Ok, Option, None, Some}
use Rattle.std.specs.declared.prelude.LibcRuntime.{LibcRuntime}
use Rattle.std.proofs.Common.{◌≡◌, ◌∙◌, ◌+◌, ◌<◌, ◌||◌, ℕ, Bool, true, false, List, ap, arith, below_more}
use Rattle.std.proofs.Common.{inl, inr, refl, sym}
use Rattle.sqlite.specs.Store.{Ghosts}
use Rattle.choice_words.specs.declared.choice.Choice.{Choice}
use Rattle.choice_words.specs.declared.typed.TypedChoice.{TypedChoice}
use Rattle.cli_choice.specs.declared.holds.Change.{Change}
use Rattle.cli_choice.specs.declared.holds.Change.TheVariants as hold
use Rattle.cli_choice.specs.declared.questions.Questions.{Questions}
use Rattle.cli_console.specs.Finds.{found_in}
use Rattle.cli_history.specs.declared.opening.Purpose.TheVariants.{Ending}
use Rattle.cli_history.specs.declared.seals.Seals.{Seals}
use Rattle.cli_volumes.specs.Names.{path_of}
use Rattle.command_lines.specs.declared.archives.histories.Attribution.{Attribution}
use Rattle.record_archive.specs.Archive.{Archive}
use Rattle.record_ledger.specs.Ledgers.{keeper_of}
use Rattle.record_ledger.specs.declared.ledger.Ledger.{Ledger}
use Rattle.record_store.specs.declared.store.Store.{Store}
use Rattle.cli_changes.specs.declared.holds.HoldTally.{HoldTally}
use Rattle.cli_changes.specs.Holdings.{changed_numbers, changed_on, held_by, in_both, is_any_of, none_tried}
use Rattle.cli_changes.specs.Series.{IsSoOf}
use Rattle.cli_changes.proofs.ChangeLaws.{ended_held}
use Rattle.cli_changes.proofs.SeriesLaws.{or_first, or_second}
use Rattle.cli_tasks.specs.Changes.{ChangesThese, HoldsFound}
use Rattle.cli_tasks.specs.Commands.{ChangesAsTold, well}
use Rattle.cli_tasks.specs.Numbers.{IsChoiceTyped}
use Rattle.cli_tasks.specs.Purposes.{for_hold}
use Rattle.cli_tasks.specs.Volumes.{EndsOnOne, HoldsBy, HoldsIn, HoldsInEach, HoldsTyped, HoldsTypedVolume, HoldsVolume, IsAccepted}
use Rattle.cli_tasks.specs.Volumes.{IsHeldIn, ShowsIn}
use Rattle.cli_tasks.specs.Works.{EachVolume, SomeVolume}
use Rattle.cli_tasks.proofs.ChangeLemmas.{changes_weaker}
use Rattle.cli_tasks.proofs.DoneLemmas.{done_weaker}

module _ {S : Type 0} (g : Ghosts S) (IsAt : (path : List ℕ) → Store S → Type 0) (folder : List ℕ) (told : Attribution) (change : Change)
    (name : List ℕ) (questions : Questions) where
  -- ---- what is told together

  module _ (typed : TypedChoice) where
    -- in none of them yet
    pub held_in_none : HoldsInEach g IsAt folder told change name typed questions 0 none_tried
    held_in_none = record { each = λ k less. absurd (omega arith); any = λ some. absurd cc }

    some_more : (below : ℕ) (x t : HoldTally) → HoldsInEach g IsAt folder told change name typed questions below x
        → HoldsTyped g IsAt folder told change name typed questions t (below + 1)
        → (x.changed.is_any || t.changed.is_any) ≡ true
        → SomeVolume (below + 1)
        (λ v. (s : HoldTally) × (s.changed.is_any ≡ true) × HoldsTyped g IsAt folder told change name typed questions s v)
    some_more below x t was here = go x.changed.is_any t.changed.is_any refl refl
      where
        go : (b c : Bool) → x.changed.is_any ≡ b → t.changed.is_any ≡ c → (b || c) ≡ true → SomeVolume (below + 1)
            (λ v. (s : HoldTally) × (s.changed.is_any ≡ true) × HoldsTyped g IsAt folder told change name typed questions s v)
        go true c e f some =
            let one = was.any e in
            let less : one.0 < below = one.1 in
            (one.0, omega arith, one.2)
        go false true e f some = (below, omega arith, (t, f, here))
        go false false e f some = absurd cc

    -- in one more
    pub held_in_next : (below : ℕ) (x t : HoldTally) → HoldsInEach g IsAt folder told change name typed questions below x
        → HoldsTyped g IsAt folder told change name typed questions t (below + 1)
        → HoldsInEach g IsAt folder told change name typed questions (below + 1) (in_both x t)
    held_in_next below x t was here = record {
      each = below_more (λ k. (s : HoldTally) × ((x.changed.is_refused || t.changed.is_refused) ≡ false → s.changed.is_refused ≡ false)
          × HoldsTyped g IsAt folder told change name typed questions s (k + 1)) below
          (λ k less. let one = was.each k less in
          (one.0, λ none. one.1 (or_first x.changed.is_refused t.changed.is_refused none), one.2))
          (t, λ none. or_second x.changed.is_refused t.changed.is_refused none, here);
      any = some_more below x t was here;
    }

  -- ---- where none was refused

  -- what was found and changed in a ledger
  all_changed : (choice : Choice) (t : HoldTally) (old new : Ledger S LibcRuntime) → t.changed.is_refused ≡ false
      → HoldsFound g old new (Ok t) change name choice questions
      → ChangesThese g old new well (changed_on change name) (λ a. changed_numbers change name (found_in choice questions a))
      (λ a. IsAccepted change name choice.numbers.items (found_in choice questions a))
  all_changed choice t old new none h = record {
    falls = h.falls;
    done = λ clean (a : Archive) s.
        let d = h.done clean a s in (d.0, record { each_found = d.1.each_found none; accepted = d.1.accepted none });
    failed = tt;
  }

  volume_held : (choice : Choice) (t : HoldTally) (v : ℕ) → t.changed.is_refused ≡ false
      → HoldsIn g IsAt folder told change name choice questions t v → HoldsVolume g IsAt folder told change name choice questions v
  volume_held choice t v none d =
      let Found = λ (old new : Ledger S LibcRuntime) (seals : Seals). HoldsFound g old new (Ok t) change name choice questions in
      let These = λ (old new : Ledger S LibcRuntime) (seals : Seals).
      ChangesThese g old new well (changed_on change name) (λ a. changed_numbers change name (found_in choice questions a))
      (λ a. IsAccepted change name choice.numbers.items (found_in choice questions a)) in
      done_weaker (IsAt (path_of folder v)) (λ before after. ChangesAsTold g told before after (for_hold change) Found)
      (λ before after. ChangesAsTold g told before after (for_hold change) These)
      (λ before after made. (
        made.0,
        made.1,
        changes_weaker g (for_hold change) made.0 before Found These after (λ old new seals h. all_changed choice t old new none h) made.2,
      )) d

  typed_held : (typed : TypedChoice) (t : HoldTally) (v : ℕ) → t.changed.is_refused ≡ false
      → HoldsTyped g IsAt folder told change name typed questions t v → HoldsTypedVolume g IsAt folder told change name typed questions v
  typed_held typed t v none d = go d.0 d.1 d.2
    where
      go : (o : Option Choice) → IsChoiceTyped typed v o → HoldsBy g IsAt folder told change name questions t v o
          → HoldsTypedVolume g IsAt folder told change name typed questions v
      go None is held = (None, is, tt)
      go (Some choice) is held = (Some choice, is, volume_held choice t v none held)

  -- in each of them
  pub each_held : (typed : TypedChoice) (last : ℕ) (tally : HoldTally) → tally.changed.is_refused ≡ false
      → HoldsInEach g IsAt folder told change name typed questions last tally
      → EachVolume last (HoldsTypedVolume g IsAt folder told change name typed questions)
  each_held typed last tally none was = λ k less. let one = was.each k less in typed_held typed one.0 (k + 1) (one.1 none) one.2

-- ---- the end of a hold

module _ {S : Type 0} (g : Ghosts S) (IsAt : (path : List ℕ) → Store S → Type 0) (folder : List ℕ) (told : Attribution) (name : List ℕ)
    (questions : Questions) where
  -- it ended on a record of a volume
  ended_on_one : (choice : Choice) (t : HoldTally) (v : ℕ) → t.changed.is_any ≡ true
      → HoldsIn g IsAt folder told hold.End name choice questions t v → EndsOnOne g IsAt folder told name v
  ended_on_one choice t v some d =
      let Found = λ (old new : Ledger S LibcRuntime) (seals : Seals). HoldsFound g old new (Ok t) hold.End name choice questions in
      let HasOne = λ (old new : Ledger S LibcRuntime) (seals : Seals).
      IsSoOf (keeper_of g) old new (λ a. is_any_of (held_by name a) ≡ true) in
      done_weaker (IsAt (path_of folder v)) (λ before after. ChangesAsTold g told before after Ending Found)
      (λ before after. ChangesAsTold g told before after Ending HasOne)
      (λ before after made. (
        made.0,
        made.1,
        changes_weaker g Ending made.0 before Found HasOne after
            (λ old new seals h clean (a : Archive) s. ended_held a name choice questions (sym (h.done clean a s).1.any ∙ some)) made.2,
      )) d

  -- it ended on none where nothing was tried
  ended_typed : (typed : TypedChoice) (t : HoldTally) (v : ℕ) → t.changed.is_any ≡ true
      → HoldsTyped g IsAt folder told hold.End name typed questions t v → EndsOnOne g IsAt folder told name v
  ended_typed typed t v some d = go d.0 d.2
    where
      go : (o : Option Choice) → HoldsBy g IsAt folder told hold.End name questions t v o → EndsOnOne g IsAt folder told name v
      go None held = let never : false ≡ true = sym (ap (λ (s : HoldTally). s.changed.is_any) held) ∙ some in absurd cc
      go (Some choice) held = ended_on_one choice t v some held

-- where a hold ends, a live record of a volume has it
pub held_in_one : {S : Type 0} (g : Ghosts S) (IsAt : (path : List ℕ) → Store S → Type 0) (folder : List ℕ) (told : Attribution)
    (change : Change) (name : List ℕ) (typed : TypedChoice) (questions : Questions) (last : ℕ) (tally : HoldTally)
    → HoldsInEach g IsAt folder told change name typed questions last tally
    → (change ≡ hold.End → tally.changed.is_any ≡ false → SomeVolume last (ShowsIn g IsAt folder name))
    → IsHeldIn g IsAt folder told change name last
held_in_one g IsAt folder told hold.Place name typed questions last tally was seen = tt
held_in_one g IsAt folder told hold.End name typed questions last tally was seen = go tally.changed.is_any refl
  where
    go : (b : Bool) → tally.changed.is_any ≡ b
        → SomeVolume last (λ v. EndsOnOne g IsAt folder told name v ⊎ ShowsIn g IsAt folder name v)
    go true some =
        let one = was.any some in (
          one.0,
          one.1,
          inl (ended_typed g IsAt folder told name questions typed one.2.0 (one.0 + 1) one.2.1 one.2.2),
        )
    go false none = let one = seen refl none in (one.0, one.1, inr one.2)
