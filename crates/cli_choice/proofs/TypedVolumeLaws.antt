-- What is typed of a volume is the choice for it.
use Rattle.std.proofs.Common.{◌≡◌, ℕ, suc, ◌==◌, nat_le, arith, Bool, true, false, cond, ◌&&◌, ◌||◌, List, [], ◌∷◌, map, filter, length}
use Rattle.std.proofs.Common.{Option, Some, None, is_some, option_map, Result, Ok, Err, IfOk, IfSome, refl, sym, ap, ap₂, ◌∙◌}
use Rattle.std.specs.List.{list_any}
use Rattle.std.proofs.lemmas.Bool.Decides.{nat_tests}
use Rattle.choice_words.specs.declared.choice.Choice as words
use Rattle.choice_words.specs.declared.typed.TypedChoice.{TypedChoice}
use Rattle.choice_words.specs.declared.volumes.VolumeNumber as typed
use Rattle.choice_words.specs.declared.volumes.VolumeNumbers.{VolumeNumbers}
use Rattle.choice_words.specs.Typed.{IsChoiceFor, from_number, is_asked_of, is_of, is_reached, numbers_for}
use Rattle.record_choice.specs.Choices.{Choice, Span, where_asked}
use Rattle.record_volumes.specs.Volumes.{VolumeNumber, VolumeSpan, asks_for, choice_in, chosen_from, first_in, is_span_of, span_of, spans_in}
use Rattle.record_volumes.proofs.JoiningLaws.{answered_alone, none_chosen}
use Rattle.cli_choice.specs.Typed.{choice_typed, span_typed, spans_typed}
use Rattle.cli_choice.specs.TypedVolumes.{IsChoiceIn, first_typed, volume_choice_typed, volume_span_typed, volume_spans_typed}

-- ---- whether a volume is asked for

not_zero : (n : ℕ) → (suc n == 0) ≡ false
not_zero n = grind (arith, nat_tests)

named_agree : (v : ℕ) (ws : List VolumeNumbers) → list_any (is_of v) ws ≡ list_any (is_span_of v) (map volume_span_typed ws)
named_agree v [] = refl
named_agree v (w ∷ ws) = ap (λ b. (w.volume == v) || b) (named_agree v ws)

names_agree : (v : ℕ) (ws : List VolumeNumbers)
    → ((length ws == 0) || list_any (is_of v) ws) ≡ where_asked (list_any (is_span_of v)) (volume_spans_typed ws)
names_agree v [] = refl
names_agree v (w ∷ ws) = ap₂ (λ b c. b || c) (not_zero (length ws)) (named_agree v (w ∷ ws))

reach_agrees : (v : ℕ) (o : Option typed.VolumeNumber)
    → is_reached v o ≡ where_asked (λ (f : VolumeNumber). nat_le f.volume v) (option_map first_typed o)
reach_agrees v None = refl
reach_agrees v (Some f) = refl

asked_agree : (v : ℕ) (t : TypedChoice) → is_asked_of v t ≡ asks_for v (volume_choice_typed t)
asked_agree v t = ap₂ (λ b c. b && c) (names_agree v t.of_volumes.items) (reach_agrees v t.from)

-- ---- the choice for it

-- the spans of a volume are those of its numbers
spans_are : (v : ℕ) (ws : List VolumeNumbers) → map span_typed (numbers_for v ws) ≡ spans_in v (map volume_span_typed ws)
spans_are v [] = refl
spans_are v (w ∷ ws) = go (w.volume == v) (spans_are v ws)
  where
    kept : List VolumeNumbers
    kept = filter (is_of v) ws

    others : List VolumeSpan
    others = filter (is_span_of v) (map volume_span_typed ws)

    go : (b : Bool) → map span_typed (map (λ (x : VolumeNumbers). x.numbers) kept) ≡ map span_of others
        → map span_typed (map (λ (x : VolumeNumbers). x.numbers) (cond b (w ∷ kept) kept))
        ≡ map span_of (cond b (volume_span_typed w ∷ others) others)
    go true more = ap (λ (l : List Span). span_typed w.numbers ∷ l) more
    go false more = more

-- where a word is of the volume, its numbers are some
some_typed : (v : ℕ) (ws : List VolumeNumbers) → list_any (is_of v) ws ≡ true
    → spans_typed (numbers_for v ws) ≡ Some (map span_typed (numbers_for v ws))
some_typed v [] e = absurd cc
some_typed v (w ∷ ws) e = go (w.volume == v) e (some_typed v ws)
  where
    kept : List VolumeNumbers
    kept = filter (is_of v) ws

    go : (b : Bool) → (b || list_any (is_of v) ws) ≡ true
        → (list_any (is_of v) ws ≡ true → spans_typed (map (λ (x : VolumeNumbers). x.numbers) kept)
        ≡ Some (map span_typed (map (λ (x : VolumeNumbers). x.numbers) kept)))
        → spans_typed (map (λ (x : VolumeNumbers). x.numbers) (cond b (w ∷ kept) kept))
        ≡ Some (map span_typed (map (λ (x : VolumeNumbers). x.numbers) (cond b (w ∷ kept) kept)))
    go true f more = refl
    go false f more = more f

first_of : (b c : Bool) → (b && c) ≡ true → b ≡ true
first_of true c e = refl
first_of false c e = absurd cc

second_of : (b c : Bool) → b ≡ false → (b || c) ≡ true → c ≡ true
second_of true c f e = absurd cc
second_of false c f e = e

numbers_are : (v : ℕ) (ws : List VolumeNumbers) → ((length ws == 0) || list_any (is_of v) ws) ≡ true
    → spans_typed (numbers_for v ws) ≡ option_map (spans_in v) (volume_spans_typed ws)
numbers_are v [] e = refl
numbers_are v (w ∷ ws) e =
    some_typed v (w ∷ ws) (second_of (length (w ∷ ws) == 0) (list_any (is_of v) (w ∷ ws)) (not_zero (length ws)) e)
    ∙ ap Some (spans_are v (w ∷ ws))

firsts_are : (v : ℕ) (o : Option typed.VolumeNumber) → from_number v o ≡ first_in v (option_map first_typed o)
firsts_are v None = refl
firsts_are v (Some f) = refl

-- the choice that is typed for a volume, where the volume is asked for
typed_in : (v : ℕ) (t : TypedChoice) (d : words.Choice) → IsChoiceFor v t d → is_asked_of v t ≡ true
    → choice_typed d ≡ choice_in v (volume_choice_typed t)
typed_in v t d is asked =
    let named = first_of ((length t.of_volumes.items == 0) || list_any (is_of v) t.of_volumes.items) (is_reached v t.from) asked in
    ap choice_typed is.conditions
    ∙ ap (λ (o : Option (List Span)). record (choice_typed t.alone) { numbers = o })
    (ap spans_typed is.numbers ∙ numbers_are v t.of_volumes.items named)

is_choice_in : (v : ℕ) (t : TypedChoice) (o : Option words.Choice) → is_some o ≡ is_asked_of v t → IfSome o (IsChoiceFor v t)
    → IsChoiceIn t v o
is_choice_in v t None asked is = λ q a. none_chosen q (volume_choice_typed t) v a (sym (asked_agree v t) ∙ sym asked)
is_choice_in v t (Some d) asked is = λ q a.
    ap₂ (λ (c : Choice) (n : ℕ). chosen_from q c n a) (typed_in v t d is (sym asked)) (is.from ∙ firsts_are v t.from)
    ∙ sym (answered_alone q (volume_choice_typed t) v a (sym (asked_agree v t) ∙ sym asked))

pub choices_are_in : {E : Type 0} (v : ℕ) (t : TypedChoice) (r : Result (Option words.Choice) E) → IfOk r (λ o. is_some o ≡ is_asked_of v t)
    → IfOk r (λ o. IfSome o (IsChoiceFor v t)) → IfOk r (IsChoiceIn t v)
choices_are_in v t (Ok o) asked is = is_choice_in v t o asked is
choices_are_in v t (Err f) asked is = tt

has_numbers : (v : ℕ) (t : TypedChoice) (o : Option words.Choice) → IfSome o (IsChoiceFor v t)
    → IfSome o (λ d. d.numbers.items ≡ numbers_for v t.of_volumes.items)
has_numbers v t None is = tt
has_numbers v t (Some d) is = is.numbers

pub have_numbers : {E : Type 0} (v : ℕ) (t : TypedChoice) (r : Result (Option words.Choice) E) → IfOk r (λ o. IfSome o (IsChoiceFor v t))
    → IfOk r (λ o. IfSome o (λ d. d.numbers.items ≡ numbers_for v t.of_volumes.items))
have_numbers v t (Ok o) is = has_numbers v t o is
have_numbers v t (Err f) is = tt
