-- The index beside the messages.
use Rattle.std.proofs.Common.{◌≡◌, ◌+◌, ◌-◌, ◌==◌, ℕ, Bool, true, false, not, cond, List, [], ◌∷◌, ◌++◌, filter, refl, sym, ap, subst, ◌∙◌, arith}
use Rattle.std.proofs.lemmas.Bool.Decides.{nat_tests}
use Rattle.record_judge.specs.Counts.{count_at, only_at, tally}
use Rattle.record_judge.specs.Indexes.{IsMessageIndex, IsMessageNoted, is_message}
use Rattle.record_judge.specs.declared.message_index.MessageIndex.{MessageIndex}
use Rattle.record_judge.specs.declared.sealed.SealedMessage.{SealedMessage}
use Rattle.record_judge.proofs.IndexLemmas.{same_sides, tally_snoc}
use Rattle.record_judge.proofs.RemovalLemmas.{others, none_of, all_of}

-- a message more, and its note
pub message_noted : (old new : MessageIndex) (rows : List SealedMessage) (m : SealedMessage) → IsMessageNoted m.number old new
    → IsMessageIndex old rows → IsMessageIndex new (rows ++ m ∷ [])
message_noted old new rows m note kept = record {
  numbers = λ q. note.numbers q ∙ ap (λ n. n + only_at m.number 1 q) (kept.numbers q)
      ∙ ap (λ b. tally (is_message q) rows + cond {A = ℕ} b 1 0) (same_sides q m.number) ∙ sym (tally_snoc (is_message q) rows m);
}

apart : (n q : ℕ) → (q == n) ≡ false → (m : SealedMessage) → is_message n m ≡ true → is_message q m ≡ false
apart n q other m is = grind (arith, nat_tests, is, other)

-- the index after the messages with a number are gone
pub left_index : (old new : MessageIndex) (n count : ℕ) (ms after : List SealedMessage) → IsMessageIndex old ms → count ≡ count_at old.numbers n
    → ((q : ℕ) → count_at new.numbers q ≡ count_at old.numbers q - only_at n count q)
    → (count ≡ tally (is_message n) ms → after ≡ filter (λ m. not (m.number == n)) ms) → IsMessageIndex new after
left_index old new n count ms after kept is less gone =
    let all : count ≡ tally (is_message n) ms = is ∙ kept.numbers n in
    subst (IsMessageIndex new) (sym (gone all)) (record { numbers = λ q. less q ∙ step q (q == n) refl })
  where
    step : (q : ℕ) (b : Bool) → (q == n) ≡ b
        → count_at old.numbers q - cond {A = ℕ} b count 0 ≡ tally (is_message q) (others (is_message n) ms)
    step q true here =
        let same : q ≡ n = grind (arith, nat_tests, here) in
        let at : count_at old.numbers q ≡ count = ap (λ k. count_at old.numbers k) same ∙ sym is in
        (let k : count_at old.numbers q - count ≡ 0 = omega (arith, at) in k)
        ∙ sym (ap (λ k. tally (is_message k) (others (is_message n) ms)) same ∙ none_of (is_message n) ms)
    step q false other =
        (let k : count_at old.numbers q - 0 ≡ count_at old.numbers q = omega arith in k) ∙ kept.numbers q
        ∙ sym (all_of (is_message n) (is_message q) (apart n q other) ms)
