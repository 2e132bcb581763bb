-- Turns of a capture, one after the other.
use Rattle.std.proofs.Common.{◌≡◌, ◌<◌, ◌≤◌, ◌+◌, ℕ, List, [], ◌∷◌, Bool, true, false, if◌then◌else◌, Option, Some, None, Ok, inl, inr, refl, arith}
use Rattle.std.proofs.Common.{ap, ◌∙◌, sym, subst}
use Rattle.std.specs.Option.{option_map}
use Rattle.std.proofs.lemmas.Bool.{false≢true}
use Rattle.std.proofs.lemmas.Bool.Decides.{nat_tests}
use Rattle.filing_table.specs.Machine.{At, after_steps}
use Rattle.record_archive.specs.Calls.{Keeper}
use Rattle.desk_commands.specs.Answers.{Answer, ended, running}
use Rattle.desk_commands.specs.CallAnswers.{answer_of_turn}
use Rattle.desk_commands.specs.Calls.{Calls}
use Rattle.desk_commands.specs.Pinning.{case_in}
use Rattle.desk_commands.specs.Standing.{Flight, IsInterrupted, Standing, Step, TurnStep, flight_of, grant, is_refusal, turn, turn_answer, with_turns}
use Rattle.desk_commands.specs.declared.results.Turn.{Turn}
use Rattle.filing_desk.specs.Deliveries.{Follows, IsWhole, turns}
use Rattle.filing_desk.proofs.BegunLemmas.{granted_more, of_grant}

granted_twice : (t n m : ℕ) (fs : List Flight) → grant t m (grant t n fs) ≡ grant t (n + m) fs
granted_twice t n m [] = refl
granted_twice t n m (f ∷ fs) = let rest = granted_twice t n m fs in grind (arith, nat_tests, rest)

-- memory that runs out after further turns runs out after all of them
interrupted_later : (f : Flight) (n m j : ℕ) → IsInterrupted (granted_more n f) m j → IsInterrupted f (n + m) (n + j)
interrupted_later f n m j h =
    let fewer : j < m = h.within in
    let before : f.granted + n + j < f.run_length = h.early in
    let together : f.granted + n + j ≡ f.granted + (n + j) = omega arith in
    record {
      within = omega (arith, fewer);
      early = omega (arith, before);
      state = h.state;
      stands = ap (after_steps f.pinned (case_in f.at_begin)) (sym together) ∙ h.stands;
      takes_memory = h.takes_memory;
    }

module _ (s mid new : Standing) (t n m : ℕ) (a b : Answer) where
  to_both : mid ≡ with_turns s t n → (k : ℕ) → with_turns mid t k ≡ with_turns s t (n + k)
  to_both is k = ap (λ (z : Standing). with_turns z t k) is ∙ ap (λ (fs : List Flight). record s { flights = fs }) (granted_twice t n k s.flights)

  again : (f : Flight) → mid ≡ with_turns s t n → TurnStep mid t m (Some (granted_more n f)) b new → TurnStep s t (n + m) (Some f) b new
  again f is (inl all) =
      let together : f.granted + n + m ≡ f.granted + (n + m) = omega arith in
      inl (all.0 ∙ ap (turn_answer f) together, all.1 ∙ to_both is m)
  again f is (inr some) = inr (some.0, (n + some.1.0, interrupted_later f n m some.1.0 some.1.1, some.1.2 ∙ to_both is some.1.0))

  after : (found : Option Flight) → flight_of t s.flights ≡ found → is_refusal a ≡ false → TurnStep s t n found a mid
      → TurnStep mid t m (flight_of t mid.flights) b new → TurnStep s t (n + m) found b new
  after None here told first step = absurd (false≢true (sym told ∙ ap is_refusal first.0))
  after (Some f) here told (inl all) step =
      let Steps : Option Flight → Type 0 = λ x. TurnStep mid t m x b new in
      let found : flight_of t mid.flights ≡ Some (granted_more n f) =
      ap (λ (z : Standing). flight_of t z.flights) all.1 ∙ of_grant t n s.flights ∙ ap (option_map (granted_more n)) here in
      again f all.1 (subst Steps found step)
  after (Some f) here told (inr some) step = absurd (false≢true (sym told ∙ ap is_refusal some.0))

  -- turns that are granted after others are granted together with them
  turned_twice : is_refusal a ≡ false → Step s (turn t n) a mid → Step mid (turn t m) b new → Step s (turn t (n + m)) b new
  unfolding Step
  turned_twice told first step = after (flight_of t s.flights) refl told first step

-- the answer to turns that were granted is no refusal
pub turns_told : (x : Turn) → is_refusal (answer_of_turn (Ok x)) ≡ false
turns_told x = go x.ended
  where
    go : (b : Bool) → is_refusal (if b then ended x.steps else running x.steps) ≡ false
    go true = refl
    go false = refl

-- all turns of a budget were made, or the last of them was answered as the last of the run
pub turns_whole : (x : Turn) (made budget : ℕ) → made ≤ budget → (x.ended ≡ false → budget ≤ made)
    → IsWhole budget made (answer_of_turn (Ok x))
turns_whole x made budget within rest = go x.ended refl
  where
    go : (b : Bool) → x.ended ≡ b → IsWhole budget made (answer_of_turn (Ok x))
    go true e = inr (rw e refl)
    go false e = let most = rest e in inl (omega (arith, within, most))

module _ {D : Type 0} (keeper : Keeper D Standing) where
  -- a desk that grants further turns went through one call that grants them all
  pub turns_on : (old mid new : D) (t n m : ℕ) (a b : Answer) → is_refusal a ≡ false
      → Follows keeper old (turns t n a ∷ []) mid → Calls keeper mid (turn t m) b new
      → Follows keeper old (turns t (n + m) b ∷ []) new
  turns_on old mid new t n m a b told first call = record {
    was_clean = λ h. first.was_clean (call.was_clean h);
    leads = λ h s there.
        let l = first.leads (λ e. absurd (false≢true e)) s there in
        let k = call.leads (λ e. absurd (false≢true e)) l.to l.there in
        let Steps : Standing → Type 0 = λ z. Step s (turn t n) a z in
        let (z, made, same) = l.is_one in
        let step = turned_twice s l.to k.to t n m a b told (subst Steps (sym same) made) k.is_one in
        record { to = k.to; is_one = (k.to, step, refl); there = k.there };
  }
