-- What is done on a fault.
use Rattle.std.proofs.Common.{◌≡◌, ℕ, List, true, false, Option, Some, None, Ok, refl, ap, ◌∙◌, sym, subst}
use Rattle.std.proofs.lemmas.Bool.{false≢true}
use Rattle.sieve_meaning.specs.declared.run_fault.RunFault.{RunFault}
use Rattle.record_archive.specs.Archive.{Line}
use Rattle.record_archive.specs.Calls.{Keeper}
use Rattle.desk_commands.specs.Answers.{Answer, captured}
use Rattle.desk_commands.specs.Calls.{Calls}
use Rattle.desk_commands.specs.Standing.{Standing, finish, flight_of}
use Rattle.desk_commands.specs.declared.results.Capture as results
use Rattle.filing_desk.specs.Deliveries.{Call, Follows, Goes, Heeds, IsFaulty, KeepsOffice, TellsFault, are_of_archive, first_calls}
use Rattle.filing_desk.specs.declared.deliveries.Delivery.TheVariants.{Captured, GivenUp}
use Rattle.filing_desk.specs.declared.deliveries.OnFault.{OnFault}
use Rattle.filing_desk.specs.declared.deliveries.OnFault.TheVariants.{GiveUp, Capture}
use Rattle.filing_desk.proofs.FaultyRunLemmas.{captured_told}
use Rattle.filing_desk.proofs.BegunLemmas.{is_faulty, office_kept}

module _ {D : Type 0} (keeper : Keeper D Standing) (old : D) (officer : List ℕ) (moment : ℕ) (message : List ℕ) where
  -- a message that is given up has the fault that is reported of its capture
  given_up_for : (calls : List Call) (t b made : ℕ) (turned : Answer) (fault : RunFault) (new : D)
      → calls ≡ first_calls officer moment message t b made turned → Follows keeper old calls new
      → ((z : Standing) → keeper.stands new z → TellsFault (flight_of t z.flights) (Some fault))
      → (s : Standing) → keeper.stands old s → IsFaulty keeper s officer moment message fault new
  given_up_for calls t b made turned fault new is follows told s there =
      let outside : are_of_archive calls ≡ true → keeper.clean new =
      λ e. absurd (let no : false ≡ true = sym (ap are_of_archive is) ∙ e in false≢true no) in
      let l = follows.leads outside s there in
      let From : List Call → Type 0 = λ xs. Goes s xs l.to in
      is_faulty keeper s l.to officer moment message t b made turned fault new (subst From is l.is_one) l.there told

  pub heeds_given_up : (on_fault : OnFault) (calls : List Call) (t b made : ℕ) (turned : Answer) (fault : RunFault) (new : D)
      → calls ≡ first_calls officer moment message t b made turned → Follows keeper old calls new
      → (on_fault ≡ GiveUp → (z : Standing) → keeper.stands new z → TellsFault (flight_of t z.flights) (Some fault))
      → (on_fault ≡ Capture → ◌≡◌ {A = Option RunFault} (Some fault) None)
      → Heeds keeper old officer moment message (Ok (GivenUp fault)) on_fault new
  heeds_given_up GiveUp calls t b made turned fault new is follows told none =
      λ s there. given_up_for calls t b made turned fault new is follows (told refl) s there
  heeds_given_up Capture calls t b made turned fault new is follows told none =
      let no : ◌≡◌ {A = Option RunFault} (Some fault) None = none refl in cc

  -- a message that is given up for want of time leaves the archive as it was
  pub keeps_office : (calls : List Call) (t b made : ℕ) (turned : Answer) (new : D)
      → calls ≡ first_calls officer moment message t b made turned → Follows keeper old calls new → KeepsOffice keeper old new
  keeps_office calls t b made turned new is follows s there =
      let outside : are_of_archive calls ≡ true → keeper.clean new =
      λ e. absurd (let no : false ≡ true = sym (ap are_of_archive is) ∙ e in false≢true no) in
      let l = follows.leads outside s there in
      let From : List Call → Type 0 = λ xs. Goes s xs l.to in
      record {
        to = l.to;
        is_one = office_kept s l.to officer moment message t b made turned (subst From is l.is_one);
        there = l.there;
      }

  -- a message that is captured has the fault that is reported of its capture
  captured_for : (calls : List Call) (t : ℕ)
      (told : Option RunFault) (lines : List Line) (mid new : D) → Follows keeper old calls mid
      → ((z : Standing) → keeper.stands mid z → TellsFault (flight_of t z.flights) None)
      → Calls keeper mid (finish t) (captured told lines) new
      → keeper.clean new → (s : Standing) → keeper.stands old s → told ≡ None
  captured_for calls t told lines mid new follows none call h s there =
      let l = follows.leads (λ e. call.was_clean h) s there in
      let k = call.leads (λ e. h) l.to l.there in
      captured_told l.to k.to t told None lines (none l.to l.there) k.is_one

  pub heeds_captured : (on_fault : OnFault) (calls : List Call) (t : ℕ) (c : results.Capture) (lines : List Line) (mid new : D)
      → Follows keeper old calls mid
      → (on_fault ≡ GiveUp → (z : Standing) → keeper.stands mid z → TellsFault (flight_of t z.flights) None)
      → Calls keeper mid (finish t) (captured c.fault lines) new
      → Heeds keeper old officer moment message (Ok (Captured c)) on_fault new
  heeds_captured GiveUp calls t c lines mid new follows none call =
      λ h s there. captured_for calls t c.fault lines mid new follows (none refl) call h s there
  heeds_captured Capture calls t c lines mid new follows none call = tt
