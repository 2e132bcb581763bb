-- The troubles of calls, one after the other.
use Rattle.std.proofs.Common.{◌≡◌, ◌∙◌, inl, inr, refl, sym, arith, false, Result, Ok, Err}
use Rattle.std.specs.Result.{is_err}
use Rattle.std.proofs.lemmas.Bool.{false≢true}
use Rattle.session_protocol.specs.Streams.{TellsTroubles}
use Rattle.session_protocol.specs.declared.stream.WriteFault.{WriteFault}
use Rattle.session_protocol.specs.declared.tally.Tally.{Tally}

-- what a result without a fault tells of the troubles
abbrev pub Outlasts : {V : Type 0} → (troubles : V → Tally) → (old new : V) → Type 0
Outlasts troubles old new = TellsTroubles {T = Unit {0}} {F = WriteFault} troubles (Ok tt) old new

module _ {V : Type 0} (troubles : V → Tally) where
  -- no call was made
  pub none_met : (it : V) → Outlasts troubles it it
  none_met it = record {
    fault = tt;
    within = omega arith;
    outlasts = refl;
    over = omega arith;
    patient = omega arith;
    all = omega arith;
  }

  pub troubles_after : {T F : Type 0} (r : Result T F) (old mid new : V) → Outlasts troubles old mid → TellsTroubles troubles r mid new
      → TellsTroubles troubles r old new
  troubles_after (Ok x) old mid new h k = record {
    fault = tt;
    within = omega (arith, h.over, h.patient, k.within);
    outlasts = k.outlasts ∙ h.outlasts;
    over = omega (arith, h.over, k.over);
    patient = omega (arith, h.over, h.patient, k.patient);
    all = omega (arith, h.all, k.all);
  }
  troubles_after (Err f) old mid new h k = record {
    fault = elim k.fault [
      | inl failed ↦ inl (omega (arith, failed, h.outlasts))
      | inr interrupted ↦ inr (interrupted.0, omega (arith, interrupted.1, h.all))
    ];
    within = omega (arith, h.over, h.patient, k.within);
    outlasts = tt;
    over = tt;
    patient = tt;
    all = omega (arith, h.all, k.all);
  }

  pub outlasts_on : (old mid new : V) → Outlasts troubles old mid → Outlasts troubles mid new → Outlasts troubles old new
  outlasts_on old mid new h k = troubles_after {T = Unit {0}} {F = WriteFault} (Ok tt) old mid new h k

  pub outlasted_writes : {F : Type 0} (r : Result (Unit {0}) F) (old new : V) → is_err r ≡ false → TellsTroubles troubles r old new
      → Outlasts troubles old new
  outlasted_writes (Ok u) old new e h = h
  outlasted_writes (Err f) old new e h = absurd (false≢true (sym e))
