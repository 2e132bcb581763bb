-- What holds of the states at the beginnings of flights, as flights are added, granted turns, found and removed.
use Rattle.std.proofs.Common.{◌≡◌, ℕ, List, [], ◌∷◌, ◌++◌, subst, eqb, true, false, Some}
use Rattle.std.specs.Prelude.{◌+◌, if◌then◌else◌}
use Rattle.std.specs.List.{AllByRecursion}
use Rattle.desk_commands.specs.Pinning.{BeginState}
use Rattle.desk_commands.specs.Standing.{Flight, flight_of, grant, without}

module _ (P : BeginState → Type 0) where
  abbrev pub AllStood : List Flight → Type 0
  AllStood fs = AllByRecursion (λ (f : Flight). P f.at_begin) fs

  pub stood_append : (fs : List Flight) (f : Flight) → AllStood fs → P f.at_begin → AllStood (fs ++ f ∷ [])
  stood_append [] f all one = (one, tt)
  stood_append (g ∷ fs) f all one = (all.0, stood_append fs f all.1 one)

  pub stood_grant : (t k : ℕ) (fs : List Flight) → AllStood fs → AllStood (grant t k fs)
  stood_grant t k [] all = tt
  stood_grant t k (f ∷ fs) all =
      let rest = stood_grant t k fs all.1 in
      elim (eqb f.ticket t) as (λ b.
      AllStood (if b then record f { granted = f.granted + k } ∷ fs else f ∷ grant t k fs)) [
        | true ↦ all
        | false ↦ (all.0, rest)
      ]

  pub stood_without : (t : ℕ) (fs : List Flight) → AllStood fs → AllStood (without t fs)
  stood_without t [] all = tt
  stood_without t (f ∷ fs) all =
      let rest = stood_without t fs all.1 in
      elim (eqb f.ticket t) as (λ b. AllStood (if b then fs else f ∷ without t fs)) [ true ↦ all.1 | false ↦ (all.0, rest) ]

  pub stood_flight : (t : ℕ) (fs : List Flight) (f : Flight) → flight_of t fs ≡ Some f → AllStood fs → P f.at_begin
  stood_flight t [] f e all = absurd cc
  stood_flight t (g ∷ fs) f e all =
      (elim (eqb g.ticket t) as (λ b. (if b then Some g else flight_of t fs) ≡ Some f → P f.at_begin) [
        | true ↦ λ same. let is : g ≡ f = cc in subst (λ (h : Flight). P h.at_begin) is all.0
        | false ↦ λ later. stood_flight t fs f later all.1
      ]) e
