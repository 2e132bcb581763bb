-- What is so of volumes, one after another from the last one down.
use Rattle.std.proofs.Common.{◌≡◌, ◌<◌, ◌≤◌, ◌+◌, ℕ, Bool, true, false, arith, refl, subst}
use Rattle.std.specs.Prelude.{nat_lt}
use Rattle.std.proofs.lemmas.Bool.Decides.{nat_tests}
use Rattle.cli_tasks.specs.Works.{EachVolume}

module _ (Holds : (volume : ℕ) → Type 0) where
  -- so many volumes are so, up to the last one
  abbrev pub FromLast : (last later : ℕ) → Type 0
  FromLast last later = (v : ℕ) → last < v + later → v ≤ last → Holds v

  pub none_from_last : (last : ℕ) → FromLast last 0
  none_from_last last v less within = let no : ⊥ = omega (arith, less, within) in absurd no

  pub more_from_last : (last later volume : ℕ) → volume + later ≡ last → Holds volume → FromLast last later → FromLast last (later + 1)
  more_from_last last later volume at holds above v less within = go (nat_lt last (v + later)) refl
    where
      go : (b : Bool) → nat_lt last (v + later) ≡ b → Holds v
      go true is = above v (grind (arith, nat_tests, is)) within
      go false is =
          let high : v + later ≤ last = grind (arith, nat_tests, is) in
          let same : volume ≡ v = omega (arith, at, less, high) in
          subst Holds same holds

  -- and so each is
  pub each_from_last : (last : ℕ) → FromLast last last → EachVolume last Holds
  each_from_last last above k less = above (k + 1) (omega (arith, less)) (omega (arith, less))
