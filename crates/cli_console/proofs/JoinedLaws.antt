-- What one store after another comes to where nothing is refused.
use Rattle.std.proofs.Common.{◌≡◌, ◌∙◌, ◌||◌, ℕ, Bool, true, false, not, true≢false, ap, refl, subst, sym, List, []}
use Rattle.std.specs.Prelude.{Ok, Err, Result, OnOk, is_ok}
use Rattle.std.proofs.lemmas.Bool.{false≢true}
use Rattle.cli_console.specs.Failures.{GoesOn, GoesOnAfter, lets_go_on, refused_after}
use Rattle.cli_console.specs.Finds.{IsEndOf}
use Rattle.cli_console.specs.declared.failure.Failure.{Failure}

-- ---- what is so where something ends well

pub if_well : {T E P : Type 0} (r : Result T E) → (is_ok r ≡ true → P) → OnOk r P
if_well (Ok x) h = h refl
if_well (Err e) h = tt

pub well_so : {T E P : Type 0} (r : Result T E) → OnOk r P → is_ok r ≡ true → P
well_so (Ok x) p well = p
well_so (Err e) p well = absurd (false≢true well)

-- ---- what is joined

pub not_refused : (b : Bool) → not b ≡ true → b ≡ false
not_refused true e = sym e
not_refused false e = refl

-- a store that lets the others go on, where nothing is refused after it, came to a good end, and nothing was refused before it
pub none_refused : (was now : Bool) (done going : Result (Unit {0}) Failure) → now ≡ refused_after was done → GoesOn done going
    → is_ok going ≡ true → now ≡ false → (was ≡ false) × (is_ok done ≡ true)
none_refused was now (Ok x) going is on well none = (sym is ∙ none, refl)
none_refused was now (Err failure) going is on well none = go (lets_go_on failure) refl
  where
    go : (b : Bool) → lets_go_on failure ≡ b → (was ≡ false) × (false ≡ true)
    go true e = absurd (true≢false (ap (λ b. b || was) (sym e) ∙ sym is ∙ none))
    go false e =
        let ended : going ≡ Err failure = subst (λ b. GoesOnAfter failure b going) e on in
        absurd (false≢true (ap is_ok (sym ended) ∙ well))

-- a search that ends well misses no number
pub none_missing : (missing : List ℕ) (result : Result (Unit {0}) Failure) → IsEndOf missing result → is_ok result ≡ true → missing ≡ []
none_missing missing (Ok done) end well = end
none_missing missing (Err failure) end well = absurd (false≢true well)
