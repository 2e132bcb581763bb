-- Consequences of what holds of a result.
use Rattle.std.specs.Prelude.{Result, Ok, Err, IfOk, OnOk, OnErr}

module _ {A E : Type 0} where
  pub if_ok_map : {P Q : A → Type 0} (r : Result A E) → IfOk r P → ((x : A) → P x → Q x) → IfOk r Q
  if_ok_map (Ok x) h f = f x h
  if_ok_map (Err e) h f = tt

  pub on_ok_map : {P Q : Type 0} (r : Result A E) → OnOk r P → (P → Q) → OnOk r Q
  on_ok_map (Ok x) h f = f h
  on_ok_map (Err e) h f = tt

  pub on_err_map : {P Q : Type 0} (r : Result A E) → OnErr r P → (P → Q) → OnErr r Q
  on_err_map (Ok x) h f = tt
  on_err_map (Err e) h f = f h
