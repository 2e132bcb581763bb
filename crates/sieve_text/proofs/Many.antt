-- The steps of a loop that reads things for as long as there are some.
use Rattle.std.proofs.Common.{◌≡◌, ℕ, zero, suc, ◌≤◌, ◌<◌, List, [], ◌∷◌, ◌++◌, length, Option, Some, None, Result, Ok}
use Rattle.std.proofs.Common.{Err, refl, sym, ap, ◌∙◌, append_assoc, arith}
use Rattle.std.proofs.lemmas.List.{append-nil, nil_from_length}
use Rattle.sieve_syntax.specs.declared.token.TokenKind.{TokenKind}
use Rattle.sieve_text.specs.declared.parser.stop.Misfit.{Misfit}
use Rattle.sieve_text.specs.declared.parser.stop.Stop.{Stop}
use Rattle.sieve_text.specs.declared.parser.stop.Stop.TheVariants.{NoMemory, Refused}
use Rattle.sieve_text.specs.Reading.{◌>>=◌, Fails, Tries, many_at, with_before}

after_none : {A : Type 0} (r : Result (List A × List TokenKind) Misfit) → with_before [] r ≡ r
after_none (Ok x) = refl
after_none (Err e) = refl

after_push : {A : Type 0} (before : List A) (a : A) (r : Result (List A × List TokenKind) Misfit)
    → with_before before (r >>= λ x. Ok (a ∷ x.0, x.1)) ≡ with_before (before ++ a ∷ []) r
after_push before a (Ok x) = ap (λ (y : List _). Ok (y, x.1)) (sym (append_assoc before (a ∷ []) x.0))
after_push before a (Err e) = refl

-- what is read so far and what is left to read make the whole, for some bound that is enough
pub record GoesOn {A : Type 0} (read : Tries A) (before : List A) (rest : List TokenKind) (whole : Result (List A
    × List TokenKind) Misfit) : Type 0 where
  pub turns : ℕ
  pub enough : length rest ≤ turns
  pub same : with_before before (many_at read turns rest) ≡ whole

pub goes_on_first : {A : Type 0} (read : Tries A) (ts : List TokenKind) → GoesOn read [] ts (many_at read (length ts) ts)
goes_on_first read ts = record { turns = length ts; enough = omega arith; same = after_none (many_at read (length ts) ts) }

pub goes_on_more : {A : Type 0} (read : Tries A) (before : List A) (rest after : List TokenKind) (a : A)
    (whole : Result (List A × List TokenKind) Misfit) → GoesOn read before rest whole → read rest ≡ Ok (Some (a, after))
    → length after < length rest → GoesOn read (before ++ a ∷ []) after whole
unfolding many_at
goes_on_more {A} read before rest after a whole h e l = from h.turns refl
  where
    turn : (n : ℕ) → with_before before (many_at read (suc n) rest) ≡ with_before (before ++ a ∷ []) (many_at read n after)
    turn n = rw e (after_push before a (many_at read n after))

    from : (n : ℕ) → n ≡ h.turns → GoesOn read (before ++ a ∷ []) after whole
    from zero is = absurd (omega (arith, h.enough))
    from (suc n) is = record { turns = n; enough = omega (arith, h.enough); same = sym (turn n) ∙ (rw (← is) at h.same) }

pub goes_on_ends : {A : Type 0} (read : Tries A) (before : List A) (rest : List TokenKind) (whole : Result (List A
    × List TokenKind) Misfit) → GoesOn read before rest whole → read rest ≡ Ok None → whole ≡ Ok (before, rest)
unfolding many_at
goes_on_ends {A} read before rest whole h e = sym h.same ∙ from h.turns
  where
    from : (n : ℕ) → with_before before (many_at read n rest) ≡ Ok (before, rest)
    from zero = ap (λ (y : List A). Ok (y, rest)) (append-nil before)
    from (suc n) = rw e (ap (λ (y : List A). Ok (y, rest)) (append-nil before))

pub goes_on_fails : {A : Type 0} (stop : Stop) (read : Tries A) (before : List A) (rest : List TokenKind)
    (whole : Result (List A × List TokenKind) Misfit) → read [] ≡ Ok None → GoesOn read before rest whole
    → Fails stop (read rest) → Fails stop whole
unfolding many_at
goes_on_fails NoMemory read before rest whole none h f = tt
goes_on_fails {A} (Refused misfit left) read before rest whole none h f = sym h.same ∙ from h.turns refl
  where
    clash : rest ≡ [] → ⊥
    clash e = let one : read [] ≡ Err misfit = rw e at f in
        let two : ◌≡◌ {A = Result (Option (A × List TokenKind)) Misfit} (Ok None) (Err misfit) = sym none ∙ one in cc

    from : (n : ℕ) → n ≡ h.turns → with_before before (many_at read n rest) ≡ Err misfit
    from zero is = absurd (clash (nil_from_length rest (omega (arith, h.enough))))
    from (suc n) is = rw f refl
