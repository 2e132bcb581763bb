-- If the front of a text shows that no argument begins there, there is none.
use Rattle.std.proofs.Common.{◌≡◌, ℕ, zero, suc, List, [], ◌∷◌, length, None, Ok, refl}
use Rattle.sieve_syntax.specs.declared.token.TokenKind.{TokenKind}
use Rattle.sieve_syntax.specs.declared.token.TokenKind.TheVariants as kinds
use Rattle.sieve_text.specs.Reading.{many_at, argument_at, arguments_at}

pub name_no_argument : (ts rest : List TokenKind) (name : List ℕ) → ts ≡ kinds.Identifier name ∷ rest → argument_at ts ≡ Ok None
unfolding argument_at
name_no_argument ts rest name e = rw e refl

pub no_arguments : (ts : List TokenKind) → argument_at ts ≡ Ok None → arguments_at ts ≡ Ok ([], ts)
unfolding arguments_at many_at
no_arguments ts e = from (length ts)
  where
    from : (n : ℕ) → many_at argument_at n ts ≡ Ok ([], ts)
    from zero = refl
    from (suc n) = rw e refl
