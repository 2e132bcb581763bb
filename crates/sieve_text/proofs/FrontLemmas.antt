-- A name or a mark that a text begins with is its first token.
use Rattle.std.proofs.Common.{◌≡◌, ℕ, true, false, List, [], ◌∷◌, take, drop, get_or, Option, Some, None, Ok, refl, sym}
use Rattle.std.specs.Prelude.{IfSome}
use Rattle.std.specs.List.{prefix_len}
use Rattle.std.proofs.lemmas.Bool.{false≢true}
use Rattle.sieve_syntax.specs.declared.token.Mark.{Mark}
use Rattle.sieve_syntax.specs.declared.token.TokenKind.{TokenKind}
use Rattle.sieve_syntax.specs.declared.token.TokenKind.TheVariants as kinds
use Rattle.sieve_text.specs.Octets.{is_start, is_word}
use Rattle.sieve_text.specs.Gaps.{gap_len}
use Rattle.sieve_text.specs.Strings.{begins_text}
use Rattle.sieve_text.specs.Lexemes.{kinds_in}
use Rattle.sieve_text.specs.Tokens.{mark_of, kind_at}
use Rattle.sieve_text.proofs.FaultFound.{plain_gap, start_first}
use Rattle.sieve_text.proofs.LexemeLemmas.{first_in}
use Rattle.sieve_text.proofs.MarkLemmas.{mark_in}

name_kind : (b : ℕ) (bs : List ℕ) → begins_text (b ∷ bs) ≡ false → is_start b ≡ true
    → kind_at (b ∷ bs) ≡ Ok (
      kinds.Identifier (take (prefix_len is_word (b ∷ bs)) (b ∷ bs)),
      prefix_len is_word (b ∷ bs),
    )
unfolding kind_at
name_kind b bs t s = rw (t, s) refl

name_in : (b : ℕ) (bs : List ℕ) → is_start b ≡ true → begins_text (b ∷ bs) ≡ false → (name : List ℕ)
    × (rest : List TokenKind) × (kinds_in (b ∷ bs) ≡ kinds.Identifier name ∷ rest)
name_in b bs s t =
    let n : ℕ = prefix_len is_word (b ∷ bs) in
    let name : List ℕ = take n (b ∷ bs) in
    let g = plain_gap is_start start_first b bs s in
    let read : kind_at (drop (gap_len 0 (b ∷ bs)) (b ∷ bs)) ≡ Ok (kinds.Identifier name, n) = rw g (name_kind b bs t s) in
    (name, kinds_in (drop n (drop (gap_len 0 (b ∷ bs)) (b ∷ bs))), first_in (b ∷ bs) (kinds.Identifier name, n) read)

no_octet : (m : Mark) → ◌≡◌ {A = Option Mark} (Some m) None → ⊥
no_octet m e = cc

pub name_first : (bs : List ℕ) → is_start (get_or bs 0 0) ≡ true → begins_text bs ≡ false → (name : List ℕ)
    × (rest : List TokenKind) × (kinds_in bs ≡ kinds.Identifier name ∷ rest)
name_first [] s t = absurd (false≢true s)
name_first (b ∷ bs) s t = name_in b bs s t

pub mark_first_in : (bs : List ℕ) (o : Option Mark) → o ≡ mark_of (get_or bs 0 0)
    → IfSome o (λ m. (rest : List TokenKind) × (kinds_in bs ≡ kinds.Mark m ∷ rest))
mark_first_in bs None e = tt
mark_first_in [] (Some m) e = absurd (no_octet m e)
mark_first_in (b ∷ bs) (Some m) e = (kinds_in bs, mark_in b bs m (sym e))
