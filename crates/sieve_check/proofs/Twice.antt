-- A kind occurs twice exactly if it occurs again after its first piece.
use Rattle.std.proofs.Common.{◌≡◌, ℕ, suc, ◌+◌, Bool, true, false, cond, List, [], ◌∷◌, drop, refl, ap, ◌∙◌, sym, arith}
use Rattle.std.specs.Prelude.{not}
use Rattle.std.specs.List.{list_any, prefix_len}
use Rattle.sieve_check.specs.declared.table.TagKind.{TagKind}
use Rattle.sieve_check.specs.Pieces.{PieceWord}
use Rattle.sieve_check.specs.Rules.{has_kind, stands_twice}

one-more : (n : ℕ) → 1 + n ≡ suc n
one-more n = omega arith

at_head : (k : TagKind) (p : PieceWord) (ps : List PieceWord) (n : ℕ) (b : Bool)
    → stands_twice k ps ≡ list_any (has_kind k) (drop 1 (drop n ps))
    → cond b (list_any (has_kind k) ps) (stands_twice k ps)
    ≡ list_any (has_kind k) (drop 1 (drop (cond (not b) (1 + n) 0) (p ∷ ps)))
at_head k p ps n true h = refl
at_head k p ps n false h = h ∙ ap (λ (m : ℕ). list_any (has_kind k) (drop 1 (drop m (p ∷ ps)))) (sym (one-more n))

pub stands_twice_is : (k : TagKind) (ps : List PieceWord)
    → stands_twice k ps ≡ list_any (has_kind k) (drop 1 (drop (prefix_len (λ p. not (has_kind k p)) ps) ps))
stands_twice_is k [] = refl
stands_twice_is k (p ∷ ps) = at_head k p ps (prefix_len (λ q. not (has_kind k q)) ps) (has_kind k p) (stands_twice_is k ps)
