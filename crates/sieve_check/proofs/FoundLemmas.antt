-- What is gathered piece by piece is what the rules say of all pieces.
use Rattle.std.proofs.Common.{◌≡◌, ℕ, suc, ◌+◌, Bool, true, false, cond, List, [], ◌∷◌, drop, refl, ap, ◌∙◌, sym, arith}
use Rattle.std.specs.Prelude.{◌||◌, ◌&&◌, not, Some, None}
use Rattle.std.proofs.Math.Bool.{or_assoc, or-false}
use Rattle.std.proofs.lemmas.Bool.{or_from}
use Rattle.std.specs.List.{list_any, prefix_len}
use Rattle.sieve_check.specs.declared.table.Capability.{Capability}
use Rattle.sieve_check.specs.declared.table.TagKind.{TagKind}
use Rattle.sieve_check.specs.declared.findings.Findings.{Findings}
use Rattle.sieve_check.specs.Tables.{TagWord, WordForm}
use Rattle.sieve_check.specs.Pieces.{PieceWord, tagged, positional, is_tagged}
use Rattle.sieve_check.specs.Rules.{has_kind, stands_twice, has_tag_twice, same_kind, tag_after}
use Rattle.sieve_check.specs.Findings.{no_findings, findings_with, findings_in}

-- a finding that each piece adds to by itself
pub any_found : (has : Capability → Bool) (get : Findings → Bool) (test : PieceWord → Bool)
    → ((f : Findings) (p : PieceWord) → get (findings_with has f p) ≡ (get f || test p))
    → (f : Findings) (ps : List PieceWord) → get (findings_in has f ps) ≡ (get f || list_any test ps)
any_found has get test turn f [] = sym (or-false (get f))
any_found has get test turn f (p ∷ ps) = any_found has get test turn (findings_with has f p) ps
    ∙ ap (λ (b : Bool). b || list_any test ps) (turn f p) ∙ or_assoc (get f) (test p) (list_any test ps)

-- whether a tag comes after a positional argument; the flag says whether one came before these pieces
after_from : Bool → List PieceWord → Bool
after_from true ps = list_any is_tagged ps
after_from false ps = tag_after ps

one_more : (n : ℕ) → suc n ≡ 1 + n
one_more n = omega arith

after_turn : (b q : Bool) (p : PieceWord) (ps : List PieceWord)
    → ((b || (q && is_tagged p)) || after_from (q || not (is_tagged p)) ps) ≡ (b || after_from q (p ∷ ps))
unfolding after_from
after_turn false false (tagged w c) ps = ap (λ (n : ℕ). list_any is_tagged (drop n (tagged w c ∷ ps))) (one_more (prefix_len is_tagged ps))
after_turn b q p ps = refl

nothing_after : (b q : Bool) → b ≡ (b || after_from q [])
unfolding after_from
nothing_after true q = refl
nothing_after false true = refl
nothing_after false false = refl

after_found : (has : Capability → Bool) (f : Findings) (ps : List PieceWord)
    → (findings_in has f ps).late_tag ≡ (f.late_tag || after_from f.positional ps)
after_found has f [] = nothing_after f.late_tag f.positional
after_found has f (p ∷ ps) = after_found has (findings_with has f p) ps ∙ after_turn f.late_tag f.positional p ps

pub tag_after_found : (has : Capability → Bool) (ps : List PieceWord) → (findings_in has no_findings ps).late_tag ≡ tag_after ps
unfolding after_from
tag_after_found has ps = after_found has no_findings ps

-- whether there is a second tag; the flag says whether one came before these pieces
second_from : Bool → List PieceWord → Bool
second_from true ps = list_any is_tagged ps
second_from false [] = false
second_from false (p ∷ ps) = second_from (is_tagged p) ps

second_turn : (b q : Bool) (p : PieceWord) (ps : List PieceWord)
    → ((b || (q && is_tagged p)) || second_from (q || is_tagged p) ps) ≡ (b || second_from q (p ∷ ps))
unfolding second_from
second_turn true q p ps = refl
second_turn false true p ps = refl
second_turn false false p ps = refl

nothing_second : (b q : Bool) → b ≡ (b || second_from q [])
unfolding second_from
nothing_second true q = refl
nothing_second false true = refl
nothing_second false false = refl

second_found : (has : Capability → Bool) (f : Findings) (ps : List PieceWord) → (findings_in has f ps).two_tags ≡ (f.two_tags || second_from f.tag ps)
second_found has f [] = nothing_second f.two_tags f.tag
second_found has f (p ∷ ps) = second_found has (findings_with has f p) ps ∙ second_turn f.two_tags f.tag p ps

-- where there is no tag there is none of a kind
no_kind : (k : TagKind) (ps : List PieceWord) → list_any is_tagged ps ≡ false → list_any (has_kind k) ps ≡ false
no_kind k [] none = refl
no_kind k (tagged w c ∷ ps) none = absurd cc
no_kind k (positional a ∷ ps) none = no_kind k ps none

both_false : (b x y : Bool) → x ≡ false → y ≡ false → cond b x y ≡ false
both_false true x y p q = p
both_false false x y p q = q

no_tag_twice : (k : TagKind) (ps : List PieceWord) → list_any is_tagged ps ≡ false → stands_twice k ps ≡ false
no_tag_twice k [] none = refl
no_tag_twice k (tagged w c ∷ ps) none = absurd cc
no_tag_twice k (positional a ∷ ps) none = no_tag_twice k ps none

once_at_most : (k : TagKind) (ps : List PieceWord) → second_from false ps ≡ false → stands_twice k ps ≡ false
unfolding second_from
once_at_most k [] none = refl
once_at_most k (tagged None c ∷ ps) none = no_tag_twice k ps none
once_at_most k (tagged (Some w) c ∷ ps) none =
    both_false (same_kind k w.kind) (list_any (has_kind k) ps) (stands_twice k ps) (no_kind k ps none)
    (no_tag_twice k ps none)
once_at_most k (positional a ∷ ps) none = once_at_most k ps none

none_twice : (tags : List TagWord) (ps : List PieceWord) → ((k : TagKind) → stands_twice k ps ≡ false)
    → list_any (λ w. stands_twice w.kind ps) tags ≡ false
none_twice [] ps none = refl
none_twice (w ∷ ws) ps none = or_from (stands_twice w.kind ps) (list_any (λ w. stands_twice w.kind ps) ws) (none w.kind) (none_twice ws ps none)

pub two_tags_found : (has : Capability → Bool) (form : WordForm) (ps : List PieceWord)
    → (findings_in has no_findings ps).two_tags ≡ false → has_tag_twice form ps ≡ false
two_tags_found has form ps none = none_twice form.tags ps (λ k. once_at_most k ps (sym (second_found has no_findings ps) ∙ none))
