-- The tokens that are read one after another are those of the text.
use Rattle.std.proofs.Common.{◌≡◌, ℕ, zero, suc, ◌+◌, ◌<◌, ◌≤◌, ◌⊎◌, Bool, true, false, List, [], ◌∷◌, length, drop}
use Rattle.std.proofs.Common.{nat_lt, Option, Some, None, Result, Ok, Err, refl, sym, ap, ◌∙◌, arith, inl, inr}
use Rattle.std.specs.Prelude.{if◌then◌else◌}
use Rattle.std.proofs.lemmas.Bool.{ltb-true}
use Rattle.std.proofs.lemmas.List.{length-drop, drop_all}
use Rattle.sieve_syntax.specs.declared.token.Token.{Token}
use Rattle.sieve_syntax.specs.declared.token.TokenKind.{TokenKind}
use Rattle.sieve_text.specs.declared.fault.ScanRefusal.{ScanRefusal}
use Rattle.sieve_text.specs.declared.fault.ScanRefusal.TheVariants.{NoToken}
use Rattle.sieve_text.specs.Gaps.{gap_len}
use Rattle.sieve_text.specs.Grammar.{kinds}
use Rattle.sieve_text.specs.Lexemes.{first_and, kinds_within, kinds_in, left_after, left_within, left_in}
use Rattle.sieve_text.specs.Tokens.{kind_at, token_at, Reads, IsSound, IsScan, IsFaulty, ◌>>=◌}
use Rattle.sieve_text.proofs.ScanLemmas.{some_verdict, sound_once}
use Rattle.sieve_text.proofs.KindLemmas.{read_as}
use Rattle.sieve_text.proofs.GapLemmas.{drop_more}
use Rattle.sieve_text.proofs.WithinLemmas.{kind_within, token_parts, token_within, ends_at}

shorter_after : (bs : List ℕ) (k : TokenKind × ℕ) → kind_at bs ≡ Ok k → length (drop k.1 bs) < length bs
shorter_after bs k e = let w = kind_within bs k e in let d = length-drop k.1 bs in omega arith

first_same : (f g : List ℕ → List TokenKind) (bs : List ℕ) (read : Result (TokenKind × ℕ) ScanRefusal)
    → ((k : TokenKind × ℕ) → read ≡ Ok k → f (drop k.1 bs) ≡ g (drop k.1 bs))
    → first_and f bs read ≡ first_and g bs read
first_same f g bs (Ok k) h = ap (λ (ts : List TokenKind). k.0 ∷ ts) (h k refl)
first_same f g bs (Err refusal) h = refl

nothing_in : (n : ℕ) → kinds_within n [] ≡ []
unfolding kinds_within kind_at gap_len
nothing_in zero = refl
nothing_in (suc n) = refl

-- a bound that is enough is as good as another
enough : (m n : ℕ) (bs : List ℕ) → length bs ≤ m → length bs ≤ n → kinds_within m bs ≡ kinds_within n bs
unfolding kinds_within
enough m n [] h l = nothing_in m ∙ sym (nothing_in n)
enough zero n (b ∷ bs) h l = absurd (omega arith)
enough (suc m) zero (b ∷ bs) h l = absurd (omega arith)
enough (suc m) (suc n) (b ∷ bs) h l =
    let rest : List ℕ = drop (gap_len 0 (b ∷ bs)) (b ∷ bs) in
    let d = length-drop (gap_len 0 (b ∷ bs)) (b ∷ bs) in
    first_same (kinds_within m) (kinds_within n) rest (kind_at rest) (λ (k : TokenKind × ℕ) (e : kind_at rest ≡ Ok k).
    let s = shorter_after rest k e in enough m n (drop k.1 rest) (omega arith) (omega arith))

first_within : (m : ℕ) (bs : List ℕ) (k : TokenKind × ℕ) → length bs ≤ m → kind_at (drop (gap_len 0 bs) bs) ≡ Ok k
    → kinds_within m bs ≡ k.0 ∷ kinds_in (drop k.1 (drop (gap_len 0 bs) bs))
unfolding kinds_within
first_within zero bs k h e =
    let s = shorter_after (drop (gap_len 0 bs) bs) k e in
    let d = length-drop (gap_len 0 bs) bs in
    absurd (omega arith)
first_within (suc m) bs k h e =
    let rest : List ℕ = drop (gap_len 0 bs) bs in
    let s = shorter_after rest k e in
    let d = length-drop (gap_len 0 bs) bs in
    rw e (ap (λ (ts : List TokenKind). k.0 ∷ ts) (enough m (length (drop k.1 rest)) (drop k.1 rest) (omega arith) (omega arith)))

-- a token that comes first after a gap
pub first_in : (bs : List ℕ) (k : TokenKind × ℕ) → kind_at (drop (gap_len 0 bs) bs) ≡ Ok k
    → kinds_in bs ≡ k.0 ∷ kinds_in (drop k.1 (drop (gap_len 0 bs) bs))
first_in bs k e = first_within (length bs) bs k (omega arith) e

none_within : (m : ℕ) (bs : List ℕ) (refusal : ScanRefusal) → kind_at (drop (gap_len 0 bs) bs) ≡ Err refusal → kinds_within m bs ≡ []
unfolding kinds_within
none_within zero bs refusal e = refl
none_within (suc m) bs refusal e = rw e refl

-- no token comes there
pub none_in : (bs : List ℕ) (refusal : ScanRefusal) → kind_at (drop (gap_len 0 bs) bs) ≡ Err refusal → kinds_in bs ≡ []
none_in bs refusal e = none_within (length bs) bs refusal e

no_kind_here : kind_at [] ≡ Err NoToken
unfolding kind_at
no_kind_here = refl

nothing_at_end : (script : List ℕ) (at : ℕ) → length script ≤ at + gap_len 0 (drop at script) → kinds_in (drop at script) ≡ []
nothing_at_end script at h =
    let all : drop (gap_len 0 (drop at script)) (drop at script) ≡ [] =
    drop_all (gap_len 0 (drop at script)) (drop at script) (let d = length-drop at script in omega arith) in
    none_in (drop at script) NoToken (rw all no_kind_here)

same_list : (k : TokenKind) (j : TokenKind) (xs ys : List TokenKind) → j ≡ k → xs ≡ ys → j ∷ xs ≡ k ∷ ys
same_list k j xs ys e f = cc

-- the tokens of a script are those that are read of it
read_from : (script : List ℕ) (at : ℕ) (ts : List Token) (end : ℕ) → at ≤ length script → Reads script at ts end
    → token_at script end ≡ Ok None → kinds ts ≡ kinds_in (drop at script)
read_from script at [] end w h e = sym (nothing_at_end script at (ends_at script at (rw h e)))
read_from script at (t ∷ ts) end w h e =
    let p = token_parts script at t h.0 in
    let i = token_within script at t w h.0 in
    let gap : ℕ = gap_len 0 (drop at script) in
    let start : drop t.start script ≡ drop gap (drop at script) = ap (λ (n : ℕ). drop n script) p.begins ∙ drop_more at gap script in
    let following : drop t.end script ≡ drop p.kind.1 (drop gap (drop at script)) = ap (λ (n : ℕ). drop n script) p.ends
    ∙ drop_more t.start p.kind.1 script ∙ ap (λ (bs : List ℕ). drop p.kind.1 bs) start in
    let first = first_in (drop at script) p.kind (ap kind_at (sym start) ∙ p.read) in
    let rest = read_from script t.end ts end (omega (arith, i.2)) h.1 e in
    same_list p.kind.0 t.kind (kinds ts) (kinds_in (drop p.kind.1 (drop gap (drop at script)))) p.says (rest ∙ ap kinds_in following) ∙ sym first

pub read_all : (script : List ℕ) (ts : List Token) → IsScan script ts → kinds ts ≡ kinds_in script
read_all script ts h = read_from script 0 ts h.1.0 (omega arith) h.1.1 h.1.2

left_nothing : (n : ℕ) → left_within n [] ≡ []
unfolding left_within kind_at gap_len
left_nothing zero = refl
left_nothing (suc n) = refl

left_same : (f g : List ℕ → List ℕ) (bs : List ℕ) (read : Result (TokenKind × ℕ) ScanRefusal)
    → ((k : TokenKind × ℕ) → read ≡ Ok k → f (drop k.1 bs) ≡ g (drop k.1 bs))
    → left_after f bs read ≡ left_after g bs read
left_same f g bs (Ok k) h = h k refl
left_same f g bs (Err refusal) h = refl

left_enough : (m n : ℕ) (bs : List ℕ) → length bs ≤ m → length bs ≤ n → left_within m bs ≡ left_within n bs
unfolding left_within
left_enough m n [] h l = left_nothing m ∙ sym (left_nothing n)
left_enough zero n (b ∷ bs) h l = absurd (omega arith)
left_enough (suc m) zero (b ∷ bs) h l = absurd (omega arith)
left_enough (suc m) (suc n) (b ∷ bs) h l =
    let rest : List ℕ = drop (gap_len 0 (b ∷ bs)) (b ∷ bs) in
    let d = length-drop (gap_len 0 (b ∷ bs)) (b ∷ bs) in
    left_same (left_within m) (left_within n) rest (kind_at rest) (λ (k : TokenKind × ℕ) (e : kind_at rest ≡ Ok k).
    let s = shorter_after rest k e in left_enough m n (drop k.1 rest) (omega arith) (omega arith))

left_first_within : (m : ℕ) (bs : List ℕ) (k : TokenKind × ℕ) → length bs ≤ m → kind_at (drop (gap_len 0 bs) bs) ≡ Ok k
    → left_within m bs ≡ left_in (drop k.1 (drop (gap_len 0 bs) bs))
unfolding left_within
left_first_within zero bs k h e =
    let s = shorter_after (drop (gap_len 0 bs) bs) k e in
    let d = length-drop (gap_len 0 bs) bs in
    absurd (omega arith)
left_first_within (suc m) bs k h e =
    let rest : List ℕ = drop (gap_len 0 bs) bs in
    let s = shorter_after rest k e in
    let d = length-drop (gap_len 0 bs) bs in
    rw e (left_enough m (length (drop k.1 rest)) (drop k.1 rest) (omega arith) (omega arith))

-- what is left after a first token
pub left_first : (bs : List ℕ) (k : TokenKind × ℕ) → kind_at (drop (gap_len 0 bs) bs) ≡ Ok k
    → left_in bs ≡ left_in (drop k.1 (drop (gap_len 0 bs) bs))
left_first bs k e = left_first_within (length bs) bs k (omega arith) e

left_none_within : (m : ℕ) (bs : List ℕ) (refusal : ScanRefusal) → kind_at (drop (gap_len 0 bs) bs) ≡ Err refusal
    → left_within (suc m) bs ≡ drop (gap_len 0 bs) bs
unfolding left_within
left_none_within m bs refusal e = rw e refl

-- what is left if no token comes first
pub left_none : (bs : List ℕ) (refusal : ScanRefusal) → kind_at (drop (gap_len 0 bs) bs) ≡ Err refusal → left_in bs ≡ drop (gap_len 0 bs) bs
left_none bs refusal e = left_enough (length bs) (suc (length bs)) bs (omega arith) (omega arith) ∙ left_none_within (length bs) bs refusal e

-- what is left of a script is what is left after some of its tokens
left_from : (script : List ℕ) (at : ℕ) (ts : List Token) (end : ℕ) → at ≤ length script → Reads script at ts end
    → left_in (drop at script) ≡ left_in (drop end script)
left_from script at [] end w h = ap (λ (n : ℕ). left_in (drop n script)) h
left_from script at (t ∷ ts) end w h =
    let p = token_parts script at t h.0 in
    let i = token_within script at t w h.0 in
    let gap : ℕ = gap_len 0 (drop at script) in
    let start : drop t.start script ≡ drop gap (drop at script) = ap (λ (n : ℕ). drop n script) p.begins ∙ drop_more at gap script in
    let following : drop t.end script ≡ drop p.kind.1 (drop gap (drop at script)) = ap (λ (n : ℕ). drop n script) p.ends
    ∙ drop_more t.start p.kind.1 script ∙ ap (λ (bs : List ℕ). drop p.kind.1 bs) start in
    let first = left_first (drop at script) p.kind (ap kind_at (sym start) ∙ p.read) in
    first ∙ ap left_in (sym following) ∙ left_from script t.end ts end (omega (arith, i.2)) h.1

abbrev fault_as : ScanRefusal → Result (Option Token) ScanRefusal
fault_as r = Err r

-- where a faulty place is found the script has not ended
fails_at : (script : List ℕ) (at : ℕ) (refusal : ScanRefusal) → token_at script at ≡ Err refusal
    → (at + gap_len 0 (drop at script) < length script)
    × (kind_at (drop (at + gap_len 0 (drop at script)) script) ≡ Err refusal)
unfolding token_at
fails_at script at refusal e = go (nat_lt start (length script)) refl (kind_at (drop start script)) refl e
  where
    start : ℕ
    start = at + gap_len 0 (drop at script)

    made : TokenKind × ℕ → Result (Option Token) ScanRefusal
    made k = Ok (Some (record { kind = k.0; start = start; end = start + k.1 }))

    none : read_as {A = Option Token} None ≡ Err refusal → ⊥
    none f = cc

    some : (t : Token) → read_as {A = Option Token} (Some t) ≡ Err refusal → ⊥
    some t f = cc

    same : (r : ScanRefusal) → fault_as r ≡ fault_as refusal → r ≡ refusal
    same r f = cc

    go : (t : Bool) → nat_lt start (length script) ≡ t → (x : Result (TokenKind × ℕ) ScanRefusal)
        → kind_at (drop start script) ≡ x → (if t then (x >>= made) else Ok None) ≡ Err refusal
        → (start < length script) × (kind_at (drop start script) ≡ Err refusal)
    go false b x k f = absurd (none f)
    go true b (Ok y) k f = absurd (some (record { kind = y.0; start = start; end = start + y.1 }) f)
    go true b (Err r) k f = (ltb-true start (length script) b, k ∙ ap (λ (q : ScanRefusal). Err q) (same r f))

-- a script of which nothing is left is a sequence of tokens
pub nothing_left : (script : List ℕ) → IsSound script → left_in script ≡ [] → (ts : List Token) × IsScan script ts
nothing_left script sound none = go (some_verdict script)
  where
    clash : (ts : List Token) (end : ℕ) (refusal : ScanRefusal) → Reads script 0 ts end → token_at script end ≡ Err refusal → ⊥
    clash ts end refusal h e =
        let f = fails_at script end refusal e in
        let gap : ℕ = gap_len 0 (drop end script) in
        let whole = left_from script 0 ts end (omega arith) h in
        let there : kind_at (drop gap (drop end script)) ≡ Err refusal = ap kind_at (sym (drop_more end gap script)) ∙ f.1 in
        let rest : drop gap (drop end script) ≡ [] = sym (left_none (drop end script) refusal there) ∙ sym whole ∙ none in
        let d = length-drop (end + gap) script in
        let n : length (drop (end + gap) script) ≡ 0 = ap (λ (bs : List ℕ). length bs) (drop_more end gap script ∙ rest) in
        omega (arith, f.0)

    go : ((ts : List Token) × IsScan script ts) ⊎ ((refusal : ScanRefusal) × IsFaulty script refusal) → (ts : List Token) × IsScan script ts
    go (inl h) = h
    go (inr (refusal, inl unsound)) = absurd (sound_once script refusal sound unsound)
    go (inr (refusal, inr (s, (ts, end, h, e)))) = absurd (clash ts end refusal h e)
