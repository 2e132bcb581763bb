-- Tokens one after another, and the one verdict on a script.
use Rattle.std.proofs.Common.{◌≡◌, ℕ, zero, suc, ◌+◌, ◌≤◌, List, [], ◌∷◌, ◌++◌, length, Option, Some, None, Result, Ok}
use Rattle.std.proofs.Common.{Err, refl, sym, ◌∙◌, ◌<◌, arith, inl, inr, ◌⊎◌}
use Rattle.sieve_syntax.specs.declared.token.Token.{Token}
use Rattle.sieve_text.specs.declared.fault.ScanRefusal.{ScanRefusal}
use Rattle.sieve_text.specs.declared.fault.ScanRefusal.TheVariants.{NotUtf8, NoToken, StringNotClosed, CommentNotClosed}
use Rattle.sieve_text.specs.declared.fault.ScanRefusal.TheVariants.{NumberTooLarge, ScriptTooLong, StringTooLong}
use Rattle.std.specs.Str.{is_utf8}
use Rattle.std.proofs.lemmas.Str.{is_utf8-from_IsUtf8, IsUtf8-from_is_utf8}
use Rattle.std.proofs.lemmas.Bool.{cases_Bool, cases_lt, both_ways}
use Rattle.sieve_text.specs.Octets.{stray_len, is_stray}
use Rattle.sieve_text.proofs.WithinLemmas.{token_within}
use Rattle.sieve_text.specs.Tokens.{token_at, Reads, IsSound, IsUnsound, IsScan, IsFirstFault, IsFaulty}

pub Reads_push : (script : List ℕ) (at : ℕ) (ts : List Token) (t : Token) (end : ℕ) → Reads script at ts end
    → token_at script end ≡ Ok (Some t) → Reads script at (ts ++ t ∷ []) t.end
Reads_push script at [] t end h e = (rw h e, refl)
Reads_push script at (u ∷ ts) t end h e = (h.0, Reads_push script u.end ts t end h.1 e)

same_token : (script : List ℕ) (at : ℕ) (t u : Token) → token_at script at ≡ Ok (Some t) → token_at script at ≡ Ok (Some u) → t ≡ u
same_token script at t u e h = cc

-- no token begins here
Stops : Result (Option Token) ScanRefusal → Type 0
Stops answer = (t : Token) → answer ≡ Ok (Some t) → ⊥

none_stops : Stops (Ok None)
unfolding Stops
none_stops t e = cc

fault_stops : (refusal : ScanRefusal) → Stops (Err refusal)
unfolding Stops
fault_stops refusal t e = cc

-- tokens up to a place where none begins are the only ones
one_end : (script : List ℕ) (at : ℕ) (ts us : List Token) (m n : ℕ) (x y : Result (Option Token) ScanRefusal)
    → Reads script at ts m → token_at script m ≡ x → Stops x → Reads script at us n → token_at script n ≡ y → Stops y
    → (ts ≡ us) × (m ≡ n)
unfolding Stops
one_end script at [] [] m n x y h e s k f t = (refl, sym h ∙ k)
one_end script at [] (u ∷ us) m n x y h e s k f t = absurd (s u (sym e ∙ rw h at k.0))
one_end script at (t ∷ ts) [] m n x y h e s k f r = absurd (r t (sym f ∙ rw k at h.0))
one_end script at (t ∷ ts) (u ∷ us) m n x y h e s k f r =
    let same = same_token script at t u h.0 k.0 in
    let both = one_end script t.end ts us m n x y h.1 e s (rw (← same) at k.1) f r in
    (cc, both.1)

pub one_scan : (script : List ℕ) (ts us : List Token) → IsScan script ts → IsScan script us → ts ≡ us
one_scan script ts us h k = (one_end script 0 ts us h.1.0 k.1.0 (Ok None) (Ok None) h.1.1 h.1.2 none_stops k.1.1 k.1.2 none_stops).0

pub sound_once : (script : List ℕ) (refusal : ScanRefusal) → IsSound script → IsUnsound script refusal → ⊥
sound_once script ScriptTooLong h k = omega arith
sound_once script NotUtf8 h k = k.1 h.1
sound_once script NoToken h k = omega arith
sound_once script StringNotClosed h k = k
sound_once script CommentNotClosed h k = k
sound_once script NumberTooLarge h k = k
sound_once script StringTooLong h k = k

unsound_once : (script : List ℕ) (a b : ScanRefusal) → IsUnsound script a → IsUnsound script b → a ≡ b
unsound_once script ScriptTooLong ScriptTooLong h k = refl
unsound_once script ScriptTooLong NotUtf8 h k = absurd (omega arith)
unsound_once script ScriptTooLong NoToken h k = absurd (omega arith)
unsound_once script NotUtf8 ScriptTooLong h k = absurd (omega arith)
unsound_once script NotUtf8 NotUtf8 h k = refl
unsound_once script NotUtf8 NoToken h k = absurd (h.1 k.1)
unsound_once script NoToken ScriptTooLong h k = absurd (omega arith)
unsound_once script NoToken NotUtf8 h k = absurd (k.1 h.1)
unsound_once script NoToken NoToken h k = refl
unsound_once script StringNotClosed b h k = absurd h
unsound_once script CommentNotClosed b h k = absurd h
unsound_once script NumberTooLarge b h k = absurd h
unsound_once script StringTooLong b h k = absurd h
unsound_once script ScriptTooLong StringNotClosed h k = absurd k
unsound_once script ScriptTooLong CommentNotClosed h k = absurd k
unsound_once script ScriptTooLong NumberTooLarge h k = absurd k
unsound_once script ScriptTooLong StringTooLong h k = absurd k
unsound_once script NotUtf8 StringNotClosed h k = absurd k
unsound_once script NotUtf8 CommentNotClosed h k = absurd k
unsound_once script NotUtf8 NumberTooLarge h k = absurd k
unsound_once script NotUtf8 StringTooLong h k = absurd k
unsound_once script NoToken StringNotClosed h k = absurd k
unsound_once script NoToken CommentNotClosed h k = absurd k
unsound_once script NoToken NumberTooLarge h k = absurd k
unsound_once script NoToken StringTooLong h k = absurd k

-- what two answers have in common where they are equal
differ : (refusal : ScanRefusal) (x : Result (Option Token) ScanRefusal) → x ≡ Ok None → x ≡ Err refusal → ⊥
differ refusal x e f = cc

same_refusal : (a b : ScanRefusal) (x : Result (Option Token) ScanRefusal) → x ≡ Err a → x ≡ Err b → a ≡ b
same_refusal a b x e f = cc

scan_or_fault : (script : List ℕ) (ts : List Token) (refusal : ScanRefusal) → (end : ℕ) × Reads script 0 ts end
    × (token_at script end ≡ Ok None) → IsFirstFault script refusal → ⊥
scan_or_fault script ts refusal h k =
    let both = one_end script 0 ts k.0 h.0 k.1 (Ok None) (Err refusal) h.1 h.2 none_stops k.2 k.3 (fault_stops refusal) in
    differ refusal (token_at script k.1) (rw both.1 at h.2) k.3

pub no_both : (script : List ℕ) (ts : List Token) (refusal : ScanRefusal) → IsScan script ts → IsFaulty script refusal → ⊥
no_both script ts refusal h (inl u) = sound_once script refusal h.0 u
no_both script ts refusal h (inr k) = scan_or_fault script ts refusal h.1 k.1

first_once : (script : List ℕ) (a b : ScanRefusal) → IsFirstFault script a → IsFirstFault script b → a ≡ b
first_once script a b h k =
    let both = one_end script 0 h.0 k.0 h.1 k.1 (Err a) (Err b) h.2 h.3 (fault_stops a) k.2 k.3 (fault_stops b) in
    same_refusal a b (token_at script k.1) (rw both.1 at h.3) k.3

pub one_fault : (script : List ℕ) (a b : ScanRefusal) → IsFaulty script a → IsFaulty script b → a ≡ b
one_fault script a b (inl h) (inl k) = unsound_once script a b h k
one_fault script a b (inl h) (inr k) = absurd (sound_once script a k.0 h)
one_fault script a b (inr h) (inl k) = absurd (sound_once script b h.0 k)
one_fault script a b (inr h) (inr k) = first_once script a b h.1 k.1

-- from an offset on there are tokens to the end or to a fault
abbrev Verdict : List ℕ → ℕ → Type 0
Verdict script at = ((ts : List Token) × (end : ℕ) × Reads script at ts end
    × (token_at script end ≡ Ok None)) ⊎ ((refusal : ScanRefusal) × (ts : List Token) × (end : ℕ)
    × Reads script at ts end × (token_at script end ≡ Err refusal))

after_one : (script : List ℕ) (at : ℕ) (t : Token) → token_at script at ≡ Ok (Some t) → Verdict script t.end → Verdict script at
after_one script at t e (inl h) = inl (t ∷ h.0, h.1, (e, h.2), h.3)
after_one script at t e (inr h) = inr (h.0, t ∷ h.1, h.2, (e, h.3), h.4)

verdict_at : (script : List ℕ) (at : ℕ) (answer : Result (Option Token) ScanRefusal) → token_at script at ≡ answer
    → ((t : Token) → token_at script at ≡ Ok (Some t) → Verdict script t.end) → Verdict script at
verdict_at script at (Ok None) e following = inl ([], at, refl, e)
verdict_at script at (Ok (Some t)) e following = after_one script at t e (following t e)
verdict_at script at (Err refusal) e following = inr (refusal, [], at, refl, e)

verdict_from : (turns : ℕ) (script : List ℕ) (at : ℕ) → at ≤ length script → length script < at + turns → Verdict script at
verdict_from zero script at within enough = absurd (omega arith)
verdict_from (suc turns) script at within enough =
    verdict_at script at (token_at script at) refl (λ (t : Token) (e : token_at script at ≡ Ok (Some t)).
    let w = token_within script at t within e in
    verdict_from turns script t.end (omega arith) (omega arith))

stray_within : (bs : List ℕ) → stray_len bs ≤ length bs
unfolding stray_len
stray_within [] = omega arith
stray_within (b ∷ bs) = elim (cases_Bool (is_stray b bs)) [
  | inl h ↦ rw h (omega arith)
  | inr h ↦ (let r = stray_within bs in rw h (omega arith))
]

sound_verdict : (script : List ℕ) → IsSound script → Verdict script 0
    → ((ts : List Token) × IsScan script ts) ⊎ ((refusal : ScanRefusal) × IsFaulty script refusal)
sound_verdict script sound (inl h) = inl (h.0, (sound, (h.1, h.2, h.3)))
sound_verdict script sound (inr h) = inr (h.0, inr (sound, (h.1, h.2, h.3, h.4)))

-- a text is a sequence of tokens or has a refusal
pub some_verdict : (script : List ℕ) → ((ts : List Token) × IsScan script ts) ⊎ ((refusal : ScanRefusal) × IsFaulty script refusal)
some_verdict script = elim (cases_lt 262144 (length script)) [
  | inl long ↦ inr (ScriptTooLong, inl long)
  | inr short ↦ elim (cases_Bool (is_utf8 script)) [
    | inr bad ↦ inr (NotUtf8, inl (short, λ utf8. both_ways (is_utf8 script) bad (is_utf8-from_IsUtf8 script utf8)))
    | inl good ↦ elim (cases_lt (stray_len script) (length script)) [
      | inl stray ↦ inr (NoToken, inl (short, IsUtf8-from_is_utf8 script good, stray))
      | inr none ↦
          (let w = stray_within script in sound_verdict script (
            short,
            IsUtf8-from_is_utf8 script good,
            omega arith,
          ) (verdict_from (suc (length script)) script 0 (omega arith) (omega arith)))
    ]
  ]
]
