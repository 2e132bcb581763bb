-- A text has one list of includes.
use Rattle.std.proofs.Common.{◌≡◌, inl, inr, ℕ, List, [], ◌∷◌, Some, Ok, refl, sym, ap, ◌∙◌, subst, arith}
use Rattle.sieve_syntax.specs.declared.token.Token.{Token}
use Rattle.sieve_text.specs.declared.fault.ScanRefusal.{ScanRefusal}
use Rattle.sieve_text.specs.declared.fault.ScanRefusal.TheVariants.{
  NotUtf8,
  NoToken,
  StringNotClosed,
  CommentNotClosed,
  NumberTooLarge,
  ScriptTooLong,
  StringTooLong,
}
use Rattle.sieve_text.specs.Tokens.{IsFaulty, IsScan, IsSound, IsUnsound, Reads, token_at}
use Rattle.tool_findings.specs.Commands.{Include, includes_among}
use Rattle.rule_folders.specs.Includes.{AreTokensOf, Leads}

-- the tokens from an offset on, up to where none is, are one list, and end at one offset
same_reads : (script : List ℕ) (at e f : ℕ) (ts us : List Token) → Reads script at ts e → Reads script at us f
    → ((t : Token) → token_at script e ≡ Ok (Some t) → ⊥) → ((t : Token) → token_at script f ≡ Ok (Some t) → ⊥) → (ts ≡ us) × (e ≡ f)
same_reads script at e f [] [] h k stop halt = (refl, sym h ∙ k)
same_reads script at e f [] (u ∷ us) h k stop halt = absurd (stop u (subst (λ o. token_at script o ≡ Ok (Some u)) h k.0))
same_reads script at e f (t ∷ ts) [] h k stop halt = absurd (halt t (subst (λ o. token_at script o ≡ Ok (Some t)) k h.0))
same_reads script at e f (t ∷ ts) (u ∷ us) h k stop halt =
    let one : t ≡ u = cc (h.0, k.0) in
    let rest = same_reads script t.end e f ts us h.1 (subst (λ (x : Token). Reads script x.end us f) (sym one) k.1) stop halt in
    (ap (λ x. x ∷ ts) one ∙ ap (λ xs. u ∷ xs) rest.0, rest.1)

sound_not : (script : List ℕ) (refusal : ScanRefusal) → IsSound script → IsUnsound script refusal → ⊥
sound_not script ScriptTooLong s u = omega (arith, s.0, u)
sound_not script NotUtf8 s u = u.1 s.1
sound_not script NoToken s u = omega (arith, s.2, u.2)
sound_not script StringNotClosed s u = u
sound_not script CommentNotClosed s u = u
sound_not script NumberTooLarge s u = u
sound_not script StringTooLong s u = u

scan_not_faulty : (script : List ℕ) (ts : List Token) (refusal : ScanRefusal) → IsScan script ts → IsFaulty script refusal → ⊥
scan_not_faulty script ts refusal s (inl u) = sound_not script refusal s.0 u
scan_not_faulty script ts refusal s (inr h) =
    let f = h.1 in
    let same = same_reads script 0 s.1.0 f.1 ts f.0 s.1.1 f.2 (λ t e. absurd (let x = s.1.2 in cc)) (λ t e. absurd (let x = f.3 in cc)) in
    let a = s.1.2 in
    let b = f.3 in
    let c = same.1 in
    absurd cc

one_scan : (text : List ℕ) (ts us : List Token) → AreTokensOf text ts → AreTokensOf text us → ts ≡ us
one_scan text ts us (inl a) (inl b) =
    (same_reads text 0 a.1.0 b.1.0 ts us a.1.1 b.1.1 (λ t e. absurd (let x = a.1.2 in cc)) (λ t e. absurd (let x = b.1.2 in cc))).0
one_scan text ts us (inl a) (inr b) = absurd (scan_not_faulty text ts b.0.0 a b.0.1)
one_scan text ts us (inr a) (inl b) = absurd (scan_not_faulty text us a.0.0 b a.0.1)
one_scan text ts us (inr a) (inr b) = a.1 ∙ sym b.1

pub one_leads : (text : List ℕ) (xs ys : List Include) → Leads text xs → Leads text ys → xs ≡ ys
unfolding Leads
one_leads text xs ys a b = a.2 ∙ ap includes_among (one_scan text a.0 b.0 a.1 b.1) ∙ sym b.2
