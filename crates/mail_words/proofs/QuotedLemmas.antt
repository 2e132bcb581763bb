-- Q text, octet by octet.
use Rattle.std.proofs.Common.{◌≡◌, ℕ, ◌+◌, ◌*◌, ◌<◌, cond, eqb, List, [], ◌∷◌, ◌++◌, refl, sym, ap, ◌∙◌, Option, Some, None, append_assoc, ne_eqb}
use Rattle.std.specs.Prelude.{option_map}
use Rattle.mail_words.specs.declared.charset.Charset.{Charset}
use Rattle.mail_words.specs.declared.quoted.Place.{Place}
use Rattle.mail_words.specs.declared.quoted.Place.TheVariants.{Plain, Escape, Digit}
use Rattle.mail_words.specs.Charsets.{in_utf8}
use Rattle.mail_words.specs.Decoding.{hex_value, q_octets}
use Rattle.mail_words.proofs.CharsetLemmas.{written-nil, written-append, option_map-nil}

-- a digit that was read is below sixteen
abbrev pub IsSmall : Place → Type 0
IsSmall Plain = Unit {0}
IsSmall Escape = Unit {0}
IsSmall (Digit high) = high < 16

-- the octets so far, and those of the rest
pub record Decoded (charset : Charset) (text rest old out : List ℕ) (place : Place) : Type 0 where
  pub small : IsSmall place
  pub octets : List ℕ
  pub put : out ≡ old ++ in_utf8 charset octets
  pub same : option_map (λ more. octets ++ more) (q_octets place rest) ≡ q_octets Plain text

pub Decoded-none : (charset : Charset) (text old : List ℕ) → Decoded charset text text old old Plain
Decoded-none charset text old = record { small = tt; octets = []; put = written-nil charset old; same = option_map-nil (q_octets Plain text) }

push_octet : (octets : List ℕ) (b : ℕ) (o : Option (List ℕ))
    → option_map (λ more. octets ++ more) (option_map (λ more. b ∷ more) o) ≡ option_map (λ more. (octets ++ b ∷ [])
    ++ more) o
push_octet octets b None = refl
push_octet octets b (Some x) = ap Some (sym (append_assoc octets (b ∷ []) x))

put_one : (charset : Charset) (old out new octets : List ℕ) (b : ℕ) → out ≡ old ++ in_utf8 charset octets → new ≡ out
    ++ in_utf8 charset (b ∷ []) → new ≡ old ++ in_utf8 charset (octets ++ b ∷ [])
put_one charset old out new octets b h e = e ∙ ap (λ x. x ++ in_utf8 charset (b ∷ [])) h
    ∙ append_assoc old (in_utf8 charset octets) (in_utf8 charset (b ∷ []))
    ∙ ap (λ x. old ++ x) (sym (written-append charset octets (b ∷ [])))

pub Decoded-plain : (charset : Charset) (text rest following old out new : List ℕ) (place : Place) (b pushed : ℕ)
    → Decoded charset text rest old out place → place ≡ Plain → rest ≡ b ∷ following → (b ≡ 61 → ⊥)
    → pushed ≡ cond (eqb b 95) 32 b → new ≡ out ++ in_utf8 charset (pushed ∷ [])
    → Decoded charset text following old new Plain
unfolding q_octets
Decoded-plain charset text rest following old out new place b pushed h e l at eb en = record {
  small = tt;
  octets = h.octets ++ pushed ∷ [];
  put = put_one charset old out new h.octets pushed h.put en;
  same = sym (push_octet h.octets pushed (q_octets Plain following)) ∙ (rw (e, l, ne_eqb b 61 at, ← eb) at h.same);
}

pub Decoded-low : (charset : Charset) (text rest following old out new : List ℕ) (place : Place) (b high low : ℕ)
    → Decoded charset text rest old out place → place ≡ Digit high → rest ≡ b ∷ following → Some low ≡ hex_value b
    → new ≡ out ++ in_utf8 charset ((high * 16 + low) ∷ []) → Decoded charset text following old new Plain
unfolding q_octets
Decoded-low charset text rest following old out new place b high low h e l digit en = record {
  small = tt;
  octets = h.octets ++ (high * 16 + low) ∷ [];
  put = put_one charset old out new h.octets (high * 16 + low) h.put en;
  same = sym (push_octet h.octets (high * 16 + low) (q_octets Plain following)) ∙ (rw (e, l, ← digit) at h.same);
}
