-- Q text, octet by octet.
use Rattle.std.proofs.Common.{◌≡◌, ℕ, ◌+◌, ◌*◌, ◌<◌, cond, eqb, List, [], ◌∷◌, ◌++◌, refl, sym, ap, ◌∙◌, Option, Some, None, append_assoc, ne_eqb}
use Rattle.std.proofs.lemmas.List.{append-nil}
use Rattle.std.specs.Prelude.{option_map}
use Rattle.mail_display.specs.declared.quoted.Place.{Place}
use Rattle.mail_display.specs.declared.quoted.Place.TheVariants.{Plain, Escape, Digit}
use Rattle.mail_display.specs.Quoted.{hex_value, q_octets}

-- a digit that was read is below sixteen
abbrev pub IsSmall : Place → Type 0
IsSmall Plain = Unit {0}
IsSmall Escape = Unit {0}
IsSmall (Digit high) = high < 16

-- the octets so far, and those of the rest
pub record Decoded (text rest octets : List ℕ) (place : Place) : Type 0 where
  pub small : IsSmall place
  pub same : option_map (λ more. octets ++ more) (q_octets place rest) ≡ q_octets Plain text

option_map-nil : (o : Option (List ℕ)) → option_map (λ more. [] ++ more) o ≡ o
option_map-nil None = refl
option_map-nil (Some x) = refl

pub Decoded-none : (text : List ℕ) → Decoded text text [] Plain
Decoded-none text = record { small = tt; same = option_map-nil (q_octets Plain text) }

push_octet : (octets : List ℕ) (b : ℕ) (o : Option (List ℕ))
    → option_map (λ more. octets ++ more) (option_map (λ more. b ∷ more) o) ≡ option_map (λ more. (octets ++ b ∷ [])
    ++ more) o
push_octet octets b None = refl
push_octet octets b (Some x) = ap Some (sym (append_assoc octets (b ∷ []) x))

pub Decoded-plain : (text rest following octets new : List ℕ) (place : Place) (b pushed : ℕ)
    → Decoded text rest octets place → place ≡ Plain → rest ≡ b ∷ following → (b ≡ 61 → ⊥)
    → pushed ≡ cond (eqb b 95) 32 b → new ≡ octets ++ pushed ∷ [] → Decoded text following new Plain
unfolding q_octets
Decoded-plain text rest following octets new place b pushed h e l at eb en = record {
  small = tt;
  same = ap (λ o. option_map (λ more. o ++ more) (q_octets Plain following)) en
      ∙ sym (push_octet octets pushed (q_octets Plain following)) ∙ (rw (e, l, ne_eqb b 61 at, ← eb) at h.same);
}

pub Decoded-low : (text rest following octets new : List ℕ) (place : Place) (b high low : ℕ)
    → Decoded text rest octets place → place ≡ Digit high → rest ≡ b ∷ following → Some low ≡ hex_value b
    → new ≡ octets ++ (high * 16 + low) ∷ [] → Decoded text following new Plain
unfolding q_octets
Decoded-low text rest following octets new place b high low h e l digit en = record {
  small = tt;
  same = ap (λ o. option_map (λ more. o ++ more) (q_octets Plain following)) en
      ∙ sym (push_octet octets (high * 16 + low) (q_octets Plain following)) ∙ (rw (e, l, ← digit) at h.same);
}

pub Decoded-done : (text rest octets : List ℕ) (place : Place) → Decoded text rest octets place → rest ≡ []
    → place ≡ Plain → q_octets Plain text ≡ Some octets
unfolding q_octets
Decoded-done text rest octets place h e p = sym (rw (p, e) at h.same) ∙ ap Some (append-nil octets)
