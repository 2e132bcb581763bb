-- Which record of a message is known.
use Rattle.std.proofs.Common.{◌≡◌, ℕ, Bool, true, false, cond, [], ◌∷◌, map, Option, Some, None, option_map, refl, ap, ◌∙◌}
use Rattle.std.specs.Option.{option_or}
use Rattle.record_known.specs.Known.{Key, record_of}
use Rattle.record_known.specs.declared.known.Known.{Known}
use Rattle.mail_import.specs.Known.{is_another, record_among, record_in}
use Rattle.mail_import.specs.declared.known.FirstRecord.{FirstRecord}
use Rattle.mail_import.specs.declared.known.StoreKnown.{StoreKnown}

pub new_or_before : (b : Bool) (first : FirstRecord) (before others : Option FirstRecord)
    → option_or (cond b (Some first) before) others ≡ cond b (Some first) (option_or before others)
new_or_before true first before others = refl
new_or_before false first before others = refl

-- ---- worked rows

-- the third row is a store that is no volume, and then volume 2
others_are : map (λ (r : Option ℕ × Option ℕ). is_another r.0 r.1)
    ((None, None) ∷ (Some 2, Some 2) ∷ (Some 2, None) ∷ (None, Some 2) ∷ (Some 2, Some 3) ∷ [])
    ≡ false ∷ false ∷ true ∷ true ∷ true ∷ []
others_are = refl

abbrev volume : ℕ → Known → StoreKnown
volume v known = record { volume = Some v; known = known }

abbrev at : (volume number : ℕ) → FirstRecord
at v number = record { volume = Some v; number = number }

-- a message that the second volume has is known as the record there, and one that the first alone has as the record in that
second_counts : (one other : Known) (k : Key) → record_of other k ≡ Some 5
    → record_among None (volume 1 one ∷ volume 2 other ∷ []) k ≡ Some (at 2 5)
second_counts one other k h = ap (λ o. option_or (option_map (λ n. at 2 n) o) (option_or (record_in (volume 1 one) k) None)) h

first_counts : (one other : Known) (k : Key) → record_of one k ≡ Some 3 → record_of other k ≡ None
    → record_among None (volume 1 one ∷ volume 2 other ∷ []) k ≡ Some (at 1 3)
first_counts one other k h i =
    ap (λ o. option_or (option_map (λ n. at 2 n) o) (option_or (record_in (volume 1 one) k) None)) i
    ∙ ap (λ o. option_or (option_map (λ n. at 1 n) o) None) h
