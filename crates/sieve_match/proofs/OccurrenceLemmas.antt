-- Places at which a key occurs in a value, and texts around it.
use Rattle.std.proofs.Common.{◌≡◌, ℕ, ◌+◌, Bool, Option, None, Some, is_some, IsTrue, ◌↔◌, List, ◌++◌, length, take, drop, refl, sym, ap, ◌∙◌, arith}
use Rattle.std.proofs.lemmas.List.{take-append-drop, length-append}
use Rattle.std.proofs.lemmas.List.Prefix.{at_from_reads, at_reads}
use Rattle.std.proofs.Math.Seq.{drop-append_seam}
use Rattle.std.proofs.lemmas.Bool.{false≢true}
use Rattle.memchr.specs.Find.{OccursAt, FindsNeedle}
use Rattle.sieve_meaning.specs.declared.matching.Comparator.{Comparator}
use Rattle.sieve_meaning.specs.declared.matching.Comparator.TheVariants.{Octet}
use Rattle.sieve_meaning.specs.Matching.{fold, Contains}
use Rattle.sieve_match.proofs.FoldLemmas.{fold-octet}

-- a text around a key
abbrev pub Around : (hay needle : List ℕ) → Type 0
Around hay needle = (before : List ℕ) × (after : List ℕ) × (hay ≡ before ++ (needle ++ after))

pub around_from : (hay needle : List ℕ) (k : ℕ) → OccursAt hay needle k → Around hay needle
around_from hay needle k h = (
  take k hay,
  drop (k + length needle) hay,
  sym (take-append-drop k hay) ∙ ap (λ (t : List ℕ). take k hay ++ t) (at_from_reads 0 hay needle k h.fits h.reads),
)

pub place_from : (hay needle : List ℕ) → Around hay needle → (k : ℕ) × OccursAt hay needle k
place_from hay needle h =
    let rest : drop (length h.0) hay ≡ needle ++ h.1 = ap (λ (t : List ℕ). drop (length h.0) t) h.2 ∙ drop-append_seam h.0 (needle ++ h.1) in (
      length h.0,
      record {
        fits = omega (arith, simp length-append at (ap length h.2));
        reads = at_reads 0 hay needle (length h.0) h.1 rest;
      },
    )

-- what a search for a place says of a text around the key
pub found_is : (hay needle : List ℕ) (r : Option ℕ) → FindsNeedle hay needle 0 r → IsTrue (is_some r) ↔ Around hay needle
found_is hay needle None h = (
  λ e. absurd (false≢true e),
  λ a. let p = place_from hay needle a in
      absurd (h p.0 (omega arith) (omega (arith, p.1.fits)) p.1),
)
found_is hay needle (Some k) h = (λ e. around_from hay needle k h.1, λ a. refl)

-- `i;octet` compares octets as they are
pub found_octet : (c : Comparator) (key value : List ℕ) (r : Option ℕ) → c ≡ Octet
    → FindsNeedle value key 0 r → FindsNeedle (fold c value) (fold c key) 0 r
found_octet c key value r is h = rw (is, fold-octet value, fold-octet key) h

pub contains_found : (c : Comparator) (key value : List ℕ) (r : Option ℕ) (b : Bool)
    → FindsNeedle (fold c value) (fold c key) 0 r → b ≡ is_some r → IsTrue b ↔ Contains c key value
contains_found c key value r b h e = rw e (found_is (fold c value) (fold c key) r h)
