-- Reading one after the other, as a loop does.
use Rattle.std.proofs.Common.{◌≡◌, ℕ, suc, ◌-◌, ◌+◌, ◌≤◌, ◌<◌, List, [], ◌∷◌, ◌++◌, Option, Some, None, refl, sym, ap, ◌∙◌, append_assoc, arith}
use Rattle.std.proofs.lemmas.List.{append-nil}
use Rattle.filing_image.specs.declared.fault.FormFault.{FormFault}
use Rattle.filing_image.specs.declared.fault.FormFault.TheVariants.{NoMemory, BadForm}
use Rattle.filing_image.specs.Reading.{◌>>=◌, many_at}

-- what was read before, and what is still read
abbrev pub with_front : {A : Type 0} → List A → Option (List A × List ℕ) → Option (List A × List ℕ)
with_front front read = read >>= λ x. Some (front ++ x.0, x.1)

-- an error of a reader is passed on unchanged
abbrev pub Fails : {Y : Type 0} → FormFault → Option Y → Type 0
Fails NoMemory read = Unit {0}
Fails BadForm read = read ≡ None

module _ {A : Type 0} (read : List ℕ → Option (A × List ℕ)) where
  regroup : (front : List A) (n : A) (r : Option (List A × List ℕ))
      → with_front front (r >>= λ x. Some (n ∷ x.0, x.1)) ≡ with_front (front ++ n ∷ []) r
  regroup front n (Some x) = ap (λ (ns : List A). Some (ns, x.1)) (simp append_assoc)
  regroup front n None = refl

  pub goes_on : (front : List A) (count i : ℕ) (octets : List ℕ) (n : A) (after : List ℕ) (total : Option (List A
      × List ℕ)) → i < count → read octets ≡ Some (n, after)
      → with_front front (many_at read (count - i) octets) ≡ total → with_front (front ++ n ∷ []) (many_at read (count - (i + 1)) after) ≡ total
  unfolding many_at
  goes_on front count i octets n after total lt h so_far =
      let k : count - i ≡ suc (count - (i + 1)) = omega arith in
      let one : with_front front (many_at read (count - i) octets) ≡ with_front (front
      ++ n ∷ []) (many_at read (count - (i + 1)) after) =
      rw (k, h) (regroup front n (many_at read (count - (i + 1)) after)) in
      sym one ∙ so_far

  pub ends : (e : FormFault) (front : List A) (count i : ℕ) (octets : List ℕ) (total : Option (List A × List ℕ)) → i < count → Fails e (read octets)
      → with_front front (many_at read (count - i) octets) ≡ total → Fails e total
  unfolding many_at
  ends NoMemory front count i octets total lt h so_far = tt
  ends BadForm front count i octets total lt h so_far =
      let k : count - i ≡ suc (count - (i + 1)) = omega arith in
      let one : with_front front (many_at read (count - i) octets) ≡ None = rw (k, h) refl in
      sym so_far ∙ one

  pub is_done : (front : List A) (count i : ℕ) (octets : List ℕ) (total : Option (List A × List ℕ)) → count ≤ i
      → with_front front (many_at read (count - i) octets) ≡ total → total ≡ Some (front, octets)
  unfolding many_at
  is_done front count i octets total le so_far =
      let k : count - i ≡ 0 = omega arith in
      let one : with_front front (many_at read (count - i) octets) ≡ Some (front, octets) =
      rw k (ap (λ (ns : List A). Some (ns, octets)) (append-nil front)) in
      sym so_far ∙ one
