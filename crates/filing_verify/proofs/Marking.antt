-- Marks are passed on to the successors.
use Rattle.std.proofs.Common.{◌≡◌, ℕ, zero, suc, ◌+◌, ◌<◌, List, [], ◌∷◌, length, Bool, true, false, Option, Some, None}
use Rattle.std.proofs.Common.{refl, sym, ap, ◌∙◌, subst, arith, inl, inr, ◌⊎◌}
use Rattle.std.specs.Prelude.{slice_get, slice_set}
use Rattle.std.proofs.Math.ListN.{length-set}
use Rattle.std.proofs.lemmas.Option.{slice_get_within}
use Rattle.std.proofs.lemmas.Bool.{cases_lt}
use Rattle.filing_image.specs.Program.{Program}
use Rattle.filing_image.specs.declared.instruction.Operation.{Operation}
use Rattle.filing_verify.specs.Flow.{target, goes_on, Follows, Path}
use Rattle.filing_verify.specs.Passes.{GoesOnward, IsMarked, with_target, with_next, Marks}

-- ---- one mark

pub kept : (ms : List Bool) (k p : ℕ) → IsMarked ms p → IsMarked (slice_set ms k true) p
kept [] k p h = h
kept (m ∷ ms) zero zero h = refl
kept (m ∷ ms) zero (suc p) h = h
kept (m ∷ ms) (suc k) zero h = h
kept (m ∷ ms) (suc k) (suc p) h = kept ms k p h

pub made : (ms : List Bool) (k : ℕ) → k < length ms → IsMarked (slice_set ms k true) k
made [] k lt = absurd (omega arith)
made (m ∷ ms) zero lt = refl
made (m ∷ ms) (suc k) lt = made ms k (omega arith)

pub was : (ms : List Bool) (k p : ℕ) → IsMarked (slice_set ms k true) p → IsMarked ms p ⊎ (p ≡ k)
was [] k p h = inl h
was (m ∷ ms) zero zero h = inr refl
was (m ∷ ms) zero (suc p) h = inl h
was (m ∷ ms) (suc k) zero h = inl h
was (m ∷ ms) (suc k) (suc p) h = elim (was ms k p h) [ inl a ↦ inl a | inr e ↦ inr (ap suc e) ]

-- ---- the successors' marks

length_kept : (g : Bool) (t : Option ℕ) (p : ℕ) (ms : List Bool) → length (with_next g p (with_target t ms)) ≡ length ms
length_kept true None p ms = length-set ms (p + 1) true
length_kept false None p ms = refl
length_kept true (Some q) p ms = length-set (slice_set ms q true) (p + 1) true ∙ length-set ms q true
length_kept false (Some q) p ms = length-set ms q true

all_kept : (g : Bool) (t : Option ℕ) (p : ℕ) (ms : List Bool) (q : ℕ) → IsMarked ms q → IsMarked (with_next g p (with_target t ms)) q
all_kept true None p ms q h = kept ms (p + 1) q h
all_kept false None p ms q h = h
all_kept true (Some b) p ms q h = kept (slice_set ms b true) (p + 1) q (kept ms b q h)
all_kept false (Some b) p ms q h = kept ms b q h

next_made : (t : Option ℕ) (p : ℕ) (ms : List Bool) → p + 1 < length ms → IsMarked (with_next true p (with_target t ms)) (p + 1)
next_made None p ms lt = made ms (p + 1) lt
next_made (Some b) p ms lt = made (slice_set ms b true) (p + 1) (rw length-set lt)

target_made : (g : Bool) (b p : ℕ) (ms : List Bool) → b < length ms → IsMarked (with_next g p (with_target (Some b) ms)) b
target_made true b p ms lt = kept (slice_set ms b true) (p + 1) b (made ms b lt)
target_made false b p ms lt = made ms b lt

only_these : (g : Bool) (t : Option ℕ) (p : ℕ) (ms : List Bool) (q : ℕ) → IsMarked (with_next g p (with_target t ms)) q
    → IsMarked ms q ⊎ (((g ≡ true) × (q ≡ p + 1)) ⊎ (t ≡ Some q))
only_these true None p ms q h = elim (was ms (p + 1) q h) [ inl a ↦ inl a | inr e ↦ inr (inl (refl, e)) ]
only_these false None p ms q h = inl h
only_these true (Some b) p ms q h =
    elim (was (slice_set ms b true) (p + 1) q h) [
      | inl a ↦ elim (was ms b q a) [ inl a' ↦ inl a' | inr e ↦ inr (inr (ap Some (sym e))) ]
      | inr e ↦ inr (inl (refl, e))
    ]
only_these false (Some b) p ms q h = elim (was ms b q h) [ inl a ↦ inl a | inr e ↦ inr (inr (ap Some (sym e))) ]

follows_made : (g : Bool) (t : Option ℕ) (p : ℕ) (ms : List Bool) (q : ℕ) → q < length ms
    → ((g ≡ true) × (q ≡ p + 1)) ⊎ (t ≡ Some q) → IsMarked (with_next g p (with_target t ms)) q
follows_made g t p ms q lt (inl (e, at)) =
    rw (e, at) (next_made t p ms (omega arith))
follows_made g t p ms q lt (inr e) =
    rw e (target_made g q p ms lt)

-- ---- the pass

module _ {program : Program} {i : ℕ} {ms : List Bool} (so_far : Marks program i ms) where
  upto : (p : ℕ) → p < i + 1 → (p < i) ⊎ (p ≡ i)
  upto p lt = elim (cases_lt p i) [ inl a ↦ inl a | inr b ↦ inr (omega arith) ]

  pub passed_over : slice_get ms i ≡ Some false → Marks program (i + 1) ms
  passed_over unmarked = record {
    long = so_far.long;
    first = so_far.first;
    sound = so_far.sound;
    closed = λ p q lt h leads within. elim (upto p lt) [
      | inl a ↦ so_far.closed p q a h leads within
      | inr e ↦ let h' : IsMarked ms i = subst (λ (k : ℕ). IsMarked ms k) e h in absurd cc
    ];
    forward = λ p q o lt h at to. elim (upto p lt) [
      | inl a ↦ so_far.forward p q o a h at to
      | inr e ↦ let h' : IsMarked ms i = subst (λ (k : ℕ). IsMarked ms k) e h in absurd cc
    ];
  }

  module _ {o : Operation} (at : slice_get program.code i ≡ Some o) (marked : IsMarked ms i) where
    module _ (ahead : (q : ℕ) → target program o ≡ Some q → i < q) where
      -- a mark at or before i was there
      old_mark : (p : ℕ) → p < i + 1 → IsMarked (with_next (goes_on o) i (with_target (target program o) ms)) p → IsMarked ms p
      old_mark p lt h =
          elim (only_these (goes_on o) (target program o) i ms p h) [
            | inl a ↦ a
            | inr (inl (g, e)) ↦ absurd (omega arith)
            | inr (inr to) ↦ let less : i < p = ahead p to in absurd (omega arith)
          ]

      pub passed_on : Marks program (i + 1) (with_next (goes_on o) i (with_target (target program o) ms))
      passed_on = record {
        long = length_kept (goes_on o) (target program o) i ms ∙ so_far.long;
        first = λ some. all_kept (goes_on o) (target program o) i ms 0 (so_far.first some);
        sound = λ p h. elim (only_these (goes_on o) (target program o) i ms p h) [
          | inl a ↦ so_far.sound p a
          | inr f ↦ let r = so_far.sound i marked in (suc r.0, (i, r.1, (o, at, f)))
        ];
        closed = λ p q lt h leads within. elim (upto p lt) [
          | inl a ↦ all_kept (goes_on o) (target program o) i ms q (so_far.closed p q a (old_mark p lt h) leads within)
          | inr e ↦
              let same : leads.0 ≡ o = cc (leads.1, at, ap (slice_get program.code) e) in
              let f : Follows program o i q = subst (λ (x : Operation × ℕ). Follows program x.0 x.1 q) (cc) leads.2 in
              follows_made (goes_on o) (target program o) i ms q (omega (arith, so_far.long)) f
        ];
        forward = λ p q o' lt h at' to. elim (upto p lt) [
          | inl a ↦ so_far.forward p q o' a (old_mark p lt h) at' to
          | inr e ↦
              let same : o' ≡ o = cc (at', at, ap (slice_get program.code) e) in
              let to' : target program o ≡ Some q = subst (λ (x : Operation). target program x ≡ Some q) same to in
              rw e (ahead q to')
        ];
      }

module _ {program : Program} {ms : List Bool} (all : Marks program (length program.code) ms) where
  pub complete : (n q : ℕ) → Path program n q → q < length program.code → IsMarked ms q
  complete zero q e lt = subst (λ (k : ℕ). IsMarked ms k) (sym e) (all.first (omega arith))
  complete (suc n) q (p, path, leads) lt =
      let within : p < length program.code = slice_get_within program.code p leads.0 leads.1 in
      all.closed p q within (complete n p path within) leads lt

  pub goes_forward : GoesOnward program
  goes_forward p q o reached at to =
      let within : p < length program.code = slice_get_within program.code p o at in
      all.forward p q o within (complete reached.0 p reached.1 within) at to
