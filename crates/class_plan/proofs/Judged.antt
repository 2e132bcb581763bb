-- The first fault that holds is the one with the smallest number.
use Rattle.std.proofs.Common.{◌≡◌, ℕ, zero, suc, ◌+◌, ◌<◌, Bool, true, false, if◌then◌else◌, Option, Some, None, Ok}
use Rattle.std.proofs.Common.{Err, refl, sym, ap, subst, ◌∙◌, arith, below_more}
use borrow.Author.Count.{below_none}
use Rattle.class_plan.specs.declared.faults.PlanFault.{PlanFault}
use Rattle.class_plan.specs.declared.faults.PlanFault.TheVariants.{NotToml, BadShape, BadPath, ParentMissing, PathTwice}
use Rattle.class_plan.specs.declared.faults.PlanFault.TheVariants.{BadSchedule, TooManyClasses, PathDropped, NoMemory}
use Rattle.class_plan.specs.Faults.{number_of, first_fault, answer, verdict, IsSmallest, HoldsNone}

-- the faults in the order of their numbers
abbrev at : ℕ → PlanFault
at zero = NotToml
at (suc zero) = BadShape
at (suc (suc zero)) = BadPath
at (suc (suc (suc zero))) = ParentMissing
at (suc (suc (suc (suc zero)))) = PathTwice
at (suc (suc (suc (suc (suc zero))))) = BadSchedule
at (suc (suc (suc (suc (suc (suc zero)))))) = TooManyClasses
at (suc (suc (suc (suc (suc (suc (suc zero))))))) = PathDropped
at (suc (suc (suc (suc (suc (suc (suc (suc n)))))))) = NoMemory

abbrev index : PlanFault → ℕ
index NotToml = 0
index BadShape = 1
index BadPath = 2
index ParentMissing = 3
index PathTwice = 4
index BadSchedule = 5
index TooManyClasses = 6
index PathDropped = 7
index NoMemory = 49

at-index : (g : PlanFault) → at (index g) ≡ g
at-index NotToml = refl
at-index f = refl

number-index : (g : PlanFault) → number_of g ≡ 50 + index g
number-index NotToml = refl
number-index f = refl

-- no fault among the first n holds
abbrev FreeBelow : (PlanFault → Bool) → ℕ → Type 0
FreeBelow h n = (k : ℕ) → k < n → h (at k) ≡ false

free_of : (h : PlanFault → Bool) (n m : ℕ) → FreeBelow h n → m ≡ 50 + n → (g : PlanFault) → number_of g < m → h g ≡ false
free_of h n m free is g lt =
    let below : index g < n = omega (arith, number-index g) in
    ap h (sym (at-index g)) ∙ free (index g) below

smallest_at : (h : PlanFault → Bool) (n : ℕ) (f : PlanFault) → FreeBelow h n → number_of f ≡ 50 + n → h f ≡ true → IsSmallest h f
smallest_at h n f free is here = record { here = here; none_below = free_of h n (number_of f) free is }

-- what the answer of a chain of tests says about the faults
abbrev pub Says : (PlanFault → Bool) → Option PlanFault → Type 0
Says h None = HoldsNone h
Says h (Some f) = IsSmallest h f

step : (h : PlanFault → Bool) (n : ℕ) (b : Bool) (rest : Option PlanFault) → b ≡ h (at n) → number_of (at n) ≡ 50 + n
    → FreeBelow h n → (FreeBelow h (n + 1) → Says h rest) → Says h (if b then Some (at n) else rest)
step h n true rest e is free more = smallest_at h n (at n) free is (sym e)
step h n false rest e is free more = more (below_more (λ k. h (at k) ≡ false) n free (sym e))

last_free : (h : PlanFault → Bool) → FreeBelow h 8 → HoldsNone h
last_free h free NotToml lt = free 0 (omega arith)
last_free h free BadShape lt = free 1 (omega arith)
last_free h free BadPath lt = free 2 (omega arith)
last_free h free ParentMissing lt = free 3 (omega arith)
last_free h free PathTwice lt = free 4 (omega arith)
last_free h free BadSchedule lt = free 5 (omega arith)
last_free h free TooManyClasses lt = free 6 (omega arith)
last_free h free PathDropped lt = free 7 (omega arith)
last_free h free NoMemory lt = absurd (omega arith)

pub first-says : (h : PlanFault → Bool) → Says h (first_fault h)
first-says h =
    step h 0 (h NotToml) _ refl refl (below_none (λ k. h (at k) ≡ false)) (λ f0.
    step h 1 (h BadShape) _ refl refl f0 (λ f1.
    step h 2 (h BadPath) _ refl refl f1 (λ f2.
    step h 3 (h ParentMissing) _ refl refl f2 (λ f3.
    step h 4 (h PathTwice) _ refl refl f3 (λ f4.
    step h 5 (h BadSchedule) _ refl refl f4 (λ f5.
    step h 6 (h TooManyClasses) _ refl refl f5 (λ f6.
    step h 7 (h PathDropped) _ refl refl f6 (λ f7. last_free h f7))))))))

-- an answer that is no fault is the given one, and no fault holds
made_of : {A : Type 0} (o : Option PlanFault) (a b : A) → Ok b ≡ answer o a → (b ≡ a) × (None ≡ o)
made_of None a b e = ((cc), refl)
made_of (Some f) a b e = absurd (cc)

fault_of : {A : Type 0} (o : Option PlanFault) (a : A) (f : PlanFault) → Err f ≡ answer o a → Some f ≡ o
fault_of None a f e = absurd (cc)
fault_of (Some g) a f e = let s : f ≡ g = cc in ap (λ x. Some x) s

pub judged-made : {A : Type 0} (h : PlanFault → Bool) (a b : A) → Ok b ≡ verdict h a → (b ≡ a) × HoldsNone h
judged-made h a b e =
    let m = made_of (first_fault h) a b e in
    (m.0, subst (Says h) (sym m.1) (first-says h))

pub judged-smallest : {A : Type 0} (h : PlanFault → Bool) (a : A) (f : PlanFault) → Err f ≡ verdict h a → IsSmallest h f
judged-smallest h a f e = subst (Says h) (sym (fault_of (first_fault h) a f e)) (first-says h)
