-- The code of a script does what the script means.
use Rattle.std.proofs.Common.{Some, ◌≡◌, ℕ, suc, List, [], ◌∷◌, Bool, true, false, not, ◌||◌, cond, inl, refl, ap, ◌∙◌}
use Rattle.std.specs.Prelude.{nat_eq}
use Rattle.class_paths.specs.Paths.{Paths, insert_path}
use Rattle.sieve_meaning.specs.Case.{Facts}
use Rattle.sieve_meaning.specs.Truth.{truth}
use Rattle.sieve_meaning.specs.Program.{Include, Command, require, keep, discard, stop, return, file_into, branch}
use Rattle.sieve_meaning.specs.Program.{include, Commands, no_command, command_then, Branches, no_branch, otherwise}
use Rattle.sieve_meaning.specs.Program.{if_then}
use Rattle.sieve_meaning.specs.declared.run_fault.RunFault.TheVariants.{ClassNotOpen}
use Rattle.sieve_meaning.specs.Meaning.{Filing, Ending, GoesOn, Returns, Stops, Faults, Included, filing, run, run_one, run_branches, and_then}
use Rattle.sieve_meaning.specs.Procedures.{includes_of, includes_in, branch_includes}
use Rattle.sieve_meaning.proofs.SharingLemmas.{IsIn, in_front, in_rest}
use Rattle.filing_table.specs.Machine.{Entry, T}
use Rattle.filing_flow.specs.Structure.{Flow, FileInto, action, sequence, leave}
use Rattle.filing_flow.specs.Effect.{Exit, FallsThrough, EndsRun, CallEffects, effect, caught}
use Rattle.filing_flow.specs.Effect as code
use Rattle.filing_gen.specs.BlockCode.{flow, flow_one, branches_flow, copy_number}
use Rattle.filing_gen.specs.Alike.{Marking, AreAlike, Alike, Agrees}
use Rattle.filing_gen.proofs.Truths.{test_means}

module _ (called : CallEffects) (c : Facts) (marking : Marking) where
  then_means : (n : ℕ) (e : Ending) (x : Exit) (a : Flow) (go : Filing → Ending) → Alike marking n e x
      → ((f : Filing) (s : code.FlowState) → AreAlike marking f s → Alike marking n (go f) (effect called c a s []))
      → Alike marking n (and_then e go) (code.and_then x (effect called c a))
  then_means n (GoesOn f) x a go h k = let y = k f h.filing h.related in
      record {
        filing = y.filing;
        related = y.related;
        exit = ap (λ z. code.and_then z (effect called c a)) h.exit
            ∙ y.exit;
      }
  then_means n (Returns f) x a go h k = record { filing = h.filing; related = h.related; exit = ap (λ z. code.and_then z (effect called c a)) h.exit }
  then_means n (Stops f) x a go h k = record { filing = h.filing; related = h.related; exit = ap (λ z. code.and_then z (effect called c a)) h.exit }
  then_means n (Faults fault f) x a go h k = record {
    filing = h.filing;
    related = h.related;
    exit =
        ap (λ z. code.and_then z (effect called c a)) h.exit;
  }

  -- past the end of all branches
  caught_means : (n : ℕ) (e : Ending) (x : Exit) → Alike marking (suc n) e x → Alike marking n e (caught x)
  caught_means n (GoesOn f) x h = record { filing = h.filing; related = h.related; exit = ap caught h.exit }
  caught_means n (Returns f) x h = record { filing = h.filing; related = h.related; exit = ap caught h.exit }
  caught_means n (Stops f) x h = record { filing = h.filing; related = h.related; exit = ap caught h.exit }
  caught_means n (Faults fault f) x h = record { filing = h.filing; related = h.related; exit = ap caught h.exit }

  -- from the block of a true test to the end of all branches
  abbrev taken : (code.FlowState → List Entry → Exit) → Exit → Exit
  taken go x = caught (code.and_then (caught (code.and_then x (effect called c (leave 1)))) go)

  taken_means : (n : ℕ) (e : Ending) (x : Exit) (go : code.FlowState → List Entry → Exit) → Alike marking (suc (suc n)) e x
      → Alike marking n e (taken go x)
  taken_means n (GoesOn f) x go h = record { filing = h.filing; related = h.related; exit = ap (taken go) h.exit }
  taken_means n (Returns f) x go h = record { filing = h.filing; related = h.related; exit = ap (taken go) h.exit }
  taken_means n (Stops f) x go h = record { filing = h.filing; related = h.related; exit = ap (taken go) h.exit }
  taken_means n (Faults fault f) x go h = record { filing = h.filing; related = h.related; exit = ap (taken go) h.exit }

  cancels : (copy : Bool) → nat_eq (copy_number copy) 0 ≡ not copy
  cancels true = refl
  cancels false = refl

  file_means : (n : ℕ) (copy : Bool) (path : List ℕ) (f : Filing) (s : code.FlowState) → AreAlike marking f s
      → Alike marking n (filing c copy path f) (effect called c (action (FileInto (copy_number copy) path)) s [])
  file_means n copy path f s r =
      let now : code.FlowState = record s { filed = insert_path path s.filed; cancelled = s.cancelled || nat_eq (copy_number copy) 0 } in
      elim (c.is_open path) as (λ b.
      Alike marking n (cond b (GoesOn (record f {
        filed = insert_path path f.filed;
        cancelled =
            f.cancelled || not copy;
      })) (Faults ClassNotOpen f))
      (cond b (FallsThrough now []) (EndsRun (Some ClassNotOpen) s))) [
        | true ↦ record {
          filing = now;
          related = record {
            filed = ap (λ (p : Paths). insert_path path p) r.filed;
            kept = r.kept;
            cancelled = ap (λ b. b || nat_eq (copy_number copy) 0) r.cancelled
                ∙ ap (λ b. f.cancelled || b) (cancels copy);
            marks = r.marks;
          };
          exit = refl;
        }
        | false ↦ record { filing = s; related = r; exit = refl }
      ]

  -- the code of these includes does what they do
  abbrev pub AgreesAt : (Include → Flow) → Included → List Include → Type 0
  AgreesAt g h is = (i : Include) → IsIn i is → (n : ℕ) (f : Filing) (s : code.FlowState) → AreAlike marking f s
      → Alike marking n (h i f) (effect called c (g i) s [])

  module _ (g : Include → Flow) (h : Included) where
    mutual
      pub means_at : (n : ℕ) (xs : Commands) → AgreesAt g h (includes_of xs) → (f : Filing) (s : code.FlowState)
          → AreAlike marking f s → Alike marking n (run c h xs f) (effect called c (flow g n xs) s [])
      means_at n no_command agree f s r = record { filing = s; related = r; exit = refl }
      means_at n (command_then x xs) agree f s r =
          then_means n (run_one c h x f) (effect called c (flow_one g n x) s []) (flow g n xs) (run c h xs)
          (one_means n x (λ i is. agree i (in_front i (includes_in x) (includes_of xs) is)) f s r)
          (means_at n xs (λ i is. agree i (in_rest i (includes_in x) (includes_of xs) is)))

      one_means : (n : ℕ) (x : Command) → AgreesAt g h (includes_in x) → (f : Filing) (s : code.FlowState)
          → AreAlike marking f s → Alike marking n (run_one c h x f) (effect called c (flow_one g n x) s [])
      one_means n require agree f s r = record { filing = s; related = r; exit = refl }
      one_means n keep agree f s r =
          record {
            filing = record s { kept = true };
            related =
                record { filed = r.filed; kept = refl; cancelled = r.cancelled; marks = r.marks };
            exit = refl;
          }
      one_means n discard agree f s r = record {
        filing = record s { cancelled = true };
        related =
            record { filed = r.filed; kept = r.kept; cancelled = refl; marks = r.marks };
        exit = refl;
      }
      one_means n stop agree f s r = record { filing = s; related = r; exit = refl }
      one_means n return agree f s r = record { filing = s; related = r; exit = refl }
      one_means n (file_into copy path) agree f s r = file_means n copy path f s r
      one_means n (branch bs) agree f s r = branches_means n bs agree f s r
      one_means n (include i) agree f s r = agree i (inl refl) n f s r

      branches_means : (n : ℕ) (bs : Branches) → AgreesAt g h (branch_includes bs) → (f : Filing) (s : code.FlowState)
          → AreAlike marking f s
          → Alike marking n (run_branches c h bs f) (caught (effect called c (branches_flow g (suc n) bs) s []))
      branches_means n no_branch agree f s r = record { filing = s; related = r; exit = refl }
      branches_means n (otherwise xs) agree f s r =
          caught_means n (run c h xs f) (effect called c (flow g (suc n) xs) s []) (means_at (suc n) xs agree f s r)
      branches_means n (if_then t xs bs) agree f s r =
          let inside : AgreesAt g h (includes_of xs) = λ i is. agree i (in_front i (includes_of xs) (branch_includes bs) is) in
          let others : AgreesAt g h (branch_includes bs) = λ i is. agree i (in_rest i (includes_of xs) (branch_includes bs) is) in
          rw (test_means called c t s) (elim (truth c t) as (λ b.
          Alike marking n (cond b (run c h xs f) (run_branches c h bs f))
          (caught (code.and_then
          (caught (code.and_then (code.jump_exit false 0 s (T b ∷ []))
          (effect called c (sequence (flow g (suc (suc n)) xs) (leave 1)))))
          (effect called c (branches_flow g (suc n) bs))))) [
            | true ↦ taken_means n (run c h xs f) (effect called c (flow g (suc (suc n)) xs) s [])
                (effect called c (branches_flow g (suc n) bs)) (means_at (suc (suc n)) xs inside f s r)
            | false ↦ branches_means n bs others f s r
          ])

  module _ (g : Include → Flow) (h : Included) (agree : Agrees called c marking g h) where
    pub flow_means : (n : ℕ) (xs : Commands) (f : Filing) (s : code.FlowState) → AreAlike marking f s
        → Alike marking n (run c h xs f) (effect called c (flow g n xs) s [])
    flow_means n xs f s r = means_at g h n xs (λ i is. agree i) f s r
