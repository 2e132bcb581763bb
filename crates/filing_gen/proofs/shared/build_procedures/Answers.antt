use Rattle.std.proofs.Common.{◌≡◌, ◌∙◌, ◌<◌, ◌≤◌, ℕ, List, Option, Bor, map, refl, sym, subst, arith}
use Rattle.std.specs.Prelude.{MatchOption}
use Rattle.std.specs.Option.{option_map}
use Rattle.sieve_meaning.specs.Program.{Commands}
use Rattle.sieve_meaning.specs.Procedures.{shared_weight, path_weight, greatest_path}
use Rattle.sieve_meaning.specs.Weight.{greatest_weight}
use Rattle.sieve_library.specs.BorrowedShelves.{scripts_of}
use Rattle.sieve_library.specs.Libraries.{Scripts, library_of}
use Rattle.filing_procedures.specs.ProcedureCode.{procedure_of, AreProcedures}
use Rattle.filing_procedures.specs.declared.procedure.Procedure as code
use Rattle.filing_gen.proofs.SharedBuilt.{heavy_by_path, heavy_by_code, light_by_all, few_written, shared_image, compiled_image}
use Rattle.filing_gen.proofs.shared.build_procedures.Goals as goal

-- the procedures as a slice
lent : (l : Scripts) (known : Option (List ℕ)) (x : Commands) (ps items : List code.Procedure) → ps ≡ items
    → AreProcedures l known x items → AreProcedures l known x ps
lent l known x ps items is are = subst (AreProcedures l known x) (sym is) are

-- what the longest path weighs
path_at : (l : Scripts) (known : Option (List ℕ)) (x : Commands) (found o : Option ℕ) → found ≡ o
    → MatchOption found (greatest_path < path_weight (library_of l) known x) (λ w.
    (w ≡ path_weight (library_of l) known x) × (w ≤ greatest_path))
    → MatchOption o (greatest_path < path_weight (library_of l) known x) (λ w. (w ≡ path_weight (library_of l) known x) × (w ≤ greatest_path))
path_at l known x found o is h =
    subst (λ (e : Option ℕ). MatchOption e (greatest_path < path_weight (library_of l) known x) (λ w.
    (w ≡ path_weight (library_of l) known x) × (w ≤ greatest_path))) is h

pub returns-in_default-clause-too_large : goal.returns-in_default-clause-too_large
returns-in_default-clause-too_large c = λ x are over no.
    let l = scripts_of c.args.reach.now.shelves in
    let known : Option (List ℕ) = option_map (λ (s : Bor (List ℕ)). s.now) c.args.main.known_as in
    let slice = lent l known x c.as_slice.result.now c.args.procedures.items c.as_slice.ensures.value are in
    (λ h. heavy_by_code l known x c.as_slice.result.now slice over c.in_default.ensures, λ h. refl)

pub returns-in_default-2-clause-too_large : goal.returns-in_default-2-clause-too_large
returns-in_default-2-clause-too_large c = λ x are over no.
    let l = scripts_of c.args.reach.now.shelves in
    let known : Option (List ℕ) = option_map (λ (s : Bor (List ℕ)). s.now) c.args.main.known_as in
    let slice = lent l known x c.as_slice-2.result.now c.args.procedures.items c.as_slice-2.ensures.value are in
    (λ h. heavy_by_path l known x over (path_at l known x c.in_ok-path.field-0 _ c.in_default-2.is (c.in_ok-path.ensures known x slice)), λ h. refl)

pub image_of-requires-clause-few : goal.image_of-requires-clause-few
image_of-requires-clause-few c =
    let l = scripts_of c.args.reach.now.shelves in
    let known : Option (List ℕ) = option_map (λ (s : Bor (List ℕ)). s.now) c.args.main.known_as in
    let light : shared_weight (map procedure_of c.as_slice-3.result.now) ≤ greatest_weight =
    subst (λ (ps : List code.Procedure). shared_weight (map procedure_of ps) ≤ greatest_weight)
    (c.as_slice.ensures.value
    ∙ sym c.as_slice-3.ensures.value) (omega (arith, c.in-Some.ensures.0, c.in-Some.ensures.1)) in
    few_written l known c.requires.are.0 c.as_slice-3.result.now c.in_ok-out.out c.in_ok-out.first_places.items c.in_ok-out.ensures light

pub image_of-requires-clause-well : goal.image_of-requires-clause-well
image_of-requires-clause-well c =
    let l = scripts_of c.args.reach.now.shelves in
    let known : Option (List ℕ) = option_map (λ (s : Bor (List ℕ)). s.now) c.args.main.known_as in
    let x = c.requires.are.0 in
    let slice = lent l known x c.as_slice-2.result.now c.args.procedures.items c.as_slice-2.ensures.value c.requires.are.1 in
    let all = lent l known x c.as_slice-3.result.now c.args.procedures.items c.as_slice-3.ensures.value c.requires.are.1 in
    let path = path_at l known x c.in_ok-path.field-0 _ c.in-Some-2.is (c.in_ok-path.ensures known x slice) in
    λ p made. (shared_image l known x c.as_slice-3.result.now all c.slot_count-slots.result
    c.slot_count-slots.ensures.enough c.in_ok-out.out p c.in-Some-2.path c.in_ok-out.first_places.items
    c.in_ok-out.ensures made path (omega (
      arith,
      c.requires.few,
      c.as_slice-3.ensures.len,
      c.args.procedures.ok.0,
    ))).well

pub returns-clause-compiled : goal.returns-clause-compiled
returns-clause-compiled c = λ x are over.
    let l = scripts_of c.args.reach.now.shelves in
    let known : Option (List ℕ) = option_map (λ (s : Bor (List ℕ)). s.now) c.args.main.known_as in
    let slice = lent l known x c.as_slice-2.result.now c.args.procedures.items c.as_slice-2.ensures.value are in
    let all = lent l known x c.as_slice-3.result.now c.args.procedures.items c.as_slice-3.ensures.value are in
    let path = path_at l known x c.in_ok-path.field-0 _ c.in-Some-2.is (c.in_ok-path.ensures known x slice) in
    let image = shared_image l known x c.as_slice-3.result.now all c.slot_count-slots.result
    c.slot_count-slots.ensures.enough c.in_ok-out.out c.in_ok-image.image c.in-Some-2.path
    c.in_ok-out.first_places.items c.in_ok-out.ensures c.in_ok-image.ensures.made path (omega (
      arith,
      c.requires.few,
      c.as_slice-3.ensures.len,
      c.args.procedures.ok.0,
    )) in
    compiled_image l known x c.as_slice-3.result.now all c.slot_count-slots.result c.slot_count-slots.ensures.enough
    c.in_ok-out.out c.in_ok-image.image c.in-Some-2.path c.in_ok-out.first_places.items over image

pub returns-clause-too_large : goal.returns-clause-too_large
returns-clause-too_large c = λ x are over no.
    let l = scripts_of c.args.reach.now.shelves in
    let known : Option (List ℕ) = option_map (λ (s : Bor (List ℕ)). s.now) c.args.main.known_as in
    let first = lent l known x c.as_slice.result.now c.args.procedures.items c.as_slice.ensures.value are in
    let slice = lent l known x c.as_slice-2.result.now c.args.procedures.items c.as_slice-2.ensures.value are in
    let path = path_at l known x c.in_ok-path.field-0 _ c.in-Some-2.is (c.in_ok-path.ensures known x slice) in
    let light = light_by_all l known x c.as_slice.result.now first over (omega (
      arith,
      c.requires.few,
      c.as_slice.ensures.len,
      c.args.procedures.ok.0,
    )) (omega (arith, c.in-Some.ensures.0, c.in-Some.ensures.1))
    (omega (arith, path.0, path.1)) in
    (λ h. absurd (cc h), λ heavy. absurd (cc (light, heavy)))
