use Rattle.std.proofs.Common.{◌≡◌, ◌-◌, ◌<◌, ◌≤◌, ℕ, length, map, None, sym, ap, ◌∙◌, subst, arith}
use Rattle.std.specs.Prelude.{Option, Some, slice_index}
use Rattle.std.specs.Option.{SomeIff}
use Rattle.sieve_library.specs.BorrowedShelves.{scripts_of}
use Rattle.sieve_library.specs.Libraries.{library_of}
use Rattle.filing_procedures.specs.ProcedureCode.{procedure_of}
use Rattle.filing_gen.specs.Procedures.{path_weights}
use Rattle.filing_gen.specs.Weights.{IsLeft}
use Rattle.filing_gen.specs.Inclusions.{path_of, path_of_call, EntersOneOf, CallsOneOf}
use Rattle.filing_gen.specs.declared.callees.Call.{Call}
use Rattle.filing_gen.specs.declared.callees.Call.TheVariants.{To}
use Rattle.filing_gen.specs.declared.callees.Inclusion.{Inclusion}
use Rattle.filing_gen.specs.declared.callees.Inclusion.TheVariants.{Enter}
use Rattle.filing_gen.proofs.PathTables.{table_at, none_known, some_known}
use Rattle.filing_gen.proofs.paths.PathsWeights.weigh.Goals as goal

-- the number is that of one of the later procedures
below : (count : ℕ) (j : Inclusion) (slot n : ℕ) (call : Call) → EntersOneOf count j → j ≡ Enter slot call → call ≡ To n → n < count
below count j slot n call h is to = subst (CallsOneOf count) to (subst (EntersOneOf count) is h).1

left_by : (left taken weight : ℕ) (o : Option ℕ) → SomeIff o (taken ≤ left) (left - taken) → taken ≡ weight → IsLeft left weight o
left_by left taken weight None h is = grind arith
left_by left taken weight (Some rest) h is = omega (arith, h.0, h.1)

pub returns-in_err-weight_at-in-Enter-default-To : goal.returns-in_err-weight_at-in-Enter-default-To
returns-in_err-weight_at-in-Enter-default-To c =
    let s = c.args.self.now in
    let lib = library_of (scripts_of s.callees.scope.shelves) in
    let ws = path_weights lib (map procedure_of s.callees.later.now) in
    let n = c.in-Enter-default-To.number in
    let inside =
    below (length s.callees.later.now) c.inclusion.result c.in-Enter-default-To.field-0 n
    c.in-Enter-default-To.field-1 c.inclusion.ensures.within c.in-Enter-default-To.is
    c.in-Enter-default-To.field-1-is in
    let path = c.inclusion.ensures.path ws ∙ ap (λ (j : Inclusion). path_of ws j) c.in-Enter-default-To.is
    ∙ ap (λ (k : Call). path_of_call ws k) c.in-Enter-default-To.field-1-is in
    let none = none_known (slice_index ws n) (sym c.in_err-weight_at-in-Enter-default-To.was ∙ c.weight_at.ensures
    ∙ table_at lib s.callees.later.now s.later.now s.weights n inside) in
    rw c.from_residual.ensures (omega (arith, path, none, c.ranges.left.fits))

pub returns-in_ok-weight_at-in-Enter-default-To : goal.returns-in_ok-weight_at-in-Enter-default-To
returns-in_ok-weight_at-in-Enter-default-To c =
    let s = c.args.self.now in
    let lib = library_of (scripts_of s.callees.scope.shelves) in
    let ws = path_weights lib (map procedure_of s.callees.later.now) in
    let n = c.in-Enter-default-To.number in
    let inside =
    below (length s.callees.later.now) c.inclusion.result c.in-Enter-default-To.field-0 n
    c.in-Enter-default-To.field-1 c.inclusion.ensures.within c.in-Enter-default-To.is
    c.in-Enter-default-To.field-1-is in
    let path = c.inclusion.ensures.path ws ∙ ap (λ (j : Inclusion). path_of ws j) c.in-Enter-default-To.is
    ∙ ap (λ (k : Call). path_of_call ws k) c.in-Enter-default-To.field-1-is in
    let known = some_known (slice_index ws n) c.in_ok-weight_at-in-Enter-default-To.field-0
    (sym c.in_ok-weight_at-in-Enter-default-To.was ∙ c.weight_at.ensures
    ∙ table_at lib s.callees.later.now s.later.now s.weights n inside) in
    left_by c.args.left c.in_ok-weight_at-in-Enter-default-To.field-0 _ c.checked_sub.result c.checked_sub.ensures (known ∙ sym path)
