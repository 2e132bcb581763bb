-- The code of the includes of a procedure, by what they come to.
use Rattle.std.proofs.Common.{◌≡◌, ℕ, List, [], Bool, true, false, refl, ap, ◌∙◌, arith}
use Rattle.filing_flow.specs.Structure.{Flow}
use Rattle.filing_flow.specs.Types.{Shape, HasType}
use Rattle.filing_gen.specs.IncludeCode.{once_flow}
use Rattle.filing_gen.specs.Inclusions.{code_of_call, code_of}
use Rattle.filing_gen.specs.declared.callees.Call.{Call}
use Rattle.filing_gen.specs.declared.callees.Call.TheVariants.{TooDeep, To, Missing}
use Rattle.filing_gen.specs.declared.callees.Inclusion.{Inclusion}
use Rattle.filing_gen.specs.declared.callees.Inclusion.TheVariants.{Enter}

pub code_typed : (own slot : ℕ) (call : Call) (es : List Shape) → HasType (code_of_call own slot call) es [] []
code_typed own slot TooDeep es = (refl, omega arith, omega arith)
code_typed own slot (To n) es = ([], (refl, omega arith, omega arith), (refl, omega arith, omega arith))
code_typed own slot Missing es = ([], (refl, omega arith, omega arith), (refl, omega arith, omega arith))

module _ (a : Flow) (own slot : ℕ) (call : Call) (once : Bool) (j : Inclusion) (code : a ≡ code_of own once j) (is : j ≡ Enter slot call) where
  entered : a ≡ once_flow once slot (code_of_call own slot call)
  entered = code ∙ ap (λ (k : Inclusion). code_of own once k) is

  pub plain_code : once ≡ false → a ≡ code_of_call own slot call
  plain_code plain = entered ∙ ap (λ (b : Bool). once_flow b slot (code_of_call own slot call)) plain

  pub once_code : once ≡ true → a ≡ once_flow true slot (code_of_call own slot call)
  once_code marked = entered ∙ ap (λ (b : Bool). once_flow b slot (code_of_call own slot call)) marked
