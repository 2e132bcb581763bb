use Rattle.std.proofs.Common.{◌≡◌, List, [], ◌∷◌, ◌++◌, map, refl, ap, ◌∙◌, subst}
use Rattle.std.proofs.lemmas.Result.{IfOk-weaker}
use Rattle.std.specs.List.{flat_map}
use Rattle.sieve_syntax.specs.declared.token.Token.{Token}
use Rattle.tool_findings.specs.Commands.{fronts_from, include_by, items_of, own_tokens}
use Rattle.rule_folders.specs.Includes.{Leads}
use Rattle.rule_folders.proofs.includes.includes_in.Goals as goal

over_map : {X Y Z : Type 0} (f : X → Y) (h : Y → List Z) (xs : List X) → flat_map (λ x. h (f x)) xs ≡ flat_map h (map f xs)
over_map f h [] = refl
over_map f h (x ∷ xs) = ap (λ l. h (f x) ++ l) (over_map f h xs)

pub returns : goal.returns
unfolding Leads
returns c =
    let ts = c.in_ok-tokens.tokens.items in
    let fronts = c.in_ok-fronts.fronts.items in
    let of_front = λ (front : List Token). items_of (include_by front) in
    IfOk-weaker c.includes_of_fronts.result _ _ (λ v h. (
      ts,
      c.in_ok-tokens.ensures,
      h ∙ ap (λ t. flat_map (λ f. of_front (own_tokens t f)) c.as_slice-3.result.now) c.as_slice-2.ensures.value
          ∙ ap (flat_map (λ f. of_front (own_tokens ts f))) c.as_slice-3.ensures.value
          ∙ over_map (own_tokens ts) of_front fronts
          ∙ ap (flat_map of_front) (subst (λ t. map (own_tokens t) fronts ≡ fronts_from [] t) c.as_slice.ensures.value c.in_ok-fronts.ensures),
    )) c.includes_of_fronts.ensures
