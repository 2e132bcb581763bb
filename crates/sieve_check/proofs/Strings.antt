-- The strings of arguments, one argument after another.
use Rattle.std.proofs.Common.{◌≡◌, ℕ, suc, ◌+◌, ◌<◌, length, drop, get_or, drop-cons, add-one, List, [], ◌∷◌, ◌++◌, refl, ap, ◌∙◌, sym}
use Rattle.std.specs.List.{flat_map}
use Rattle.sieve_syntax.specs.declared.tree.Argument.{Argument}
use Rattle.sieve_check.specs.Rules.{argument_strings}
use Rattle.sieve_check.specs.Context.{set_and, set_after}
use Rattle.sieve_check.specs.Lookup.{capability_named}
use Rattle.sieve_check.specs.declared.capability_set.CapabilitySet.{CapabilitySet}

pub named_after_append : (n : CapabilitySet) (xs ys : List (List ℕ)) → set_after n (xs ++ ys) ≡ set_after (set_after n xs) ys
named_after_append n [] ys = refl
named_after_append n (x ∷ xs) ys = named_after_append (set_and n (capability_named x)) xs ys

pub drop_at : {X : Type 0} (xs : List X) (i : ℕ) (x : X) → i < length xs → x ≡ get_or xs i x → drop i xs ≡ x ∷ drop (i + 1) xs
drop_at xs i x h e = drop-cons xs i x h ∙ rw (add-one i) (ap (λ (y : _). y ∷ drop (suc i) xs) (sym e))

-- one more argument of a `require`
pub named_turn : (n m begin : CapabilitySet) (whole : List (List ℕ)) (items : List Argument) (i : ℕ) (a : Argument)
    → i < length items → a ≡ get_or items i a → set_after n (flat_map argument_strings (drop i items))
    ≡ set_after begin whole → m ≡ set_after n (argument_strings a)
    → set_after m (flat_map argument_strings (drop (i + 1) items)) ≡ set_after begin whole
named_turn n m begin whole items i a lt is h e =
    ap (λ (k : CapabilitySet). set_after k (flat_map argument_strings (drop (i + 1) items))) e
    ∙ sym (named_after_append n (argument_strings a) (flat_map argument_strings (drop (i + 1) items)))
    ∙ ap (λ (xs : List Argument). set_after n (flat_map argument_strings xs)) (sym (drop_at items i a lt is))
    ∙ h
