-- What the checker knows is what the commands before say, so its walk gives the refusal.
use Rattle.std.proofs.Common.{◌≡◌, ℕ, eqb, Bool, true, false, List, [], ◌∷◌, ◌++◌, Option, Some, None, Result, Ok, Err, refl, sym, ap, ◌∙◌}
use Rattle.std.specs.Prelude.{◌||◌, ◌&&◌, not}
use Rattle.std.specs.List.{list_any}
use Rattle.std.proofs.Math.Bool.{or_assoc}
use Rattle.std.proofs.lemmas.List.Folds.{list_any-append}
use Rattle.sieve_syntax.specs.Tree.{CommandTrees}
use Rattle.sieve_check.specs.declared.context.Context.{Context}
use Rattle.sieve_check.specs.declared.capability_set.CapabilitySet.{CapabilitySet}
use Rattle.sieve_check.specs.declared.table.Capability.{Capability}
use Rattle.sieve_check.specs.declared.table.Capability.TheVariants.{Fileinto, Copy, Include, OctetComparator, CasemapComparator}
use Rattle.sieve_check.specs.Context.{no_capabilities, has_of, set_with, set_and, set_after}
use Rattle.sieve_check.specs.Lookup.{capability_named, is_capability, names, capability_place}
use Rattle.sieve_check.specs.Rules.{PlacedCommand, role_of, is_require, strings_in, requires, named_by, has_begun, place_breaches, command_breaches}
use Rattle.sieve_check.specs.Rules.{least, earlier, refusal_from, refusal_of, in_order}
use Rattle.sieve_check.specs.Tables.{CapabilityWord}
use Rattle.sieve_check.specs.Walk.{start, after_command, context_after, breach_of, unless, walk}

or_true : (b : Bool) → true ≡ (b || true)
or_true true = refl
or_true false = refl

or_false : (b : Bool) → b ≡ (b || false)
or_false true = refl
or_false false = refl

has_with : (n : CapabilitySet) (a k : Capability) → has_of (set_with n a) k ≡ (has_of n k || (eqb (capability_place a) (capability_place k)))
has_with n Fileinto Fileinto = or_true (has_of n Fileinto)
has_with n Fileinto Copy = or_false (has_of n Copy)
has_with n Fileinto Include = or_false (has_of n Include)
has_with n Fileinto OctetComparator = or_false (has_of n OctetComparator)
has_with n Fileinto CasemapComparator = or_false (has_of n CasemapComparator)
has_with n Copy Fileinto = or_false (has_of n Fileinto)
has_with n Copy Copy = or_true (has_of n Copy)
has_with n Copy Include = or_false (has_of n Include)
has_with n Copy OctetComparator = or_false (has_of n OctetComparator)
has_with n Copy CasemapComparator = or_false (has_of n CasemapComparator)
has_with n Include Fileinto = or_false (has_of n Fileinto)
has_with n Include Copy = or_false (has_of n Copy)
has_with n Include Include = or_true (has_of n Include)
has_with n Include OctetComparator = or_false (has_of n OctetComparator)
has_with n Include CasemapComparator = or_false (has_of n CasemapComparator)
has_with n OctetComparator Fileinto = or_false (has_of n Fileinto)
has_with n OctetComparator Copy = or_false (has_of n Copy)
has_with n OctetComparator Include = or_false (has_of n Include)
has_with n OctetComparator OctetComparator = or_true (has_of n OctetComparator)
has_with n OctetComparator CasemapComparator = or_false (has_of n CasemapComparator)
has_with n CasemapComparator Fileinto = or_false (has_of n Fileinto)
has_with n CasemapComparator Copy = or_false (has_of n Copy)
has_with n CasemapComparator Include = or_false (has_of n Include)
has_with n CasemapComparator OctetComparator = or_false (has_of n OctetComparator)
has_with n CasemapComparator CasemapComparator = or_true (has_of n CasemapComparator)

has_and : (n : CapabilitySet) (o : Option CapabilityWord) (k : Capability) → has_of (set_and n o) k ≡ (has_of n k || is_capability o k)
has_and n None k = or_false (has_of n k)
has_and n (Some w) k = has_with n w.capability k

has_after : (n : CapabilitySet) (ss : List (List ℕ)) (k : Capability) → has_of (set_after n ss) k ≡ (has_of n k || list_any (λ s. names s k) ss)
has_after n [] k = or_false (has_of n k)
has_after n (s ∷ ss) k =
    has_after (set_and n (capability_named s)) ss k
    ∙ ap (λ (b : Bool). b || list_any (λ t. names t k) ss) (has_and n (capability_named s) k)
    ∙ or_assoc (has_of n k) (names s k) (list_any (λ t. names t k) ss)

-- the context says what these commands say
record Knows (before : List PlacedCommand) (c : Context) : Type 0 where
  named : (k : Capability) → has_of c.named k ≡ named_by before k
  begun : c.begun ≡ has_begun before

named_more : (before : List PlacedCommand) (c : Context) (p : PlacedCommand) (b : Bool) (k : Capability)
    → has_of c.named k ≡ named_by before k
    → has_of (after_command b c p.args).named k
    ≡ (named_by before k || ((b && list_any (λ s. names s k) (strings_in p.args)) || false))
named_more before c p true k h = has_after c.named (strings_in p.args) k
    ∙ ap (λ (x : Bool). x || list_any (λ s. names s k) (strings_in p.args)) h
    ∙ ap (λ (x : Bool). named_by before k || x) (or_false (list_any (λ s. names s k) (strings_in p.args)))
named_more before c p false k h = h ∙ or_false (named_by before k)

begun_more : (before : List PlacedCommand) (c : Context) (p : PlacedCommand) (b : Bool) → c.begun ≡ has_begun before
    → (after_command b c p.args).begun ≡ (has_begun before || (not b || false))
begun_more before c p true h = h ∙ or_false (has_begun before)
begun_more before c p false h = or_true (has_begun before)

knows_more : (before : List PlacedCommand) (c : Context) (p : PlacedCommand) → Knows before c → Knows (before ++ p ∷ []) (context_after c p)
knows_more before c p h = record {
  named = λ k. named_more before c p (is_require (role_of p.word)) k (h.named k) ∙ sym (list_any-append (λ q. requires q k) before (p ∷ []));
  begun = begun_more before c p (is_require (role_of p.word)) h.begun
      ∙ sym (list_any-append (λ q. not (is_require (role_of q.word))) before (p ∷ []));
}

same_function : {A B : Type 0} {f g : A → B} → ((x : A) → f x ≡ g x) → f ≡ g
same_function h = λ i x. h x i

judged_is : (before : List PlacedCommand) (c : Context) (p : PlacedCommand) → Knows before c → breach_of c p ≡ least (command_breaches before p)
judged_is before c p h =
    ap (λ (f : Capability → Bool). least (place_breaches f c.begun p.word p)) (same_function h.named)
    ∙ ap (λ (b : Bool). least (place_breaches (named_by before) b p.word p)) h.begun

abbrev pub refused : Result Context ℕ → Option ℕ
refused (Ok c) = None
refused (Err n) = Some n

refused_unless : (o : Option ℕ) (r : Result Context ℕ) → refused (unless o r) ≡ earlier o (refused r)
refused_unless None r = refl
refused_unless (Some n) r = refl

walk_refuses : (before : List PlacedCommand) (c : Context) (ps : List PlacedCommand) → Knows before c → refused (walk c ps) ≡ refusal_from before ps
unfolding walk refusal_from
walk_refuses before c [] h = refl
walk_refuses before c (p ∷ ps) h =
    refused_unless (breach_of c p) (walk (context_after c p) ps)
    ∙ ap (λ (o : Option ℕ). earlier o (refused (walk (context_after c p) ps))) (judged_is before c p h)
    ∙ ap (λ (o : Option ℕ). earlier (least (command_breaches before p)) o) (walk_refuses (before
    ++ p ∷ []) (context_after c p) ps (knows_more before c p h))

has_nothing : (k : Capability) → has_of no_capabilities k ≡ false
has_nothing Fileinto = refl
has_nothing capability = refl

pub walk_is_refusal : (tree : CommandTrees) → refused (walk start (in_order false tree)) ≡ refusal_of tree
unfolding refusal_of
walk_is_refusal tree = walk_refuses [] start (in_order false tree) (record { named = has_nothing; begun = refl })
