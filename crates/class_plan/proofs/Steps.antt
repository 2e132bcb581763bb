-- Reading members one by one.
use Rattle.std.proofs.Common.{◌≡◌, ℕ, Bool, true, false, ◌&&◌, List, [], ◌∷◌, Option, Some, None, option_map, refl, ap}
use Rattle.std.proofs.Common.{◌∙◌, String, Global, string_bytes}
use Rattle.std.specs.Map.{keys_of}
use Rattle.toml.specs.Data.{Data, as_str}
use Rattle.toml.specs.View.{members_view}
use Rattle.toml.proofs.Views.{Entry}
use Rattle.class_plan.specs.Texts.{schedule_of_bytes}
use Rattle.class_plan.specs.Entries.{stated_if}
use Rattle.class_plan.specs.Document.{has_only, statement_of}

pub statement-text : (o : Option Data) (d : Data) (t : List ℕ) → Some d ≡ o → Some t ≡ as_str d
    → Some (stated_if (Some (schedule_of_bytes t))) ≡ statement_of o
statement-text o d t is e = rw (← is) (ap (option_map (λ t. stated_if (Some (schedule_of_bytes t)))) e)

pub statement-other : (o : Option Data) (d : Data) → Some d ≡ o → None ≡ as_str d → None ≡ statement_of o
statement-other o d is e = rw (← is) (ap (option_map (λ t. stated_if (Some (schedule_of_bytes t)))) e)

-- each of the keys is a known one
abbrev pub are_known : (List ℕ → Bool) → List (String Global) → Bool
are_known known [] = true
are_known known (k ∷ ks) = known (string_bytes k) && are_known known ks

pub has_only-keys : (known : List ℕ → Bool) (es : List Entry) → are_known known (keys_of es) ≡ has_only known (members_view es)
has_only-keys known [] = refl
has_only-keys known (e ∷ es) = rw (has_only-keys known es)

pub known-more : (known : List ℕ → Bool) (k : String Global) (all s t : List (String Global)) → s ≡ k ∷ t
    → are_known known all ≡ are_known known s → known (string_bytes k) ≡ true → are_known known all ≡ are_known known t
known-more known k all s t is so e = so ∙ rw (is, e)

pub known-less : (known : List ℕ → Bool) (k : String Global) (all s t : List (String Global)) → s ≡ k ∷ t
    → are_known known all ≡ are_known known s → known (string_bytes k) ≡ false → are_known known all ≡ false
known-less known k all s t is so e = so ∙ rw (is, e)

pub known-all : (known : List ℕ → Bool) (all s : List (String Global)) → s ≡ [] → are_known known all ≡ are_known known s → are_known known all ≡ true
known-all known all s is so = so ∙ rw is
