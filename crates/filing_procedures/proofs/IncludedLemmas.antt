-- The names that are gathered are those of the scripts that are included, each once.
use Rattle.std.proofs.Common.{◌≡◌, List, [], ◌∷◌, ◌++◌, map, Bool, true, ◌||◌, refl, sym, ap, ◌∙◌, subst}
use Rattle.std.specs.List.{list_any}
use Rattle.std.proofs.lemmas.List.{map-append}
use Rattle.sieve_meaning.specs.Program.{Include, Command, branch, Commands, no_command, command_then, Branches, no_branch, otherwise, if_then}
use Rattle.sieve_meaning.specs.Meaning.{Library, ScriptName, script_named, same_script}
use Rattle.sieve_meaning.specs.Procedures.{includes_of, includes_in, branch_includes}
use Rattle.sieve_meaning.proofs.SharingLemmas.{same_is}
use Rattle.sieve_meaning.proofs.ProcedureLemmas.{AllOf}
use Rattle.filing_procedures.specs.IncludedScripts.{is_there, names_there, with_included, with_one, with_branches}
use Rattle.filing_procedures.proofs.OnceLemmas.{puts, puts_append, puts_once}

pub any_map : {A B : Type 0} (p : B → Bool) (f : A → B) (xs : List A) → list_any p (map f xs) ≡ list_any (λ x. p (f x)) xs
any_map p f [] = refl
any_map p f (x ∷ xs) = ap (λ (b : Bool). p (f x) || b) (any_map p f xs)

module _ (lib : Library) where
  abbrev names_of : List Include → List ScriptName
  names_of is = map script_named is

  abbrev gathered : List ScriptName → List ScriptName → List ScriptName
  gathered names more = puts same_script (is_there lib) names more

  joined : (is js : List Include) (names : List ScriptName)
      → gathered names (names_of (is ++ js)) ≡ gathered (gathered names (names_of is)) (names_of js)
  joined is js names = ap (gathered names) (map-append script_named is js) ∙ puts_append same_script (is_there lib) names (names_of is) (names_of js)

  mutual
    gathers : (x : Commands) (names : List ScriptName) → with_included lib x names ≡ gathered names (names_of (includes_of x))
    gathers no_command names = refl
    gathers (command_then x xs) names =
        gathers xs (with_one lib x names)
        ∙ ap (λ (ns : List ScriptName). gathered ns (names_of (includes_of xs))) (gathers_one x names)
        ∙ sym (joined (includes_in x) (includes_of xs) names)

    gathers_one : (x : Command) (names : List ScriptName) → with_one lib x names ≡ gathered names (names_of (includes_in x))
    gathers_one (branch bs) names = gathers_branches bs names
    gathers_one x names = refl

    gathers_branches : (bs : Branches) (names : List ScriptName) → with_branches lib bs names ≡ gathered names (names_of (branch_includes bs))
    gathers_branches no_branch names = refl
    gathers_branches (otherwise xs) names = gathers xs names
    gathers_branches (if_then t xs bs) names =
        gathers_branches bs (with_included lib xs names)
        ∙ ap (λ (ns : List ScriptName). gathered ns (names_of (branch_includes bs))) (gathers xs names)
        ∙ sym (joined (includes_of xs) (branch_includes bs) names)

  all_names : (names : List ScriptName) → AllOf (λ s. Unit {0}) names
  all_names [] = tt
  all_names (s ∷ ss) = (tt, all_names ss)

  pub gathers_there : (x : Commands) → with_included lib x [] ≡ names_there lib x
  gathers_there x =
      gathers x []
      ∙ puts_once same_script (is_there lib) (λ s. Unit {0})
      (λ s t u ps pt pu st tu. subst (λ (v : ScriptName). same_script s v ≡ true) (same_is t u tu) st)
      (λ s t ps pt st. ap (is_there lib) (same_is s t st))
      (names_of (includes_of x)) (all_names (names_of (includes_of x)))
