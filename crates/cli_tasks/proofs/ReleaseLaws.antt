-- Records that are listed in volumes, one after another.
use Rattle.std.proofs.Common.{◌≡◌, ◌∙◌, ◌+◌, ◌++◌, ◌∷◌, [], ℕ, Bool, List, add-one, ap₂, false, map, not, refl, subst, sym, true}
use Rattle.std.proofs.lemmas.List.{map-append}
use Rattle.std.proofs.lemmas.List.Elements.{All-nil, All-push}
use Rattle.sqlite.specs.Store.{Ghosts}
use Rattle.record_store.specs.declared.store.Store.{Store}
use Rattle.record_volumes.specs.Rows.{numbers_to}
use Rattle.cli_tasks.specs.Releases.{ListsEach, ListsIn}
use Rattle.cli_tasks.specs.declared.volume_changes.Listed.{Listed}

-- nothing follows for a volume in which none was listed
pub none_in : {X : Type 0} (b : Bool) → b ≡ true → not b ≡ true → X
none_in true is some = absurd cc
none_in false is some = absurd cc

-- the volumes in which records were listed, and the next one
pub volumes_next : (below : ℕ) (ls : List Listed) (l : Listed) → map (λ (x : Listed). x.volume) ls ≡ numbers_to below → l.volume ≡ below + 1
    → map (λ (x : Listed). x.volume) (ls ++ l ∷ []) ≡ numbers_to (below + 1)
volumes_next below ls l were is =
    let step : numbers_to below ++ (below + 1) ∷ [] ≡ numbers_to (below + 1) = rw add-one refl in
    map-append (λ (x : Listed). x.volume) ls (l ∷ []) ∙ ap₂ (λ xs v. xs ++ v ∷ []) were is ∙ step

module _ {S : Type 0} (g : Ghosts S) (IsAt : (path : List ℕ) → Store S → Type 0) (folder name : List ℕ) where
  pub listed_in_none : (ls : List Listed) → ls ≡ [] → ListsEach g IsAt folder name 0 ls
  listed_in_none ls none = subst (λ xs. ListsEach g IsAt folder name 0 xs) (sym none)
      (record { are = refl; each = All-nil (ListsIn g IsAt folder name) })

  pub listed_in_next : (below : ℕ) (ls : List Listed) (l : Listed) (all : List Listed) → all ≡ ls ++ l ∷ []
      → ListsEach g IsAt folder name below ls → ListsIn g IsAt folder name l → l.volume ≡ below + 1
      → ListsEach g IsAt folder name (below + 1) all
  listed_in_next below ls l all these was one is = subst (λ xs. ListsEach g IsAt folder name (below + 1) xs) (sym these) (record {
    are = volumes_next below ls l was.are is;
    each = All-push (ListsIn g IsAt folder name) ls l was.each one;
  })
