-- What scripts are read, and how they are seen.
use Rattle.std.specs.Prelude.{ℕ, suc, Bool, List, [], ◌++◌, Option, Some, None, option_map, unwrap_or, string_bytes, if◌then◌else◌, ◌∷◌}
use Rattle.std.specs.Str.{bytes_eq}
use Rattle.rule_folders.specs.declared.reached.Script.{Script}
use Rattle.rule_folders.specs.declared.reached.Found.{Found}
use Rattle.rule_folders.specs.declared.reached.Found.TheVariants as found

-- a script that is reached, without where it lies in memory: its path, the name and the location by which it was included
-- first, and its octets, or none where it has more than are read
pub record Entry : Type 0 where
  pub path : List ℕ
  pub name : List ℕ
  pub is_global : Bool
  pub text : Option (List ℕ)

abbrev pub entry_of : Script → Entry
entry_of s = record { path = string_bytes s.path; name = s.name.items; is_global = s.is_global; text = option_map (λ v. v.items) s.text }

-- the octets of a text, of which it has none where they are more than are read
abbrev pub octets_of : Option (List ℕ) → List ℕ
octets_of text = unwrap_or text []

abbrev pub octets : Entry → List ℕ
octets e = octets_of e.text

-- the number of the first script at a path, counted from 0
abbrev pub number_at : List ℕ → List Entry → Option ℕ
number_at path [] = None
number_at path (e ∷ es) = if bytes_eq path e.path then Some 0 else option_map (λ n. suc n) (number_at path es)

-- a call that reads a path, with its answer: there is no script, or one with this text, or with more octets than are read
pub record Read : Type 0 where
  pub path : List ℕ
  pub is_global : Bool
  pub answer : Option (Option (List ℕ))

abbrev pub answer_of : Found → Option (Option (List ℕ))
answer_of found.Nothing = None
answer_of found.TooLong = Some None
answer_of (found.Text text) = Some (Some text.items)

-- From one moment to another these reads were made, and no others. `made` says which have been made at a moment.
abbrev pub Makes : {S : Type 0} (made : S → List Read → Type 0) (before after : S) (reads : List Read) → Type 0
Makes made before after reads = (done : List Read) → made before done → made after (done ++ reads)
