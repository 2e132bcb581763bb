-- Who is noted as the author of a change, and the occasion of it.
use Rattle.std.specs.Prelude.{◌≡◌, ℕ, List, [], Option, Some, None, option_map, string_bytes}
use Rattle.std.specs.Option.{unwrap_or}
use Rattle.record_history.specs.declared.events.Filing.{Filing}
use Rattle.record_ledger.specs.declared.occasion.Occasion.{Occasion}
use Rattle.cli_history.specs.declared.author.Author.{Author}

-- THE FIRST OF TWO NAMES that can stand for a person: that of LOGNAME, or else that of USER
abbrev pub name_or : {X : Type 0} → Option X → Option X → Option X
name_or (Some name) other = Some name
name_or None other = other

-- the name that is noted; nothing where none is known
abbrev pub noted_name : Author → List ℕ
noted_name author = unwrap_or (option_map string_bytes author.name) []

-- THE OCCASION is that of somebody who does something for a reason; nothing more is noted of it at first
pub record IsOccasion {K : Type 0} (who reason : List ℕ) (filing : Option Filing) (o : Occasion K) : Type 0 where
  pub who_is : o.who.now ≡ who
  pub reason_is : o.reason.now ≡ reason
  pub no_notes : o.notes.now ≡ []
  pub filing_is : o.filing ≡ filing

-- THE OCCASION OF AN AUTHOR: the author's name and reason
abbrev pub IsOccasionOf : {K : Type 0} → Author → Option Filing → Occasion K → Type 0
IsOccasionOf author filing o = IsOccasion (noted_name author) author.reason.now filing o
