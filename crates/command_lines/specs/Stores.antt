-- What is asked of a whole store: how it is made, copied and checked, its plan and its titles.
use Rattle.std.specs.Prelude.{◌≡◌, ℕ, ◌&&◌, Bool, true, false, List, codes, Option, Some, None, length, ◌==◌, nat_le, ◌||◌, IfSome}
use Rattle.std.specs.List.{list_all}
use Rattle.std.specs.Borrow.{Bor}
use Rattle.clap.specs.declared.parser.matches.Found.{Found}
use Rattle.choice_words.specs.Readings.{reads_as_numbers}
use Rattle.command_lines.specs.Asked.{is_given, text_of, value_in}
use Rattle.command_lines.specs.Sizes.{size_typed}
use Rattle.command_lines.specs.declared.archives.Command.{Command}
use Rattle.command_lines.specs.declared.archives.Command.TheVariants as command
use Rattle.command_lines.specs.declared.archives.RulesChecked.{RulesChecked}

-- ---- making

-- the size of volumes, if it is given, so that no other word is taken for one
abbrev pub IsSize : (word : Option (List ℕ)) → (size : Option ℕ) → Type 0
IsSize None size = size ≡ None
IsSize (Some word) None = ⊥
IsSize (Some word) (Some octets) = size_typed word ≡ Some octets

pub record Creates (found : Found) (path : List ℕ) (octets : Option ℕ) : Type 0 where
  pub adopted : value_in found (codes "adopt") ≡ None
  pub plan : value_in found (codes "plan") ≡ Some path
  pub size : IsSize (value_in found (codes "roll")) octets

pub record Adopts (found : Found) (file : List ℕ) (octets : ℕ) : Type 0 where
  pub adopted : value_in found (codes "adopt") ≡ Some file
  pub size : IsSize (value_in found (codes "roll")) (Some octets)

-- A STORE IS MADE: a new one with a plan, or one of volumes that begins with the store that is named
abbrev pub IsCreate : Found → Command → Type 0
IsCreate found (command.Create plan size) = Creates found plan.now size
IsCreate found (command.Adopt file size) = Adopts found file.now size
IsCreate found other = ⊥

pub record Copies (found : Found) (path : List ℕ) (is_damaged : Bool) : Type 0 where
  pub new : value_in found (codes "new") ≡ Some path
  pub place : reads_as_numbers path ≡ false
  pub damaged : is_damaged ≡ is_given found (codes "damaged")

-- A STORE IS COPIED to the file that is typed
abbrev pub IsCopy : Found → Command → Type 0
IsCopy found (command.Copy new is_damaged) = Copies found new.now is_damaged
IsCopy found other = ⊥

-- ---- plans and titles

pub record ReplacesPlan (found : Found) (path : List ℕ) (is_agreed : Bool) : Type 0 where
  pub plan : value_in found (codes "set") ≡ Some path
  pub agreed : is_agreed ≡ is_given found (codes "yes")

pub record WritesPlan (found : Found) : Type 0 where
  pub plan : value_in found (codes "set") ≡ None
  pub agreed : is_given found (codes "yes") ≡ false

-- A PLAN IS REPLACED by that of `--set`, or written where there is none
abbrev pub IsPlan : Found → Command → Type 0
IsPlan found (command.ReplacePlan plan is_agreed) = ReplacesPlan found plan.now is_agreed
IsPlan found command.WritePlan = WritesPlan found
IsPlan found other = ⊥

pub record WritesTitles (found : Found) (is_json : Bool) : Type 0 where
  pub titles : value_in found (codes "set") ≡ None
  pub json : is_json ≡ is_given found (codes "json")

-- TITLES ARE SET by those of `--set`, or written where there are none
abbrev pub IsTitles : Found → Command → Type 0
IsTitles found (command.SetTitles titles) = value_in found (codes "set") ≡ Some titles.now
IsTitles found (command.WriteTitles is_json) = WritesTitles found is_json
IsTitles found other = ⊥

-- ---- checks

abbrev pub is_mark_octet : ℕ → Bool
is_mark_octet o = nat_le 48 o && nat_le o 57 || nat_le 97 o && nat_le o 102

-- a mark: 64 hexadecimal digits, of which a to f are small letters
abbrev pub is_mark : List ℕ → Bool
is_mark text = (length text == 64) && list_all is_mark_octet text

-- the mark that is looked for, if one is
pub record IsHead (word : Option (List ℕ)) (head : Option (Bor (List ℕ))) : Type 0 where
  pub typed : text_of head ≡ word
  pub mark : IfSome head (λ s. is_mark s.now ≡ true)

pub record ChecksRules (found : Found) (checked : RulesChecked) : Type 0 where
  pub rules : value_in found (codes "rules") ≡ Some checked.rules.now
  pub officer : text_of checked.officer ≡ value_in found (codes "officer")

pub record ChecksStore (found : Found) (mark : Option (Bor (List ℕ))) : Type 0 where
  pub rules : value_in found (codes "rules") ≡ None
  pub officer : value_in found (codes "officer") ≡ None
  pub head : IsHead (value_in found (codes "head")) mark

-- RULES ARE CHECKED where their folder is given, and else the store
abbrev pub IsCheck : Found → Command → Type 0
IsCheck found (command.CheckRules checked) = ChecksRules found checked
IsCheck found (command.Check head) = ChecksStore found head
IsCheck found other = ⊥
