-- What scripts, images and plans in payloads are, and why they are refused.
use Rattle.std.specs.Prelude.{◌≡◌, ℕ, false, ◌≤◌, ◌<◌, ◌⊎◌, List, length, Some, None, Ok, Err}
use Rattle.sieve_syntax.specs.Tree.{CommandTrees}
use Rattle.sieve_text.specs.declared.fault.TextRefusal.{TextRefusal}
use Rattle.sieve_text.specs.declared.fault.TextFault.TheVariants as texts
use Rattle.sieve_text.specs.Grammar.{IsScript, Explains, text_number}
use Rattle.sieve_check.specs.Rules as rules
use Rattle.class_plan.specs.declared.faults.PlanFault.{PlanFault}
use Rattle.class_plan.specs.Faults as plan
use Rattle.class_plan.specs.Plans.{Listing}
use Rattle.class_plan.specs.Plans as plans
use Rattle.class_plan.specs.Document as documents
use Rattle.sieve_meaning.specs.Program.{Commands}
use Rattle.sieve_meaning.specs.Reading.{program_of}
use Rattle.filing_image.specs.Program.{Program, parts}
use Rattle.filing_image.specs.Spelling.{spelling, Fits}
use Rattle.filing_verify.specs.declared.fault.VerifyFault.{VerifyFault}
use Rattle.filing_verify.specs.Well.{IsWell, Fails, verify_number}
use Rattle.desk_commands.specs.Limits.{greatest_image, greatest_plan}
use Rattle.desk_commands.specs.Scripts.{HasNoRoom, put_script}

-- the text is a script whose tree is well made
pub record IsGood (script : List ℕ) (tree : CommandTrees) : Type 0 where
  pub is_script : IsScript script tree
  pub well_made : rules.refusal_of tree ≡ None

-- the text is no script, for this reason
pub record IsNoScript (script : List ℕ) (number : ℕ) : Type 0 where
  pub refusal : TextRefusal
  pub explains : Explains script (texts.Refused refusal 0)
  pub is_number : number ≡ text_number refusal

-- the script is not well made, by this rule
pub record IsIllMade (script : List ℕ) (number : ℕ) : Type 0 where
  pub tree : CommandTrees
  pub is_script : IsScript script tree
  pub rule : rules.refusal_of tree ≡ Some number

-- a script is refused with this number: by its text, or else by the check
abbrev pub RefusesScript : (script : List ℕ) (number : ℕ) → Type 0
RefusesScript script number = IsNoScript script number ⊎ IsIllMade script number

-- the text is a script, and it is kept under the name: in the place of the one that has the name, or after all others
pub record IsKept (old : List (List ℕ × Commands)) (name text : List ℕ) (new : List (List ℕ × Commands)) : Type 0 where
  pub tree : CommandTrees
  pub good : IsGood text tree
  pub has_room : HasNoRoom old name → ⊥
  pub put : new ≡ put_script name (program_of tree) old

-- the text is a script, and its name is new in a location that has thirty-two
pub record IsOneTooMany (old : List (List ℕ × Commands)) (name text : List ℕ) (number : ℕ) : Type 0 where
  pub tree : CommandTrees
  pub good : IsGood text tree
  pub has_no_room : HasNoRoom old name
  pub is_number : number ≡ 96

-- a script is refused in a location with this number: by its text, or else by the check, or else because there is no
-- room
abbrev pub RefusesToKeep : (old : List (List ℕ × Commands)) (name text : List ℕ) (number : ℕ) → Type 0
RefusesToKeep old name text number = RefusesScript text number ⊎ IsOneTooMany old name text number

-- the text is a plan
pub record IsPlanOf (text : List ℕ) (plan : Listing) : Type 0 where
  pub short : length text ≤ greatest_plan
  pub is_plan : documents.plan_of_text text ≡ Ok plan

-- the text is no plan, for this reason
pub record IsNoPlan (text : List ℕ) (number : ℕ) : Type 0 where
  pub short : length text ≤ greatest_plan
  pub fault : PlanFault
  pub refuses : documents.plan_of_text text ≡ Err fault
  pub is_number : number ≡ plan.number_of fault

-- the text is a plan that drops a path
pub record DropsPath (old : Listing) (text : List ℕ) (number : ℕ) : Type 0 where
  pub plan : Listing
  pub is_plan : IsPlanOf text plan
  pub drops : plans.keeps old plan ≡ false
  pub is_number : number ≡ 57

-- a plan is refused with this number: by its length, or else by its text, or else for a path that it drops
abbrev pub RefusesPlan : (old : Listing) (text : List ℕ) (number : ℕ) → Type 0
RefusesPlan old text number = ((greatest_plan < length text) × (number ≡ 58)) ⊎
    (IsNoPlan text number ⊎ DropsPath old text number)

-- the octets are the image of a program
pub record IsImageOf (image : List ℕ) (program : Program) : Type 0 where
  pub short : length image ≤ greatest_image
  pub fits : Fits (parts program)
  pub spells : image ≡ spelling (parts program)

-- the octets are an image that may run
pub record IsGoodImage (image : List ℕ) (program : Program) : Type 0 where
  pub is_image : IsImageOf image program
  pub well : IsWell program

-- the octets are too many for an image
pub record IsLongImage (image : List ℕ) (number : ℕ) : Type 0 where
  pub long : greatest_image < length image
  pub is_number : number ≡ 61

-- the octets are no image
pub record IsNoImage (image : List ℕ) (number : ℕ) : Type 0 where
  pub short : length image ≤ greatest_image
  pub no_image : (program : Program) → Fits (parts program) → image ≡ spelling (parts program) → ⊥
  pub is_number : number ≡ 60

-- the octets are an image that may not run, for this reason
pub record IsUnfit (image : List ℕ) (number : ℕ) : Type 0 where
  pub program : Program
  pub is_image : IsImageOf image program
  pub fault : VerifyFault
  pub fails : Fails fault program
  pub is_number : number ≡ verify_number fault

-- an image is refused with this number: by its length, or else by its form, or else because it may not run
abbrev pub RefusesImage : (image : List ℕ) (number : ℕ) → Type 0
RefusesImage image number = IsLongImage image number ⊎ (IsNoImage image number ⊎ IsUnfit image number)
