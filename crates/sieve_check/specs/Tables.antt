-- What may occur in a script: the capabilities, and a row for each command and each test. The rows are those of RFC
-- 5228 (sections 3 to 5), RFC 3894 (`:copy`) and RFC 6609 (`include` and `return`, section 3), as far as this project
-- supports them.
use Rattle.std.specs.Prelude.{ℕ, Bool, true, false, List, [], ◌∷◌, Option, Some, None, codes}
use Rattle.sieve_check.specs.declared.table.Capability.{Capability}
use Rattle.sieve_check.specs.declared.table.Capability.TheVariants.{Fileinto, Copy, Include, OctetComparator, CasemapComparator}
use Rattle.sieve_check.specs.declared.table.TagKind.{TagKind}
use Rattle.sieve_check.specs.declared.table.TagKind.TheVariants as kinds
use Rattle.sieve_check.specs.declared.table.Positional.{Positional}
use Rattle.sieve_check.specs.declared.table.Positional.TheVariants.{OneString, StringList, OneNumber}
use Rattle.sieve_check.specs.declared.table.TestsForm.{TestsForm}
use Rattle.sieve_check.specs.declared.table.TestsForm.TheVariants.{NoTest, OneTest, TestList}
use Rattle.sieve_check.specs.declared.table.Role.{Role}
use Rattle.sieve_check.specs.declared.table.Role.TheVariants as roles

-- a capability and the octets that name it
pub record CapabilityWord : Type 0 where
  pub text : List ℕ
  pub capability : Capability

-- a tag that may follow a name: at most once, and at most one of its kind
pub record TagWord : Type 0 where
  pub name : List ℕ
  pub kind : TagKind
  pub needs : Option Capability
  pub names_comparator : Bool

-- what follows the name of a command or of a test
pub record WordForm : Type 0 where
  pub needs : Option Capability
  pub tags : List TagWord
  pub needs_tag : Option TagKind
  pub positional : List Positional
  pub tests : TestsForm

pub record CommandWord : Type 0 where
  pub name : List ℕ
  pub role : Role
  pub form : WordForm
  pub has_block : Bool

pub record TestWord : Type 0 where
  pub name : List ℕ
  pub form : WordForm

-- the capabilities (RFC 5228, section 6.1; RFC 3894, section 3; RFC 6609, section 3.2)
abbrev pub capability_table : List CapabilityWord
capability_table = record { text = codes "fileinto"; capability = Fileinto } ∷ record { text = codes "copy"; capability = Copy } ∷ record { text = codes "include"; capability = Include } ∷ record { text = codes "comparator-i;octet"; capability = OctetComparator } ∷ record { text = codes "comparator-i;ascii-casemap"; capability = CasemapComparator } ∷ []

-- the comparators (RFC 5228, section 2.7.3)
abbrev pub comparator_table : List (List ℕ)
comparator_table = codes "i;octet" ∷ codes "i;ascii-casemap" ∷ []

-- no tag, these arguments and tests
abbrev pub plain : List Positional → TestsForm → WordForm
plain arguments tests = record { needs = None; tags = []; needs_tag = None; positional = arguments; tests = tests }

-- a tag of this kind that needs nothing
abbrev pub tag : List ℕ → TagKind → TagWord
tag name kind = record { name = name; kind = kind; needs = None; names_comparator = false }

abbrev pub return_form : WordForm
return_form = record { needs = Some Include; tags = []; needs_tag = None; positional = []; tests = NoTest }

abbrev pub fileinto_form : WordForm
fileinto_form = record { needs = Some Fileinto; tags = record { name = codes "copy"; kind = kinds.Copy; needs = Some Copy; names_comparator = false } ∷ []; needs_tag = None; positional = OneString ∷ []; tests = NoTest }

abbrev pub include_form : WordForm
include_form = record { needs = Some Include; tags = tag (codes "personal") kinds.Location ∷ tag (codes "global") kinds.Location ∷ tag (codes "once") kinds.Once ∷ tag (codes "optional") kinds.Optional ∷ []; needs_tag = None; positional = OneString ∷ []; tests = NoTest }

abbrev pub header_form : WordForm
header_form = record { needs = None; tags = record { name = codes "comparator"; kind = kinds.Comparator; needs = None; names_comparator = true } ∷ tag (codes "is") kinds.MatchType ∷ tag (codes "contains") kinds.MatchType ∷ tag (codes "matches") kinds.MatchType ∷ []; needs_tag = None; positional = StringList ∷ StringList ∷ []; tests = NoTest }

abbrev pub size_form : WordForm
size_form = record { needs = None; tags = tag (codes "over") kinds.SizeLimit ∷ tag (codes "under") kinds.SizeLimit ∷ []; needs_tag = Some kinds.SizeLimit; positional = OneNumber ∷ []; tests = NoTest }

abbrev pub command_word : List ℕ → Role → WordForm → Bool → CommandWord
command_word name role form has_block = record { name = name; role = role; form = form; has_block = has_block }

abbrev pub test_word : List ℕ → WordForm → TestWord
test_word name form = record { name = name; form = form }

abbrev pub command_table : List CommandWord
command_table =
    command_word (codes "require") roles.Require (plain (StringList ∷ []) NoTest) false
    ∷ command_word (codes "if") roles.If (plain [] OneTest) true
    ∷ command_word (codes "elsif") roles.Elsif (plain [] OneTest) true
    ∷ command_word (codes "else") roles.Else (plain [] NoTest) true
    ∷ command_word (codes "stop") roles.Other (plain [] NoTest) false
    ∷ command_word (codes "keep") roles.Other (plain [] NoTest) false
    ∷ command_word (codes "discard") roles.Other (plain [] NoTest) false
    ∷ command_word (codes "return") roles.Other return_form false
    ∷ command_word (codes "fileinto") roles.Other fileinto_form false
    ∷ command_word (codes "include") roles.Other include_form false
    ∷ []

abbrev pub test_table : List TestWord
test_table =
    test_word (codes "header") header_form
    ∷ test_word (codes "exists") (plain (StringList ∷ []) NoTest)
    ∷ test_word (codes "size") size_form
    ∷ test_word (codes "not") (plain [] OneTest)
    ∷ test_word (codes "allof") (plain [] TestList)
    ∷ test_word (codes "anyof") (plain [] TestList)
    ∷ test_word (codes "true") (plain [] NoTest)
    ∷ test_word (codes "false") (plain [] NoTest)
    ∷ []
