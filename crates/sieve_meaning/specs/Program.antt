-- Scripts as they run: each `if` with its branches in one piece, and each argument in its place.
use Rattle.std.specs.Prelude.{ℕ, List, Bool}
use Rattle.sieve_meaning.specs.declared.matching.Comparator.{Comparator}
use Rattle.sieve_meaning.specs.declared.matching.MatchType.{MatchType}

-- the tests of RFC 5228, section 5
mutual
  pub data Test : Type 0 where
    -- `true`, `false`
    always : Bool → Test
    -- `not`
    negated : Test → Test
    -- `allof`, `anyof`
    all_of : Tests → Test
    any_of : Tests → Test
    -- `exists`
    has_all : List (List ℕ) → Test
    -- `size :over`, `size :under`
    over : ℕ → Test
    under : ℕ → Test
    -- `header`: the match type and comparator, the first name and the others, the first key and the others
    header : MatchType → Comparator → List ℕ → List (List ℕ) → List ℕ → List (List ℕ) → Test

  pub data Tests : Type 0 where
    no_test : Tests
    test_then : Test → Tests → Tests

-- an `include` (RFC 6609, section 3.2)
pub record Include : Type 0 where
  pub global : Bool
  pub once : Bool
  pub optional : Bool
  pub name : List ℕ

-- the commands of RFC 5228, sections 3 and 4, RFC 3894 and RFC 6609
mutual
  pub data Command : Type 0 where
    -- does nothing when it runs
    require : Command
    keep : Command
    discard : Command
    stop : Command
    return : Command
    -- `fileinto`: whether it has `:copy`, and its path
    file_into : Bool → List ℕ → Command
    branch : Branches → Command
    include : Include → Command

  pub data Commands : Type 0 where
    no_command : Commands
    command_then : Command → Commands → Commands

  -- blocks with their tests, of which the first true one runs its block, or else the block of an `else`
  pub data Branches : Type 0 where
    no_branch : Branches
    otherwise : Commands → Branches
    if_then : Test → Commands → Branches → Branches
