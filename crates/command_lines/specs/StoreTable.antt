-- The words of `mailfile-store`.
use Rattle.std.specs.Prelude.{◌++◌, ◌||◌, ℕ, Bool, List, [], ◌∷◌, codes}
use Rattle.clap.specs.Simple.{App, Shape}
use Rattle.clap.specs.Walk.{Rule}
use Rattle.command_lines.specs.Tables.{app_over, flag, needed, option, place, places, tied, with_arguments}
use Rattle.command_lines.specs.Typed.{has_hyphened_after, has_signed}

-- ---- words of several subcommands

abbrev store : Rule
store = needed (option (codes "store"))

abbrev by : Rule
by = option (codes "by")

abbrev reason : Rule
reason = option (codes "reason")

abbrev rules : Rule
rules = needed (option (codes "rules"))

abbrev limit : Rule
limit = option (codes "limit")

abbrev unfiled : Rule
unfiled = flag (codes "unfiled-on-fault")

abbrev quiet : Rule
quiet = flag (codes "quiet")

abbrev officer : Rule
officer = needed (place (codes "officer"))

abbrev yes : Rule
yes = flag (codes "yes")

abbrev day : Rule
day = option (codes "day")

abbrev damaged : Rule
damaged = flag (codes "damaged")

abbrev json : Rule
json = flag (codes "json")

-- a record by its number
abbrev number : Rule
number = needed (place (codes "number"))

-- records by their numbers
abbrev numbers : List Rule
numbers = places (codes "chosen") ∷ []

abbrev hold_name : Rule
hold_name = needed (place (codes "name"))

-- THE CONDITIONS of records
abbrev pub conditions : List Rule
conditions =
    option (codes "sender") ∷
    option (codes "recipient") ∷
    option (codes "subject") ∷
    option (codes "where") ∷
    option (codes "class") ∷
    option (codes "since") ∷
    option (codes "until") ∷
    option (codes "due") ∷
    flag (codes "held") ∷
    flag (codes "live") ∷
    tied (flag (codes "destroyed")) ∷
    []

-- ---- subcommands, in the order in which they are shown; those that have conditions have them last

-- THE SUBCOMMANDS THAT MAKE A STORE AND CAPTURE MAIL
abbrev pub capturing : List Shape
capturing =
    with_arguments (codes "create") (
    store ∷ tied (option (codes "plan")) ∷ option (codes "roll") ∷ option (codes "adopt") ∷ by ∷ reason ∷ []) ∷
    with_arguments (codes "plan") (store ∷ option (codes "set") ∷ yes ∷ by ∷ reason ∷ []) ∷
    with_arguments (codes "deliver") (
    store ∷ option (codes "at") ∷ limit ∷ rules ∷ unfiled ∷ flag (codes "as-is") ∷ by ∷ reason ∷ officer ∷ []) ∷
    with_arguments (codes "intake") (
    store ∷ option (codes "at") ∷ limit ∷ rules ∷ unfiled ∷ quiet ∷ flag (codes "times") ∷ by ∷ reason ∷ officer ∷
    needed (place (codes "maildir")) ∷ []) ∷
    with_arguments (codes "import") (
    store ∷ needed (option (codes "dated")) ∷ limit ∷ rules ∷ unfiled ∷ flag (codes "again") ∷ tied (flag (codes "verbose")) ∷
    quiet ∷ by ∷ reason ∷ officer ∷ needed (places (codes "sources")) ∷ []) ∷
    []

-- THOSE THAT READ RECORDS
abbrev pub reading : (shared : List Rule) → List Shape
reading shared =
    with_arguments (codes "list") (
    (store ∷ option (codes "from") ∷ flag (codes "headers") ∷ flag (codes "csv") ∷ tied json ∷ flag (codes "numbers") ∷
    flag (codes "count") ∷ flag (codes "twice") ∷ numbers) ++ shared) ∷
    with_arguments (codes "show") (store ∷ flag (codes "fields") ∷ number ∷ []) ∷
    with_arguments (codes "export") (
    (store ∷ option (codes "from") ∷ option (codes "sort") ∷ needed (place (codes "folder")) ∷ numbers) ++ shared) ∷
    with_arguments (codes "copy") (store ∷ damaged ∷ needed (place (codes "new")) ∷ []) ∷
    []

-- THOSE THAT JUDGE WHAT WAS DONE
abbrev pub judging : List Shape
judging =
    with_arguments (codes "check") (
    store ∷ option (codes "rules") ∷ place (codes "officer") ∷ tied (option (codes "head")) ∷ []) ∷
    with_arguments (codes "why") (store ∷ rules ∷ option (codes "formerly") ∷ officer ∷ number ∷ []) ∷
    []

-- THOSE THAT DECIDE HOW LONG RECORDS ARE KEPT
abbrev pub keeping : (shared : List Rule) → List Shape
keeping shared =
    with_arguments (codes "hold") ((store ∷ by ∷ reason ∷ hold_name ∷ numbers) ++ shared) ∷
    with_arguments (codes "release") (
    (store ∷ flag (codes "all") ∷ yes ∷ by ∷ reason ∷ hold_name ∷ numbers) ++ shared) ∷
    with_arguments (codes "refile") (
    (store ∷ needed (option (codes "to")) ∷ yes ∷ by ∷ needed reason ∷ numbers) ++ shared) ∷
    with_arguments (codes "dispose") (
    store ∷ day ∷ yes ∷ damaged ∷ option (codes "approved") ∷ by ∷ reason ∷ numbers) ∷
    with_arguments (codes "report") ((store ∷ day ∷ []) ++ shared) ∷
    []

-- THOSE THAT TELL WHAT WAS DONE, what is held and what classes are called
abbrev pub telling : List Shape
telling =
    with_arguments (codes "holds") (store ∷ json ∷ []) ∷
    with_arguments (codes "titles") (store ∷ option (codes "set") ∷ tied json ∷ by ∷ reason ∷ []) ∷
    with_arguments (codes "history") (
    store ∷ flag (codes "begin") ∷ flag (codes "require-reason") ∷ flag (codes "waive-reason") ∷
    flag (codes "accept-found") ∷ by ∷ reason ∷ option (codes "since") ∷ option (codes "deeds") ∷ json ∷ numbers) ∷
    with_arguments (codes "certificates") (store ∷ numbers) ∷
    []

-- THE COMMAND LINE OF `mailfile-store`
unfoldable pub store_app : App
store_app =
    app_over (codes "mailfile-store") (capturing ++ (reading conditions ++ (judging ++ (keeping conditions ++ telling))))

-- A VALUE THAT IS TYPED MAY BEGIN WITH A HYPHEN: a number with a sign, or the name after `--by`
abbrev pub may_be_hyphened : List (List ℕ) → Bool
may_be_hyphened words = has_signed words || has_hyphened_after (codes "--by") words
