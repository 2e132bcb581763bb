-- Plan files: a TOML table with the key `root`, a schedule's text, and optionally `class`, an array
-- of tables. Each of these has the key `path`, a text, and optionally `open`, a boolean, and
-- `schedule`, a text.
use Rattle.std.specs.Prelude.{ℕ, Bool, true, false, not, ◌&&◌, ◌||◌, if◌then◌else◌, List, [], ◌∷◌, map, codes, Option, Some, None, option_map, option_and_then, Result}
use Rattle.std.specs.Str.{bytes_eq, is_utf8}
use Rattle.toml.specs.Data.{Data, Items, no_items, item, Members, no_members, member, get_member, as_str, as_bool, as_array, as_table}
use Rattle.toml.specs.Parse.{parse_document}
use Rattle.class_paths.specs.Path.{unfiled}
use Rattle.class_plan.specs.declared.faults.PlanFault.{PlanFault}
use Rattle.class_plan.specs.declared.faults.PlanFault.TheVariants.{NotToml, BadShape}
use Rattle.class_plan.specs.declared.entries.Lists.{Lists}
use Rattle.class_plan.specs.declared.entries.Stated.{Stated}
use Rattle.class_plan.specs.declared.entries.Stated.TheVariants.{Nothing}
use Rattle.class_plan.specs.Faults.{verdict}
use Rattle.class_plan.specs.Plans.{Listing, first_plan}
use Rattle.class_plan.specs.Texts.{◌>>=◌, schedule_of_bytes}
use Rattle.class_plan.specs.Entries.{Entry, Contents, entry_view, stated_if, contents_faults, listing_of}

-- each key is a known one
abbrev pub has_only : (List ℕ → Bool) → Members → Bool
has_only known no_members = true
has_only known (member k d ms) = known k && has_only known ms

abbrev pub is_file_key : List ℕ → Bool
is_file_key k = bytes_eq k (codes "root") || bytes_eq k (codes "class")

abbrev pub is_class_key : List ℕ → Bool
is_class_key k = bytes_eq k (codes "path") || bytes_eq k (codes "open") || bytes_eq k (codes "schedule")

-- whether a class is open, by the value of its key: open where the key is missing, and None where
-- the value is no boolean
abbrev pub openness_of : Option Data → Option Bool
openness_of None = Some true
openness_of (Some d) = as_bool d

-- what a class states of its own schedule, by the value of its key; None where the value is no text
abbrev pub statement_of : Option Data → Option Stated
statement_of None = Some Nothing
statement_of (Some d) = option_map (λ t. stated_if (Some (schedule_of_bytes t))) (as_str d)

-- a class that may be listed: `unfiled` is open
abbrev pub if_listable : Entry → Option Entry
if_listable e = if bytes_eq e.path unfiled && not e.is_open then None else Some e

-- a class from its parts, each of the right kind
abbrev pub class_of_parts : Bool → Option (List ℕ) → Option Bool → Option Stated → Option Entry
class_of_parts true (Some path) (Some is_open) (Some stated) = if_listable (record { path = path; is_open = is_open; stated = stated })
class_of_parts _ _ _ _ = None

-- a class from its table
unfoldable pub class_of : Members → Option Entry
class_of ms = class_of_parts (has_only is_class_key ms) (option_and_then as_str (get_member (codes "path") ms))
    (openness_of (get_member (codes "open") ms)) (statement_of (get_member (codes "schedule") ms))

unfoldable pub entry_of : Data → Option Entry
entry_of d = as_table d >>= class_of

-- the classes of the array
unfoldable pub entries_of : Items → Option (List Entry)
entries_of no_items = Some []
entries_of (item d ds) = do
  e ← entry_of d
  es ← entries_of ds
  Some (e ∷ es)

-- the classes of the file: none where the key is missing
unfoldable pub listed_of : Option Data → Option (List Entry)
listed_of None = Some []
listed_of (Some d) = as_array d >>= entries_of

-- the contents from their parts, each of the right kind
abbrev pub contents_of_parts : Bool → Option (List ℕ) → Option (List Entry) → Option Contents
contents_of_parts true (Some root) (Some entries) = Some (record { root = schedule_of_bytes root; entries = entries })
contents_of_parts _ _ _ = None

-- the contents of a table; None where the table has another shape
unfoldable pub contents_of : Members → Option Contents
contents_of ms = contents_of_parts (has_only is_file_key ms) (option_and_then as_str (get_member (codes "root") ms))
    (listed_of (get_member (codes "class") ms))

-- what the lists of a file show
abbrev pub shown_lists : Lists → Contents
shown_lists f = record { root = f.root; entries = map entry_view f.classes.items }

-- the faults of a table, by its contents
abbrev pub table_faults : Option Contents → PlanFault → Bool
table_faults None BadShape = true
table_faults None _ = false
table_faults (Some f) g = contents_faults f g

-- the faults of a document, by its table
abbrev pub document_faults : Option Members → PlanFault → Bool
document_faults None NotToml = true
document_faults None _ = false
document_faults (Some ms) g = table_faults (contents_of ms) g

-- the table of a text, by the grammar of TOML; None where the text is not TOML, or not UTF-8
unfoldable pub document_of : List ℕ → Option Members
document_of t = if is_utf8 t then parse_document t else None

-- the faults of a text as a plan file
abbrev pub text_faults : List ℕ → PlanFault → Bool
text_faults t g = document_faults (document_of t) g

abbrev pub listing_if : Option Contents → Listing
listing_if None = first_plan
listing_if (Some f) = listing_of f

-- the plan of a text, or the fault with the smallest number
unfoldable pub plan_of_text : List ℕ → Result Listing PlanFault
plan_of_text t = verdict (text_faults t) (listing_if (document_of t >>= contents_of))
