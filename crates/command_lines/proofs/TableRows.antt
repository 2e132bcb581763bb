-- The tables and the words on worked rows.
use Rattle.std.proofs.Common.{◌≡◌, List, [], ◌∷◌, Bool, true, false, map, codes, Option, Some, refl}
use Rattle.std.specs.Prelude.{option_map}
use Rattle.clap.proofs.OnLiterals.{clap_on_literals}
use Rattle.clap.specs.Simple.{matches_of, subcommand_of}
use Rattle.clap.specs.Walk.{Row, Text, all_of, first_of, one_of}
use Rattle.command_lines.specs.SessionTable.{session_app}
use Rattle.command_lines.specs.StoreTable.{may_be_hyphened, store_app}
use Rattle.command_lines.specs.ToolTable.{tool_app}

-- ---- values that may begin with a hyphen

abbrev lines : List (List Text × Bool)
lines =
    (codes "mailfile-store" ∷ codes "show" ∷ codes "--store" ∷ codes "a.db" ∷ codes "3" ∷ [], false) ∷
    (codes "mailfile-store" ∷ codes "show" ∷ codes "--store" ∷ codes "a.db" ∷ codes "-3" ∷ [], true) ∷
    (codes "mailfile-store" ∷ codes "hold" ∷ codes "--by" ∷ codes "ann" ∷ codes "--live" ∷ [], false) ∷
    (codes "mailfile-store" ∷ codes "hold" ∷ codes "--by" ∷ codes "--live" ∷ [], true) ∷
    (codes "mailfile-store" ∷ codes "hold" ∷ codes "--by" ∷ [], false) ∷
    (codes "mailfile-store" ∷ codes "dispose" ∷ codes "--approved" ∷ codes "-" ∷ [], false) ∷
    []

lines_are : map (λ r. may_be_hyphened r.0) lines ≡ map (λ r. r.1) lines
lines_are = refl

-- ---- words by the tables

abbrev value : Text → Option (Text × List Row) → Option (Option Text)
value name = option_map (λ p. first_of name p.1)

abbrev listed : Option (Text × List Row)
listed = subcommand_of store_app (
    codes "mailfile-store" ∷ codes "list" ∷ codes "--class=finance" ∷ codes "--live" ∷
    codes "--store" ∷ codes "a.db" ∷ codes "3" ∷ codes "5-9" ∷ [])

listed_name : option_map (λ p. p.0) listed ≡ Some (codes "list")
unfolding clap_on_literals store_app
listed_name = refl

listed_store : value (codes "store") listed ≡ Some (Some (codes "a.db"))
unfolding clap_on_literals store_app
listed_store = refl

listed_numbers : option_map (λ p. all_of (codes "chosen") p.1) listed ≡ Some (Some (codes "3" ∷ codes "5-9" ∷ []))
unfolding clap_on_literals store_app
listed_numbers = refl

listed_live : option_map (λ p. one_of (codes "live") p.1) listed ≡ Some (Some (codes "true"))
unfolding clap_on_literals store_app
listed_live = refl

compiled : value (codes "image") (subcommand_of tool_app (
    codes "mailfile-tool" ∷ codes "compile" ∷ codes "main.sieve" ∷ codes "-o" ∷ codes "main.image" ∷ []))
    ≡ Some (Some (codes "main.image"))
unfolding clap_on_literals tool_app
compiled = refl

kept : first_of (codes "store") (matches_of session_app (codes "mailfile" ∷ codes "--store" ∷ codes "a.db" ∷ [])) ≡ Some (codes "a.db")
unfolding clap_on_literals session_app
kept = refl
