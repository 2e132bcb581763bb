-- What is added to commands of `clap`, one by one.
use Rattle.std.proofs.Common.{◌≡◌, ℕ, Bool, true, false, List, [], ◌∷◌, ◌++◌, map, take, get_or, length, ◌+◌, ◌<◌, refl, sym, ap, ◌∙◌, append_assoc, append-nil, arith, rules}
use Rattle.std.specs.Prelude.{◌&&◌, not, Option, Some, None, is_some}
use Rattle.std.proofs.lemmas.Bool.Decides.{nat_tests}
use Rattle.std.proofs.lemmas.List.{map-append, map_more}
use Rattle.std.specs.List.{list_all}
use Rattle.std.specs.Borrow.{Bor}
use Rattle.std.proofs.lemmas.Bool.{ne_eqb}
use Rattle.clap.specs.Adds.{AddsConflicts, AddsRequiredUnless}
use Rattle.clap.specs.Built.{AddsArg, AddsInTurn, AddsSubcommand}
use Rattle.clap.specs.Simple.{App, Shape, app_of, new_shape, on_top, shape_of, with_subcommand}
use Rattle.clap.specs.Walk.{Rule, Text, is_empty, rule_of}
use Rattle.clap.specs.declared.builder.arg.Arg.{Arg}
use Rattle.clap.specs.declared.builder.command.Command.{Command}
use Rattle.command_lines.specs.Tables.{app_over, argument_of_word, formed, shape_of_table, tied, with_conflict, with_need}
use Rattle.command_lines.specs.declared.table.Form.{Form}
use Rattle.command_lines.specs.declared.table.Form.TheVariants as form
use Rattle.command_lines.specs.declared.table.Subcommand.{Subcommand}
use Rattle.command_lines.specs.declared.table.Word.{Word}

-- ---- rules on other arguments

more_than_none : {X : Type 0} (x : X) (xs : List X) → is_empty (x ∷ xs) ≡ false
more_than_none x xs = ne_eqb _ _ (λ e. omega arith)

not_empty : {X : Type 0} (xs : List X) (x : X) → is_empty (xs ++ x ∷ []) ≡ false
not_empty [] x = refl
not_empty (y ∷ ys) x = more_than_none y (ys ++ x ∷ [])

and_false : (a b : Bool) → b ≡ false → (a && b) ≡ false
and_false true b e = e
and_false false b e = refl

false_and : (a b : Bool) → a ≡ false → (a && b) ≡ false
false_and a b e = ap (λ c. c && b) e

and_left : (a b : Bool) → (a && b) ≡ true → a ≡ true
and_left true b e = refl
and_left false b e = e

and_right : (a b : Bool) → (a && b) ≡ true → b ≡ true
and_right true b e = e
and_right false b e = cc

not_true : (a : Bool) → not a ≡ true → a ≡ false
not_true true e = sym e
not_true false e = refl

pub excluded : (old new : Arg) (x : Bor (List ℕ)) → AddsConflicts old new (x ∷ []) → rule_of new ≡ tied (rule_of old)
excluded old new x h =
    ap rule_of h.0 ∙ ap (λ b. record (rule_of old) { is_free = b })
    (and_false (not old.exclusive) _ (false_and _ _ (ap is_empty h.1 ∙ not_empty old.conflicts.items x)))

pub substituted : (old new : Arg) (x : Bor (List ℕ)) → AddsRequiredUnless old new (x ∷ []) → rule_of new ≡ tied (rule_of old)
substituted old new x h =
    ap rule_of h.0 ∙ ap (λ b. record (rule_of old) { is_free = b })
    (and_false (not old.exclusive) _ (and_false (is_empty old.conflicts.items) _ (and_false (is_empty old.needs.items) _
    (and_false (is_empty old.r_ifs.items) _ (and_false (is_empty old.r_ifs_all.items) _
    (false_and _ _ (ap is_empty h.1 ∙ not_empty old.r_unless.items x)))))))

-- ---- arguments

abbrev pub are_simple : List Rule → Bool
are_simple rules = list_all (λ (r : Rule). r.is_simple) rules

formed_simple : (f : Form) (name : Text) → (formed f name).is_simple ≡ true
formed_simple form.Place name = refl
formed_simple form.Places name = refl
formed_simple form.Option name = refl
formed_simple (form.Letter c) name = refl
formed_simple form.Flag name = refl

need_simple : (o : Option (Bor Text)) (b : Bool) (r : Rule) → r.is_simple ≡ true → (with_need o b r).is_simple ≡ true
need_simple (Some x) b r e = e
need_simple None b r e = e

conflict_simple : (o : Option (Bor Text)) (r : Rule) → r.is_simple ≡ true → (with_conflict o r).is_simple ≡ true
conflict_simple (Some x) r e = e
conflict_simple None r e = e

word_simple : (word : Word) → (argument_of_word word).is_simple ≡ true
word_simple word =
    conflict_simple word.conflict _ (need_simple word.substitute word.is_required _ (formed_simple word.form word.name.now))

pub words_simple : (words : List Word) → are_simple (map argument_of_word words) ≡ true
words_simple [] = refl
words_simple (w ∷ ws) = λ i. word_simple w i && words_simple ws i

abbrev pub with_rules : App → List Rule → App
with_rules app rules = on_top (λ s. record s { rules = s.rules ++ rules }) app

own_of : (a : Arg) → (rule_of a).is_simple ≡ true → a.global ≡ false
own_of a e =
    not_true a.global (and_right (not a.last) _ (and_right (not a.require_equals) _ (and_right (not a.allow_negative_numbers) _
    (and_right (not a.allow_hyphen_values) _ (and_right (not (is_some a.terminator)) _ (and_right (not (is_some a.val_delim)) _
    (and_right (is_empty a.groups.items) _ (and_right (is_empty a.default_vals_ifs.items) _
    (and_right (is_empty a.overrides.items) _ e)))))))))

args_app : (old new : Command) (xs : List Arg) → AddsInTurn AddsArg old xs new → are_simple (map rule_of xs) ≡ true
    → app_of new ≡ with_rules (app_of old) (map rule_of xs)
args_app old new [] h own =
    ap app_of (sym h) ∙ ap (λ rs. on_top (λ s. record s { rules = rs }) (app_of old)) (sym (append-nil (app_of old).top.rules))
args_app old new (x ∷ xs) h own =
    args_app h.0 new xs h.2 (and_right (rule_of x).is_simple _ own)
    ∙ ap (λ a. with_rules a (map rule_of xs)) (h.1.shape (own_of x (and_left (rule_of x).is_simple (are_simple (map rule_of xs)) own)))
    ∙ ap (λ rs. on_top (λ s. record s { rules = rs }) (app_of old))
    (append_assoc (app_of old).top.rules (rule_of x ∷ []) (map rule_of xs))

-- a command with these arguments
pub rules_app : (old new : Command) (xs : List Arg) (rules : List Rule) → AddsInTurn AddsArg old xs new → map rule_of xs ≡ rules
    → are_simple rules ≡ true → app_of new ≡ with_rules (app_of old) rules
rules_app old new xs rules h e simple = args_app old new xs h (ap are_simple e ∙ simple) ∙ ap (with_rules (app_of old)) e

-- a command with the arguments that words are
pub words_app : (old new : Command) (xs : List Arg) (words : List Word) → AddsInTurn AddsArg old xs new
    → map rule_of xs ≡ map argument_of_word words → app_of new ≡ with_rules (app_of old) (map argument_of_word words)
words_app old new xs words h e = rules_app old new xs (map argument_of_word words) h e (words_simple words)

-- ---- subcommands

abbrev are_plain : List Shape → Bool
are_plain shapes = list_all (λ (s : Shape). s.is_plain) shapes

shapes_plain : (shared : List Word) (group : List Subcommand) → are_plain (map (shape_of_table shared) group) ≡ true
shapes_plain shared [] = refl
shapes_plain shared (d ∷ ds) = shapes_plain shared ds

abbrev pub with_shapes : App → List Shape → App
with_shapes app [] = app
with_shapes app (s ∷ ss) = with_shapes (with_subcommand app s) ss

with_some : (app : App) (s : Shape) (ss : List Shape)
    → with_shapes app (s ∷ ss) ≡ record { top = record app.top { is_leaf = false }; subs = app.subs ++ s ∷ ss }
with_some app s [] = refl
with_some app s (t ∷ ts) =
    with_some (with_subcommand app s) t ts
    ∙ ap (λ l. record { top = record app.top { is_leaf = false }; subs = l }) (append_assoc app.subs (s ∷ []) (t ∷ ts))

subs_app : (old new : Command) (xs : List Command) → AddsInTurn AddsSubcommand old xs new → are_plain (map shape_of xs) ≡ true
    → app_of new ≡ with_shapes (app_of old) (map shape_of xs)
subs_app old new [] h own = ap app_of (sym h)
subs_app old new (x ∷ xs) h own =
    subs_app h.0 new xs h.2 (and_right (shape_of x).is_plain _ own)
    ∙ ap (λ a. with_shapes a (map shape_of xs))
    (let plain : (shape_of x).is_plain ≡ true = and_left (shape_of x).is_plain (are_plain (map shape_of xs)) own in
    h.1.shape (first_of (grind (arith, nat_tests), grind arith, search rules)))

-- a command line that has to have one of its subcommands, before it has any
abbrev pub app_before : Text → App
app_before name = record {
  top = record (new_shape name) { has_version = true; subcommand_required = true };
  subs = [];
}

over_all : (name : Text) (shapes : List Shape) → with_shapes (app_before name) shapes ≡ app_over name shapes
over_all name [] = refl
over_all name (s ∷ ss) =
    with_some (app_before name) s ss
    ∙ ap (λ b. record { top = record (app_before name).top { is_leaf = b }; subs = s ∷ ss }) (sym (more_than_none s ss))

-- a command line with the subcommands that a table describes
pub subcommands_app : (name : Text) (old new : Command) (xs : List Command) (shared : List Word) (group : List Subcommand)
    → app_of old ≡ app_before name → AddsInTurn AddsSubcommand old xs new → map shape_of xs ≡ map (shape_of_table shared) group
    → app_of new ≡ app_over name (map (shape_of_table shared) group)
subcommands_app name old new xs shared group before h e =
    subs_app old new xs h (ap are_plain e ∙ shapes_plain shared group) ∙ (λ i. with_shapes (before i) (e i)) ∙ over_all name _

-- ---- loops

-- one more is pushed, which is what f reads of it, as g says
pub pushed : {X Y Z : Type 0} (f : X → Z) (g : Y → Z) (old olds new : List X) (x : X) (ys : List Y) (i : ℕ) (d : Y) → i < length ys
    → map f olds ≡ map f old ++ map g (take i ys) → new ≡ olds ++ x ∷ [] → f x ≡ g (get_or ys i d)
    → map f new ≡ map f old ++ map g (take (i + 1) ys)
pushed f g old olds new x ys i d inside before push is =
    ap (map f) push ∙ map-append f olds (x ∷ []) ∙ (λ k. before k ++ (is k ∷ []))
    ∙ append_assoc (map f old) (map g (take i ys)) (g (get_or ys i d) ∷ [])
    ∙ ap (λ l. map f old ++ l) (sym (map_more g ys i d inside))
