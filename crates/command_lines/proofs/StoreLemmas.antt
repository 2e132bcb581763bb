-- The table of `mailfile-store`, and the words that are read by it.
use Rattle.std.proofs.Common.{◌≡◌, ◌++◌, List, [], false, true, codes, Option, Some, None, map, refl, sym, ap, ◌∙◌, append-nil}
use Rattle.std.specs.Prelude.{is_some, option_map, unwrap_or}
use Rattle.std.proofs.lemmas.List.{map-append}
use Rattle.clap.specs.Matches.{subcommand_name_of}
use Rattle.clap.specs.Simple.{HasMatchesOf, Shape, is_simple, subcommand_rows_of}
use Rattle.clap.specs.Walk.{Row, Text, rows_of}
use Rattle.clap.specs.declared.parser.matches.ArgMatches.{ArgMatches}
use Rattle.command_lines.specs.Commands.{IsLineOf, IsReadOf}
use Rattle.command_lines.specs.StoreTable.{capturing, conditions, judging, keeping, reading, store_app, telling}
use Rattle.command_lines.specs.Tables.{app_over, argument_of_word, shape_of_table}
use Rattle.command_lines.specs.declared.archives.CommandLine.{CommandLine}
use Rattle.command_lines.specs.declared.table.Subcommand.{Subcommand}
use Rattle.command_lines.specs.declared.table.Word.{Word}

-- ---- what `clap` found

abbrev pairs : {A B C : Type 0} → (A → B) → (A → C) → Option A → Option (B × C)
pairs f g = option_map (λ a. (f a, g a))

fused : {A B C : Type 0} (f : A → B) (g : A → C) (o : Option A)
    → option_map (λ (p : B × C). p.0) (pairs f g o) ≡ option_map f o
fused f g None = refl
fused f g (Some a) = refl

-- the name of the subcommand is that of its rows
pub name_of_rows : (m : ArgMatches) → option_map (λ (p : Text × List Row). p.0) (subcommand_rows_of m) ≡ subcommand_name_of m
name_of_rows m = fused _ _ _

pub paired : {A B : Type 0} (o : Option (A × B)) (a : A) (b : B) → option_map (λ (p : A × B). p.0) o ≡ Some a
    → option_map (λ (p : A × B). p.1) o ≡ Some b
    → o ≡ Some (a, b)
paired None a b h k = let bad : false ≡ true = ap is_some h in cc
paired (Some p) a b h k =
    let e : p.0 ≡ a = ap (λ o. unwrap_or o p.0) h in
    let f : p.1 ≡ b = ap (λ o. unwrap_or o p.1) k in
    λ i. Some (e i, f i)

pub store_simple : is_simple store_app ≡ true
unfolding store_app
store_simple = refl

pub line_typed : (words : List Text) (m : ArgMatches) (line : CommandLine) → HasMatchesOf store_app words m → IsLineOf m line
    → IsReadOf words line
line_typed words m line has is = (
  is.0,
  is.1,
  sym (has store_simple).1 ∙ paired (subcommand_rows_of m) is.0 (rows_of is.1) (name_of_rows m ∙ is.2) is.3,
  is.4,
)

-- ---- the table

pub store_app_of : (shared : List Word) (capture read judge keep tell : List Subcommand)
    → map argument_of_word shared ≡ conditions
    → map (shape_of_table shared) capture ≡ capturing
    → map (shape_of_table shared) read ≡ reading (map argument_of_word shared)
    → map (shape_of_table shared) judge ≡ judging
    → map (shape_of_table shared) keep ≡ keeping (map argument_of_word shared)
    → map (shape_of_table shared) tell ≡ telling
    → app_over (codes "mailfile-store") (map (shape_of_table shared) (capture ++ (read ++ (judge ++ (keep ++ (tell ++ [])))))) ≡ store_app
unfolding store_app
store_app_of shared capture read judge keep tell words a b c d e =
    let f : Subcommand → Shape = shape_of_table shared in
    ap (λ t. app_over (codes "mailfile-store") (map f (capture ++ (read ++ (judge ++ (keep ++ t)))))) (append-nil tell)
    ∙ ap (app_over (codes "mailfile-store"))
    (map-append f capture _ ∙ (λ i. a i ++ (map-append f read (judge ++ (keep ++ tell))
    ∙ (λ j. b j ++ (map-append f judge (keep ++ tell) ∙ (λ k. c k ++ (map-append f keep tell ∙ (λ l. d l ++ e l)) k)) j)) i)
    ∙ (λ i. capturing ++ (reading (words i) ++ (judging ++ (keeping (words i) ++ telling)))))
