-- What `clap` is told of the words of a program.
use Rattle.std.specs.Prelude.{ℕ, ◌++◌, Bool, true, false, List, [], map, flat_map, Option, Some, None}
use Rattle.std.specs.Borrow.{Bor}
use Rattle.clap.specs.Lexer.{usize_max}
use Rattle.clap.specs.Simple.{App, Shape, new_rule, new_shape}
use Rattle.clap.specs.Walk.{Rule, Text, is_empty}
use Rattle.clap.specs.declared.builder.action.ArgAction.{ArgAction}
use Rattle.clap.specs.declared.builder.action.ArgAction.TheVariants.{Append, Set, SetTrue}
use Rattle.command_lines.specs.declared.table.Form.{Form}
use Rattle.command_lines.specs.declared.table.Form.TheVariants as form
use Rattle.command_lines.specs.declared.table.Program.{Program}
use Rattle.command_lines.specs.declared.table.Subcommand.{Subcommand}
use Rattle.command_lines.specs.declared.table.Word.{Word}

-- ---- arguments

-- a value by its place
abbrev pub place : Text → Rule
place name = record (new_rule name) { action = Some Set; value_names = 1 }

-- one value or more by their place
abbrev pub places : Text → Rule
places name = record (new_rule name) {
  action = Some Append;
  range = Some (record { start_inclusive = 1; end_inclusive = usize_max });
  value_names = 1;
}

-- a value after two hyphens and the name
abbrev pub option : Text → Rule
option name = record (new_rule name) { long = Some name; action = Some Set; value_names = 1 }

-- a value after a hyphen and a letter
abbrev pub letter : ℕ → Text → Rule
letter c name = record (new_rule name) { short = Some c; action = Some Set; value_names = 1 }

-- two hyphens and the name, without a value
abbrev pub flag : Text → Rule
flag name = record (new_rule name) { long = Some name; action = Some SetTrue }

-- the argument has to be given
abbrev pub needed : Rule → Rule
needed argument = record argument { required = true }

-- the argument has a rule on another one
abbrev pub tied : Rule → Rule
tied argument = record argument { is_free = false }

-- ---- words

-- a word in its form
abbrev pub formed : Form → Text → Rule
formed form.Place name = place name
formed form.Places name = places name
formed form.Option name = option name
formed (form.Letter c) name = letter c name
formed form.Flag name = flag name

-- what is done with each value of a word
abbrev pub action_by : Form → ArgAction
action_by form.Places = Append
action_by form.Flag = SetTrue
action_by other = Set

-- a word has to be given where it is required, unless another one may stand for it
abbrev pub with_need : (substitute : Option (Bor Text)) → (is_required : Bool) → Rule → Rule
with_need (Some other) is_required argument = tied argument
with_need None is_required argument = record argument { required = is_required }

-- a word may not stand beside another one
abbrev pub with_conflict : (conflict : Option (Bor Text)) → Rule → Rule
with_conflict (Some other) argument = tied argument
with_conflict None argument = argument

-- THE ARGUMENT THAT A WORD BECOMES
abbrev pub argument_of_word : Word → Rule
argument_of_word word = with_conflict word.conflict (with_need word.substitute word.is_required (formed word.form word.name.now))

-- ---- subcommands

-- the words that a subcommand shares with others, if it does
abbrev pub shared_by : (has_shared : Bool) → (shared : List Word) → List Word
shared_by true shared = shared
shared_by false shared = []

-- the words of a subcommand, and after them those that it shares
abbrev pub words_of : (shared : List Word) → Subcommand → List Word
words_of shared described = described.words.now ++ shared_by described.has_shared shared

abbrev pub with_arguments : Text → List Rule → Shape
with_arguments name arguments = record (new_shape name) { rules = arguments }

-- THE SUBCOMMAND THAT A TABLE DESCRIBES
abbrev pub shape_of_table : (shared : List Word) → Subcommand → Shape
shape_of_table shared described = with_arguments described.name.now (map argument_of_word (words_of shared described))

-- ---- programs

-- a command line without subcommands, of a program that tells its version
abbrev pub app_alone : Text → List Rule → App
app_alone name arguments = record {
  top = record (new_shape name) { rules = arguments; has_version = true };
  subs = [];
}

-- a command line that has one of these subcommands
abbrev pub app_over : Text → List Shape → App
app_over name subcommands = record {
  top = record (new_shape name) { is_leaf = is_empty subcommands; has_version = true; subcommand_required = true };
  subs = subcommands;
}

-- all subcommands of a program, group by group
abbrev pub described_in : Program → List Subcommand
described_in program = flat_map (λ group. group.now) program.groups.items

-- THE COMMAND LINE THAT A TABLE DESCRIBES
abbrev pub app_of_table : Program → App
app_of_table program = app_over program.name.now (map (shape_of_table program.shared.now) (described_in program))
