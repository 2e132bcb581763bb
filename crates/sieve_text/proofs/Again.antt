-- The spelling of a tree is read, or is refused for its depth.
use Rattle.std.proofs.Common.{◌≡◌, ℕ, zero, suc, ◌≤◌, List, [], ◌∷◌, ◌++◌, length, Bool, true, false, Some, None}
use Rattle.std.proofs.Common.{Result, Ok, Err, refl, sym, ap, ◌∙◌, append_assoc, arith}
use Rattle.std.specs.Prelude.{◌&&◌}
use Rattle.std.proofs.lemmas.List.{append-nil, length-append}
use Rattle.sieve_syntax.specs.declared.tree.StringList.TheVariants as string_lists
use Rattle.sieve_syntax.specs.declared.tree.Argument.{Argument}
use Rattle.sieve_syntax.specs.declared.tree.Argument.TheVariants as arguments
use Rattle.sieve_syntax.specs.declared.token.Mark.TheVariants.{Semicolon, OpenBrace, CloseBrace, CloseParen, CloseBracket, Comma}
use Rattle.sieve_syntax.specs.declared.token.TokenKind.{TokenKind}
use Rattle.sieve_syntax.specs.declared.token.TokenKind.TheVariants as tokens
use Rattle.sieve_syntax.specs.Tree.{TestTree, test, InnerTests, no_tests, one_test, listed_tests, TestRow, last_test, next_test, CommandTree, command}
use Rattle.sieve_syntax.specs.Tree.{EndingTree, semicolon, block, CommandTrees, no_commands, command_then, other_string_tokens, argument_tokens}
use Rattle.sieve_syntax.specs.Tree.{arguments_tokens, test_tokens, inner_tokens, row_tokens, command_tokens, ending_tokens, commands_tokens}
use Rattle.sieve_syntax.specs.View.{row_of, commands_of}
use Rattle.sieve_text.specs.declared.parser.stop.Misfit.{Misfit}
use Rattle.sieve_text.specs.declared.parser.stop.Misfit.TheVariants.{Nesting}
use Rattle.sieve_text.specs.Reading.{◌>>=◌, Reads, Tries, many_with, many_at, next_with, string_at, other_strings_at}
use Rattle.sieve_text.specs.Reading.{string_list_at, argument_at, arguments_at, test_list_with, inner_with, test_at}
use Rattle.sieve_text.specs.Reading.{ending_with, command_with, commands_with, inside_at, whole_of, script_at}
use Rattle.sieve_text.proofs.Depths.{test_fits, inner_fits, row_fits, command_fits, ending_fits, commands_fit}

-- what is read of a tree that fits, or of one that does not
abbrev pub answer : {A : Type 0} → Bool → A → Result A Misfit
answer true x = Ok x
answer false x = Err Nesting

answer_then : {A B : Type 0} (r : Result A Misfit) (f : A → Result B Misfit) (b c : Bool) (x : A) (y : B)
    → r ≡ answer b x → f x ≡ answer c y → (r >>= f) ≡ answer (b && c) y
answer_then r f true c x y e g = rw e g
answer_then r f false c x y e g = rw e refl

-- the same where what follows is read for certain
answer_map : {A B : Type 0} (r : Result A Misfit) (f : A → Result B Misfit) (b : Bool) (x : A) (y : B) → r ≡ answer b x
    → f x ≡ Ok y → (r >>= f) ≡ answer b y
answer_map r f true x y e g = rw e g
answer_map r f false x y e g = rw e refl

many_more : {A : Type 0} (read : Tries A) (n : ℕ) (ts us rest : List TokenKind) (b c : Bool) (a : A) (more : List A)
    → read ts ≡ answer b (Some (a, us)) → many_at read n us ≡ answer c (more, rest)
    → many_at read (suc n) ts ≡ answer (b && c) (a ∷ more, rest)
unfolding many_at
many_more read n ts us rest b c a more e g =
    answer_then (read ts) (many_with (many_at read n) ts) b c (Some (a, us)) (
      a ∷ more,
      rest,
    ) e (answer_map (many_at read n us) (λ x. Ok (a ∷ x.0, x.1)) c (more, rest) (a ∷ more, rest) g refl)

many_stop : {A : Type 0} (read : Tries A) (n : ℕ) (ts : List TokenKind) → read ts ≡ Ok None → many_at read n ts ≡ Ok ([], ts)
unfolding many_at
many_stop read zero ts e = refl
many_stop read (suc n) ts e = rw e refl

other_strings_length : (ss : List (List ℕ)) (rest : List TokenKind) → length ss ≤ length (other_string_tokens ss ++ rest)
other_strings_length [] rest = omega arith
other_strings_length (s ∷ ss) rest = let k = other_strings_length ss rest in omega arith

other_strings_again : (ss : List (List ℕ)) (n : ℕ) (rest : List TokenKind) → length ss ≤ n
    → many_at (next_with string_at) n (other_string_tokens ss ++ rest) ≡ Ok (ss, tokens.Mark CloseBracket ∷ rest)
other_strings_again [] n rest h = many_stop (next_with string_at) n (tokens.Mark CloseBracket ∷ rest) refl
other_strings_again (s ∷ ss) zero rest h = absurd (omega arith)
other_strings_again (s ∷ ss) (suc n) rest h = many_more (next_with string_at) n (other_string_tokens (s ∷ ss)
    ++ rest) (other_string_tokens ss
    ++ rest) (tokens.Mark CloseBracket ∷ rest) true true s ss refl (other_strings_again ss n rest (omega arith))

string_list_again : (s : List ℕ) (ss : List (List ℕ)) (rest : List TokenKind)
    → string_list_at (tokens.StringValue s ∷ (other_string_tokens ss ++ rest)) ≡ Ok (string_lists.Listed s ss, rest)
unfolding string_list_at other_strings_at
string_list_again s ss rest = rw (other_strings_again ss (length (other_string_tokens ss ++ rest)) rest (other_strings_length ss rest)) refl

argument_again : (a : Argument) (rest : List TokenKind) → argument_at (argument_tokens a ++ rest) ≡ Ok (Some (a, rest))
unfolding argument_at
argument_again (arguments.Tag name) rest = refl
argument_again (arguments.Number n) rest = refl
argument_again (arguments.Strings (string_lists.One s)) rest = refl
argument_again (arguments.Strings (string_lists.Listed s ss)) rest = rw (string_list_again s ss rest) refl

argument_length : (a : Argument) → 1 ≤ length (argument_tokens a)
argument_length (arguments.Tag name) = omega arith
argument_length (arguments.Number n) = omega arith
argument_length (arguments.Strings (string_lists.One s)) = omega arith
argument_length (arguments.Strings (string_lists.Listed s ss)) = omega arith

arguments_length : (args : List Argument) (rest : List TokenKind) → length args ≤ length (arguments_tokens args ++ rest)
arguments_length [] rest = omega arith
arguments_length (a ∷ args) rest =
    let k = arguments_length args rest in
    let l = argument_length a in
    rw append_assoc (omega (arith, length-append (argument_tokens a) (arguments_tokens args ++ rest)))

arguments_many : (args : List Argument) (n : ℕ) (rest : List TokenKind) → argument_at rest ≡ Ok None → length args ≤ n
    → many_at argument_at n (arguments_tokens args ++ rest) ≡ Ok (args, rest)
arguments_many [] n rest e h = many_stop argument_at n rest e
arguments_many (a ∷ args) zero rest e h = absurd (omega arith)
arguments_many (a ∷ args) (suc n) rest e h =
    rw append_assoc (many_more argument_at n (argument_tokens a
    ++ (arguments_tokens args ++ rest)) (arguments_tokens args
    ++ rest) rest true true a args (argument_again a (arguments_tokens args
    ++ rest)) (arguments_many args n rest e (omega arith)))

arguments_again : (args : List Argument) (rest : List TokenKind) → argument_at rest ≡ Ok None
    → arguments_at (arguments_tokens args ++ rest) ≡ Ok (args, rest)
unfolding arguments_at
arguments_again args rest e = arguments_many args (length (arguments_tokens args ++ rest)) rest e (arguments_length args rest)

-- what may follow a test
abbrev pub IsEnded : List TokenKind → Type 0
IsEnded [] = Unit {0}
IsEnded (tokens.Mark Comma ∷ ts) = Unit {0}
IsEnded (tokens.Mark CloseParen ∷ ts) = Unit {0}
IsEnded (tokens.Mark Semicolon ∷ ts) = Unit {0}
IsEnded (tokens.Mark OpenBrace ∷ ts) = Unit {0}
IsEnded (t ∷ ts) = ⊥

no_argument : (rest : List TokenKind) → IsEnded rest → argument_at rest ≡ Ok None
unfolding argument_at
no_argument [] h = refl
no_argument (tokens.Mark Comma ∷ ts) h = refl
no_argument (tokens.Mark CloseParen ∷ ts) h = refl
no_argument (tokens.Mark Semicolon ∷ ts) h = refl
no_argument (tokens.Mark OpenBrace ∷ ts) h = refl
no_argument (t ∷ ts) h = absurd h

no_argument_inner : (inner : InnerTests) (rest : List TokenKind) → IsEnded rest → argument_at (inner_tokens inner ++ rest) ≡ Ok None
unfolding argument_at
no_argument_inner no_tests rest h = no_argument rest h
no_argument_inner (one_test (test n args inner)) rest h = refl
no_argument_inner (listed_tests t row) rest h = refl

no_tests_read : (read : Reads TestTree) (rest : List TokenKind) → IsEnded rest → inner_with read rest ≡ Ok (no_tests, rest)
no_tests_read read [] h = refl
no_tests_read read (tokens.Mark Comma ∷ ts) h = refl
no_tests_read read (tokens.Mark CloseParen ∷ ts) h = refl
no_tests_read read (tokens.Mark Semicolon ∷ ts) h = refl
no_tests_read read (tokens.Mark OpenBrace ∷ ts) h = refl
no_tests_read read (t ∷ ts) h = absurd h

row_ended : (row : TestRow) (rest : List TokenKind) → IsEnded (row_tokens row ++ rest)
row_ended last_test rest = tt
row_ended (next_test t row) rest = tt

ending_ended : (finish : EndingTree) (rest : List TokenKind) → IsEnded (ending_tokens finish ++ rest)
ending_ended semicolon rest = tt
ending_ended (block cs) rest = tt

trees_of : TestRow → List TestTree
trees_of last_test = []
trees_of (next_test t row) = t ∷ trees_of row

row_of-trees_of : (row : TestRow) → row_of (trees_of row) ≡ row
unfolding trees_of
row_of-trees_of last_test = refl
row_of-trees_of (next_test t row) = ap (next_test t) (row_of-trees_of row)

one_read : (read : Reads TestTree) (t : TestTree) (rest : List TokenKind)
    → inner_with read (test_tokens t ++ rest) ≡ (read (test_tokens t ++ rest) >>= λ x. Ok (one_test x.0, x.1))
one_read read (test n args inner) rest = refl

mutual
  unfolding test_at trees_of

  pub test_reads : (t : TestTree) (d : ℕ) (rest : List TokenKind) → IsEnded rest
      → test_at d (test_tokens t ++ rest) ≡ answer (test_fits t d) (t, rest)
  test_reads (test n args inner) zero rest h = refl
  test_reads (test n args inner) (suc d) rest h =
      let more = inner_tokens inner ++ rest in
      let e : arguments_at ((arguments_tokens args ++ inner_tokens inner) ++ rest) ≡ Ok (args, more) =
      rw append_assoc (arguments_again args more (no_argument_inner inner rest h)) in
      rw e (answer_map (inner_with (test_at d) more) (λ x. Ok (test n args x.0, x.1)) (inner_fits inner d) (
        inner,
        rest,
      ) (test n args inner, rest) (inner_reads inner d rest h) refl)

  inner_reads : (inner : InnerTests) (d : ℕ) (rest : List TokenKind) → IsEnded rest
      → inner_with (test_at d) (inner_tokens inner ++ rest) ≡ answer (inner_fits inner d) (inner, rest)
  inner_reads no_tests d rest h = no_tests_read (test_at d) rest h
  inner_reads (one_test t) d rest h = one_read (test_at d) t rest
      ∙ answer_map (test_at d (test_tokens t ++ rest)) (λ x. Ok (one_test x.0, x.1)) (test_fits t d) (
        t,
        rest,
      ) (one_test t, rest) (test_reads t d rest h) refl
  inner_reads (listed_tests t row) d rest h =
      let more = row_tokens row ++ rest in
      let read = test_at d in
      ap (test_list_with read) (append_assoc (test_tokens t) (row_tokens row) rest)
      ∙ answer_then (read (test_tokens t ++ more)) _ (test_fits t d) (row_fits row d) (t, more) (
        listed_tests t row,
        rest,
      ) (test_reads t d more (row_ended row rest))
      (answer_map (many_at (next_with read) (length more) more) _ (row_fits row d) (
        trees_of row,
        tokens.Mark CloseParen ∷ rest,
      ) (listed_tests t row, rest)
      (row_reads row d (length more) rest (omega (arith, length-append (row_tokens row) rest)))
      (ap (λ (r : TestRow). Ok (listed_tests t r, rest)) (row_of-trees_of row)))

  row_reads : (row : TestRow) (d n : ℕ) (rest : List TokenKind) → length (row_tokens row) ≤ n
      → many_at (next_with (test_at d)) n (row_tokens row ++ rest) ≡ answer (row_fits row d) (
        trees_of row,
        tokens.Mark CloseParen ∷ rest,
      )
  row_reads last_test d n rest h = many_stop (next_with (test_at d)) n (tokens.Mark CloseParen ∷ rest) refl
  row_reads (next_test t row) d zero rest h = absurd (omega arith)
  row_reads (next_test t row) d (suc n) rest h =
      let more = row_tokens row ++ rest in
      let read = test_at d in
      let first : next_with read (tokens.Mark Comma ∷ ((test_tokens t ++ row_tokens row) ++ rest))
      ≡ answer (test_fits t d) (Some (t, more)) =
      rw append_assoc (answer_map (read (test_tokens t ++ more)) (λ x. Ok (Some x)) (test_fits t d) (
        t,
        more,
      ) (Some (t, more)) (test_reads t d more (row_ended row rest)) refl) in
      many_more (next_with read) n (tokens.Mark Comma ∷ ((test_tokens t ++ row_tokens row)
      ++ rest)) more (tokens.Mark CloseParen ∷ rest) (test_fits t d) (row_fits row d) t (trees_of row) first
      (row_reads row d n rest (omega (arith, length-append (test_tokens t) (row_tokens row))))

commands_list : CommandTrees → List CommandTree
commands_list no_commands = []
commands_list (command_then c cs) = c ∷ commands_list cs

commands_of-commands_list : (cs : CommandTrees) → commands_of (commands_list cs) ≡ cs
unfolding commands_list
commands_of-commands_list no_commands = refl
commands_of-commands_list (command_then c cs) = ap (command_then c) (commands_of-commands_list cs)

command_length : (c : CommandTree) → 1 ≤ length (command_tokens c)
command_length (command n args inner finish) = omega arith

commands_by : (cs : CommandTrees) (d b : ℕ) (rest : List TokenKind)
    → many_at (command_with d (inside_at d b)) (length (commands_tokens cs ++ rest)) (commands_tokens cs ++ rest)
    ≡ answer (commands_fit cs d b) (commands_list cs, rest)
    → commands_with d (inside_at d b) (commands_tokens cs ++ rest) ≡ answer (commands_fit cs d b) (cs, rest)
commands_by cs d b rest h =
    let ts = commands_tokens cs ++ rest in
    answer_map (many_at (command_with d (inside_at d b)) (length ts) ts) _ (commands_fit cs d b) (commands_list cs, rest) (cs, rest) h
    (ap (λ (t : CommandTrees). Ok (t, rest)) (commands_of-commands_list cs))

mutual
  unfolding inside_at commands_list

  command_reads : (c : CommandTree) (d b : ℕ) (rest : List TokenKind)
      → command_with d (inside_at d b) (command_tokens c ++ rest) ≡ answer (command_fits c d b) (Some (c, rest))
  command_reads (command n args inner finish) d b rest =
      let last = ending_tokens finish ++ rest in
      let more = inner_tokens inner ++ last in
      let assoc : (arguments_tokens args ++ (inner_tokens inner ++ ending_tokens finish))
      ++ rest ≡ arguments_tokens args ++ more = append_assoc (arguments_tokens args) (inner_tokens inner
      ++ ending_tokens finish) rest
      ∙ ap (λ (w : List TokenKind). arguments_tokens args
      ++ w) (append_assoc (inner_tokens inner) (ending_tokens finish) rest) in
      let e : arguments_at ((arguments_tokens args ++ (inner_tokens inner ++ ending_tokens finish)) ++ rest)
      ≡ Ok (args, more) = ap arguments_at assoc
      ∙ arguments_again args more (no_argument_inner inner last (ending_ended finish rest)) in
      rw e (answer_then (inner_with (test_at d) more) _ (inner_fits inner d) (ending_fits finish d b) (
        inner,
        last,
      ) (Some (command n args inner finish, rest)) (inner_reads inner d last (ending_ended finish rest))
      (answer_map (ending_with (inside_at d b) last) _ (ending_fits finish d b) (
        finish,
        rest,
      ) (Some (command n args inner finish, rest)) (ending_reads finish d b rest) refl))

  ending_reads : (finish : EndingTree) (d b : ℕ) (rest : List TokenKind)
      → ending_with (inside_at d b) (ending_tokens finish ++ rest) ≡ answer (ending_fits finish d b) (finish, rest)
  ending_reads semicolon d b rest = refl
  ending_reads (block cs) d zero rest = refl
  ending_reads (block cs) d (suc b) rest =
      let following = tokens.Mark CloseBrace ∷ rest in
      let assoc : (commands_tokens cs ++ tokens.Mark CloseBrace ∷ []) ++ rest ≡ commands_tokens cs
      ++ following = append_assoc (commands_tokens cs) (tokens.Mark CloseBrace ∷ []) rest in
      ap (λ (w : List TokenKind). ending_with (inside_at d (suc b)) (tokens.Mark OpenBrace ∷ w)) assoc
      ∙ answer_map (inside_at d (suc b) (commands_tokens cs ++ following)) _ (commands_fit cs d b) (
        cs,
        following,
      ) (
        block cs,
        rest,
      ) (commands_by cs d b following (many_commands cs d b (length (commands_tokens cs ++ following)) following
      refl (omega (arith, length-append (commands_tokens cs) following)))) refl

  many_commands : (cs : CommandTrees) (d b n : ℕ) (rest : List TokenKind)
      → command_with d (inside_at d b) rest ≡ Ok None → length (commands_tokens cs) ≤ n
      → many_at (command_with d (inside_at d b)) n (commands_tokens cs ++ rest)
      ≡ answer (commands_fit cs d b) (commands_list cs, rest)
  many_commands no_commands d b n rest h k = many_stop (command_with d (inside_at d b)) n rest h
  many_commands (command_then c cs) d b zero rest h k =
      absurd (omega (arith, command_length c, length-append (command_tokens c) (commands_tokens cs)))
  many_commands (command_then c cs) d b (suc n) rest h k =
      let more = commands_tokens cs ++ rest in
      rw append_assoc (many_more (command_with d (inside_at d b)) n (command_tokens c
      ++ more) more rest (command_fits c d b) (commands_fit cs d b) c (commands_list cs) (command_reads c d b more)
      (many_commands cs d b n rest h (omega (
        arith,
        command_length c,
        length-append (command_tokens c) (commands_tokens cs),
      ))))

-- a tree is read from its spelling exactly where it fits
pub script_reads : (t : CommandTrees) (d b : ℕ) → script_at d b (commands_tokens t) ≡ answer (commands_fit t d b) t
unfolding script_at
script_reads t d b =
    ap (λ (w : List TokenKind). commands_with d (inside_at d b) w >>= whole_of) (sym (append-nil (commands_tokens t)))
    ∙ answer_map (commands_with d (inside_at d b) (commands_tokens t ++ [])) whole_of (commands_fit t d b) (
      t,
      [],
    ) t (commands_by t d b [] (many_commands t d b (length (commands_tokens t ++ [])) [] refl (omega (
      arith,
      length-append (commands_tokens t) [],
    )))) refl
