-- The tokens that are read spell what is read from them.
use Rattle.std.proofs.Common.{◌≡◌, ℕ, zero, suc, List, [], ◌∷◌, ◌++◌, length, Option, Some, None, Result, Ok, Err, refl}
use Rattle.std.proofs.Common.{sym, ap, subst, ◌∙◌, append_assoc}
use Rattle.std.proofs.lemmas.List.{append-nil}
use Rattle.sieve_syntax.specs.declared.tree.StringList.{StringList}
use Rattle.sieve_syntax.specs.declared.tree.StringList.TheVariants as string_lists
use Rattle.sieve_syntax.specs.declared.tree.Argument.{Argument}
use Rattle.sieve_syntax.specs.declared.tree.Argument.TheVariants as arguments
use Rattle.sieve_syntax.specs.declared.token.Mark.TheVariants.{Semicolon, OpenBrace, CloseBrace, OpenParen, CloseParen}
use Rattle.sieve_syntax.specs.declared.token.Mark.TheVariants.{OpenBracket, CloseBracket, Comma}
use Rattle.sieve_syntax.specs.declared.token.TokenKind.{TokenKind}
use Rattle.sieve_syntax.specs.declared.token.TokenKind.TheVariants as tokens
use Rattle.sieve_syntax.specs.Tree.{TestTree, test, InnerTests, no_tests, one_test, listed_tests, CommandTree, command, semicolon, block}
use Rattle.sieve_syntax.specs.Tree.{CommandTrees, other_string_tokens, string_list_tokens, argument_tokens, arguments_tokens, test_tokens}
use Rattle.sieve_syntax.specs.Tree.{inner_tokens, row_tokens, command_tokens, ending_tokens, commands_tokens}
use Rattle.sieve_syntax.specs.View.{row_of, commands_of}
use Rattle.sieve_text.specs.declared.parser.stop.Misfit.{Misfit}
use Rattle.sieve_text.specs.Reading.{◌>>=◌, Reads, Tries, many_with, many_at, next_with, string_at, after_bracket, after_paren, after_brace}
use Rattle.sieve_text.specs.Reading.{other_strings_at, string_list_at, argument_at, arguments_at, test_list_with, inner_with, test_with, refused_at}
use Rattle.sieve_text.specs.Reading.{test_at, ending_with, command_with, commands_with, inside_at, whole_of, script_at}

pub bind_ok : {A B : Type 0} (r : Result A Misfit) (f : A → Result B Misfit) (y : B) → (r >>= f) ≡ Ok y → (x : A) × (r ≡ Ok x) × (f x ≡ Ok y)
bind_ok (Ok x) f y e = (x, refl, e)
bind_ok (Err d) f y e = absurd cc

pub ok_is : {A : Type 0} (x y : A) → ◌≡◌ {A = Result A Misfit} (Ok x) (Ok y) → x ≡ y
ok_is x y e = cc

pub some_is : {A : Type 0} (x y : A) → ◌≡◌ {A = Result (Option A) Misfit} (Ok (Some x)) (Ok (Some y)) → x ≡ y
some_is x y e = cc

-- the reader's tokens are those of what it read and the rest
abbrev pub IsSound : {A : Type 0} → (A → List TokenKind) → Reads A → Type 0
IsSound {A} print read = (ts : List TokenKind) (x : A × List TokenKind) → read ts ≡ Ok x → ts ≡ print x.0 ++ x.1

abbrev pub IsSoundTry : {A : Type 0} → (A → List TokenKind) → Tries A → Type 0
IsSoundTry {A} print read = (ts : List TokenKind) (x : A × List TokenKind) → read ts ≡ Ok (Some x) → ts ≡ print x.0 ++ x.1

printed : {A : Type 0} → (A → List TokenKind) → List A → List TokenKind
printed print [] = []
printed print (a ∷ more) = print a ++ printed print more

along : {A : Type 0} (print : A → List TokenKind) (ts : List TokenKind) (x y : A × List TokenKind)
    → ◌≡◌ {A = Result (A × List TokenKind) Misfit} (Ok x) (Ok y) → ts ≡ print x.0 ++ x.1 → ts ≡ print y.0 ++ y.1
along {A} print ts x y e h = subst (λ (z : A × List TokenKind). ts ≡ print z.0 ++ z.1) (ok_is x y e) h

along_some : {A : Type 0} (print : A → List TokenKind) (ts : List TokenKind) (x y : A × List TokenKind)
    → ◌≡◌ {A = Result (Option (A × List TokenKind)) Misfit} (Ok (Some x)) (Ok (Some y)) → ts ≡ print x.0 ++ x.1
    → ts ≡ print y.0 ++ y.1
along_some {A} print ts x y e h = subst (λ (z : A × List TokenKind). ts ≡ print z.0 ++ z.1) (some_is x y e) h

many_sound : {A : Type 0} (print : A → List TokenKind) (read : Tries A) → IsSoundTry print read → (n : ℕ) → IsSound (printed print) (many_at read n)
unfolding many_at printed
many_sound print read h zero ts x e = along (printed print) ts ([], ts) x e refl
many_sound {A} print read h (suc n) ts x e = let a = bind_ok (read ts) (many_with (many_at read n) ts) x e in
    from (many_sound print read h n) a.0 a.1 a.2
  where
    from : IsSound (printed print) (many_at read n) → (o : Option (A × List TokenKind)) → read ts ≡ Ok o
        → many_with (many_at read n) ts o ≡ Ok x → ts ≡ printed print x.0 ++ x.1
    from again None f g = along (printed print) ts ([], ts) x g refl
    from again (Some a) f g =
        let b = bind_ok (many_at read n a.1) (λ y. Ok (a.0 ∷ y.0, y.1)) x g in
        along (printed print) ts (a.0 ∷ b.0.0, b.0.1) x b.2 (h ts a f
        ∙ ap (λ (w : List TokenKind). print a.0 ++ w) (again a.1 b.0 b.1)
        ∙ sym (append_assoc (print a.0) (printed print b.0.0) b.0.1))

next_sound : {A : Type 0} (print : A → List TokenKind) (read : Reads A) → IsSound print read
    → IsSoundTry (λ a. tokens.Mark Comma ∷ print a) (next_with read)
next_sound print read h (tokens.Mark Comma ∷ ts) x e =
    let a = bind_ok (read ts) (λ y. Ok (Some y)) (Some x) e in
    ap (λ (w : List TokenKind). tokens.Mark Comma ∷ w) (along_some print ts a.0 x a.2 (h ts a.0 a.1))
next_sound print read h ts x e = absurd cc

string_sound : IsSound (λ s. tokens.StringValue s ∷ []) string_at
string_sound (tokens.StringValue s ∷ ts) x e = along (λ (s : List ℕ). tokens.StringValue s ∷ []) (tokens.StringValue s ∷ ts) (s, ts) x e refl
string_sound ts x e = absurd cc

bracket_sound : (ts rest : List TokenKind) → after_bracket ts ≡ Ok rest → ts ≡ tokens.Mark CloseBracket ∷ rest
bracket_sound (tokens.Mark CloseBracket ∷ ts) rest e = ap (λ (w : List TokenKind). tokens.Mark CloseBracket ∷ w) (ok_is ts rest e)
bracket_sound ts rest e = absurd cc

paren_sound : (ts rest : List TokenKind) → after_paren ts ≡ Ok rest → ts ≡ tokens.Mark CloseParen ∷ rest
paren_sound (tokens.Mark CloseParen ∷ ts) rest e = ap (λ (w : List TokenKind). tokens.Mark CloseParen ∷ w) (ok_is ts rest e)
paren_sound ts rest e = absurd cc

brace_sound : (ts rest : List TokenKind) → after_brace ts ≡ Ok rest → ts ≡ tokens.Mark CloseBrace ∷ rest
brace_sound (tokens.Mark CloseBrace ∷ ts) rest e = ap (λ (w : List TokenKind). tokens.Mark CloseBrace ∷ w) (ok_is ts rest e)
brace_sound ts rest e = absurd cc

others_printed : (ss : List (List ℕ)) (rest : List TokenKind)
    → printed (λ s. tokens.Mark Comma ∷ tokens.StringValue s ∷ []) ss
    ++ (tokens.Mark CloseBracket ∷ rest) ≡ other_string_tokens ss ++ rest
unfolding printed
others_printed [] rest = refl
others_printed (s ∷ ss) rest = ap (λ (w : List TokenKind). tokens.Mark Comma ∷ tokens.StringValue s ∷ w) (others_printed ss rest)

string_list_sound : (ts : List TokenKind) (x : StringList × List TokenKind) → string_list_at ts ≡ Ok x
    → tokens.Mark OpenBracket ∷ ts ≡ string_list_tokens x.0 ++ x.1
unfolding string_list_at other_strings_at
string_list_sound ts x e =
    let a = bind_ok (string_at ts) _ x e in
    let b = bind_ok (other_strings_at a.0.1) _ x a.2 in
    let d = bind_ok (after_bracket b.0.1) _ x b.2 in
    let first : ts ≡ tokens.StringValue a.0.0 ∷ a.0.1 = string_sound ts a.0 a.1 in
    let more : a.0.1 ≡ printed (λ s. tokens.Mark Comma ∷ tokens.StringValue s ∷ []) b.0.0
    ++ b.0.1 = many_sound (λ (s : List ℕ). tokens.Mark Comma ∷ tokens.StringValue s ∷ []) (next_with string_at)
    (next_sound (λ (s : List ℕ). tokens.StringValue s ∷ []) string_at string_sound) (length a.0.1) a.0.1 b.0 b.1 in
    let last : b.0.1 ≡ tokens.Mark CloseBracket ∷ d.0 = bracket_sound b.0.1 d.0 d.1 in
    along string_list_tokens (tokens.Mark OpenBracket ∷ ts) (string_lists.Listed a.0.0 b.0.0, d.0) x d.2
    (ap (λ (w : List TokenKind). tokens.Mark OpenBracket ∷ w) (first
    ∙ ap (λ (w : List TokenKind). tokens.StringValue a.0.0 ∷ w) (more
    ∙ ap (λ (w : List TokenKind). printed (λ s. tokens.Mark Comma ∷ tokens.StringValue s ∷ []) b.0.0 ++ w) last
    ∙ others_printed b.0.0 d.0)))

argument_sound : IsSoundTry argument_tokens argument_at
unfolding argument_at
argument_sound (tokens.Tag name ∷ ts) x e = along_some argument_tokens (tokens.Tag name ∷ ts) (arguments.Tag name, ts) x e refl
argument_sound (tokens.Number n ∷ ts) x e = along_some argument_tokens (tokens.Number n ∷ ts) (arguments.Number n, ts) x e refl
argument_sound (tokens.StringValue s ∷ ts) x e =
    along_some argument_tokens (tokens.StringValue s ∷ ts) (arguments.Strings (string_lists.One s), ts) x e refl
argument_sound (tokens.Mark OpenBracket ∷ ts) x e =
    let a = bind_ok (string_list_at ts) _ (Some x) e in
    along_some argument_tokens (tokens.Mark OpenBracket ∷ ts) (arguments.Strings a.0.0, a.0.1) x a.2 (string_list_sound ts a.0 a.1)
argument_sound ts x e = absurd cc

arguments_printed : (args : List Argument) → printed argument_tokens args ≡ arguments_tokens args
unfolding printed
arguments_printed [] = refl
arguments_printed (a ∷ args) = ap (λ (w : List TokenKind). argument_tokens a ++ w) (arguments_printed args)

arguments_sound : IsSound arguments_tokens arguments_at
unfolding arguments_at
arguments_sound ts x e = many_sound argument_tokens argument_at argument_sound (length ts) ts x e
    ∙ ap (λ (w : List TokenKind). w ++ x.1) (arguments_printed x.0)

row_printed : (row : List TestTree) (rest : List TokenKind) → printed (λ t. tokens.Mark Comma ∷ test_tokens t) row
    ++ (tokens.Mark CloseParen ∷ rest) ≡ row_tokens (row_of row) ++ rest
unfolding printed
row_printed [] rest = refl
row_printed (t ∷ row) rest =
    append_assoc (tokens.Mark Comma ∷ test_tokens t) (printed (λ t. tokens.Mark Comma ∷ test_tokens t) row) (tokens.Mark CloseParen ∷ rest)
    ∙ ap (λ (w : List TokenKind). (tokens.Mark Comma ∷ test_tokens t) ++ w) (row_printed row rest)
    ∙ sym (append_assoc (tokens.Mark Comma ∷ test_tokens t) (row_tokens (row_of row)) rest)

test_list_sound : (read : Reads TestTree) → IsSound test_tokens read
    → (ts : List TokenKind) (x : InnerTests × List TokenKind) → test_list_with read ts ≡ Ok x
    → tokens.Mark OpenParen ∷ ts ≡ inner_tokens x.0 ++ x.1
test_list_sound read h ts x e =
    let a = bind_ok (read ts) _ x e in
    let b = bind_ok (many_at (next_with read) (length a.0.1) a.0.1) _ x a.2 in
    let d = bind_ok (after_paren b.0.1) _ x b.2 in
    let print : TestTree → List TokenKind = λ t. tokens.Mark Comma ∷ test_tokens t in
    let first : ts ≡ test_tokens a.0.0 ++ a.0.1 = h ts a.0 a.1 in
    let more : a.0.1 ≡ printed print b.0.0
    ++ b.0.1 = many_sound print (next_with read) (next_sound test_tokens read h) (length a.0.1) a.0.1 b.0 b.1 in
    let last : b.0.1 ≡ tokens.Mark CloseParen ∷ d.0 = paren_sound b.0.1 d.0 d.1 in
    along inner_tokens (tokens.Mark OpenParen ∷ ts) (listed_tests a.0.0 (row_of b.0.0), d.0) x d.2
    (ap (λ (w : List TokenKind). tokens.Mark OpenParen ∷ w)
    (first ∙ ap (λ (w : List TokenKind). test_tokens a.0.0 ++ w) (more
    ∙ ap (λ (w : List TokenKind). printed print b.0.0 ++ w) last ∙ row_printed b.0.0 d.0)
    ∙ sym (append_assoc (test_tokens a.0.0) (row_tokens (row_of b.0.0)) d.0)))

inner_sound : (read : Reads TestTree) → IsSound test_tokens read → IsSound inner_tokens (inner_with read)
inner_sound read h [] x e = along inner_tokens [] (no_tests, []) x e refl
inner_sound read h (tokens.Identifier n ∷ ts) x e =
    let a = bind_ok (read (tokens.Identifier n ∷ ts)) _ x e in
    along inner_tokens (tokens.Identifier n ∷ ts) (one_test a.0.0, a.0.1) x a.2 (h (tokens.Identifier n ∷ ts) a.0 a.1)
inner_sound read h (tokens.Mark OpenParen ∷ ts) x e = test_list_sound read h ts x e
inner_sound read h (t ∷ ts) x e = along inner_tokens (t ∷ ts) (no_tests, t ∷ ts) x e refl

refused_sound : IsSound test_tokens refused_at
refused_sound (tokens.Identifier n ∷ ts) x e = absurd cc
refused_sound ts x e = absurd cc

test_with_sound : (read : Reads InnerTests) → IsSound inner_tokens read → IsSound test_tokens (test_with read)
test_with_sound read h (tokens.Identifier n ∷ ts) x e =
    let a = bind_ok (arguments_at ts) _ x e in
    let b = bind_ok (read a.0.1) _ x a.2 in
    along test_tokens (tokens.Identifier n ∷ ts) (test n a.0.0 b.0.0, b.0.1) x b.2
    (ap (λ (w : List TokenKind). tokens.Identifier n ∷ w)
    (arguments_sound ts a.0 a.1 ∙ ap (λ (w : List TokenKind). arguments_tokens a.0.0 ++ w) (h a.0.1 b.0 b.1)
    ∙ sym (append_assoc (arguments_tokens a.0.0) (inner_tokens b.0.0) b.0.1)))
test_with_sound read h ts x e = absurd cc

pub test_sound : (d : ℕ) → IsSound test_tokens (test_at d)
unfolding test_at
test_sound zero = refused_sound
test_sound (suc d) = test_with_sound (inner_with (test_at d)) (inner_sound (test_at d) (test_sound d))

ending_sound : (read : Reads CommandTrees) → IsSound commands_tokens read → IsSound ending_tokens (ending_with read)
ending_sound read h (tokens.Mark Semicolon ∷ ts) x e = along ending_tokens (tokens.Mark Semicolon ∷ ts) (semicolon, ts) x e refl
ending_sound read h (tokens.Mark OpenBrace ∷ ts) x e =
    let a = bind_ok (read ts) _ x e in
    let b = bind_ok (after_brace a.0.1) _ x a.2 in
    let last : a.0.1 ≡ tokens.Mark CloseBrace ∷ b.0 = brace_sound a.0.1 b.0 b.1 in
    along ending_tokens (tokens.Mark OpenBrace ∷ ts) (block a.0.0, b.0) x b.2
    (ap (λ (w : List TokenKind). tokens.Mark OpenBrace ∷ w)
    (h ts a.0 a.1 ∙ ap (λ (w : List TokenKind). commands_tokens a.0.0 ++ w) last
    ∙ sym (append_assoc (commands_tokens a.0.0) (tokens.Mark CloseBrace ∷ []) b.0)))
ending_sound read h ts x e = absurd cc

command_sound : (depth : ℕ) (read : Reads CommandTrees) → IsSound commands_tokens read → IsSoundTry command_tokens (command_with depth read)
command_sound depth read h (tokens.Identifier n ∷ ts) x e =
    let a = bind_ok (arguments_at ts) _ (Some x) e in
    let b = bind_ok (inner_with (test_at depth) a.0.1) _ (Some x) a.2 in
    let d = bind_ok (ending_with read b.0.1) _ (Some x) b.2 in
    let args = arguments_tokens a.0.0 in
    let inner = inner_tokens b.0.0 in
    along_some command_tokens (tokens.Identifier n ∷ ts) (command n a.0.0 b.0.0 d.0.0, d.0.1) x d.2
    (ap (λ (w : List TokenKind). tokens.Identifier n ∷ w)
    (arguments_sound ts a.0 a.1
    ∙ ap (λ (w : List TokenKind). args ++ w) (inner_sound (test_at depth) (test_sound depth) a.0.1 b.0 b.1
    ∙ ap (λ (w : List TokenKind). inner ++ w) (ending_sound read h b.0.1 d.0 d.1)
    ∙ sym (append_assoc inner (ending_tokens d.0.0) d.0.1))
    ∙ sym (append_assoc args (inner ++ ending_tokens d.0.0) d.0.1)))
command_sound depth read h ts x e = absurd cc

commands_printed : (cs : List CommandTree) → printed command_tokens cs ≡ commands_tokens (commands_of cs)
unfolding printed
commands_printed [] = refl
commands_printed (c ∷ cs) = ap (λ (w : List TokenKind). command_tokens c ++ w) (commands_printed cs)

commands_sound : (depth : ℕ) (read : Reads CommandTrees) → IsSound commands_tokens read → IsSound commands_tokens (commands_with depth read)
commands_sound depth read h ts x e =
    let a = bind_ok (many_at (command_with depth read) (length ts) ts) _ x e in
    along commands_tokens ts (commands_of a.0.0, a.0.1) x a.2
    (many_sound command_tokens (command_with depth read) (command_sound depth read h) (length ts) ts a.0 a.1
    ∙ ap (λ (w : List TokenKind). w ++ a.0.1) (commands_printed a.0.0))

inside_sound : (depth blocks : ℕ) → IsSound commands_tokens (inside_at depth blocks)
unfolding inside_at
inside_sound depth zero ts x e = absurd cc
inside_sound depth (suc blocks) ts x e = commands_sound depth (inside_at depth blocks) (inside_sound depth blocks) ts x e

whole_sound : (x : CommandTrees × List TokenKind) (t : CommandTrees) → whole_of x ≡ Ok t → (x.0 ≡ t) × (x.1 ≡ [])
whole_sound (cs, []) t e = (ok_is cs t e, refl)
whole_sound (cs, k ∷ ks) t e = absurd cc

pub script_sound : (depth blocks : ℕ) (ts : List TokenKind) (t : CommandTrees) → script_at depth blocks ts ≡ Ok t → ts ≡ commands_tokens t
unfolding script_at
script_sound depth blocks ts t e =
    let a = bind_ok (commands_with depth (inside_at depth blocks) ts) whole_of t e in
    let w = whole_sound a.0 t a.2 in
    let s : ts ≡ commands_tokens a.0.0 ++ a.0.1 = commands_sound depth (inside_at depth blocks) (inside_sound depth blocks) ts a.0 a.1 in
    s ∙ ap (λ (v : List TokenKind). commands_tokens a.0.0 ++ v) w.1 ∙ append-nil (commands_tokens a.0.0) ∙ ap commands_tokens w.0
