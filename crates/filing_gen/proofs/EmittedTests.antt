-- The code of tests, from the parts that were added.
use Rattle.std.proofs.Common.{◌≡◌, ℕ, ◌+◌, ◌<◌, ◌≤◌, List, [], ◌∷◌, length, map, Bool, true, false, ◌||◌, cond, refl}
use Rattle.std.proofs.Common.{sym, ap, ◌∙◌, subst, arith, drop, get_or, codes, Box, Vec, Global}
use Rattle.std.specs.List.{list_any}
use Rattle.std.proofs.Math.Bool.{or-false}
use Rattle.std.proofs.Math.ListN.{drop_of_length-le}
use Rattle.filing_image.specs.declared.instruction.Operation.TheVariants.{Jump}
use Rattle.filing_verify.specs.declared.kind.Kind.TheVariants.{Texts}
use Rattle.sieve_syntax.specs.Arguments.{strings_of, first_of, others_of}
use Rattle.sieve_syntax.specs.Tree.{TestTree, listed_tests}
use Rattle.sieve_syntax.specs.View.{row_of, test_of, inner_of}
use Rattle.sieve_syntax.specs.declared.tree.Argument.{Argument}
use Rattle.sieve_syntax.specs.declared.tree.StringList.{StringList}
use Rattle.sieve_syntax.specs.declared.tree.Test.{Test}
use Rattle.sieve_syntax.specs.declared.tree.Tests.TheVariants.{One}
use Rattle.sieve_syntax.specs.declared.tree.Tests.TheViews.{out-Test}
use Rattle.sieve_syntax.proofs.Views.{inner_of-One, test_of-fields}
use Rattle.sieve_meaning.specs.declared.words.TestWord.{TestWord}
use Rattle.sieve_meaning.specs.Words.{test_word}
use Rattle.sieve_meaning.specs.declared.matching.Comparator.{Comparator}
use Rattle.sieve_meaning.specs.declared.matching.MatchType.{MatchType}
use Rattle.sieve_meaning.specs.Reading.{test_named, test_in, only_in, tests_in, row_in, string_lists, exists_of}
use Rattle.sieve_meaning.specs.Reading.{header_of, has_tag, number_in, size_of}
use Rattle.filing_flow.specs.Structure.{Flow, nothing, action, sequence, block, leave, leave_if, size, HasField}
use Rattle.filing_flow.specs.Structure.{MatchKey, ValuesOf, JoinTwo, Push, PushNumber, PushSize, IsLess, Drop}
use Rattle.filing_flow.specs.Code.{end_at}
use Rattle.filing_flow.specs.Types.{Shape, HasType}
use Rattle.sieve_meaning.specs.Words.{same_word}
use Rattle.filing_table.specs.Comparison.{comparison}
use Rattle.filing_gen.specs.BlockCode.{names_flow, keys_flow, values_flow, either, header_flow, tests_flow, test_flow}
use Rattle.filing_gen.specs.declared.output.Output.{Output}
use Rattle.filing_gen.specs.Adds.{Puts, Emits, HasRoom}
use Rattle.filing_gen.specs.Names.{each_once, others_once, has_name}
use Rattle.filing_gen.specs.NameCode.{name_flow, each_flow, IsWithin, EmitsWithin}
use Rattle.filing_gen.specs.declared.emit_tests.NameCode.{NameCode}
use Rattle.filing_gen.specs.declared.emit_tests.NameCode.TheVariants.{Exists, Values}
use Rattle.filing_gen.specs.Ends.{no_place, IsEnded}
use Rattle.filing_gen.proofs.Names.{AreAsked, apart_from, once_turn, others_apart}
use Rattle.filing_gen.proofs.EndedBlocks.{jumps_ended}
use Rattle.filing_gen.proofs.Types.{keys_typed}
use Rattle.filing_gen.proofs.Emitted.{emits_sequence, emits_assoc, emits_block, emits_nothing}
use Rattle.filing_gen.proofs.Emitted.{leave_emitted, grows, Completes, leads_first, leads_more, leads_both, leads_last}
use Rattle.filing_gen.proofs.Emitted.{turn, To, Anywhere}

pub flow-over : (args : List Argument) (n : ℕ) (longer : Bool) → longer ≡ has_tag (codes "over") args → longer ≡ true
    → n ≡ number_in args → sequence (action (PushNumber n)) (sequence (action PushSize) (action IsLess))
    ≡ test_flow (size_of (has_tag (codes "over") args) (number_in args))
flow-over args n longer tagged is number = rw (← tagged, is, number) refl

pub flow-under : (args : List Argument) (n : ℕ) (longer : Bool) → longer ≡ has_tag (codes "over") args → longer ≡ false
    → n ≡ number_in args → sequence (action PushSize) (sequence (action (PushNumber n)) (action IsLess))
    ≡ test_flow (size_of (has_tag (codes "over") args) (number_in args))
flow-under args n longer tagged is number = rw (← tagged, is, number) refl

-- LISTS OF TESTS

-- the tests of a list in the code
abbrev pub row_flow : Bool → List TestTree → Flow
row_flow b [] = nothing
row_flow b (t ∷ ts) = sequence (test_flow (test_in t)) (sequence (leave_if b 0) (row_flow b ts))

flow-row : (b : Bool) (ts : List TestTree) → tests_flow b (row_in (row_of ts)) ≡ row_flow b ts
flow-row b [] = refl
flow-row b (t ∷ ts) = ap (λ (a : Flow). sequence (test_flow (test_in t)) (sequence (leave_if b 0) a)) (flow-row b ts)

pub flow-listed : (b : Bool) (t : TestTree) (ts : List TestTree) → tests_flow b (tests_in (listed_tests t (row_of ts))) ≡ row_flow b (t ∷ ts)
flow-listed b t ts = ap (λ (a : Flow). sequence (test_flow (test_in t)) (sequence (leave_if b 0) a)) (flow-row b ts)

-- a test outside parentheses
pub flow-one : (b : Box Test Global) (stop : Bool)
    → tests_flow stop (tests_in (inner_of (One b)))
    ≡ sequence (test_flow (test_in (test_of b.value))) (sequence (leave_if stop 0) nothing)
flow-one b stop = rw (inner_of-One b) refl

-- TURNS OF LOOPS

-- the end of the innermost block around is not known
abbrev pub Unknown : List ℕ → Type 0
Unknown = To no_place

-- The names so far, and what is left to be written.
pub record Asked (code : NameCode) (old now : Output) (lowercase : List (Vec ℕ Global)) (rest : List (List ℕ)) (whole : Flow) : Type 0 where
  pub seen : List (List ℕ)
  pub asked : AreAsked lowercase seen
  pub leads : Completes old now (each_flow code (apart_from seen (each_once rest))) whole (IsWithin code)

-- after the first name
pub asked_first : (code : NameCode) (o : Output) (one : List (Vec ℕ Global)) (n : List ℕ) (ns : List (List ℕ))
    → ((m : List ℕ) → has_name one m ≡ same_word n m) → Asked code o o one ns (each_flow code (others_once n ns))
asked_first code o one n ns names =
    let all = each_flow code (others_once n ns) in
    record {
      seen = n ∷ [];
      asked = λ m. names m ∙ sym (or-false (same_word n m));
      leads = subst (λ (l : List (List ℕ)). Completes o o (each_flow code l) all (IsWithin code)) (sym (others_apart n ns))
          (leads_first o all (IsWithin code));
    }

name_long : (code : NameCode) (n : List ℕ) (ns : List (List ℕ)) → size (each_flow code (n ∷ ns)) ≡ 2 + size (each_flow code ns)
name_long Exists n ns = omega arith
name_long Values n ns = omega arith

name_leads : (code : NameCode) (old now new : Output) (n : List ℕ) (ns : List (List ℕ)) (whole : Flow)
    → EmitsWithin code now new (name_flow code n) → Completes old now (each_flow code (n ∷ ns)) whole (IsWithin code)
    → Completes old new (each_flow code ns) whole (IsWithin code)
name_leads Exists old now new n ns whole e h =
    leads_both old now new (action (HasField n)) (leave_if false 0) (names_flow ns) (names_flow (n ∷ ns)) whole Unknown
    (no_place ∷ []) refl h refl e
name_leads Values old now new n ns whole e h =
    leads_both old now new (action (ValuesOf n)) (action JoinTwo) (values_flow ns) (values_flow (n ∷ ns)) whole Anywhere
    [] tt h refl e

-- One name more: it was among those before, or it is new, and its code is written.
pub record NameTurn (code : NameCode) (old now : Output) (before after : List (Vec ℕ Global)) (name : List ℕ)
    (rest : List (List ℕ)) (whole : Flow) : Type 0 where
  pub known : has_name before name ≡ true → Asked code old now after rest whole
  pub room : has_name before name ≡ false → HasRoom old (size whole) → HasRoom now 2
  pub written : has_name before name ≡ false → (new : Output) → EmitsWithin code now new (name_flow code name)
      → Asked code old new after rest whole

module _ (code : NameCode) (old now : Output) (before after : List (Vec ℕ Global)) (xs : List (List ℕ)) (i : ℕ)
    (x : List ℕ) (lt : i < length xs) (is : x ≡ get_or xs i x) (name : List ℕ) (named : name ≡ x) (whole : Flow)
    (names : (m : List ℕ) → has_name after m ≡ (same_word name m || has_name before m))
    (h : Asked code old now before (drop i xs) whole) where
  abbrev following : List (List ℕ)
  following = apart_from (x ∷ h.seen) (each_once (drop (i + 1) xs))

  asked_more : AreAsked after (x ∷ h.seen)
  asked_more m = names m ∙ ap (λ n. same_word n m || has_name before m) named ∙ ap (λ b. same_word x m || b) (h.asked m)

  rest_is : (b : Bool) → has_name before name ≡ b
      → apart_from h.seen (each_once (drop i xs)) ≡ cond b following (name ∷ following)
  rest_is b e =
      let there : list_any (λ k. same_word k x) h.seen ≡ b = sym (h.asked x) ∙ ap (has_name before) (sym named) ∙ e in
      ap (λ l. apart_from h.seen (each_once l)) (turn xs i x is lt) ∙ once_turn h.seen x (drop (i + 1) xs) b there
      ∙ ap (λ n. cond b following (n ∷ following)) (sym named)

  leads_at : (b : Bool) → has_name before name ≡ b
      → Completes old now (each_flow code (cond b following (name ∷ following))) whole (IsWithin code)
  leads_at b e = subst (λ (l : List (List ℕ)). Completes old now (each_flow code l) whole (IsWithin code)) (rest_is b e) h.leads

  pub name_turn : NameTurn code old now before after name (drop (i + 1) xs) whole
  name_turn = record {
    known = λ e. record { seen = x ∷ h.seen; asked = asked_more; leads = leads_at true e };
    room = λ e room.
        let l = leads_at false e in
        let long = name_long code name following in
        (omega (arith, room.0, l.code, long), omega (arith, room.1, l.texts, long), omega (arith, room.2, l.numbers, long));
    written = λ e new emits. record {
      seen = x ∷ h.seen;
      asked = asked_more;
      leads = name_leads code old now new name following whole emits (leads_at false e);
    };
  }

no_names : (code : NameCode) → each_flow code [] ≡ nothing
no_names Exists = refl
no_names Values = refl

pub asked_last : (code : NameCode) (old now : Output) (lowercase : List (Vec ℕ Global)) (xs : List (List ℕ)) (i : ℕ)
    (whole : Flow) → length xs ≤ i → Asked code old now lowercase (drop i xs) whole → EmitsWithin code old now whole
asked_last code old now lowercase xs i whole le h =
    leads_last old now whole (each_flow code (apart_from h.seen (each_once (drop i xs)))) (IsWithin code) h.leads
    (ap (λ l. each_flow code (apart_from h.seen (each_once l))) (drop_of_length-le xs le) ∙ no_names code)

pub keys_turn : (old now new : Output) (xs : List (List ℕ)) (i : ℕ) (x : List ℕ) → i < length xs → x ≡ get_or xs i x
    → (whole : Flow) (key : List ℕ) → key ≡ x → (m : ℕ) → Completes old now (keys_flow m (drop i xs)) whole Unknown
    → ((ends : List ℕ) → end_at ends 0 ≡ no_place
    → Emits now new (sequence (action (MatchKey m key)) (leave_if true 0)) ends)
    → Completes old new (keys_flow m (drop (i + 1) xs)) whole Unknown
keys_turn old now new xs i x lt is whole key named m h e =
    leads_both old now new (action (MatchKey m x)) (leave_if true 0) (keys_flow m (drop (i + 1) xs)) _ whole Unknown
    (no_place ∷ []) refl h (ap (λ (ys : List (List ℕ)). keys_flow m ys) (turn xs i x is lt))
    (λ ends there. subst (λ (n : List ℕ). Emits now new (sequence (action (MatchKey m n)) (leave_if true 0)) ends) named (e ends there))

pub tests_turn : (old now mid new : Output) (xs : List Test) (i : ℕ) (x : Test) → i < length xs → x ≡ get_or xs i x → (whole : Flow) (b : Bool)
    → Completes old now (row_flow b (map test_of (drop i xs))) whole Unknown
    → ((ends : List ℕ) → Emits now mid (test_flow (test_in (test_of x))) ends)
    → ((ends : List ℕ) → end_at ends 0 ≡ no_place → Emits mid new (leave_if b 0) ends)
    → Completes old new (row_flow b (map test_of (drop (i + 1) xs))) whole Unknown
tests_turn old now mid new xs i x lt is whole b h a j =
    let rest = row_flow b (map test_of (drop (i + 1) xs)) in
    let one = leads_more old now mid (test_flow (test_in (test_of x))) (sequence (leave_if b 0) rest) _ whole Unknown
    (no_place ∷ []) refl h (ap (λ (ys : List Test). row_flow b (map test_of ys)) (turn xs i x is lt)) (λ ends e.
    a ends) in
    leads_more old mid new (leave_if b 0) rest _ whole Unknown (no_place ∷ []) refl one refl j

pub one_emitted : (old mid new : Output) (x : Test) (b : Bool)
    → ((ends : List ℕ) → Emits old mid (test_flow (test_in (test_of x))) ends)
    → ((ends : List ℕ) → end_at ends 0 ≡ no_place → Emits mid new (leave_if b 0) ends) → (ends : List ℕ)
    → end_at ends 0 ≡ no_place
    → Emits old new (sequence (test_flow (test_in (test_of x))) (sequence (leave_if b 0) nothing)) ends
one_emitted old mid new x b a j ends there =
    emits_sequence old mid new (test_flow (test_in (test_of x))) (sequence (leave_if b 0) nothing) ends (a ends)
    (emits_sequence mid new new (leave_if b 0) nothing ends (j ends there) (emits_nothing new ends))

-- FORMS OF TESTS

-- code that was written with jumps out of it, then their place, and what follows
pub either_emitted : (x o0 o1 o2 o3 o4 : Output) (a : Flow) (past out : Bool) (start jumped : ℕ)
    → jumped ≡ length o0.code.items + 2 → jumped ≤ no_place → start ≡ length x.code.items
    → ((around : List Shape) → HasType a ([] ∷ around) [] [])
    → ((es : List ℕ) → end_at es 0 ≡ no_place → Emits x o0 a es) → IsEnded start jumped o0 o1
    → ((ends : List ℕ) → Emits o1 o2 (action (Push past)) ends) → Puts o2 o3 (Jump (jumped + 1))
    → ((ends : List ℕ) → Emits o3 o4 (action (Push out)) ends)
    → (ends : List ℕ) → Emits x o4 (either past out a) ends
either_emitted x o0 o1 o2 o3 o4 a past out start jumped at most from typed e1 e2 e3 e4 e5 ends =
    let es = jumped ∷ (jumped + 1) ∷ ends in
    let long = (grows x o0 a (no_place ∷ []) (e1 (no_place ∷ []) refl)).code in
    let known : Emits x o1 a es =
    jumps_ended x o0 o1 a jumped [] [] [] (typed []) (e1 (no_place ∷ []) refl) (omega (arith, at)) most
    (subst (λ (n : ℕ). IsEnded n jumped o0 o1) from e2) ((jumped + 1) ∷ ends) in
    let tail : Emits o1 o3 (sequence (action (Push past)) (leave 1)) es =
    emits_sequence o1 o2 o3 (action (Push past)) (leave 1) es (e3 es)
    (leave_emitted o2 o3 (jumped + 1) 1 es e4 refl) in
    let body = emits_sequence x o1 o3 a (sequence (action (Push past)) (leave 1)) es known tail in
    let first = emits_block x o3 (sequence a (sequence (action (Push past)) (leave 1))) ((jumped + 1) ∷ ends) jumped (omega (arith, at, long)) body in
    emits_block x o4 (sequence (block (sequence a (sequence (action (Push past)) (leave 1)))) (action (Push out))) ends
    (jumped + 1) (omega (arith, at, long))
    (emits_sequence x o3 o4 (block (sequence a (sequence (action (Push past)) (leave 1)))) (action (Push out))
    ((jumped + 1) ∷ ends) first (e5 ((jumped + 1) ∷ ends)))

-- the first name and the others
pub names_emitted : (o0 o1 o2 : Output) (n : List ℕ) (ns : List (List ℕ))
    → ((ends : List ℕ) → end_at ends 0 ≡ no_place
    → Emits o0 o1 (sequence (action (HasField n)) (leave_if false 0)) ends)
    → ((ends : List ℕ) → end_at ends 0 ≡ no_place → Emits o1 o2 (names_flow ns) ends)
    → (ends : List ℕ) → end_at ends 0 ≡ no_place → Emits o0 o2 (names_flow (n ∷ ns)) ends
names_emitted o0 o1 o2 n ns e f ends there =
    emits_assoc o0 o2 (action (HasField n)) (leave_if false 0) (names_flow ns) ends
    (emits_sequence o0 o1 o2 (sequence (action (HasField n)) (leave_if false 0)) (names_flow ns) ends (e ends there)
    (f ends there))

-- the first key and the others
pub keys_emitted : (o0 o1 o2 : Output) (a : ℕ) (k : List ℕ) (ks : List (List ℕ))
    → ((ends : List ℕ) → end_at ends 0 ≡ no_place
    → Emits o0 o1 (sequence (action (MatchKey a k)) (leave_if true 0)) ends)
    → ((ends : List ℕ) → end_at ends 0 ≡ no_place → Emits o1 o2 (keys_flow a ks) ends)
    → (ends : List ℕ) → end_at ends 0 ≡ no_place → Emits o0 o2 (keys_flow a (k ∷ ks)) ends
keys_emitted o0 o1 o2 a k ks e f ends there =
    emits_assoc o0 o2 (action (MatchKey a k)) (leave_if true 0) (keys_flow a ks) ends
    (emits_sequence o0 o1 o2 (sequence (action (MatchKey a k)) (leave_if true 0)) (keys_flow a ks) ends (e ends there)
    (f ends there))

pub header_emitted : (o0 o1 o2 o3 o4 o5 : Output) (a : ℕ) (n : List ℕ) (ns : List (List ℕ)) (k : List ℕ)
    (ks : List (List ℕ)) (start found : ℕ) → start ≡ length o1.code.items → found ≡ length o2.code.items + 3
    → found ≤ no_place
    → ((ends : List ℕ) → Emits o0 o1 (sequence (action (ValuesOf n)) (values_flow ns)) ends)
    → ((ends : List ℕ) → end_at ends 0 ≡ no_place → Emits o1 o2 (keys_flow a (k ∷ ks)) ends)
    → IsEnded start found o2 o3
    → ((ends : List ℕ) → end_at ends 1 ≡ found + 2
    → Emits o3 o4 (sequence (action Drop) (sequence (action (Push false)) (leave 1))) ends)
    → ((ends : List ℕ) → Emits o4 o5 (sequence (action Drop) (action (Push true))) ends)
    → (ends : List ℕ) → Emits o0 o5 (header_flow a n ns k ks) ends
header_emitted o0 o1 o2 o3 o4 o5 a n ns k ks start found from at most e1 e2 e3 e4 e5 ends =
    let es = found ∷ (found + 2) ∷ ends in
    let fv = sequence (action (ValuesOf n)) (values_flow ns) in
    let fk = keys_flow a (k ∷ ks) in
    let missed = sequence (action Drop) (sequence (action (Push false)) (leave 1)) in
    let matched = sequence (action Drop) (action (Push true)) in
    let long1 = (grows o0 o1 fv [] (e1 [])).code in
    let long2 = (grows o1 o2 fk (no_place ∷ []) (e2 (no_place ∷ []) refl)).code in
    let keys : Emits o1 o3 fk es =
    jumps_ended o1 o2 o3 fk found (Texts ∷ []) (Texts ∷ []) (Texts ∷ []) (keys_typed a (k ∷ ks) [])
    (e2 (no_place ∷ []) refl) (omega (arith, at)) most (subst (λ (m : ℕ). IsEnded m found o2 o3) from e3)
    ((found + 2) ∷ ends) in
    let body = emits_sequence o0 o1 o4 fv (sequence fk missed) es (e1 es) (emits_sequence o1 o3 o4 fk missed es keys (e4 es refl)) in
    let first = emits_block o0 o4 (sequence fv (sequence fk missed)) ((found + 2) ∷ ends) found (omega (arith, at, long1, long2)) body in
    emits_block o0 o5 (sequence (block (sequence fv (sequence fk missed))) matched) ends (found + 2) (omega (
      arith,
      at,
      long1,
      long2,
    )) (emits_sequence o0 o4 o5 (block (sequence fv (sequence fk missed))) matched ((found + 2)
    ∷ ends) first (e5 ((found + 2) ∷ ends)))

pub same_names : (n m : List ℕ) (ns ms : List (List ℕ)) → n ≡ m → ns ≡ ms → names_flow (n ∷ others_once n ns) ≡ names_flow (m ∷ others_once m ms)
same_names n m ns ms e f = ap (λ (x : List ℕ). names_flow (x ∷ others_once x ns)) e ∙ ap (λ (x : List (List ℕ)). names_flow (m ∷ others_once m x)) f

pub same_values : (n m : List ℕ) (ns ms : List (List ℕ)) → n ≡ m → ns ≡ ms
    → sequence (action (ValuesOf n)) (values_flow (others_once n ns))
    ≡ sequence (action (ValuesOf m)) (values_flow (others_once m ms))
same_values n m ns ms e f = ap (λ (x : List ℕ). sequence (action (ValuesOf x)) (values_flow (others_once x ns))) e
    ∙ ap (λ (x : List (List ℕ)). sequence (action (ValuesOf m)) (values_flow (others_once m x))) f

pub same_keys : (a : ℕ) (k j : List ℕ) (ks js : List (List ℕ)) → k ≡ j → ks ≡ js → keys_flow a (k ∷ ks) ≡ keys_flow a (j ∷ js)
same_keys a k j ks js e f = ap (λ (x : List ℕ). keys_flow a (x ∷ ks)) e ∙ ap (λ (x : List (List ℕ)). keys_flow a (j ∷ x)) f

-- HOW MANY OPERATIONS

pub exists_size : (args : List Argument) (names : StringList) (more : List StringList)
    → string_lists false args ≡ names ∷ more → size (test_flow (exists_of (string_lists false args)))
    ≡ size (names_flow (each_once (strings_of names))) + 3
exists_size args names more lists = rw lists (omega arith)

-- THE SAME CODE

pub emits_same : (x y : Output) (a b : Flow) → a ≡ b → ((ends : List ℕ) → Emits x y a ends) → (ends : List ℕ) → Emits x y b ends
emits_same x y a b same h ends = subst (λ (c : Flow). Emits x y c ends) same (h ends)

-- the code of a test by its word
pub word_flow : (t : Test) (w : TestWord) → test_word (out-Test t).name ≡ w
    → test_flow (test_named w (out-Test t).arguments (only_in (inner_of (out-Test t).tests))
    (tests_in (inner_of (out-Test t).tests))) ≡ test_flow (test_in (test_of t))
word_flow t w is =
    sym (ap (λ (k : TestTree). test_flow (test_in k)) (test_of-fields t)
    ∙ ap (λ (v : TestWord).
    test_flow (test_named v (out-Test t).arguments (only_in (inner_of (out-Test t).tests))
    (tests_in (inner_of (out-Test t).tests)))) is)

pub header_same : (args rest : List Argument) (m : MatchType) (o : Comparator) (names keys : StringList)
    (more : List StringList) → string_lists false args ≡ names ∷ string_lists false rest
    → string_lists false rest ≡ keys ∷ more
    → header_flow (comparison m o) (first_of names) (others_once (first_of names) (others_of names)) (first_of keys)
    (others_of keys) ≡ test_flow (header_of m o (string_lists false args))
header_same args rest m o names keys more lists lists_after = rw (lists, lists_after) refl
