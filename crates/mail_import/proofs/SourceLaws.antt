-- The messages of mboxes, of files and of sources: some of them, and then others.
use Rattle.std.proofs.Common.{◌≡◌, ◌<◌, ◌≤◌, ℕ, suc, ◌+◌, List, [], ◌∷◌, ◌++◌, Option, Some, None, take, drop, get_or, length, refl, sym, ap, ◌∙◌}
use Rattle.std.proofs.Common.{subst, append_assoc, append-nil, length-append, arith}
use Rattle.std.proofs.lemmas.List.{length-take-le, take-append-drop, take_more}
use Rattle.std.proofs.Math.Seq.{split_at}
use Rattle.mail_boxes.specs.Boxes.{message_view}
use Rattle.mail_boxes.specs.Undated.{first_of}
use Rattle.mail_boxes.specs.declared.splitter.BoxMessage.{BoxMessage}
use Rattle.mail_sources.specs.declared.sources.Source.{Source}
use Rattle.mail_sources.specs.declared.sources.Source.TheVariants.{Mbox, Folder, Maildir}
use Rattle.mail_import.specs.Calls.{IsNext}
use Rattle.mail_import.specs.Fates.{too_long}
use Rattle.mail_import.specs.Findings.{AreOfBox, AreOfFiles, AreOfFolder, AreOfMbox, AreOfSource, AreOfSources, IsBoxed, IsFiled, IsOfBox}
use Rattle.mail_import.specs.Findings.{IsOfFile, IsOne}
use Rattle.mail_import.specs.Findings.{Finding, beside, boxed_name, end_of, filed, found_of, message, rest_of, stays, undated_lines, undated_of}
use Rattle.mail_import.specs.Sources.{IsWithout, Mail, count_of}

-- ---- of an mbox

unseen_of_box : (path : List ℕ) (number : ℕ) (ms : List (Option (List ℕ))) → (ss : List Finding) × AreOfBox path number ms ss
unfolding AreOfBox
unseen_of_box path number [] = ([], tt)
unseen_of_box path number (m ∷ ms) =
    let rest = unseen_of_box path (number + 1) ms in
    (message (boxed_name path number) (found_of m) (stays too_long) ∷ rest.0, ((refl, refl), rest.1))

boxed_then : (path : List ℕ) (number : ℕ) (xs ys : List (Option (List ℕ))) (ss ts : List Finding) → AreOfBox path number xs ss
    → AreOfBox path (number + length xs) ys ts → AreOfBox path number (xs ++ ys) (ss ++ ts)
unfolding AreOfBox
boxed_then path number [] ys [] ts h k = let at : number + 0 ≡ number = omega arith in subst (λ n. AreOfBox path n ys ts) at k
boxed_then path number [] ys (t ∷ ss) ts h k = absurd h
boxed_then path number (x ∷ xs) ys [] ts h k = absurd h
boxed_then path number (x ∷ xs) ys (t ∷ ss) ts h k =
    let at : number + length (x ∷ xs) ≡ number + 1 + length xs = omega arith in
    (h.0, boxed_then path (number + 1) xs ys ss ts h.1 (subst (λ n. AreOfBox path n ys ts) at k))

one_boxed : (path : List ℕ) (number : ℕ) (x : Option (List ℕ)) (xs : List (Option (List ℕ))) (ss ts : List Finding)
    → IsOne (IsOfBox path number x) ss → AreOfBox path (number + 1) xs ts → AreOfBox path number (x ∷ xs) (ss ++ ts)
unfolding AreOfBox
one_boxed path number x xs [] ts h k = absurd h
one_boxed path number x xs (s ∷ []) ts h k = (h, k)
one_boxed path number x xs (s ∷ t ∷ ss) ts h k = absurd h

-- the messages that were found, and then one, and then others
boxed_split : (path : List ℕ) (number : ℕ) (found : List (Option (List ℕ))) (x : Option (List ℕ)) (xs : List (Option (List ℕ)))
    (seen ss ts : List Finding) → AreOfBox path number found seen → IsOne (IsOfBox path (number + length found) x) ss
    → AreOfBox path (number + length found + 1) xs ts → AreOfBox path number (found ++ x ∷ xs) (seen ++ (ss ++ ts))
boxed_split path number found x xs seen ss ts h is k =
    boxed_then path number found (x ∷ xs) seen (ss ++ ts) h (one_boxed path (number + length found) x xs ss ts is k)

pub boxed_none : (path : List ℕ) (number : ℕ) → AreOfBox path number [] []
unfolding AreOfBox
boxed_none path number = tt

boxed_more : (path : List ℕ) (number : ℕ) (found : List (Option (List ℕ))) (x : Option (List ℕ)) (seen ss : List Finding)
    → AreOfBox path number found seen → IsOne (IsOfBox path (number + length found) x) ss → AreOfBox path number (found ++ x ∷ []) (seen ++ ss)
unfolding AreOfBox
boxed_more path number found x seen ss h is =
    subst (λ l. AreOfBox path number (found ++ x ∷ []) (seen ++ l)) (append-nil ss) (boxed_split path number found x [] seen ss [] h is tt)

-- where an import of an mbox ends before its end: after some messages
mbox_from : (m : Mail) (path : List ℕ) (found rest : List (Option (List ℕ))) (seen : List Finding) → AreOfBox path (m.first path) found seen
    → m.messages path ≡ found ++ rest → (later : List Finding) × AreOfMbox path m (seen ++ later)
mbox_from m path found rest seen h is =
    let unseen = unseen_of_box path (m.first path + length found) rest in
    let last = undated_of path (m.undated path) in (
      unseen.0 ++ last,
      (
        seen ++ unseen.0,
        subst (λ l. AreOfBox path (m.first path) l (seen ++ unseen.0)) (sym is)
            (boxed_then path (m.first path) found rest seen unseen.0 h unseen.1),
        sym (append_assoc seen unseen.0 last),
      ),
    )

pub unseen_of_mbox : (path : List ℕ) (m : Mail) → (later : List Finding) × AreOfMbox path m later
unseen_of_mbox path m = mbox_from m path [] (m.messages path) [] (boxed_none path (m.first path)) refl

-- or at the one after these
mbox_at : (m : Mail) (path : List ℕ) (found : List (Option (List ℕ))) (x : Option (List ℕ)) (rest : List (Option (List ℕ)))
    (seen ss : List Finding) → AreOfBox path (m.first path) found seen → m.messages path ≡ found ++ x ∷ rest
    → IsBoxed path (m.first path + length found) x m ss
    → (later : List Finding) × AreOfMbox path m (seen ++ (ss ++ later))
mbox_at m path found x rest seen ss h is one =
    let unseen = unseen_of_box path (m.first path + length found + 1) rest in
    let last = undated_of path (m.undated path) in (
      unseen.0 ++ last,
      (
        seen ++ (ss ++ unseen.0),
        subst (λ l. AreOfBox path (m.first path) l (seen ++ (ss ++ unseen.0))) (sym is)
            (boxed_split path (m.first path) found x rest seen ss unseen.0 h one unseen.1),
        ap (λ l. seen ++ l) (sym (append_assoc ss unseen.0 last)) ∙ sym (append_assoc seen (ss ++ unseen.0) last),
      ),
    )

-- an mbox whose messages were all found
mbox_whole : (m : Mail) (path : List ℕ) (found : List (Option (List ℕ))) (seen last : List Finding) → AreOfBox path (m.first path) found seen
    → m.messages path ≡ found ++ [] → last ≡ undated_of path (m.undated path) → AreOfMbox path m (seen ++ last)
mbox_whole m path found seen last h is lines = (
  seen,
  subst (λ l. AreOfBox path (m.first path) l seen) (sym (is ∙ append-nil found)) h,
  ap (λ l. seen ++ l) lines,
)

-- what was found of its first messages, and then of those that are left, is what is found of all
pub mbox_joined : (path : List ℕ) (count : ℕ) (whole left : Mail) (xs ys : List Finding) → count ≤ length (whole.messages path)
    → IsWithout path count whole left → AreOfBox path (whole.first path) (take count (whole.messages path)) xs → AreOfMbox path left ys
    → AreOfMbox path whole (xs ++ ys)
mbox_joined path count whole left xs ys low h found rest =
    let all = whole.messages path in
    let number = whole.first path in
    let next : left.first path ≡ number + length (take count all) = h.first ∙ ap (λ n. number + n) (sym (length-take-le count all low)) in
    let last = undated_of path (whole.undated path) in (
      xs ++ rest.0,
      subst (λ l. AreOfBox path number l (xs ++ rest.0)) (take-append-drop count all)
          (boxed_then path number (take count all) (drop count all) xs rest.0 found
          (subst (λ n. AreOfBox path n (drop count all) rest.0) next
          (subst (λ l. AreOfBox path (left.first path) l rest.0) h.messages rest.1))),
      ap (λ l. xs ++ l) (rest.2 ∙ ap (λ l. rest.0 ++ undated_of path l) h.undated) ∙ sym (append_assoc xs rest.0 last),
    )

-- ---- an mbox that is read

-- after some messages of an mbox were seen, it is known which are to come, and which number the next one has
pub record IsFound {B : Type 0} (left : B → List ℕ → List (Option (List ℕ)) → Type 0) (path : List ℕ) (number : ℕ) (seen : List Finding) (mbox : B)
    (m : Mail) : Type 0 where
  pub found : List (Option (List ℕ))
  pub rest : List (Option (List ℕ))
  pub are : AreOfBox path (m.first path) found seen
  pub counted : number ≡ m.first path + length found
  pub messages : m.messages path ≡ found ++ rest
  pub to_come : left mbox path rest

next_none : (found : Option BoxMessage) (messages : List (Option (List ℕ))) (Left : List (Option (List ℕ)) → Type 0) → found ≡ None
    → IsNext found messages Left → (messages ≡ []) × Left []
next_none found messages Left is h = subst (λ f. IsNext f messages Left) is h

next_some : (found : Option BoxMessage) (box : BoxMessage) (messages : List (Option (List ℕ))) (Left : List (Option (List ℕ)) → Type 0)
    → found ≡ Some box → IsNext found messages Left
    → (rest : List (Option (List ℕ))) × (messages ≡ message_view box ∷ rest) × Left rest
next_some found box messages Left is h = subst (λ f. IsNext f messages Left) is h

module _ {B : Type 0} (left : B → List ℕ → List (Option (List ℕ)) → Type 0) (path : List ℕ) (number : ℕ) (seen : List Finding) (before : B)
    (m : Mail) (now : IsFound left path number seen before m) where
  pub found_from : (later : List Finding) × AreOfMbox path m (seen ++ later)
  found_from = mbox_from m path now.found now.rest seen now.are now.messages

  module _ (after : B) (found : Option BoxMessage)
      (to_next : (messages : List (Option (List ℕ))) → left before path messages → IsNext found messages (left after path)) where
    -- there is no next message
    pub found_whole : (last : List Finding) → found ≡ None → (left after path [] → last ≡ undated_of path (m.undated path))
        → AreOfMbox path m (seen ++ last)
    found_whole last is lines =
        let next = next_none found now.rest (left after path) is (to_next now.rest now.to_come) in
        mbox_whole m path now.found seen last now.are (now.messages ∙ ap (λ l. now.found ++ l) next.0) (lines next.1)

    -- the next message is the last one that was seen
    pub found_at : (box : BoxMessage) (ss : List Finding) → found ≡ Some box → IsBoxed path number (message_view box) m ss
        → (later : List Finding) × AreOfMbox path m (seen ++ (ss ++ later))
    found_at box ss is one =
        let next = next_some found box now.rest (left after path) is (to_next now.rest now.to_come) in
        mbox_at m path now.found (message_view box) next.0 seen ss now.are (now.messages ∙ ap (λ l. now.found ++ l) next.1)
        (subst (λ n. IsBoxed path n (message_view box) m ss) now.counted one)

    -- the next message is one of them now
    pub found_more : (box : BoxMessage) (ss : List Finding) → found ≡ Some box → IsBoxed path number (message_view box) m ss
        → IsFound left path (number + 1) (seen ++ ss) after m
    found_more box ss is one =
        let next = next_some found box now.rest (left after path) is (to_next now.rest now.to_come) in record {
          found = now.found ++ message_view box ∷ [];
          rest = next.0;
          are = boxed_more path (m.first path) now.found (message_view box) seen ss now.are
              (subst (λ n. IsBoxed path n (message_view box) m ss) now.counted one);
          counted = omega (arith, length-append now.found (message_view box ∷ []), now.counted);
          messages = now.messages ∙ ap (λ l. now.found ++ l) next.1 ∙ sym (append_assoc now.found (message_view box ∷ []) next.0);
          to_come = next.2;
        }

pub undated_some : (path numbers : List ℕ) (first count : ℕ) → Some first ≡ first_of numbers → count ≡ count_of numbers
    → undated_lines path first count ∷ [] ≡ undated_of path numbers
undated_some path [] first count h k = cc
undated_some path (n ∷ numbers) first count h k = let e : first ≡ n = cc in ap (λ x. undated_lines path x count ∷ []) e ∙ ap (λ x. undated_lines
    path n x ∷ []) k

pub undated_none : (path numbers : List ℕ) → None ≡ first_of numbers → [] ≡ undated_of path numbers
undated_none path [] h = refl
undated_none path (n ∷ numbers) h = cc

-- ---- of files

unseen_of_files : (m : Mail) (paths : List (List ℕ)) → (ss : List Finding) × AreOfFiles paths m ss
unfolding AreOfFiles
unseen_of_files m [] = ([], tt)
unseen_of_files m (path ∷ paths) =
    let rest = unseen_of_files m paths in
    (message path (filed (m.octets path)) (stays too_long) ∷ rest.0, ((refl, refl), rest.1))

filed_then : (m : Mail) (xs ys : List (List ℕ)) (ss ts : List Finding) → AreOfFiles xs m ss → AreOfFiles ys m ts
    → AreOfFiles (xs ++ ys) m (ss ++ ts)
unfolding AreOfFiles
filed_then m [] ys [] ts h k = k
filed_then m [] ys (t ∷ ss) ts h k = absurd h
filed_then m (x ∷ xs) ys [] ts h k = absurd h
filed_then m (x ∷ xs) ys (t ∷ ss) ts h k = (h.0, filed_then m xs ys ss ts h.1 k)

one_filed : (m : Mail) (x : List ℕ) (xs : List (List ℕ)) (ss ts : List Finding) → IsOne (IsOfFile x m) ss → AreOfFiles xs m ts
    → AreOfFiles (x ∷ xs) m (ss ++ ts)
unfolding AreOfFiles
one_filed m x xs [] ts h k = absurd h
one_filed m x xs (s ∷ []) ts h k = (h, k)
one_filed m x xs (s ∷ t ∷ ss) ts h k = absurd h

pub filed_none : (m : Mail) → AreOfFiles [] m []
unfolding AreOfFiles
filed_none m = tt

pub filed_more : (m : Mail) (xs : List (List ℕ)) (x : List ℕ) (seen ss : List Finding) → AreOfFiles xs m seen → IsFiled x m ss
    → AreOfFiles (xs ++ x ∷ []) m (seen ++ ss)
filed_more m xs x seen ss h is =
    subst (λ l. AreOfFiles (xs ++ x ∷ []) m (seen ++ l)) (append-nil ss)
    (filed_then m xs (x ∷ []) seen (ss ++ []) h (one_filed m x [] ss [] is (filed_none m)))

-- what was found of the first files, and then of the others, is what is found of all
pub files_joined : (paths : List (List ℕ)) (count : ℕ) (m : Mail) (xs ys : List Finding) → AreOfFiles (take count paths) m xs
    → AreOfFiles (drop count paths) m ys → AreOfFiles paths m (xs ++ ys)
files_joined paths count m xs ys h k =
    subst (λ l. AreOfFiles l m (xs ++ ys)) (take-append-drop count paths) (filed_then m (take count paths) (drop count paths) xs ys h k)

-- where an import of files ends before its end: at one of them
pub files_at : (m : Mail) (all xs : List (List ℕ)) (x : List ℕ) (rest : List (List ℕ)) (seen ss : List Finding) → AreOfFiles xs m seen
    → all ≡ xs ++ x ∷ rest → IsFiled x m ss → (later : List Finding) × AreOfFiles all m (seen ++ (ss ++ later))
files_at m all xs x rest seen ss h is one =
    let unseen = unseen_of_files m rest in (
      unseen.0,
      subst (λ l. AreOfFiles l m (seen ++ (ss ++ unseen.0))) (sym is)
          (filed_then m xs (x ∷ rest) seen (ss ++ unseen.0) h (one_filed m x rest ss unseen.0 one unseen.1)),
    )

-- ---- of a folder

pub unseen_of_folder : (source : Source) (path : List ℕ) (m : Mail) → (later : List Finding) × AreOfFolder source path m later
unseen_of_folder source path m =
    let files = unseen_of_files m (m.paths source) in (files.0 ++ end_of source path m, (files.0, files.1, refl))

-- what is found in a folder after its messages, by what was found
pub end_is : (source : Source) (path : List ℕ) (m : Mail) (paths : List (List ℕ)) (count files folders : ℕ) → paths ≡ m.paths source
    → count ≡ m.nameless source → files ≡ m.files source → folders ≡ m.folders source
    → rest_of path paths count ++ beside files folders ∷ [] ≡ end_of source path m
end_is source path m paths count files folders a b c d =
    ap (λ l. rest_of path l count ++ beside files folders ∷ []) a
    ∙ ap (λ n. rest_of path (m.paths source) n ++ beside files folders ∷ []) b
    ∙ ap (λ n. rest_of path (m.paths source) (m.nameless source) ++ beside n folders ∷ []) c
    ∙ ap (λ n. rest_of path (m.paths source) (m.nameless source) ++ beside (m.files source) n ∷ []) d

-- ---- of sources

unseen_of_source : (source : Source) (m : Mail) → (later : List Finding) × AreOfSource source m later
unseen_of_source (Mbox path) m = unseen_of_mbox path.now m
unseen_of_source (Folder path) m = unseen_of_folder (Folder path) path.now m
unseen_of_source (Maildir path) m = unseen_of_folder (Maildir path) path.now m

unseen_of_sources : (sources : List Source) (m : Mail) → (later : List Finding) × AreOfSources sources m later
unfolding AreOfSources
unseen_of_sources [] m = ([], refl)
unseen_of_sources (source ∷ sources) m =
    let one = unseen_of_source source m in
    let others = unseen_of_sources sources m in
    (one.0 ++ others.0, (one.0, others.0, one.1, others.1, refl))

sources_then : (m : Mail) (xs ys : List Source) (ss ts : List Finding) → AreOfSources xs m ss → AreOfSources ys m ts
    → AreOfSources (xs ++ ys) m (ss ++ ts)
unfolding AreOfSources
sources_then m [] ys ss ts h k = subst (AreOfSources ys m) (ap (λ l. l ++ ts) (sym h)) k
sources_then m (x ∷ xs) ys ss ts h k = (
  h.0,
  h.1 ++ ts,
  h.2,
  sources_then m xs ys h.1 ts h.3 k,
  ap (λ l. l ++ ts) h.4 ∙ append_assoc h.0 h.1 ts,
)

one_source : (m : Mail) (x : Source) (xs : List Source) (ss ts : List Finding) → AreOfSource x m ss → AreOfSources xs m ts
    → AreOfSources (x ∷ xs) m (ss ++ ts)
unfolding AreOfSources
one_source m x xs ss ts h k = (ss, ts, h, k, refl)

pub sources_none : (m : Mail) → AreOfSources [] m []
unfolding AreOfSources
sources_none m = refl

source_more : (m : Mail) (xs : List Source) (x : Source) (seen ss : List Finding) → AreOfSources xs m seen → AreOfSource x m ss
    → AreOfSources (xs ++ x ∷ []) m (seen ++ ss)
source_more m xs x seen ss h is =
    subst (λ l. AreOfSources (xs ++ x ∷ []) m (seen ++ l)) (append-nil ss)
    (sources_then m xs (x ∷ []) seen (ss ++ []) h (one_source m x [] ss [] is (sources_none m)))

-- where an import ends before its end: at one of the sources
sources_at : (m : Mail) (all xs : List Source) (x : Source) (rest : List Source) (seen ss : List Finding) → AreOfSources xs m seen
    → all ≡ xs ++ x ∷ rest → AreOfSource x m ss → (later : List Finding) × AreOfSources all m (seen ++ (ss ++ later))
sources_at m all xs x rest seen ss h is one =
    let unseen = unseen_of_sources rest m in (
      unseen.0,
      subst (λ l. AreOfSources l m (seen ++ (ss ++ unseen.0))) (sym is)
          (sources_then m xs (x ∷ rest) seen (ss ++ unseen.0) h (one_source m x rest ss unseen.0 one unseen.1)),
    )

-- the same by the places of sources
pub source_next : (all : List Source) (i : ℕ) (d : Source) → i < length all → (m : Mail) (seen ss : List Finding) → AreOfSources (take i all) m seen
    → AreOfSource (get_or all i d) m ss → AreOfSources (take (i + 1) all) m (seen ++ ss)
source_next all i d lt m seen ss h is =
    subst (λ l. AreOfSources l m (seen ++ ss)) (sym (take_more all i d lt)) (source_more m (take i all) (get_or all i d) seen ss h is)

pub source_last : (all : List Source) (i : ℕ) (d : Source) → i < length all → (m : Mail) (seen ss : List Finding) → AreOfSources (take i all) m seen
    → AreOfSource (get_or all i d) m ss → (later : List Finding) × AreOfSources all m (seen ++ (ss ++ later))
source_last all i d lt m seen ss h is =
    sources_at m all (take i all) (get_or all i d) (drop (suc i) all) seen ss h (split_at all i d lt) is
