-- What is done with one message.
use Rattle.std.proofs.Common.{◌≡◌, ◌==◌, ◌<◌, ◌≤◌, ℕ, Bool, true, false, Some, None, List, [], ◌∷◌, ◌++◌, map, length, Result, Ok, Err}
use Rattle.std.proofs.Common.{refl, sym, ap, ◌∙◌, subst, append-nil, arith}
use Rattle.std.proofs.lemmas.Bool.Decides.{nat_tests}
use Rattle.std.proofs.lemmas.List.{length-map}
use Rattle.std.specs.Prelude.{OnErr, OnOk}
use Rattle.mail_intake.specs.Calls.{Cause, no_memory}
use Rattle.mail_import.specs.Calls.{Call, read, tell, tell_empty, tell_nameless, tell_undated}
use Rattle.mail_import.specs.Fates.{FirstRecords, Knows, because, decided, too_long}
use Rattle.mail_import.specs.Imports.{Breaks, Does, EndsAt, Takes, TakesAll, at_message}
use Rattle.mail_import.specs.Findings.{Agrees, AreRight, Finding, IsBoxed, IsFiled, Outcome, acts, beside, boxed, boxed_name, counted, course}
use Rattle.mail_import.specs.Findings.{empty_folder, filed, known_after_all, known_by, message, nameless, oversized, rest_of, stays}
use Rattle.mail_import.specs.Findings.{tallied_all, undated_lines, unread}
use Rattle.mail_import.specs.Sources.{Mail, OnlyMakes}
use Rattle.mail_import.specs.Tallies.{more, one_more, with_beside, with_staying}
use Rattle.mail_import.specs.declared.fate.Fate.{Fate}
use Rattle.mail_import.specs.declared.fate.Fate.TheVariants as fate
use Rattle.mail_import.specs.declared.message.Progress.{Progress}
use Rattle.mail_import.specs.declared.message.Terms.{Terms}
use Rattle.mail_import.proofs.FindingLaws.{does_none, only_none, only_then}

agrees_no_memory : (f : Fate) → Agrees f (stays (because no_memory))
agrees_no_memory (fate.Known first) = tt
agrees_no_memory (fate.NoMail why) = tt
agrees_no_memory (fate.Undated why) = tt
agrees_no_memory (fate.Taken moment) = tt

module _ {M : Type 0} (goes : M → List Call → M → Type 0) (has : M → Mail → Type 0) (terms : Terms) where
  -- what is decided of a message, where nothing more is known afterwards
  pub takes_by : (room : M) (p : Progress) (name octets : List ℕ) (o : Outcome) (after : M) (q : Progress) (f : Fate)
      → OnlyMakes goes has room after (acts name octets o) → q.tally ≡ counted o p.tally → q.known ≡ p.known
      → ((first : FirstRecords) → known_by octets o first ≡ first) → ((first : FirstRecords) → Knows p.known first → f ≡ decided terms first octets)
      → Agrees f o → Takes goes has terms room p name octets o after q
  takes_by room p name octets o after q f calls tally same keeps is agrees = record {
    calls = calls;
    tally = tally;
    right = λ first known. (
      subst (λ g. Agrees g o) (is first known) agrees,
      subst (λ (r : FirstRecords). Knows q.known r) (sym (keeps first)) (subst (λ k. Knows k first) (sym same) known),
    );
  }

  pub takes_no_memory : (room : M) (p : Progress) (name octets : List ℕ) (after : M) (q : Progress)
      → OnlyMakes goes has room after (tell name (because no_memory) ∷ []) → q.tally ≡ with_staying (because no_memory) p.tally
      → q.known ≡ p.known → Takes goes has terms room p name octets (stays (because no_memory)) after q
  takes_no_memory room p name octets after q calls tally same = record {
    calls = calls;
    tally = tally;
    right = λ first known. (agrees_no_memory (decided terms first octets), subst (λ k. Knows k first) (sym same) known);
  }

module _ {M : Type 0} (goes : M → List Call → M → Type 0) (has : M → Mail → Type 0) (none : (a : M) → goes a [] a)
    (one_then : (a b c : M) (xs ys : List Call) → goes a xs b → goes b ys c → goes a (xs ++ ys) c) (terms : Terms) where
  -- a finding, by its calls
  does_one : (a b : M) (p q : Progress) (s : Finding) → OnlyMakes goes has a b (course s) → q.tally ≡ tallied_all (s ∷ []) p.tally
      → ((first : FirstRecords) → Knows p.known first → AreRight terms first (s ∷ []) × Knows q.known (known_after_all (s ∷ []) first))
      → Does goes has terms a p (s ∷ []) b q
  does_one a b p q s calls tally right = record {
    calls = subst (OnlyMakes goes has a b) (sym (append-nil (course s))) calls;
    tally = tally;
    right = right;
  }

  does_boxed : (a b : M) (p q : Progress) (name octets : List ℕ) (o : Outcome) → Takes goes has terms a p name octets o b q
      → Does goes has terms a p (message name (boxed octets) o ∷ []) b q
  unfolding AreRight known_after_all tallied_all
  does_boxed a b p q name octets o h = does_one a b p q (message name (boxed octets) o) h.calls h.tally
      (λ first known. let right = h.right first known in ((right.0, tt), right.1))

  does_filed : (a b c : M) (p q : Progress) (name octets : List ℕ) (o : Outcome) → OnlyMakes goes has a b (read name (Ok octets) ∷ [])
      → Takes goes has terms b p name octets o c q → Does goes has terms a p (message name (filed octets) o ∷ []) c q
  unfolding AreRight known_after_all tallied_all
  does_filed a b c p q name octets o looks h = does_one a c p q (message name (filed octets) o)
      (only_then goes has none one_then a b c _ _ looks h.calls) h.tally
      (λ first known. let right = h.right first known in ((right.0, tt), right.1))

  does_over : (a b : M) (p q : Progress) (name : List ℕ) → OnlyMakes goes has a b (tell name too_long ∷ [])
      → q.tally ≡ with_staying too_long p.tally → q.known ≡ p.known → Does goes has terms a p (message name oversized (stays too_long) ∷ []) b q
  unfolding AreRight known_after_all tallied_all
  does_over a b p q name calls tally same = does_one a b p q (message name oversized (stays too_long)) calls tally
      (λ first known. ((refl, tt), subst (λ k. Knows k first) (sym same) known))

  does_unread : (a b c : M) (p q : Progress) (name : List ℕ) (why : Cause) → OnlyMakes goes has a b (read name (Err why) ∷ [])
      → OnlyMakes goes has b c (tell name (because why) ∷ []) → q.tally ≡ with_staying (because why) p.tally → q.known ≡ p.known
      → Does goes has terms a p (message name (unread why) (stays (because why)) ∷ []) c q
  unfolding AreRight known_after_all tallied_all
  does_unread a b c p q name why looks calls tally same = does_one a c p q (message name (unread why) (stays (because why)))
      (only_then goes has none one_then a b c _ _ looks calls) tally
      (λ first known. ((refl, tt), subst (λ k. Knows k first) (sym same) known))

  -- a message of an mbox, or of a file
  pub takes_boxed : (a b : M) (p q : Progress) (path : List ℕ) (number : ℕ) (name octets : List ℕ) (o : Outcome) → name ≡ boxed_name path number
      → Takes goes has terms a p name octets o b q → TakesAll goes has terms (IsBoxed path number (Some octets)) a p b q
  takes_boxed a b p q path number name octets o named h = record {
    findings = message name (boxed octets) o ∷ [];
    does = does_boxed a b p q name octets o h;
    all = λ m has_it. (named, refl);
  }

  pub takes_over : (a b : M) (p q : Progress) (path : List ℕ) (number : ℕ) (name : List ℕ) → name ≡ boxed_name path number
      → OnlyMakes goes has a b (tell name too_long ∷ []) → q.tally ≡ with_staying too_long p.tally → q.known ≡ p.known
      → TakesAll goes has terms (IsBoxed path number None) a p b q
  takes_over a b p q path number name named calls tally same = record {
    findings = message name oversized (stays too_long) ∷ [];
    does = does_over a b p q name calls tally same;
    all = λ m has_it. (named, refl);
  }

  pub takes_filed : (a b c : M) (p q : Progress) (name octets : List ℕ) (o : Outcome) → OnlyMakes goes has a b (read name (Ok octets) ∷ [])
      → ((m : Mail) → has a m → octets ≡ m.octets name) → Takes goes has terms b p name octets o c q
      → TakesAll goes has terms (IsFiled name) a p c q
  takes_filed a b c p q name octets o looks found h = record {
    findings = message name (filed octets) o ∷ [];
    does = does_filed a b c p q name octets o looks h;
    all = λ m has_it. (refl, found m has_it);
  }

  pub takes_unread : (a b c : M) (p q : Progress) (name : List ℕ) (why : Cause) → OnlyMakes goes has a b (read name (Err why) ∷ [])
      → OnlyMakes goes has b c (tell name (because why) ∷ []) → q.tally ≡ with_staying (because why) p.tally → q.known ≡ p.known
      → TakesAll goes has terms (IsFiled name) a p c q
  takes_unread a b c p q name why looks calls tally same = record {
    findings = message name (unread why) (stays (because why)) ∷ [];
    does = does_unread a b c p q name why looks calls tally same;
    all = λ m has_it. (refl, tt);
  }

  -- an import that ends at a message of an mbox, or of a file
  pub breaks_boxed : (a b : M) (p q : Progress) (path : List ℕ) (number : ℕ) (name octets : List ℕ) → name ≡ boxed_name path number
      → EndsAt goes has terms a p name octets b q → Breaks goes has terms (IsBoxed path number (Some octets)) a p b q
  breaks_boxed a b p q path number name octets named h = record {
    findings = [];
    between_room = a;
    between_progress = p;
    ending = at_message name (boxed octets) h.moment h.answer;
    ends = h.ends;
    does = does_none goes has none one_then terms a p;
    calls = h.calls;
    right = h.right;
    beginning = λ m has_it. (message name (boxed octets) (stays too_long) ∷ [], (refl, refl), (named, refl));
  }

  pub breaks_filed : (a b c : M) (p q : Progress) (name octets : List ℕ) → OnlyMakes goes has a b (read name (Ok octets) ∷ [])
      → ((m : Mail) → has a m → octets ≡ m.octets name) → EndsAt goes has terms b p name octets c q
      → Breaks goes has terms (IsFiled name) a p c q
  breaks_filed a b c p q name octets looks found h = record {
    findings = [];
    between_room = a;
    between_progress = p;
    ending = at_message name (filed octets) h.moment h.answer;
    ends = h.ends;
    does = does_none goes has none one_then terms a p;
    calls = only_then goes has none one_then a b c _ _ looks h.calls;
    right = h.right;
    beginning = λ m has_it. (message name (filed octets) (stays too_long) ∷ [], (refl, refl), (refl, found m has_it));
  }

  -- lines of an mbox that look like separators and have no date
  pub does_undated : (a b : M) (p : Progress) (path : List ℕ) (first count : ℕ) → OnlyMakes goes has a b (tell_undated path first count ∷ [])
      → Does goes has terms a p (undated_lines path first count ∷ []) b p
  unfolding AreRight known_after_all tallied_all
  does_undated a b p path first count calls = does_one a b p p (undated_lines path first count) calls refl (λ first known. ((tt, tt), known))

  -- what lies beside messages, and what stays without a name
  pub does_beside : (a : M) (p q : Progress) (files folders : ℕ) → q.tally ≡ with_beside files folders p.tally → q.known ≡ p.known
      → Does goes has terms a p (beside files folders ∷ []) a q
  unfolding AreRight known_after_all tallied_all
  does_beside a p q files folders tally same = does_one a a p q (beside files folders) (only_none goes has none one_then a) tally
      (λ first known. ((tt, tt), subst (λ k. Knows k first) (sym same) known))

  pub does_nameless : (a b : M) (p q : Progress) (count : ℕ) → OnlyMakes goes has a b (tell_nameless count ∷ [])
      → q.tally ≡ record p.tally { unfit = more count p.tally.unfit } → q.known ≡ p.known
      → Does goes has terms a p (nameless count ∷ []) b q
  unfolding AreRight known_after_all tallied_all
  does_nameless a b p q count calls tally same = does_one a b p q (nameless count) calls tally
      (λ first known. ((tt, tt), subst (λ k. Knows k first) (sym same) known))

  pub does_bare : (a b : M) (p q : Progress) (path : List ℕ) → OnlyMakes goes has a b (tell_empty path ∷ [])
      → q.tally ≡ record p.tally { empty = one_more p.tally.empty } → q.known ≡ p.known
      → Does goes has terms a p (empty_folder path ∷ []) b q
  unfolding AreRight known_after_all tallied_all
  does_bare a b p q path calls tally same = does_one a b p q (empty_folder path) calls tally
      (λ first known. ((tt, tt), subst (λ k. Knows k first) (sym same) known))

-- ---- results

pub on_err : {T E : Type 0} (P : Type 0) (r : Result T E) → P → OnErr r P
on_err P (Ok x) h = tt
on_err P (Err e) h = h

pub on_err_by : {T E : Type 0} (P Q : Type 0) (r : Result T E) → (P → Q) → OnErr r P → OnErr r Q
on_err_by P Q (Ok x) to h = tt
on_err_by P Q (Err e) to h = to h

pub on_ok_by : {T E : Type 0} (P Q : Type 0) (r : Result T E) → (P → Q) → OnOk r P → OnOk r Q
on_ok_by P Q (Ok x) to h = to h
on_ok_by P Q (Err e) to h = tt

-- ---- what is found in a folder after its messages

pub rest_nameless : (path : List ℕ) (paths : List (List ℕ)) (count : ℕ) → 0 < count → rest_of path paths count ≡ nameless count ∷ []
rest_nameless path paths count h = let e : (count == 0) ≡ false = grind (arith, nat_tests) in rw e refl

pub rest_bare : (path : List ℕ) (paths : List (List ℕ)) (count : ℕ) → count ≤ 0 → (length paths == 0) ≡ true
    → rest_of path paths count ≡ empty_folder path ∷ []
rest_bare path paths count h f = let e : (count == 0) ≡ true = grind (arith, nat_tests) in rw (e, f) refl

pub rest_none : (path : List ℕ) (paths : List (List ℕ)) (count : ℕ) → count ≤ 0 → (length paths == 0) ≡ false
    → rest_of path paths count ≡ []
rest_none path paths count h f = let e : (count == 0) ≡ true = grind (arith, nat_tests) in rw (e, f) refl

-- whether a folder has no path, by a test of its paths
pub no_paths : {X : Type 0} (f : X → List ℕ) (xs ys : List X) (test at : Bool) → ys ≡ xs → test ≡ (length ys == 0) → test ≡ at
    → (length (map f xs) == 0) ≡ at
no_paths f xs ys test at same tests is =
    ap (λ n. n == 0) (length-map xs f) ∙ ap (λ l. length l == 0) (sym same) ∙ sym tests ∙ is
