-- What was found, one thing after the other.
use Rattle.std.proofs.Common.{◌≡◌, List, [], ◌∷◌, ◌++◌, refl, sym, ap, ◌∙◌, subst, append_assoc}
use Rattle.std.proofs.lemmas.Grind.{flat_map-append}
use Rattle.std.specs.List.{flat_map}
use Rattle.mail_import.specs.Calls.{Call}
use Rattle.mail_import.specs.Fates.{FirstRecords, Knows}
use Rattle.mail_import.specs.Imports.{Breaks, Does, Ending, EndsBefore, TakesAll, at_message, between}
use Rattle.mail_import.specs.Findings.{AreRight, Finding, beside, course, empty_folder, known_after, known_after_all, message, nameless, tallied}
use Rattle.mail_import.specs.Findings.{tallied_all, undated_lines}
use Rattle.mail_import.specs.Sources.{Mail, OnlyMakes}
use Rattle.mail_import.specs.declared.message.Progress.{Progress}
use Rattle.mail_import.specs.declared.message.Terms.{Terms}
use Rattle.mail_import.specs.declared.tally.ImportTally.{ImportTally}

known_then : (xs ys : List Finding) (first : FirstRecords) → known_after_all (xs ++ ys) first ≡ known_after_all ys (known_after_all xs first)
unfolding known_after_all
known_then [] ys first = refl
known_then (x ∷ xs) ys first = known_then xs ys (known_after x first)

tallied_then : (xs ys : List Finding) (t : ImportTally) → tallied_all (xs ++ ys) t ≡ tallied_all ys (tallied_all xs t)
unfolding tallied_all
tallied_then [] ys t = refl
tallied_then (x ∷ xs) ys t = tallied_then xs ys (tallied x t)

right_then : (terms : Terms) (xs ys : List Finding) (first : FirstRecords) → AreRight terms first xs
    → AreRight terms (known_after_all xs first) ys → AreRight terms first (xs ++ ys)
unfolding AreRight known_after_all
right_then terms [] ys first h k = k
right_then terms (x ∷ xs) ys first h k = (h.0, right_then terms xs ys (known_after x first) h.1 k)

-- an ending comes before more than what it comes before
before_more : (ending : Ending) (rest later : List Finding) → EndsBefore ending rest → EndsBefore ending (rest ++ later)
before_more between rest later h = tt
before_more (at_message name found moment answer) [] later h = absurd h
before_more (at_message name found moment answer) (message n f o ∷ rest) later h = h
before_more (at_message name found moment answer) (nameless count ∷ rest) later h = absurd h
before_more (at_message name found moment answer) (empty_folder path ∷ rest) later h = absurd h
before_more (at_message name found moment answer) (beside files folders ∷ rest) later h = absurd h
before_more (at_message name found moment answer) (undated_lines path first count ∷ rest) later h = absurd h

regrouped : (xs ys zs later : List Finding) → xs ++ ((ys ++ zs) ++ later) ≡ (xs ++ ys) ++ (zs ++ later)
regrouped xs ys zs later = ap (λ l. xs ++ l) (append_assoc ys zs later) ∙ sym (append_assoc xs ys (zs ++ later))

-- ---- by any calls that can be made one after the other

module _ {M : Type 0} (goes : M → List Call → M → Type 0) (has : M → Mail → Type 0) (none : (a : M) → goes a [] a)
    (one_then : (a b c : M) (xs ys : List Call) → goes a xs b → goes b ys c → goes a (xs ++ ys) c) where
  pub only_then : (a b c : M) (xs ys : List Call) → OnlyMakes goes has a b xs → OnlyMakes goes has b c ys
      → OnlyMakes goes has a c (xs ++ ys)
  only_then a b c xs ys h k = record {
    made = one_then a b c xs ys h.made k.made;
    kept = λ m has_it. k.kept m (h.kept m has_it);
  }

  pub only_none : (a : M) → OnlyMakes goes has a a []
  only_none a = record { made = none a; kept = λ m has_it. has_it }

module _ {M : Type 0} (goes : M → List Call → M → Type 0) (has : M → Mail → Type 0) (none : (a : M) → goes a [] a)
    (one_then : (a b c : M) (xs ys : List Call) → goes a xs b → goes b ys c → goes a (xs ++ ys) c) (terms : Terms) where
  pub does_none : (a : M) (p : Progress) → Does goes has terms a p [] a p
  unfolding AreRight known_after_all tallied_all
  does_none a p = record { calls = only_none goes has none one_then a; tally = refl; right = λ first h. (tt, h) }

  -- one thing after another
  pub does_then : (a b c : M) (p q r : Progress) (xs ys : List Finding) → Does goes has terms a p xs b q → Does goes has terms b q ys c r
      → Does goes has terms a p (xs ++ ys) c r
  does_then a b c p q r xs ys h k = record {
    calls = subst (OnlyMakes goes has a c) (sym (flat_map-append course xs ys)) (only_then goes has none one_then a b c _ _ h.calls k.calls);
    tally = k.tally ∙ ap (tallied_all ys) h.tally ∙ sym (tallied_then xs ys p.tally);
    right = λ first known.
        let one = h.right first known in
        let other = k.right (known_after_all xs first) one.1 in (
          right_then terms xs ys first one.0 other.0,
          subst (λ (f : FirstRecords). Knows r.known f) (sym (known_then xs ys first)) other.1,
        );
  }

  -- all of one kind, and then all of another
  pub takes_then : (Are Part Whole : Mail → List Finding → Type 0) (a b c : M) (p q r : Progress) → TakesAll goes has terms Are a p b q
      → TakesAll goes has terms Part b q c r
      → ((m : Mail) (xs ys : List Finding) → Are m xs → Part m ys → Whole m (xs ++ ys)) → TakesAll goes has terms Whole a p c r
  takes_then Are Part Whole a b c p q r h k joined = record {
    findings = h.findings ++ k.findings;
    does = does_then a b c p q r h.findings k.findings h.does k.does;
    all = λ m has_it. joined m h.findings k.findings (h.all m has_it) (k.all m (h.does.calls.kept m has_it));
  }

  -- an end between two findings, after what was done
  pub done_breaks : (Whole : Mail → List Finding → Type 0) (a b : M) (p q : Progress) (xs : List Finding) → Does goes has terms a p xs b q
      → ((m : Mail) → has a m → (later : List Finding) × Whole m (xs ++ later)) → Breaks goes has terms Whole a p b q
  done_breaks Whole a b p q xs h rest = record {
    findings = xs;
    between_room = b;
    between_progress = q;
    ending = between;
    ends = refl;
    does = h;
    calls = only_none goes has none one_then b;
    right = λ first known. tt;
    beginning = λ m has_it. let later = rest m has_it in (later.0, tt, later.1);
  }

  -- an end before anything was found
  pub breaks_at_once : (Whole : Mail → List Finding → Type 0) (a : M) (p : Progress) → ((m : Mail) → (later : List Finding) × Whole m later)
      → Breaks goes has terms Whole a p a p
  breaks_at_once Whole a p rest = done_breaks Whole a a p p [] (does_none a p) (λ m has_it. rest m)

  -- an end of what comes after what was done
  pub then_breaks : (Part Whole : Mail → List Finding → Type 0) (a b c : M) (p q r : Progress) (xs : List Finding)
      → Does goes has terms a p xs b q → Breaks goes has terms Part b q c r
      → ((m : Mail) → has a m → (ys : List Finding) → Part m ys → (later : List Finding) × Whole m (xs ++ (ys ++ later)))
      → Breaks goes has terms Whole a p c r
  then_breaks Part Whole a b c p q r xs h k rest = record {
    findings = xs ++ k.findings;
    between_room = k.between_room;
    between_progress = k.between_progress;
    ending = k.ending;
    ends = k.ends;
    does = does_then a b k.between_room p q k.between_progress xs k.findings h k.does;
    calls = k.calls;
    right = k.right;
    beginning = λ m has_it.
        let begun = k.beginning m (h.calls.kept m has_it) in
        let all = rest m has_it (k.findings ++ begun.0) begun.2 in (
          begun.0 ++ all.0,
          before_more k.ending begun.0 all.0 begun.1,
          subst (Whole m) (regrouped xs k.findings begun.0 all.0) all.1,
        );
  }

  pub takes_break : (Are Part Whole : Mail → List Finding → Type 0) (a b c : M) (p q r : Progress) → TakesAll goes has terms Are a p b q
      → Breaks goes has terms Part b q c r
      → ((m : Mail) (xs ys : List Finding) → Are m xs → Part m ys → (later : List Finding) × Whole m (xs ++ (ys ++ later)))
      → Breaks goes has terms Whole a p c r
  takes_break Are Part Whole a b c p q r h k rest =
      then_breaks Part Whole a b c p q r h.findings h.does k (λ m has_it ys. rest m h.findings ys (h.all m has_it))
