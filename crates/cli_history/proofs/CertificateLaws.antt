-- Certificates that are written, a row at a time and a page at a time.
use Rattle.std.proofs.Common.{◌≡◌, ◌+◌, ◌<◌, ◌≤◌, ◌++◌, ◌∷◌, ◌∙◌, [], ℕ, List, Bool, true, false, Option, Some, None, cond, map, take, get_or}
use Rattle.std.proofs.Common.{length, refl, ap, sym, subst}
use Rattle.std.proofs.lemmas.List.{append_assoc, append-nil}
use Rattle.std.specs.Borrow.{Bor}
use Rattle.std.specs.Prelude.{is_some}
use Rattle.choice_words.specs.declared.numbers.TypedNumbers.{TypedNumbers}
use Rattle.class_plan.specs.declared.schedules.Schedule.{Schedule}
use Rattle.record_tables.specs.Events.{Event as Row}
use Rattle.record_reads.specs.Events.{event_of}
use Rattle.record_reads.specs.declared.events.EventRow.{EventRow}
use Rattle.record_history.specs.Events as plain
use Rattle.record_history.specs.Events.{Event}
use Rattle.record_history.specs.Views.{deed_view}
use Rattle.record_history.specs.declared.events.Deed.{Deed}
use Rattle.record_history.specs.declared.events.Deed.TheVariants.{Destroyed}
use Rattle.cli_console.specs.Sequences.{AreTexts, first_after, one_text, only, texts_joined}
use Rattle.cli_console.specs.Sinks.{Writes, more_written, nothing_written}
use Rattle.cli_history.specs.Certified.{Certifies, CertifiesRow, IsCertificateOf, IsLineOf, WritesCertificates}
use Rattle.cli_history.specs.Certified.{CertifiesEach, LeavesUncertified, certified, certified_at, certified_rows, deeds_of, destroyed_by}
use Rattle.cli_history.specs.Chosen.{is_about}
use Rattle.cli_history.specs.Lawful.{Watches}
use Rattle.cli_history.specs.Missing.{unmet, unmet_after}
use Rattle.cli_history.specs.Tellings.{TellEach, TellsRow}
use Rattle.cli_history.specs.declared.certificates.PrintedCertificates.{PrintedCertificates}
use Rattle.cli_history.specs.declared.watching.Watch.{Watch}
use Rattle.cli_history.proofs.PrintingLaws.{tell_joined}
use Rattle.cli_history.specs.declared.missing.Missing.{Missing}
use Rattle.cli_history.proofs.MissingLemmas.{all_met, unmet_joined}
use Rattle.cli_history.proofs.WalkLemmas.{all_of_page, more_of_page}

-- an event of which a certificate is asked destroys that record
pub certified_is : (words : List TypedNumbers) (e : Event) (n : ℕ) → certified words e ≡ Some n → destroyed_by e.deed ≡ Some n
certified_is words e n is = go (is_about words e.deed) is
  where
    go : (b : Bool) → cond b (destroyed_by e.deed) None ≡ Some n → destroyed_by e.deed ≡ Some n
    go true same = same
    go false same = absurd cc

-- a deed that is no destruction destroys no record
pub none_destroyed : (d : Deed) → ((n day : ℕ) (schedule : Schedule) → d ≡ Destroyed n day schedule → ⊥) → destroyed_by (deed_view d) ≡ None
none_destroyed (Destroyed n day schedule) other = absurd (other n day schedule refl)
none_destroyed d other = refl

-- which line is that of an event does not depend on whether it is the first one
any_first : (volume : Option ℕ) (b : Bool) (xs : List (Row × Event)) (text : List ℕ) → AreTexts (IsLineOf volume) true xs text
    → AreTexts (IsLineOf volume) b xs text
any_first volume b [] text are = are
any_first volume b (x ∷ xs) text are = are

certified_joined : (words : List TypedNumbers) (rows more : List Row) (told others : List (Option Event)) → TellEach rows told
    → certified_rows words rows told ++ certified_rows words more others ≡ certified_rows words (rows ++ more) (told ++ others)
certified_joined words [] more [] others tell = refl
certified_joined words (r ∷ rows) more (o ∷ told) others tell =
    append_assoc (certified_at words r o) (certified_rows words rows told) (certified_rows words more others)
    ∙ ap (λ rest. certified_at words r o ++ rest) (certified_joined words rows more told others tell.1)
certified_joined words [] more (o ∷ told) others tell = absurd tell
certified_joined words (r ∷ rows) more [] others tell = absurd tell

deeds_joined : (one other : List (Row × Event)) → deeds_of (one ++ other) ≡ deeds_of one ++ deeds_of other
deeds_joined [] other = refl
deeds_joined (x ∷ one) other = ap (λ (ds : List plain.Deed). x.1.deed ∷ ds) (deeds_joined one other)

-- where no number is left, each is met
pub each_certified : (words : List TypedNumbers) (rows : List Row) (left : List TypedNumbers) → LeavesUncertified words rows left → left ≡ []
    → CertifiesEach words rows
each_certified words rows left leaves none = record {
  told = leaves.told;
  tell = leaves.tell;
  met = all_met words (deeds_of (certified_rows words rows leaves.told)) (sym leaves.are ∙ none);
}

module _ {K : Type 0} (written : K → List ℕ → Type 0) where
  pub none_certified : (p : PrintedCertificates) (k : K) → Certifies written p k [] p k
  none_certified p k = record {
    told = [];
    tell = tt;
    text = [];
    are = refl;
    added = nothing_written written k;
    typed = refl;
    volume = refl;
    watched = λ before so_far. subst (Watches p.watch) (sym (append-nil before)) so_far;
    met = refl;
  }

  -- a row that tells no event of which a certificate is asked
  pub row_passed : (p q : PrintedCertificates) (k : K) (r : Row) (o : Option Event) → TellsRow r o → certified_at p.typed.now r o ≡ []
      → q.typed ≡ p.typed → q.volume ≡ p.volume → q.watch ≡ p.watch
      → q.missing.rest.items ≡ p.missing.rest.items → CertifiesRow written p k r q k
  row_passed p q k r o tells none typed volume watch left = record {
    told = o;
    tells = tells;
    text = [];
    are = subst (λ xs. AreTexts (IsLineOf p.volume) true xs []) (sym none) refl;
    added = nothing_written written k;
    typed = typed;
    volume = volume;
    watch = watch;
    met = left ∙ ap (λ xs. unmet p.missing.rest.items (deeds_of xs)) (sym none);
  }

  -- one that does
  pub row_certified : (p q : PrintedCertificates) (k m : K) (r : Row) (e : Event) (n : ℕ) (text : List ℕ) → TellsRow r (Some e)
      → certified p.typed.now e ≡ Some n → IsCertificateOf p.volume r e (Some text) → Writes written k m text → q.typed ≡ p.typed
      → q.volume ≡ p.volume → q.watch ≡ p.watch
      → q.missing.rest.items ≡ unmet_after p.missing.rest.items e.deed → CertifiesRow written p k r q m
  row_certified p q k m r e n text tells asked is writes typed volume watch left = record {
    told = Some e;
    tells = tells;
    text = text;
    are = subst (λ (c : Option ℕ). AreTexts (IsLineOf p.volume) true (only (is_some c) (r, e)) text) (sym asked)
        (one_text (IsLineOf p.volume) true (r, e) text is);
    added = writes;
    typed = typed;
    volume = volume;
    watch = watch;
    met = left ∙ ap (λ (c : Option ℕ). unmet p.missing.rest.items (deeds_of (only (is_some c) (r, e)))) (sym asked);
  }

  -- one row that was judged before: but for the judge, the certificates are those as it was printed
  pub one_certified : (p s q : PrintedCertificates) (k m : K) (r : Row) → s.typed ≡ p.typed → s.volume ≡ p.volume
      → s.missing ≡ p.missing → CertifiesRow written s k r q m → ((before : List Row) → Watches p.watch before → Watches s.watch (before ++ r ∷ []))
      → Certifies written p k (r ∷ []) q m
  one_certified p s q k m r typed volume missing certifies watched = record {
    told = certifies.told ∷ [];
    tell = (certifies.tells, tt);
    text = certifies.text;
    are = subst (λ xs. AreTexts (IsLineOf p.volume) true xs certifies.text) (sym (append-nil (certified_at p.typed.now r certifies.told)))
        (subst (λ v. AreTexts (IsLineOf v) true (certified_at p.typed.now r certifies.told) certifies.text) volume
        (subst (λ (t : Bor (List TypedNumbers)). AreTexts (IsLineOf s.volume) true (certified_at t.now r certifies.told) certifies.text) typed
        certifies.are));
    added = certifies.added;
    typed = certifies.typed ∙ typed;
    volume = certifies.volume ∙ volume;
    watched = λ before so_far.
        subst (λ (w : Watch). Watches w (before ++ r ∷ [])) (sym certifies.watch) (watched before so_far);
    met = certifies.met
        ∙ ap (λ (x : Missing). unmet x.rest.items (deeds_of (certified_at s.typed.now r certifies.told))) missing
        ∙ ap (λ (t : Bor (List TypedNumbers)). unmet p.missing.rest.items (deeds_of (certified_at t.now r certifies.told))) typed
        ∙ ap (λ xs. unmet p.missing.rest.items (deeds_of xs)) (sym (append-nil (certified_at p.typed.now r certifies.told)));
  }

  pub more_certified : (p q r : PrintedCertificates) (k m n : K) (rows more : List Row) → Certifies written p k rows q m
      → Certifies written q m more r n → Certifies written p k (rows ++ more) r n
  more_certified p q r k m n rows more one other =
      let words = p.typed.now in
      let these = certified_rows words rows one.told in
      let left = p.missing.rest.items in
      let behind : AreTexts (IsLineOf p.volume) true (certified_rows words more other.told) other.text =
      subst (λ v. AreTexts (IsLineOf v) true (certified_rows words more other.told) other.text) one.volume
      (subst (λ (t : Bor (List TypedNumbers)). AreTexts (IsLineOf q.volume) true (certified_rows t.now more other.told) other.text) one.typed
      other.are) in
      record {
        told = one.told ++ other.told;
        tell = tell_joined rows more one.told other.told one.tell other.tell;
        text = one.text ++ other.text;
        are = subst (λ xs. AreTexts (IsLineOf p.volume) true xs (one.text ++ other.text))
            (certified_joined words rows more one.told other.told one.tell)
            (texts_joined (IsLineOf p.volume) true these (certified_rows words more other.told) one.text other.text one.are
            (any_first p.volume (first_after true these) (certified_rows words more other.told) other.text behind));
        added = more_written written k m n one.text other.text one.added other.added;
        typed = other.typed ∙ one.typed;
        volume = other.volume ∙ one.volume;
        watched = λ before so_far.
            subst (Watches r.watch) (append_assoc before rows more) (other.watched (before ++ rows) (one.watched before so_far));
        met = other.met
            ∙ ap (λ (t : Bor (List TypedNumbers)). unmet q.missing.rest.items (deeds_of (certified_rows t.now more other.told))) one.typed
            ∙ ap (λ ws. unmet ws (deeds_of (certified_rows words more other.told))) one.met
            ∙ unmet_joined left (deeds_of these) (deeds_of (certified_rows words more other.told))
            ∙ ap (unmet left) (sym (deeds_joined these (certified_rows words more other.told)))
            ∙ ap (λ xs. unmet left (deeds_of xs)) (certified_joined words rows more one.told other.told one.tell);
      }

  -- the rows of a page: one more, and all
  pub page_more : (p q r : PrintedCertificates) (k m n : K) (page : List EventRow) (i : ℕ) (d : EventRow) → i < length page
      → Certifies written p k (map event_of (take i page)) q m → Certifies written q m (event_of (get_or page i d) ∷ []) r n
      → Certifies written p k (map event_of (take (i + 1) page)) r n
  page_more p q r k m n page i d low one other =
      more_of_page (λ rows. Certifies written p k rows r n) event_of [] page i d low
      (more_certified p q r k m n (map event_of (take i page)) (event_of (get_or page i d) ∷ []) one other)

  pub page_all : (p q : PrintedCertificates) (k m : K) (page : List EventRow) (i : ℕ) → length page ≤ i
      → Certifies written p k (map event_of (take i page)) q m → Certifies written p k (map event_of page) q m
  page_all p q k m page i all so_far = all_of_page (λ rows. Certifies written p k rows q m) event_of [] page i all so_far

  -- those of a whole history
  pub all_certified : (volume : Option ℕ) (words : List TypedNumbers) (p q : PrintedCertificates) (k m : K) (rows : List Row)
      → p.typed.now ≡ words → p.volume ≡ volume → Certifies written p k rows q m → WritesCertificates written volume words k rows m
  all_certified volume words p q k m rows typed number all = (
    all.told,
    all.tell,
    all.text,
    subst (λ v. AreTexts (IsLineOf v) true (certified_rows words rows all.told) all.text) number
        (subst (λ ws. AreTexts (IsLineOf p.volume) true (certified_rows ws rows all.told) all.text) typed all.are),
    all.added,
  )

  -- the numbers that are left of those that are typed
  pub certified_met : (words : List TypedNumbers) (p q : PrintedCertificates) (k m : K) (rows : List Row) → p.typed.now ≡ words
      → p.missing.rest.items ≡ words → Certifies written p k rows q m → LeavesUncertified words rows q.missing.rest.items
  certified_met words p q k m rows typed left all = record {
    told = all.told;
    tell = all.tell;
    are = all.met ∙ ap (λ ws. unmet p.missing.rest.items (deeds_of (certified_rows ws rows all.told))) typed
        ∙ ap (λ ws. unmet ws (deeds_of (certified_rows words rows all.told))) left;
  }
