-- The records that are meant by what is typed.
use Rattle.std.proofs.Common.{◌≡◌, ◌∙◌, ◌<◌, ◌==◌, ◌||◌, ◌&&◌, ℕ, ℤ, nat_le, Bool, true, false, cond, List, [], ◌∷◌, ◌++◌, length, map, filter}
use Rattle.std.proofs.Common.{refl, sym, ap, ap₂, subst, arith, not, true≢false}
use Rattle.std.proofs.lemmas.Bool.Decides.{nat_tests}
use Rattle.std.proofs.lemmas.List.{length-map}
use Rattle.std.proofs.lemmas.List.Folds.{list_any-append}
use Rattle.std.proofs.Math.Bool.{or_assoc}
use Rattle.std.specs.List.{AllByRecursion}
use Rattle.choice_words.specs.Ranges.{is_meant_by}
use Rattle.choice_words.specs.declared.numbers.TypedNumbers.{TypedNumbers}
use Rattle.choice_words.specs.declared.numbers.TypedNumbers.TheVariants.{One, Range}
use Rattle.cli_choice.specs.Disposals.{IsMeant, is_ranged, numbers_meant}
use Rattle.cli_choice.specs.declared.disposals.Meant.{Meant}
use Rattle.cli_choice.specs.Typed.{singles}
use Rattle.command_lines.specs.declared.archives.Disposal.{Disposal}
use Rattle.record_archive.specs.Archive.{Archive, Line}
use Rattle.record_archive.specs.declared.line.Line as code
use Rattle.record_archive.specs.Lines.{line_view}
use Rattle.record_choice.specs.Disposals.{Certificate, asked_list, disposable_list, is_one_of}
use Rattle.record_choice.specs.Reasons.{MayGo}
use Rattle.record_choice.proofs.Asked.{none_asked}
use Rattle.cli_history.specs.declared.seals.Seals.{Seals}
use Rattle.cli_changes.specs.declared.altered.Damage.TheVariants as on_damage
use Rattle.cli_changes.specs.Destructions.{DisposesUnaltered, IsDisposal, IsDisposalOf, MayBegin, are_any, damage_asked, is_meant, meant_numbers}
use Rattle.cli_changes.specs.Destructions.{numbers_of}
use Rattle.cli_changes.specs.Runs.{IsUnaltered}
use Rattle.cli_changes.proofs.DueLaws.{numbers_filtered}
use Rattle.cli_changes.proofs.DisposalLaws.{none_gone}
use Rattle.cli_changes.proofs.RunDisposals.{none_yet, whatever_comes}
use Rattle.cli_changes.proofs.RunLaws.{all_first, none_left}

-- the numbers of the lines of the code
pub numbers_viewed : (ls : List code.Line) → numbers_of (map line_view ls) ≡ map (λ (l : code.Line). l.number) ls
numbers_viewed [] = refl
numbers_viewed (l ∷ ls) = ap (λ k. l.number ∷ k) (numbers_viewed ls)

-- there is a line where there is a record
pub listed_any : (a : Archive) (day : ℤ) (asked : List ℕ) (lines : List code.Line) → map line_view lines ≡ asked_list a day asked
    → not (length lines == 0) ≡ are_any (numbers_of (asked_list a day asked))
listed_any a day asked lines are =
    ap (λ n. not (n == 0)) (sym (length-map lines (λ (l : code.Line). l.number)) ∙ ap length (sym (numbers_viewed lines))
    ∙ ap (λ ls. length (numbers_of ls)) are)

or_swap : (a b c : Bool) → (a || (b || c)) ≡ (b || (a || c))
or_swap true true c = refl
or_swap true false c = refl
or_swap false true c = refl
or_swap false false c = refl

-- a number is meant where it is typed by itself, or in a range
meant_is : (ws : List TypedNumbers) (n : ℕ) → is_meant_by ws n ≡ (is_one_of (singles ws) n || is_ranged ws n)
meant_is [] n = refl
meant_is (One m ∷ ws) n = ap (λ b. (n == m) || b) (meant_is ws n) ∙ sym (or_assoc (n == m) (is_one_of (singles ws) n) (is_ranged ws n))
meant_is (Range first last ∷ ws) n =
    ap (λ b. (nat_le first n && nat_le n last) || b) (meant_is ws n)
    ∙ or_swap (nat_le first n && nat_le n last) (is_one_of (singles ws) n) (is_ranged ws n)

-- filters that agree on the numbers of a list
filter_same_on : (p q : ℕ → Bool) (ns : List ℕ) → ((n : ℕ) → is_one_of ns n ≡ true → p n ≡ q n) → filter p ns ≡ filter q ns
filter_same_on p q [] h = refl
filter_same_on p q (n ∷ ns) h =
    ap₂ (λ b l. cond b (n ∷ l) l) (h n (ap (λ b. b || is_one_of ns n) (same_itself n)))
    (filter_same_on p q ns (λ m there. h m (ap (λ b. (m == n) || b) there ∙ or_true (m == n))))
  where
    same_itself : (k : ℕ) → (k == k) ≡ true
    same_itself k = grind (arith, nat_tests)

    or_true : (b : Bool) → (b || true) ≡ true
    or_true true = refl
    or_true false = refl

-- one of those that pass
one_of_filter : (r : ℕ → Bool) (ns : List ℕ) (n : ℕ) → is_one_of (filter r ns) n ≡ (r n && is_one_of ns n)
one_of_filter r [] n = go (r n)
  where
    go : (b : Bool) → false ≡ (b && false)
    go true = refl
    go false = refl
one_of_filter r (m ∷ ms) n = go (n == m) refl (r m) refl (r n) refl (one_of_filter r ms n)
  where
    go : (same : Bool) → (n == m) ≡ same → (b : Bool) → r m ≡ b → (c : Bool) → r n ≡ c → is_one_of (filter r ms) n ≡ (c && is_one_of ms n)
        → is_one_of (cond b (m ∷ filter r ms) (filter r ms)) n ≡ (c && (same || is_one_of ms n))
    go same e true f true g more = ap₂ ◌||◌ e more
    go true e true f false g more =
        let is : n ≡ m = grind (arith, nat_tests, e) in absurd (true≢false (sym f ∙ ap r (sym is) ∙ g))
    go false e true f false g more = ap₂ ◌||◌ e more
    go true e false f true g more =
        let is : n ≡ m = grind (arith, nat_tests, e) in absurd (true≢false (sym g ∙ ap r is ∙ f))
    go false e false f true g more = more
    go same e false f false g more = more

-- those of a list that are typed by themselves or in a range of it are those that are meant
picked_meant : (ws : List TypedNumbers) (ns : List ℕ) → filter (is_one_of (singles ws ++ filter (is_ranged ws) ns)) ns ≡ filter (is_meant_by ws) ns
picked_meant ws ns =
    filter_same_on (is_one_of (singles ws ++ filter (is_ranged ws) ns)) (is_meant_by ws) ns (λ n there.
    list_any-append (λ m. n == m) (singles ws) (filter (is_ranged ws) ns)
    ∙ ap (λ b. is_one_of (singles ws) n || b) (one_of_filter (is_ranged ws) ns n ∙ ap (λ b. is_ranged ws n && b) there ∙ and_true (is_ranged ws n))
    ∙ sym (meant_is ws n))
  where
    and_true : (b : Bool) → (b && true) ≡ b
    and_true true = refl
    and_true false = refl

-- the list of all that may be destroyed
all_listed : (a : Archive) (day : ℤ) → asked_list a day [] ≡ disposable_list a day
all_listed a day = sym (none_asked [] (disposable_list a day) refl)

pub meant_as : (typed : List TypedNumbers) (lines : List Line) (m n : Meant) → m ≡ n → IsMeant typed lines m → IsMeant typed lines n
meant_as typed lines m n is h = subst (IsMeant typed lines) is h

-- where nothing is typed, all are meant
pub meant_all : (a : Archive) (day : ℤ) (typed : List TypedNumbers) → typed ≡ [] → numbers_of (asked_list a day []) ≡ meant_numbers a day typed
meant_all a day [] e =
    ap numbers_of (all_listed a day) ∙ sym (all_kept (numbers_of (disposable_list a day)))
  where
    all_kept : (ns : List ℕ) → filter (is_meant []) ns ≡ ns
    all_kept [] = refl
    all_kept (n ∷ ns) = ap (λ l. n ∷ l) (all_kept ns)
meant_all a day (w ∷ ws) e = absurd cc

-- where numbers are typed, those are asked for that are meant
pub meant_asked : (a : Archive) (day : ℤ) (typed : List TypedNumbers) (numbers : List ℕ) → 0 < length numbers
    → numbers ≡ numbers_meant typed (asked_list a day []) → numbers_of (asked_list a day numbers) ≡ meant_numbers a day typed
meant_asked a day [] numbers some is =
    let none = ap length (is ∙ none_ranged (numbers_of (asked_list a day []))) in absurd (omega (arith, some, none))
  where
    none_ranged : (ns : List ℕ) → filter (is_ranged []) ns ≡ []
    none_ranged [] = refl
    none_ranged (n ∷ ns) = none_ranged ns
meant_asked a day (w ∷ ws) [] some is = absurd (omega (arith, some))
meant_asked a day (w ∷ ws) (n ∷ ns) some is =
    let listed = numbers_of (disposable_list a day) in
    numbers_filtered (is_one_of (n ∷ ns)) (disposable_list a day)
    ∙ ap (λ l. filter (is_one_of l) listed) (is ∙ ap (numbers_meant (w ∷ ws)) (all_listed a day))
    ∙ picked_meant (w ∷ ws) listed

-- where none is, none is meant
pub meant_none : (a : Archive) (day : ℤ) (typed : List TypedNumbers) → numbers_meant typed (asked_list a day []) ≡ [] → 0 < length typed
    → meant_numbers a day typed ≡ []
meant_none a day [] none typed = absurd (omega (arith, typed))
meant_none a day (w ∷ ws) none typed =
    let listed = numbers_of (disposable_list a day) in
    sym (picked_meant (w ∷ ws) listed)
    ∙ ap (λ l. filter (is_one_of l) listed) (sym (ap (numbers_meant (w ∷ ws)) (all_listed a day)) ∙ none)
    ∙ none_kept listed
  where
    none_kept : (ns : List ℕ) → filter (is_one_of []) ns ≡ []
    none_kept [] = refl
    none_kept (n ∷ ns) = none_kept ns

-- where those that are asked for may be destroyed, a disposal of those that are meant may begin
pub asked_may_begin : (seals : Seals) (d : Disposal) (day : ℤ) (numbers : List ℕ) (a : Archive)
    → numbers_of (asked_list a day numbers) ≡ meant_numbers a day d.numbers.items
    → (AllByRecursion (MayGo a day) numbers → AllByRecursion (MayGo a day) (singles d.numbers.items))
    → AllByRecursion (MayGo a day) numbers
    → (damage_asked d.is_damaged ≡ on_damage.Refused → AllByRecursion (IsUnaltered seals a) (numbers_of (asked_list a day numbers)))
    → MayBegin seals d a day
asked_may_begin seals d day numbers a are typed may unaltered = record {
  may_go = typed may;
  unaltered = λ undamaged. subst (AllByRecursion (IsUnaltered seals a)) are (unaltered (ap damage_asked undamaged));
}

-- THE DISPOSAL OF THE RECORDS THAT ARE MEANT is that of those that are asked for
pub disposal_meant : (seals : Seals) (d : Disposal) (Left : Archive → Type 0) (day : ℤ) (numbers : List ℕ) (done : Bool) (cs : List Certificate)
    (a : Archive) → numbers_of (asked_list a day numbers) ≡ meant_numbers a day d.numbers.items
    → (AllByRecursion (MayGo a day) numbers → AllByRecursion (MayGo a day) (singles d.numbers.items))
    → DisposesUnaltered seals (damage_asked d.is_damaged) Left day numbers done cs a → IsDisposalOf seals d Left day done cs a
disposal_meant seals d Left day numbers done cs a are typed h =
    record {
      these = subst (λ l. IsDisposal Left day l done cs a) are h.disposal.these;
      may_begin = λ begun. asked_may_begin seals d day numbers a are typed (h.disposal.may_go begun) (h.unaltered begun);
    }

-- each that is typed by itself is asked for
pub typed_go : (P : ℕ → Type 0) (typed : List TypedNumbers) (ls : List Line) (numbers : List ℕ) → numbers ≡ numbers_meant typed ls
    → AllByRecursion P numbers → AllByRecursion P (singles typed)
typed_go P typed ls numbers is all =
    all_first P (singles typed) (filter (is_ranged typed) (map (λ (l : Line). l.number) ls)) (subst (AllByRecursion P) is all)

pub none_typed : (P : ℕ → Type 0) (typed : List TypedNumbers) → typed ≡ [] → AllByRecursion P (singles typed)
none_typed P [] e = tt
none_typed P (w ∷ ws) e = absurd cc

-- none is destroyed
pub none_meant : (seals : Seals) (d : Disposal) (Left : Archive → Type 0) (day : ℤ) (a : Archive) → Left a → IsDisposalOf seals d Left day false [] a
none_meant seals d Left day a left =
    record {
      these = none_gone Left day (meant_numbers a day d.numbers.items) a left;
      may_begin = λ no. absurd (true≢false (sym no));
    }

-- where none is meant, a disposal may begin
pub none_may_begin : (seals : Seals) (d : Disposal) (day : ℤ) (a : Archive)
    → numbers_meant d.numbers.items (asked_list a day []) ≡ [] → 0 < length d.numbers.items → MayBegin seals d a day
none_may_begin seals d day a none typed = record {
  may_go = subst (AllByRecursion (MayGo a day))
      (sym (none_left (singles d.numbers.items)
      (filter (is_ranged d.numbers.items) (map (λ (l : Line). l.number) (asked_list a day []))) none).0) tt;
  unaltered = λ undamaged. subst (AllByRecursion (IsUnaltered seals a)) (sym (meant_none a day d.numbers.items none typed)) tt;
}

-- where none is meant, all is done
pub nothing_meant : (seals : Seals) (d : Disposal) (Left : Archive → Type 0) (day : ℤ) (done : Bool) (a : Archive)
    → numbers_meant d.numbers.items (asked_list a day []) ≡ [] → 0 < length d.numbers.items → Left a → IsDisposalOf seals d Left day done [] a
nothing_meant seals d Left day done a none typed left =
    let empty = meant_none a day d.numbers.items none typed in
    record {
      these = subst (λ l. IsDisposal Left day l done [] a) (sym empty) (whatever_comes Left day [] done [] a (none_yet Left day a left));
      may_begin = λ begun. none_may_begin seals d day a none typed;
    }

-- all is done, whatever comes then
pub done_anyhow : (seals : Seals) (d : Disposal) (Left : Archive → Type 0) (day : ℤ) (done : Bool) (cs : List Certificate) (a : Archive)
    → IsDisposalOf seals d Left day true cs a → IsDisposalOf seals d Left day done cs a
done_anyhow seals d Left day done cs a h = record {
  these = whatever_comes Left day (meant_numbers a day d.numbers.items) done cs a h.these;
  may_begin = λ begun. h.may_begin refl;
}
