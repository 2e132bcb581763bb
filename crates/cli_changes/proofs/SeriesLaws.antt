-- Changes that are tried one after another.
use Rattle.std.proofs.Common.{◌≡◌, ◌<◌, ℕ, zero, suc, Bool, true, false, not, ◌||◌, cond, List, [], ◌∷◌, ◌++◌, map, filter, take, length}
use Rattle.std.proofs.Common.{Result, Ok, Err, IfOk, OnOk, OnErr, is_ok, refl, sym, ap, ap₂, ◌∙◌, subst}
use Rattle.std.specs.List.{AllByRecursion, list_any}
use Rattle.std.proofs.lemmas.List.Folds.{list_any-append}
use Rattle.record_archive.specs.Archive.{Archive}
use Rattle.record_archive.specs.Calls.{CarriesOut, Does, Keeper, Makes, Quietly}
use Rattle.record_archive.specs.Faults.{is_trouble}
use Rattle.record_archive.specs.declared.fault.ArchiveFault.{ArchiveFault}
use Rattle.record_archive.specs.declared.fault.ArchiveFault.TheVariants.{Database, NoMemory, Refused}
use Rattle.record_archive.specs.Lists.{IsAscending}
use Rattle.record_archive.specs.declared.fault.ArchiveRefusal.{ArchiveRefusal}
use Rattle.record_choice.proofs.PageLaws.{all_weaker}
use Rattle.cli_changes.specs.Series.{Command, tried, tried_on, answers_on, IsTried, IsTriedOn, StopsIn}

-- ---- one command

-- this is so where something fails, since it is so
pub on_err : {T E : Type 0} (r : Result T E) (P : Type 0) → P → OnErr r P
on_err (Ok x) P p = tt
on_err (Err e) P p = p

-- this is so where it succeeds, since two other things are
pub on_ok_both : {T E P Q R : Type 0} (r : Result T E) → OnOk r P → OnOk r Q → (P → Q → R) → OnOk r R
on_ok_both (Ok x) p q to = to p q
on_ok_both (Err e) p q to = tt

made_tried : (S : Archive → Type 0) (a : Archive) (made : Result Archive ArchiveRefusal) → Makes S made → IsTried S a made true
made_tried S a (Ok b) h = record { stands = h; done = refl }
made_tried S a (Err f) h = absurd h

-- a command that was carried out was tried, and done
pub done_tried : {A X E : Type 0} (k : Keeper A Archive) (old new : A) (command : Archive → Result Archive ArchiveRefusal)
    (r : Result X (ArchiveFault E)) (x : X) → r ≡ Ok x → CarriesOut k old new command Quietly r → k.clean new → (a : Archive) → k.stands old a
    → IsTried (k.stands new) a (command a) true
done_tried k old new command r x is out clean a stands =
    made_tried (k.stands new) a (command a) ((subst (λ o. Does k old new command Quietly o) is out.does clean a stands).0)

-- one that the archive refused was tried, and not done
pub refused_tried : {A X E : Type 0} (k : Keeper A Archive) (old new : A) (command : Archive → Result Archive ArchiveRefusal)
    (r : Result X (ArchiveFault E)) (f : ArchiveFault E) (is_done : Bool) → r ≡ Err f → is_done ≡ false → is_trouble f ≡ false
    → CarriesOut k old new command Quietly r → k.clean new → (a : Archive) → k.stands old a → IsTried (k.stands new) a (command a) is_done
refused_tried k old new command r (Refused e) is_done is off calm out clean a stands =
    let does = subst (λ o. Does k old new command Quietly o) is out.does a stands in
    let no : command a ≡ Err e = does.1 clean e refl in
    record {
      stands = subst (k.stands new) (sym (ap (tried a) no)) does.0;
      done = off ∙ sym (ap is_ok no);
    }
refused_tried k old new command r (Database e) is_done is off calm out clean a stands = absurd cc
refused_tried k old new command r NoMemory is_done is off calm out clean a stands = absurd cc

-- the same of one of which that was told
pub told_tried : {A X E F : Type 0} (k : Keeper A Archive) (old new : A) (command : Archive → Result Archive ArchiveRefusal)
    (r : Result X (ArchiveFault E)) (f : ArchiveFault E) (told : Result Bool F) → r ≡ Err f → CarriesOut k old new command Quietly r
    → IfOk told (λ is_done. is_done ≡ false) → OnOk told (is_trouble f ≡ false)
    → IfOk told (λ is_done. k.clean new → (a : Archive) → k.stands old a → IsTried (k.stands new) a (command a) is_done)
told_tried k old new command r f (Ok is_done) is out off calm = refused_tried k old new command r f is_done is off calm out
told_tried k old new command r f (Err e) is out off calm = tt

-- one that failed has changed nothing
pub failed_stays : {A X E : Type 0} (k : Keeper A Archive) (old new : A) (command : Archive → Result Archive ArchiveRefusal)
    (r : Result X (ArchiveFault E)) (f : ArchiveFault E) → r ≡ Err f → CarriesOut k old new command Quietly r → (a : Archive) → k.stands old a
    → k.stands new a
failed_stays k old new command r f is out a stands = (subst (λ o. Does k old new command Quietly o) is out.does a stands).0

-- ---- one more

tried_more : (command : Command) (ns : List ℕ) (n : ℕ) (a : Archive)
    → tried_on command (ns ++ n ∷ []) a ≡ tried (tried_on command ns a) (command n (tried_on command ns a))
tried_more command [] n a = refl
tried_more command (m ∷ ms) n a = tried_more command ms n (tried a (command m a))

answers_more : (command : Command) (ns : List ℕ) (n : ℕ) (a : Archive)
    → answers_on command (ns ++ n ∷ []) a ≡ answers_on command ns a ++ is_ok (command n (tried_on command ns a)) ∷ []
answers_more command [] n a = refl
answers_more command (m ∷ ms) n a = ap (λ l. is_ok (command m a) ∷ l) (answers_more command ms n (tried a (command m a)))

-- where one or the other is false, each is
pub or_first : (x y : Bool) → (x || y) ≡ false → x ≡ false
or_first true y e = e
or_first false y e = refl

pub or_second : (x y : Bool) → (x || y) ≡ false → y ≡ false
or_second true y e = absurd cc
or_second false y e = e

pub or_off : (x : Bool) → (x || false) ≡ x
or_off true = refl
or_off false = refl

any_more : (f : Bool → Bool) (bs : List Bool) (b : Bool) → (list_any f bs || f b) ≡ list_any f (bs ++ b ∷ [])
any_more f bs b = sym (list_any-append f bs (b ∷ []) ∙ ap (λ x. list_any f bs || x) (or_off (f b)))

-- nothing is tried yet
pub none_tried : (S : Archive → Type 0) (command : Command) (a : Archive) → S a → IsTriedOn S command [] a false false
none_tried S command a stands = record { stands = stands; any = refl; refused = refl }

-- one more after these
pub one_more : (S T : Archive → Type 0) (command : Command) (ns : List ℕ) (a : Archive) (any refused : Bool) (n : ℕ) (b : Bool)
    (all : List ℕ) (any_new refused_new : Bool) → all ≡ ns ++ n ∷ [] → any_new ≡ (any || b) → refused_new ≡ (refused || not b)
    → IsTriedOn S command ns a any refused
    → IsTried T (tried_on command ns a) (command n (tried_on command ns a)) b
    → IsTriedOn T command all a any_new refused_new
one_more S T command ns a any refused n b all any_new refused_new these so not_so was one =
    let last = is_ok (command n (tried_on command ns a)) in
    let answers : answers_on command all a ≡ answers_on command ns a ++ last ∷ [] =
    ap (λ l. answers_on command l a) these ∙ answers_more command ns n a in
    record {
      stands = subst T (sym (ap (λ l. tried_on command l a) these ∙ tried_more command ns n a)) one.stands;
      any = so ∙ ap₂ (λ x y. x || y) was.any one.done ∙ any_more (λ c. c) (answers_on command ns a) last
          ∙ ap (list_any (λ c. c)) (sym answers);
      refused = not_so ∙ ap₂ (λ x y. x || not y) was.refused one.done ∙ any_more not (answers_on command ns a) last
          ∙ ap (list_any not) (sym answers);
    }

take_whole : {X : Type 0} (xs : List X) → take (length xs) xs ≡ xs
take_whole [] = refl
take_whole (x ∷ xs) = ap (λ l. x ∷ l) (take_whole xs)

-- all of them, as the first so many
pub all_stop : (S : Archive → Type 0) (command : Command) (ns : List ℕ) (a : Archive) (any refused : Bool)
    → IsTriedOn S command ns a any refused → StopsIn S command ns a
all_stop S command ns a any refused tried = (length ns, subst (λ l. S (tried_on command l a)) (sym (take_whole ns)) tried.stands)

-- ---- each for itself

-- WHAT A COMMAND MAKES OF RECORDS, each of them for itself
pub record IsEach (command : Command) (made : List ℕ → Archive → Archive) : Type 0 where
  pub none : (a : Archive) → made [] a ≡ a
  pub one : (n : ℕ) (a b : Archive) → command n a ≡ Ok b → b ≡ made (n ∷ []) a
  pub more : (n : ℕ) (ns : List ℕ) (a : Archive) → made ns (made (n ∷ []) a) ≡ made (n ∷ ns) a
  pub apart : (n m : ℕ) (a : Archive) → n < m → is_ok (command m (made (n ∷ []) a)) ≡ is_ok (command m a)

-- the archive does it on the record of a number
abbrev pub does : Command → Archive → ℕ → Bool
does command a n = is_ok (command n a)

same_filter : {X : Type 0} (p q : X → Bool) (xs : List X) → AllByRecursion (λ x. p x ≡ q x) xs → filter p xs ≡ filter q xs
same_filter p q [] h = refl
same_filter p q (x ∷ xs) h = ap₂ (λ b l. cond b (x ∷ l) l) h.0 (same_filter p q xs h.1)

same_map : {X Y : Type 0} (f g : X → Y) (xs : List X) → AllByRecursion (λ x. f x ≡ g x) xs → map f xs ≡ map g xs
same_map f g [] h = refl
same_map f g (x ∷ xs) h = ap₂ ◌∷◌ h.0 (same_map f g xs h.1)

pub record IsMadeOf (command : Command) (made : List ℕ → Archive → Archive) (ns : List ℕ) (a : Archive) : Type 0 where
  pub archive : tried_on command ns a ≡ made (filter (does command a) ns) a
  pub answers : answers_on command ns a ≡ map (does command a) ns

-- tried one after another, it changes each on which the archive does it at first
pub each_of : (command : Command) (made : List ℕ → Archive → Archive) → IsEach command made → (ns : List ℕ) (a : Archive)
    → IsAscending (λ (x y : ℕ). x < y) ns → IsMadeOf command made ns a
each_of command made each [] a up = record { archive = sym (each.none a); answers = refl }
each_of command made each (n ∷ ns) a up = go (command n a) refl (λ b. each_of command made each ns b up.1)
  where
    go : (r : Result Archive ArchiveRefusal) → command n a ≡ r → ((b : Archive) → IsMadeOf command made ns b)
        → IsMadeOf command made (n ∷ ns) a
    go (Err f) e others =
        let more = others a in
        let off : does command a n ≡ false = ap is_ok e in
        record {
          archive = ap (λ r. tried_on command ns (tried a r)) e ∙ more.archive
              ∙ ap (λ b. made (cond b (n ∷ filter (does command a) ns) (filter (does command a) ns)) a) (sym off);
          answers = ap (λ r. is_ok r ∷ answers_on command ns (tried a r)) e ∙ ap (λ l. false ∷ l) more.answers
              ∙ ap (λ b. b ∷ map (does command a) ns) (sym off);
        }
    go (Ok b) e others =
        let more = others b in
        let is = each.one n a b e in
        let on : does command a n ≡ true = ap is_ok e in
        let alike : AllByRecursion (λ (m : ℕ). does command b m ≡ does command a m) ns =
        all_weaker (λ m. n < m) (λ m. does command b m ≡ does command a m)
        (λ m less. ap (λ x. is_ok (command m x)) is ∙ each.apart n m a less) ns up.0 in
        record {
          archive = ap (λ r. tried_on command ns (tried a r)) e ∙ more.archive
              ∙ ap₂ made (same_filter (does command b) (does command a) ns alike) is
              ∙ each.more n (filter (does command a) ns) a
              ∙ ap (λ c. made (cond c (n ∷ filter (does command a) ns) (filter (does command a) ns)) a) (sym on);
          answers = ap (λ r. is_ok r ∷ answers_on command ns (tried a r)) e
              ∙ ap (λ l. true ∷ l) (more.answers ∙ same_map (does command b) (does command a) ns alike)
              ∙ ap (λ c. c ∷ map (does command a) ns) (sym on);
        }

-- ---- the first so many

pub first_ascending : (k : ℕ) (ns : List ℕ) → IsAscending (λ (x y : ℕ). x < y) ns → IsAscending (λ (x y : ℕ). x < y) (take k ns)
first_ascending zero ns up = tt
first_ascending (suc k) [] up = tt
first_ascending (suc k) (n ∷ ns) up = (first_all k ns up.0, first_ascending k ns up.1)
  where
    first_all : (j : ℕ) (ms : List ℕ) → AllByRecursion (λ m. n < m) ms → AllByRecursion (λ m. n < m) (take j ms)
    first_all zero ms h = tt
    first_all (suc j) [] h = tt
    first_all (suc j) (m ∷ ms) h = (h.0, first_all j ms h.1)

-- those of the first are the first of those
pub first_filtered : {X : Type 0} (p : X → Bool) (k : ℕ) (xs : List X)
    → filter p (take k xs) ≡ take (length (filter p (take k xs))) (filter p xs)
first_filtered p zero xs = refl
first_filtered p (suc k) [] = refl
first_filtered p (suc k) (x ∷ xs) = go (p x) (first_filtered p k xs)
  where
    go : (b : Bool) → filter p (take k xs) ≡ take (length (filter p (take k xs))) (filter p xs)
        → cond b (x ∷ filter p (take k xs)) (filter p (take k xs))
        ≡ take (length (cond b (x ∷ filter p (take k xs)) (filter p (take k xs)))) (cond b (x ∷ filter p xs) (filter p xs))
    go true more = ap (λ l. x ∷ l) more
    go false more = more

-- ---- what is told in the end

-- none was refused: so it was done on each
pub none_refused : (p : ℕ → Bool) (ns : List ℕ) → list_any not (map p ns) ≡ false → filter p ns ≡ ns
none_refused p [] h = refl
none_refused p (n ∷ ns) h = go (p n) refl h (λ k. none_refused p ns k)
  where
    go : (b : Bool) → p n ≡ b → (not b || list_any not (map p ns)) ≡ false → (list_any not (map p ns) ≡ false → filter p ns ≡ ns)
        → cond (p n) (n ∷ filter p ns) (filter p ns) ≡ n ∷ ns
    go true e none more = ap (λ c. cond c (n ∷ filter p ns) (filter p ns)) e ∙ ap (λ l. n ∷ l) (more none)
    go false e none more = absurd cc
