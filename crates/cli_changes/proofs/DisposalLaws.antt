-- Disposals, one after the other.
use Rattle.std.proofs.Common.{◌≡◌, ◌∙◌, ◌<◌, ℕ, ℤ, Bool, true, false, List, [], ◌∷◌, ◌++◌, length, Result, Ok, Err}
use Rattle.std.proofs.Common.{refl, sym, ap, subst, append_assoc, append-nil, true≢false}
use Rattle.std.specs.List.{AllByRecursion}
use Rattle.std.specs.List.Sorted.{IsPermutation}
use Rattle.record_choice.specs.Reasons.{MayGo}
use Rattle.std.proofs.lemmas.List.Sorted.{IsPermutation-refl, IsPermutation-sym, IsPermutation-trans, IsPermutation-append}
use Rattle.record_archive.specs.Archive.{Archive, IsArchive, destroy_on}
use Rattle.record_archive.specs.Calls.{Makes}
use Rattle.record_archive.specs.declared.fault.ArchiveRefusal.{ArchiveRefusal}
use Rattle.record_choice.specs.Disposals.{Certificate, Destroys, HandsOver, asked_list}
use Rattle.cli_changes.specs.Destructions.{DisposesAsked, EachOnce, IsDisposal, has_begun, numbers_of}
use Rattle.cli_changes.proofs.DueLaws.{asked_are}

-- none is destroyed
pub none_gone : (Left : Archive → Type 0) (day : ℤ) (these : List ℕ) (a : Archive) → Left a → IsDisposal Left day these false [] a
none_gone Left day these a left =
    record { gone = []; staying = these; each_once = IsPermutation-refl these; destroyed = left; all = λ no. absurd (true≢false (sym no)) }

-- these are the records of another list
pub disposal_of : (Left : Archive → Type 0) (day : ℤ) (these those : List ℕ) (d : Bool) (cs : List Certificate) (a : Archive)
    → IsPermutation those these → IsDisposal Left day these d cs a → IsDisposal Left day those d cs a
disposal_of Left day these those d cs a moved h =
    record { gone = h.gone; staying = h.staying; each_once = IsPermutation-trans _ _ _ moved h.each_once; destroyed = h.destroyed; all = h.all }

-- the same archive is left, as is known otherwise
pub hands_both : {K : Type 0} (hands : K → K → Certificate → Type 0) (old : K) (cs ds : List Certificate) (next new : K)
    → HandsOver hands old cs next → HandsOver hands next ds new → HandsOver hands old (cs ++ ds) new
hands_both hands old [] ds next new h k = subst (λ x. HandsOver hands x ds new) (sym h) k
hands_both hands old (c ∷ cs) ds next new h k = (h.0, h.1, hands_both hands h.0 cs ds next new h.2 k)

-- ---- one disposal after another

pub record Continues (Q : Archive → Type 0) (day : ℤ) (gone next : List ℕ) (d : Bool) (cs ds : List Certificate) (a : Archive) : Type 0 where
  pub more : List ℕ
  pub staying : List ℕ
  pub each_once : IsPermutation next (more ++ staying)
  pub destroyed : Destroys Q day (gone ++ more) (cs ++ ds) a
  pub all : d ≡ true → staying ≡ []

continues : (P Q : Archive → Type 0) (day : ℤ) (gone next : List ℕ) (d : Bool) (cs ds : List Certificate) (a : Archive)
    → ((b : Archive) → P b → IsDisposal Q day next d ds b) → Destroys P day gone cs a → Continues Q day gone next d cs ds a
continues P Q day [] next d [] ds a to h =
    let k = to a h in record { more = k.gone; staying = k.staying; each_once = k.each_once; destroyed = k.destroyed; all = k.all }
continues P Q day [] next d (c ∷ cs) ds a to h = absurd h
continues P Q day (n ∷ ns) next d [] ds a to h = absurd h
continues P Q day (n ∷ ns) next d (c ∷ cs) ds a to h = go (destroy_on a n day) refl h.1 (λ b k. continues P Q day ns next d cs ds b to k)
  where
    go : (r : Result Archive ArchiveRefusal) → destroy_on a n day ≡ r → Makes (Destroys P day ns cs) r
        → ((b : Archive) → Destroys P day ns cs b → Continues Q day ns next d cs ds b) → Continues Q day (n ∷ ns) next d (c ∷ cs) ds a
    go (Ok b) e k then =
        let m = then b k in
        record {
          more = m.more;
          staying = m.staying;
          each_once = m.each_once;
          destroyed = (h.0, subst (Makes (Destroys Q day (ns ++ m.more) (cs ++ ds))) (sym e) m.destroyed);
          all = m.all;
        }
    go (Err f) e k then = absurd k

pub then_disposal : (P Q : Archive → Type 0) (day : ℤ) (before next : List ℕ) (d : Bool) (cs ds : List Certificate) (a : Archive)
    → IsDisposal P day before true cs a → ((b : Archive) → P b → IsDisposal Q day next d ds b)
    → IsDisposal Q day (before ++ next) d (cs ++ ds) a
then_disposal P Q day before next d cs ds a h to =
    let m = continues P Q day h.gone next d cs ds a to h.destroyed in
    let first : IsPermutation before h.gone =
    subst (λ l. IsPermutation before l) (ap (λ l. h.gone ++ l) (h.all refl) ∙ append-nil h.gone) h.each_once in
    record {
      gone = h.gone ++ m.more;
      staying = m.staying;
      each_once = subst (IsPermutation (before ++ next)) (sym (append_assoc h.gone m.more m.staying))
          (IsPermutation-append _ _ _ _ first m.each_once);
      destroyed = m.destroyed;
      all = m.all;
    }

-- others were not reached
pub before_others : (Left : Archive → Type 0) (day : ℤ) (these others : List ℕ) (d : Bool) (cs : List Certificate) (a : Archive)
    → IsDisposal Left day these d cs a → IsDisposal Left day (these ++ others) false cs a
before_others Left day these others d cs a h =
    record {
      gone = h.gone;
      staying = h.staying ++ others;
      each_once = subst (IsPermutation (these ++ others)) (append_assoc h.gone h.staying others)
          (IsPermutation-append _ _ _ _ h.each_once (IsPermutation-refl others));
      destroyed = h.destroyed;
      all = λ no. absurd (true≢false (sym no));
    }

-- THE RECORDS OF SOME NUMBERS are those that are asked for by them
pub asked_disposal : (Left : Archive → Type 0) (day : ℤ) (rs : List ℕ) (d : Bool) (cs : List Certificate) (a : Archive) → IsArchive a
    → 0 < length rs → EachOnce rs → DisposesAsked Left day rs d cs a → IsDisposal Left day rs d cs a
asked_disposal Left day rs d cs a is some once h = go d cs h.these h.may_go
  where
    go : (d : Bool) (cs : List Certificate) → IsDisposal Left day (numbers_of (asked_list a day rs)) d cs a
        → (has_begun d cs ≡ true → AllByRecursion (MayGo a day) rs) → IsDisposal Left day rs d cs a
    go true cs these may =
        disposal_of Left day _ rs true cs a (IsPermutation-sym _ _ (asked_are a is day rs some once (may refl))) these
    go false (c ∷ cs) these may =
        disposal_of Left day _ rs false (c ∷ cs) a (IsPermutation-sym _ _ (asked_are a is day rs some once (may refl))) these
    go false [] these may = none_gone Left day rs a (no_more these.gone these.destroyed)
      where
        no_more : (gone : List ℕ) → Destroys Left day gone [] a → Left a
        no_more [] h = h
        no_more (n ∷ ns) h = absurd h
