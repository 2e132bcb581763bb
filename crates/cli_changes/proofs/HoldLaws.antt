-- Holds that are placed, or ended, one after another.
use Rattle.std.proofs.Common.{◌≡◌, ◌<◌, ◌==◌, ℕ, Bool, true, false, not, ◌||◌, ◌&&◌, cond, List, [], ◌∷◌, ◌++◌, map, filter}
use Rattle.std.proofs.Common.{Option, Some, None, Ok, Err, is_ok, refl, sym, ap, ap₂, ◌∙◌, arith, append_assoc}
use Rattle.std.specs.List.{list_any}
use Rattle.std.specs.Str.{bytes_eq}
use Rattle.std.proofs.lemmas.Bool.Decides.{nat_tests}
use Rattle.std.proofs.lemmas.List.{append-nil}
use Rattle.std.proofs.lemmas.List.Elements.{filter_agree}
use Rattle.std.proofs.lemmas.List.Folds.{list_any-append}
use Rattle.record_archive.specs.Archive.{Archive, Hold, Record, record_at, is_hold, is_held_by, hold_one, release_one, with_hold, without_hold}
use Rattle.record_archive.specs.declared.fault.ArchiveRefusal.TheVariants as refusal
use Rattle.record_choice.specs.Disposals.{is_one_of}
use Rattle.cli_choice.specs.declared.holds.Change.{Change}
use Rattle.cli_choice.specs.declared.holds.Change.TheVariants.{Place, End}
use Rattle.cli_changes.specs.Holdings.{changed_on, hold_command, hold_of}
use Rattle.cli_changes.proofs.SeriesLaws.{IsEach, or_off}

-- ---- one hold

pub other_number : (m n : ℕ) → m < n → (m == n) ≡ false
other_number m n h = grind (arith, nat_tests, h)

-- whether the archive places a hold on a record, or ends one, by what it has of it
abbrev pub places : Option Record → (is_held : Bool) → Bool
places None h = false
places (Some r) h = not r.destroyed && not h

abbrev pub ends : Option Record → (is_held : Bool) → Bool
ends None h = false
ends (Some r) h = h

pub places_is : (a : Archive) (name : List ℕ) (n : ℕ) (o : Option Record) → is_ok (hold_one a name n o) ≡ places o (is_held_by a name n)
places_is a name n None = refl
places_is a name n (Some r) = go r.destroyed (is_held_by a name n)
  where
    go : (d h : Bool) → is_ok (cond d (Err refusal.Destroyed) (cond h (Err refusal.HoldThere) (Ok (with_hold a name n)))) ≡ (not d && not h)
    go true h = refl
    go false true = refl
    go false false = refl

pub ends_is : (a : Archive) (name : List ℕ) (n : ℕ) (o : Option Record) → is_ok (release_one a name n o) ≡ ends o (is_held_by a name n)
ends_is a name n None = refl
ends_is a name n (Some r) = go (is_held_by a name n)
  where
    go : (h : Bool) → is_ok (cond h (Ok (without_hold a name n)) (Err refusal.NoHold)) ≡ h
    go true = refl
    go false = refl

placed : (a b : Archive) (name : List ℕ) (n : ℕ) (o : Option Record) → hold_one a name n o ≡ Ok b → b ≡ with_hold a name n
placed a b name n None e = absurd cc
placed a b name n (Some r) e = go r.destroyed (is_held_by a name n) e
  where
    go : (d h : Bool) → cond d (Err refusal.Destroyed) (cond h (Err refusal.HoldThere) (Ok (with_hold a name n))) ≡ Ok b → b ≡ with_hold a name n
    go true h k = absurd cc
    go false true k = absurd cc
    go false false k = cc

ended : (a b : Archive) (name : List ℕ) (n : ℕ) (o : Option Record) → release_one a name n o ≡ Ok b → b ≡ without_hold a name n
ended a b name n None e = absurd cc
ended a b name n (Some r) e = go (is_held_by a name n) e
  where
    go : (h : Bool) → cond h (Ok (without_hold a name n)) (Err refusal.NoHold) ≡ Ok b → b ≡ without_hold a name n
    go true k = cc
    go false k = absurd cc

-- ---- each for itself

none_off : (b : Bool) → not (b && false) ≡ true
none_off true = refl
none_off false = refl

none_ended : (name : List ℕ) (hs : List Hold) → filter (λ (h : Hold). not (bytes_eq h.name name && false)) hs ≡ hs
none_ended name [] = refl
none_ended name (h ∷ hs) = ap₂ (λ b l. cond b (h ∷ l) l) (none_off (bytes_eq h.name name)) (none_ended name hs)

pub both_off : (b : Bool) → (b && false) ≡ false
both_off true = refl
both_off false = refl

-- a hold on another record
held_apart : (name : List ℕ) (n m : ℕ) (hs : List Hold) → n < m → list_any (is_hold name m) (hs ++ hold_of name n ∷ []) ≡ list_any (is_hold name m) hs
held_apart name n m hs less =
    list_any-append (is_hold name m) hs (hold_of name n ∷ [])
    ∙ ap (λ b. list_any (is_hold name m) hs || ((bytes_eq name name && b) || false)) (other_number n m less)
    ∙ ap (λ b. list_any (is_hold name m) hs || (b || false)) (both_off (bytes_eq name name))
    ∙ or_off (list_any (is_hold name m) hs)

-- the end of a hold on another record
kept_apart : (name : List ℕ) (n m : ℕ) (hs : List Hold) → n < m
    → list_any (is_hold name m) (filter (λ (h : Hold). not (bytes_eq h.name name && ((h.number == n) || false))) hs) ≡ list_any (is_hold name m) hs
kept_apart name n m [] less = refl
kept_apart name n m (h ∷ hs) less = go (bytes_eq h.name name) (h.number == n) refl refl (kept_apart name n m hs less)
  where
    rest : List Hold
    rest = filter (λ (x : Hold). not (bytes_eq x.name name && ((x.number == n) || false))) hs

    go : (b c : Bool) → bytes_eq h.name name ≡ b → (h.number == n) ≡ c → list_any (is_hold name m) rest ≡ list_any (is_hold name m) hs
        → list_any (is_hold name m) (cond (not (b && (c || false))) (h ∷ rest) rest) ≡ (is_hold name m h || list_any (is_hold name m) hs)
    go true true e f more =
        let same : h.number ≡ n = grind (arith, nat_tests, f) in
        more ∙ ap (λ x. x || list_any (is_hold name m) hs) (sym (ap (λ k. bytes_eq h.name name && (k == m)) same
        ∙ ap (λ x. bytes_eq h.name name && x) (other_number n m less) ∙ both_off (bytes_eq h.name name)))
    go true false e f more = ap (λ x. is_hold name m h || x) more
    go false c e f more = ap (λ x. is_hold name m h || x) more

one_off : (name : List ℕ) (n : ℕ) (hs : List Hold)
    → filter (λ (h : Hold). not (is_hold name n h)) hs ≡ filter (λ (h : Hold). not (bytes_eq h.name name && ((h.number == n) || false))) hs
one_off name n [] = refl
one_off name n (h ∷ hs) =
    ap₂ (λ b l. cond (not (bytes_eq h.name name && b)) (h ∷ l) l) (sym (or_off (h.number == n))) (one_off name n hs)

both_one : {X : Type 0} (b c : Bool) (p : X → Bool) (x : X) (l m : List X) → p x ≡ c → filter p l ≡ m
    → filter p (cond b (x ∷ l) l) ≡ cond (b && c) (x ∷ m) m
both_one true true p x l m e f = ap₂ (λ d k. cond d (x ∷ k) k) e f
both_one true false p x l m e f = ap₂ (λ d k. cond d (x ∷ k) k) e f
both_one false c p x l m e f = f

pub filter_both : {X : Type 0} (p q : X → Bool) (xs : List X) → filter p (filter q xs) ≡ filter (λ x. q x && p x) xs
filter_both p q [] = refl
filter_both p q (x ∷ xs) = both_one (q x) (p x) p x (filter q xs) (filter (λ y. q y && p y) xs) refl (filter_both p q xs)

off_both : (b c d : Bool) → (not (b && (c || false)) && not (b && d)) ≡ not (b && (c || d))
off_both true true d = refl
off_both true false d = refl
off_both false c d = refl

then_off : (name : List ℕ) (n : ℕ) (ns : List ℕ) (hs : List Hold)
    → filter (λ (h : Hold). not (bytes_eq h.name name && is_one_of ns h.number))
    (filter (λ (h : Hold). not (bytes_eq h.name name && ((h.number == n) || false))) hs)
    ≡ filter (λ (h : Hold). not (bytes_eq h.name name && is_one_of (n ∷ ns) h.number)) hs
then_off name n ns hs =
    filter_both (λ (h : Hold). not (bytes_eq h.name name && is_one_of ns h.number))
    (λ (h : Hold). not (bytes_eq h.name name && ((h.number == n) || false))) hs
    ∙ filter_agree _ _ (λ h. off_both (bytes_eq h.name name) (h.number == n) (is_one_of ns h.number)) hs

pub hold_is_each : (change : Change) (name : List ℕ) → IsEach (hold_command change name) (changed_on change name)
hold_is_each Place name = record {
  none = λ a. ap (λ h. record a { holds = h }) (append-nil a.holds);
  one = λ n a b e. placed a b name n (record_at a n) e;
  more = λ n ns a. ap (λ h. record a { holds = h }) (append_assoc a.holds (hold_of name n ∷ []) (map (hold_of name) ns));
  apart = λ n m a less. places_is (changed_on Place name (n ∷ []) a) name m (record_at a m)
      ∙ ap (places (record_at a m)) (held_apart name n m a.holds less) ∙ sym (places_is a name m (record_at a m));
}
hold_is_each End name = record {
  none = λ a. ap (λ h. record a { holds = h }) (none_ended name a.holds);
  one = λ n a b e. ended a b name n (record_at a n) e ∙ ap (λ h. record a { holds = h }) (one_off name n a.holds);
  more = λ n ns a. ap (λ h. record a { holds = h }) (then_off name n ns a.holds);
  apart = λ n m a less. ends_is (changed_on End name (n ∷ []) a) name m (record_at a m)
      ∙ ap (ends (record_at a m)) (kept_apart name n m a.holds less) ∙ sym (ends_is a name m (record_at a m));
}
