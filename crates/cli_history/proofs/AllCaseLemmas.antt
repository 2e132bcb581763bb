-- The case of a name in several stores.
use Rattle.std.proofs.Common.{◌≡◌, ◌∙◌, ◌++◌, ◌∷◌, [], Bool, true, false, ℕ, List, Option, Some, cond, option_map, refl, ap, subst, sym}
use Rattle.std.proofs.lemmas.List.{append_assoc, append-nil}
use Rattle.std.specs.Str.{bytes_eq}
use Rattle.std.proofs.lemmas.Slice.Eq.{bytes_eq-Decides}
use Rattle.cli_console.specs.Sequences.{AreTexts, first_after, one_text, texts_joined}
use Rattle.cli_console.specs.Sinks.{Writes, more_written}
use Rattle.cli_history.specs.AllCases.{Entry, IsEntryText, Name, WholeCase, WritesCases, case_named, case_of, kept_view, with_case, with_next}
use Rattle.cli_history.specs.Printed.{end_of, head_of}
use Rattle.cli_history.specs.declared.all_cases.AllCases.{AllCases}
use Rattle.cli_history.specs.declared.all_cases.Kept.{Kept}

pub mapped : (b : Bool) (k : Kept) (before : Option Kept)
    → option_map kept_view (cond b (Some k) before) ≡ cond b (Some (kept_view k)) (option_map kept_view before)
mapped true k before = refl
mapped false k before = refl

-- the case of a name was taken out, and another one is kept as that of the name
pub added : (name : Name) (old mid new : AllCases) (next whole : WholeCase) (n : Name) (b : Bool) → bytes_eq name.items n.items ≡ b
    → (bytes_eq name.items n.items ≡ true → case_of old n ≡ case_of old name) → whole ≡ with_next (case_of old name) next
    → (bytes_eq name.items n.items ≡ false → case_of mid n ≡ case_of old n)
    → case_of new n ≡ cond (bytes_eq name.items n.items) (Some whole) (case_of mid n)
    → case_of new n ≡ with_case n.items (name.items, next) (case_of old n)
added name old mid new next whole n true is same joined others kept =
    kept ∙ ap (λ b. cond b (Some whole) (case_of mid n)) is ∙ ap (λ w. Some w) (joined ∙ ap (λ c. with_next c next) (sym (same is)))
    ∙ sym (ap (λ b. cond b (Some (with_next (case_of old n) next)) (case_of old n)) is)
added name old mid new next whole n false is same joined others kept =
    kept ∙ ap (λ b. cond b (Some whole) (case_of mid n)) is ∙ others is
    ∙ sym (ap (λ b. cond b (Some (with_next (case_of old n) next)) (case_of old n)) is)

-- one name has one case
pub same_name : (all : AllCases) (name n : Name) → bytes_eq name.items n.items ≡ true → case_of all n ≡ case_of all name
same_name all name n same = ap (case_named all) (sym ((bytes_eq-Decides name.items n.items).0 same))

-- ---- cases that are written

-- the next one is not the first
not_first_after : {X : Type 0} (xs : List X) (x : X) → false ≡ first_after true (xs ++ x ∷ [])
not_first_after [] x = refl
not_first_after (y ∷ xs) x = refl

-- some are written behind what stands before them, and the others are left
pub record AreBegun {K : Type 0} (written : K → List ℕ → Type 0) (is_json : Bool) (entries left : List Entry) (before after : K)
    (is_first : Bool) : Type 0 where
  pub done : List Entry
  pub split : done ++ left ≡ entries
  pub text : List ℕ
  pub are : AreTexts (IsEntryText is_json) true done text
  pub added : Writes written before after (head_of is_json ++ text)
  pub first : is_first ≡ first_after true done

module _ {K : Type 0} (written : K → List ℕ → Type 0) (is_json : Bool) (entries : List Entry) (before : K) where
  pub none_written : (after : K) → Writes written before after (head_of is_json)
      → AreBegun written is_json entries entries before after true
  none_written after head = record {
    done = [];
    split = refl;
    text = [];
    are = refl;
    added = subst (λ t. Writes written before after t) (sym (append-nil (head_of is_json))) head;
    first = refl;
  }

  pub one_written : (e : Entry) (left : List Entry) (mid after : K) (is_first : Bool) (text : List ℕ)
      → AreBegun written is_json entries (e ∷ left) before mid is_first → IsEntryText is_json is_first e text → Writes written mid after text
      → AreBegun written is_json entries left before after false
  one_written e left mid after is_first text so_far is writes = record {
    done = so_far.done ++ e ∷ [];
    split = append_assoc so_far.done (e ∷ []) left ∙ so_far.split;
    text = so_far.text ++ text;
    are = texts_joined (IsEntryText is_json) true so_far.done (e ∷ []) so_far.text text so_far.are
        (one_text (IsEntryText is_json) (first_after true so_far.done) e text
        (subst (λ b. IsEntryText is_json b e text) so_far.first is));
    added = subst (λ t. Writes written before after t) (append_assoc (head_of is_json) so_far.text text)
        (more_written written before mid after (head_of is_json ++ so_far.text) text so_far.added writes);
    first = not_first_after so_far.done e;
  }

  pub all_written : (mid after : K) (is_first : Bool) → AreBegun written is_json entries [] before mid is_first
      → Writes written mid after (end_of is_json) → WritesCases written is_json entries before after
  all_written mid after is_first so_far ends = (
    so_far.text,
    subst (λ es. AreTexts (IsEntryText is_json) true es so_far.text) (sym (append-nil so_far.done) ∙ so_far.split) so_far.are,
    more_written written before mid after (head_of is_json ++ so_far.text) (end_of is_json) so_far.added ends,
  )
