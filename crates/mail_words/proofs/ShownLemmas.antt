-- A text that is shown word by word.
use Rattle.std.proofs.Common.{◌≡◌, ℕ, zero, suc, ◌<◌, ◌≤◌, Bool, true, false, cond, List, [], ◌∷◌, ◌++◌, length, refl}
use Rattle.std.proofs.Common.{sym, ap, subst, ◌∙◌, arith, Some, None, append_assoc}
use Rattle.std.proofs.lemmas.List.{length-append}
use Rattle.std.specs.Prelude.{◌&&◌}
use Rattle.std.specs.List.{list_all}
use Rattle.mail_words.specs.Unfolding.{is_blank}
use Rattle.mail_words.specs.Words.{Word, spelling, first_word}
use Rattle.mail_words.specs.Decoding.{text_of}
use Rattle.mail_words.specs.Value.{cut_at, cut_words, display_of_word, display, display_of_text, IsPutWord}

-- what was shown, and the rest of the text; the two determine the whole
pub record Showing (all out rest : List ℕ) (after_good : Bool) : Type 0 where
  pub turns : ℕ
  pub enough : length rest ≤ turns
  pub same : out ++ display after_good (cut_words turns rest).0 (cut_words turns rest).1 ≡ all

pub Showing-none : (old text : List ℕ) → Showing (old ++ display_of_text text) old text false
Showing-none old text = record { turns = length text; enough = omega arith; same = refl }

-- the cut of a text after its first word
cut_more : (n : ℕ) (rest gap after : List ℕ) (w : Word) → Some (gap, w, after) ≡ first_word true rest
    → cut_words (suc n) rest ≡ ((gap, w) ∷ (cut_words n after).0, (cut_words n after).1)
unfolding cut_words
cut_more n rest gap after w e = ap (λ o. cut_at rest o (cut_words n)) (sym e)

cut_last : (n : ℕ) (rest : List ℕ) → None ≡ first_word true rest → cut_words n rest ≡ ([], rest)
unfolding cut_words
cut_last zero rest e = refl
cut_last (suc n) rest e = ap (λ o. cut_at rest o (cut_words n)) (sym e)

shown_last : (after_good : Bool) (rest : List ℕ) → display after_good [] rest ≡ rest
unfolding display
shown_last after_good rest = refl

shown_more : (after_good : Bool) (gap : List ℕ) (w : Word) (parts : List (List ℕ × Word)) (last : List ℕ)
    → display after_good ((gap, w) ∷ parts) last ≡ display_of_word after_good gap w (text_of w) (λ good.
    display good parts last)
unfolding display
shown_more after_good gap w parts last = refl

pub Showing-done : (all out rest : List ℕ) (after_good : Bool) → Showing all out rest after_good → None ≡ first_word true rest → out ++ rest ≡ all
Showing-done all out rest after_good h e =
    let cut = cut_last h.turns rest e in
    ap (λ x. out ++ x) (sym (ap (λ c. display after_good c.0 c.1) cut ∙ shown_last after_good rest)) ∙ h.same

-- one more word
record Next (all out rest gap after : List ℕ) (w : Word) (after_good : Bool) : Type 0 where
  pub turns : ℕ
  pub enough : length after ≤ turns
  pub same : out ++ display_of_word after_good gap w (text_of w) (λ good. display good (cut_words turns after).0 (cut_words turns after).1) ≡ all

longer : (rest gap after : List ℕ) (w : Word) → rest ≡ gap ++ (spelling w ++ after) → length after < length rest
longer rest gap after w e = omega (arith, ap length e, length-append gap (spelling w ++ after), length-append (spelling w) after)

next : (all out rest gap after : List ℕ) (w : Word) (after_good : Bool) → Showing all out rest after_good
    → Some (gap, w, after) ≡ first_word true rest → rest ≡ gap ++ (spelling w ++ after)
    → Next all out rest gap after w after_good
next all out rest gap after w after_good h e spelled = at h.turns h.enough h.same
  where
    at : (n : ℕ) → length rest ≤ n → out ++ display after_good (cut_words n rest).0 (cut_words n rest).1 ≡ all
        → Next all out rest gap after w after_good
    at zero enough same = absurd (omega (arith, longer rest gap after w spelled))
    at (suc n) enough same = record {
      turns = n;
      enough = omega (arith, longer rest gap after w spelled);
      same = ap (λ x. out ++ x) (sym (ap (λ c. display after_good c.0 c.1) (cut_more n rest gap after w e)
          ∙ shown_more after_good gap w (cut_words n after).0 (cut_words n after).1)) ∙ same;
    }

-- a word and the gap before it, as they are shown
pub Showing-put : (all out rest gap after new : List ℕ) (w : Word) (after_good good : Bool)
    → Showing all out rest after_good → Some (gap, w, after) ≡ first_word true rest → rest ≡ gap
    ++ (spelling w ++ after) → IsPutWord good after_good gap w out new → Showing all new after good
Showing-put all out rest gap after new w after_good true h e spelled (t, is, put) =
    let n = next all out rest gap after w after_good h e spelled in
    let kept = cond (after_good && list_all is_blank gap) [] gap in
    let tail = display true (cut_words n.turns after).0 (cut_words n.turns after).1 in
    record {
      turns = n.turns;
      enough = n.enough;
      same = ap (λ x. x ++ tail) put ∙ append_assoc out (kept ++ t) tail ∙ ap (λ x. out ++ x) (append_assoc kept t tail)
          ∙ ap (λ o. out ++ display_of_word after_good gap w o (λ good.
          display good (cut_words n.turns after).0 (cut_words n.turns after).1)) (sym is) ∙ n.same;
    }
Showing-put all out rest gap after new w after_good false h e spelled (is, put) =
    let n = next all out rest gap after w after_good h e spelled in
    let tail = display false (cut_words n.turns after).0 (cut_words n.turns after).1 in
    record {
      turns = n.turns;
      enough = n.enough;
      same = ap (λ x. x ++ tail) put ∙ append_assoc out (gap ++ spelling w) tail
          ∙ ap (λ x. out ++ x) (append_assoc gap (spelling w) tail)
          ∙ ap (λ o. out ++ display_of_word after_good gap w o (λ good.
          display good (cut_words n.turns after).0 (cut_words n.turns after).1)) (sym is) ∙ n.same;
    }

pub Showing-next : (all out after rest : List ℕ) (good : Bool) → Showing all out after good → rest ≡ after → Showing all out rest good
Showing-next all out after rest good h e = let P : List ℕ → Type 0 = λ x. Showing all out x good in subst P (sym e) h
