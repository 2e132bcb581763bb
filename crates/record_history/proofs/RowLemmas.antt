-- Classes that are read one after the other.
use Rattle.std.proofs.Common.{◌≡◌, ℕ, ◌+◌, ◌<◌, ◌≤◌, List, [], ◌∷◌, ◌++◌, map, drop, get_or, length, Option, Some, None, refl, ap, sym, ◌∙◌, subst}
use Rattle.std.proofs.Common.{Bor, append_assoc}
use Rattle.std.specs.Prelude.{All}
use Rattle.std.proofs.lemmas.List.{map-append, drop_more, drop_all, append-nil}
use Rattle.std.proofs.lemmas.List.Elements.{All-push}
use Rattle.class_plan.specs.Parts.{ClassAnswer, answer_row}
use Rattle.class_plan.specs.Plans.{Row}
use Rattle.class_plan.specs.Texts.{◌>>=◌}
use Rattle.record_history.specs.declared.faults.LineFault.{LineFault}
use Rattle.record_history.specs.declared.faults.LineFault.TheVariants.{NotALine, NoMemory}
use Rattle.record_history.specs.Reading.{Fails, row_of, rows_of}
use Rattle.record_history.specs.RowsLeft.{with_rows}

step : (front : List Row) (p : List ℕ) (ps : List (List ℕ)) (r : Row) → row_of p ≡ Some r
    → with_rows front (rows_of (p ∷ ps)) ≡ with_rows (front ++ r ∷ []) (rows_of ps)
unfolding rows_of
step front p ps r is = rw is (go (rows_of ps))
  where
    go : (o : Option (List Row)) → with_rows front (o >>= λ rs. Some (r ∷ rs)) ≡ with_rows (front ++ r ∷ []) o
    go None = refl
    go (Some rs) = ap Some (sym (append_assoc front (r ∷ []) rs))

fail : (front : List Row) (p : List ℕ) (ps : List (List ℕ)) → row_of p ≡ None → with_rows front (rows_of (p ∷ ps)) ≡ None
unfolding rows_of
fail front p ps is = rw is refl

abbrev nows : List (Bor (List ℕ)) → List (List ℕ)
nows ps = map (λ p. p.now) ps

pub rows_more : (old new : List ClassAnswer) (x : ClassAnswer) (parts : List (Bor (List ℕ))) (i : ℕ) (d : Bor (List ℕ))
    (whole : Option (List Row)) → new ≡ old ++ x ∷ [] → i < length parts → row_of (get_or parts i d).now ≡ Some (answer_row x)
    → with_rows (map answer_row old) (rows_of (nows (drop i parts))) ≡ whole
    → with_rows (map answer_row new) (rows_of (nows (drop (i + 1) parts))) ≡ whole
rows_more old new x parts i d whole is within read kept =
    let rest = nows (drop (i + 1) parts) in
    ap (λ l. with_rows (map answer_row l) (rows_of rest)) is
    ∙ ap (λ l. with_rows l (rows_of rest)) (map-append answer_row old (x ∷ []))
    ∙ sym (step (map answer_row old) (get_or parts i d).now rest (answer_row x) read)
    ∙ ap (λ l. with_rows (map answer_row old) (rows_of (nows l))) (sym (drop_more parts i d within))
    ∙ kept

pub range_more : (P : Row → Type 0) (old new : List ClassAnswer) (x : ClassAnswer) → new ≡ old ++ x ∷ [] → All P (map answer_row old)
    → P (answer_row x) → All P (map answer_row new)
range_more P old new x is kept here =
    let Q : List Row → Type 0 = λ rs. All P rs in
    subst Q (sym (ap (map answer_row) is ∙ map-append answer_row old (x ∷ []))) (All-push P (map answer_row old) (answer_row x) kept here)

pub rows_fail : (fault : LineFault) (front : List Row) (parts : List (Bor (List ℕ))) (i : ℕ) (d : Bor (List ℕ)) (whole : Option (List Row))
    → i < length parts → Fails fault (row_of (get_or parts i d).now) → with_rows front (rows_of (nows (drop i parts))) ≡ whole
    → Fails fault whole
rows_fail NoMemory front parts i d whole within h kept = tt
rows_fail NotALine front parts i d whole within h kept =
    sym kept ∙ ap (λ l. with_rows front (rows_of (nows l))) (drop_more parts i d within)
    ∙ fail front (get_or parts i d).now (nows (drop (i + 1) parts)) h

pub rows_end : (front : List Row) (parts : List (Bor (List ℕ))) (i : ℕ) (whole : Option (List Row)) → length parts ≤ i
    → with_rows front (rows_of (nows (drop i parts))) ≡ whole → whole ≡ Some front
unfolding rows_of
rows_end front parts i whole past kept =
    sym kept ∙ ap (λ l. with_rows front (rows_of (nows l))) (drop_all i parts past) ∙ ap Some (append-nil front)
