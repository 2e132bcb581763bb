-- The classes that a plan answers, one by one, are its rows.
use Rattle.std.proofs.Common.{◌≡◌, List, [], ◌∷◌, ◌++◌, map, ap, sym, ◌∙◌, append_assoc}
use Rattle.std.proofs.lemmas.List.{map-append, append-nil}
use Rattle.class_plan.specs.Plans.{Row}
use Rattle.class_plan.specs.Fields.{MapEntry, row, rows}
use Rattle.class_plan.specs.Parts.{ClassAnswer, answer_row}

pub told-more : (xs : List ClassAnswer) (x : ClassAnswer) (e : MapEntry) (it rest : List MapEntry) (whole : List Row)
    → it ≡ e ∷ rest → answer_row x ≡ row e → map answer_row xs ++ rows it ≡ whole → map answer_row (xs ++ x ∷ [])
    ++ rows rest ≡ whole
told-more xs x e it rest whole cut same so =
    ap (λ l. l ++ rows rest) (map-append answer_row xs (x ∷ []))
    ∙ append_assoc (map answer_row xs) (answer_row x ∷ []) (rows rest)
    ∙ ap (λ r. map answer_row xs ++ (r ∷ rows rest)) same
    ∙ ap (λ z. map answer_row xs ++ rows z) (sym cut)
    ∙ so

pub told-all : (xs : List ClassAnswer) (it : List MapEntry) (whole : List Row) → it ≡ [] → map answer_row xs
    ++ rows it ≡ whole → map answer_row xs ≡ whole
told-all xs it whole none so = sym (append-nil (map answer_row xs)) ∙ ap (λ z. map answer_row xs ++ rows z) (sym none) ∙ so
