use Rattle.std.proofs.Common.{◌≡◌, ◌∙◌, ◌==◌, ◌&&◌, ◌||◌, not, Bool, true, false, List, [], ◌∷◌, map, refl, sym, ap, arith}
use Rattle.std.proofs.lemmas.Bool.Decides.{nat_tests}
use Rattle.std.specs.List.{list_any}
use Rattle.mail_intake.specs.Telling.{is_of, told_view}
use Rattle.mail_intake.proofs.memory.Memory.is_to_be_told.Goals as goal
use Rattle.mail_intake.proofs.memory.Memory.is_to_be_told.Goals.{then-self-day, else-self-day}

any_viewed : {X Y : Type 0} (p : Y → Bool) (view : X → Y) (xs : List X) → list_any p (map view xs) ≡ list_any (λ x. p (view x)) xs
any_viewed p view [] = refl
any_viewed p view (x ∷ xs) = ap (λ b. p (view x) || b) (any_viewed p view xs)

pub returns : goal.returns
returns c =
    let name = c.args.name.now in
    let words = c.args.words.now in
    let told = c.args.self.now.told.items in
    let known = c.args.self.now.day in
    let day = c.args.day in
    ap not (elim c.if-self-day.branch [
      | then-self-day w ↦
          let same : (known == day) ≡ true = grind (arith, nat_tests, w.if-self-day.true) in
          w.result-is ∙ w.has_told.ensures ∙ ap (list_any (λ t. is_of name words (told_view t))) w.as_slice.ensures.value
          ∙ sym (any_viewed (is_of name words) told_view told)
          ∙ ap (λ b. b && list_any (is_of name words) (map told_view told)) (sym same)
      | else-self-day w ↦
          let other : (known == day) ≡ false = grind (arith, nat_tests, w.if-self-day.false) in
          w.result-is ∙ other ∙ ap (λ b. b && list_any (is_of name words) (map told_view told)) (sym other)
    ])
