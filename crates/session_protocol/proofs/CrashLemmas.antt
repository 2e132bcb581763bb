-- What a crash leaves of a run of desks.
use Rattle.std.proofs.Common.{◌≡◌, ◌⊎◌, ◌&&◌, inl, inr, zero, suc, List, [], ◌∷◌, Bool, true, false, not, refl, subst}
use Rattle.record_archive.specs.Calls.{Keeper}
use Rattle.desk_commands.specs.Answers.{Answer}
use Rattle.desk_commands.specs.Calls.{Calls}
use Rattle.desk_commands.specs.Standing.{Standing, is_refusal}
use Rattle.session_protocol.specs.Crashes.{AreUndone, IsLeftOf, is_carried_out}
use Rattle.session_protocol.specs.Laws.{is_item_of_archive}
use Rattle.session_protocol.specs.Session.{Item, Call, UnknownCommand, WrongWord, ItemStep, Run}
use Rattle.session_protocol.proofs.Refinement.{item_refines, run_refines}

both_hold : (x y : Bool) → (x && not y) ≡ true → (x ≡ true) × (y ≡ false)
both_hold true false e = (refl, refl)
both_hold true true e = absurd cc
both_hold false y e = absurd cc

module _ {D : Type 0} (keeper : Keeper D Standing) where
  -- what a crash leaves after the first item, where the archive has carried out nothing after it
  item_leaves : (i : Item) (a : Answer) (items : List Item) (answers : List Answer) (old mid : D)
      → ItemStep (Calls keeper) old i a mid → keeper.clean mid → (s : Standing) → keeper.stands old s
      → (image : keeper.remains) → keeper.may_leave mid image → AreUndone items answers
      → (keeper.may_leave old image × AreUndone (i ∷ items) (a ∷ answers)) ⊎ IsLeftOf keeper.keeps image s (i ∷ items) (a ∷ answers)
  item_leaves (Call c) a items answers old mid step ok s there image may undone = go (is_carried_out (Call c) a) refl
    where
      go : (b : Bool) → is_carried_out (Call c) a ≡ b
          → (keeper.may_leave old image × AreUndone (Call c ∷ items) (a ∷ answers)) ⊎ IsLeftOf keeper.keeps image s (Call c ∷ items) (a ∷ answers)
      go true carried =
          let is = both_hold (is_item_of_archive (Call c) a) (is_refusal a) carried in
          let one = step.kept is.0 is.1 ok s there image may in
          inr (record {
            count = suc zero;
            done = one.to;
            run = (one.to, one.is_one, refl);
            undone = undone;
            to = one.to;
            one_more = inl refl;
            kept = one.kept;
          })
      go false apart = elim (step.crash ok s there image may) [
        | inl before ↦ inl (before, (apart, undone))
        | inr made ↦
            let one = made.1 in
            inr (record {
              count = zero;
              done = s;
              run = refl;
              undone = (apart, undone);
              to = one.to;
              one_more = inr (made.0, one.is_one);
              kept = one.kept;
            })
      ]
  item_leaves UnknownCommand a items answers old mid step ok s there image may undone =
      inl (let P : D → Type 0 = λ d. keeper.may_leave d image in subst P step.1 may, (refl, undone))
  item_leaves WrongWord a items answers old mid step ok s there image may undone =
      inl (let P : D → Type 0 = λ d. keeper.may_leave d image in subst P step.1 may, (refl, undone))

  pub run_leaves : (items : List Item) (answers : List Answer) (old new : D)
      → Run (Calls keeper) old items answers new → keeper.clean new → (s : Standing) → keeper.stands old s
      → (image : keeper.remains) → keeper.may_leave new image
      → (keeper.may_leave old image × AreUndone items answers) ⊎ IsLeftOf keeper.keeps image s items answers
  run_leaves [] [] old new run ok s there image may = inl (let P : D → Type 0 = λ d. keeper.may_leave d image in subst P run may, tt)
  run_leaves (i ∷ items) (a ∷ answers) old new run ok s there image may =
      let sure = (run_refines keeper items answers run.0 new run.2 ok).0 in
      let first = (item_refines keeper i a old run.0 run.1 sure).1 s there in
      elim (run_leaves items answers run.0 new run.2 ok first.to first.there image may) [
        | inl nothing ↦ item_leaves i a items answers old run.0 run.1 sure s there image nothing.0 nothing.1
        | inr left ↦ inr (record {
          count = suc left.count;
          done = left.done;
          run = (first.to, first.is_one, left.run);
          undone = left.undone;
          to = left.to;
          one_more = left.one_more;
          kept = left.kept;
        })
      ]
  run_leaves [] (a ∷ answers) old new run ok s there image may = absurd run
  run_leaves (i ∷ items) [] old new run ok s there image may = absurd run
