-- Rows of named scripts, and of the patience that is asked between turns.
use Rattle.std.proofs.Common.{◌≡◌, List, ℕ, suc, [], ◌∷◌, Bool, true, false, Some, None, Ok, refl}
use Rattle.std.specs.Prelude.{codes}
use Rattle.record_archive.specs.Calls.{Keeper}
use Rattle.desk_commands.specs.Answers.{ended, refused, running}
use Rattle.desk_commands.specs.Standing.{Standing}
use Rattle.sieve_meaning.specs.Program.{Commands}
use Rattle.desk_commands.specs.Scripts.{script_at, put_script, library}
use Rattle.filing_desk.specs.Deliveries.{Delivers, Lasts, tells_end}
use Rattle.filing_desk.specs.declared.deliveries.Delivery.TheVariants.{OutOfTime}
use Rattle.filing_desk.specs.declared.deliveries.OnFault.{OnFault}

module _ (a b c : Commands) where
  two : List (List ℕ × Commands)
  two = (codes "a", a) ∷ (codes "b", b) ∷ []

  second_found : script_at (codes "b") two ≡ Some b
  unfolding two
  second_found = refl

  other_missing : script_at (codes "c") two ≡ None
  unfolding two
  other_missing = refl

  first_replaced : put_script (codes "a") c two ≡ (codes "a", c) ∷ (codes "b", b) ∷ []
  unfolding two
  first_replaced = refl

  third_last : put_script (codes "c") c two ≡ (codes "a", a) ∷ (codes "b", b) ∷ (codes "c", c) ∷ []
  unfolding two
  third_last = refl

  global_found : (library [] two).find (record { global = true; name = codes "a" }) ≡ Some a
  unfolding two
  global_found = refl

  personal_missing : (library [] two).find (record { global = false; name = codes "a" }) ≡ None
  unfolding two
  personal_missing = refl

end_told : tells_end (ended 3) ≡ true
end_told = refl

turns_left : tells_end (running 3) ≡ false
turns_left = refl

refusal_no_end : tells_end (refused 99 None) ≡ false
refusal_no_end = refl

-- a patience for so many questions
abbrev counts : ℕ → Bool → ℕ → Type 0
counts old over new = (old ≡ suc new) × (over ≡ false)

lasts_twice : Lasts counts 3 2 1
lasts_twice = (2, (3, refl, (refl, refl)), (refl, refl))

-- with a patience that is never over no message is out of time
never_out : {D P : Type 0} (keeper : Keeper D Standing) (asked : P → Bool → P → Type 0) (old new : D) (officer : List ℕ)
    (moment : ℕ) (message : List ℕ) (on_fault : OnFault) (before after : P) → ((p q : P) → asked p true q → ⊥)
    → Delivers keeper asked old officer moment message on_fault before (Ok OutOfTime) after new → ⊥
never_out keeper asked old new officer moment message on_fault before after never (calls, (t, cut), follows, kept) =
    let (b, mid, run, over, same) = cut in never mid after over
