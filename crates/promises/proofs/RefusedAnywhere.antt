-- Refusals by a registry, on any disk.
use Rattle.std.proofs.Common.{◌≡◌, ◌≢◌, ℕ, Bool, true, false, refl, inl, subst}
use Rattle.record_archive.specs.Calls.{Keeper}
use Rattle.desk_commands.specs.Answers.{refused}
use Rattle.desk_commands.specs.ArchiveAnswers.{is_of_archive}
use Rattle.desk_commands.specs.Calls.{Leads}
use Rattle.desk_commands.specs.Standing.{Standing, Step}
use Rattle.promises.specs.RefusedCalls.{IsLeftBy, RefusedCall}
use Rattle.promises.proofs.Unchanged.{refused_unchanged, steps_kept}

not_both : (b : Bool) → b ≡ false → b ≡ true → ⊥
not_both true off on = cc
not_both false off on = cc

module _ {D : Type 0} (keeper : Keeper D Standing) where
  abbrev comes_from_archive : RefusedCall keeper → Bool
  comes_from_archive x = is_of_archive x.command (refused x.number x.offset)

  -- the state after a refusal that does not come from the archive
  led : (x : RefusedCall keeper) → comes_from_archive x ≡ false → Leads keeper x.new (Step x.state x.command
      (refused x.number x.offset))
  led x own = x.call.leads (λ from_archive. absurd (not_both (comes_from_archive x) own from_archive)) x.state x.at_begin

  pub unchanged_at_registry : (x : RefusedCall keeper) → x.number ≢ 99 → keeper.stands x.new x.state
  unchanged_at_registry x other = go (comes_from_archive x) refl
    where
      go : (b : Bool) → comes_from_archive x ≡ b → keeper.stands x.new x.state
      go true from_archive = x.call.unchanged from_archive refl x.state x.at_begin
      go false own =
          let l = led x own in
          let P : Standing → Type 0 = λ s. keeper.stands x.new s in
          subst P (refused_unchanged x.state x.command x.number x.offset l.to l.is_one other) l.there

  pub no_memory_at_registry : (x : RefusedCall keeper) → x.number ≡ 99 → IsLeftBy keeper x.state x.command x.new
  no_memory_at_registry x poor = go (comes_from_archive x) refl
    where
      go : (b : Bool) → comes_from_archive x ≡ b → IsLeftBy keeper x.state x.command x.new
      go true from_archive = record { to = x.state; there = x.call.unchanged from_archive refl x.state x.at_begin; steps = inl refl }
      go false own =
          let l = led x own in
          let P : ℕ → Type 0 = λ n. Step x.state x.command (refused n x.offset) l.to in
          record { to = l.to; there = l.there; steps = steps_kept x.state x.command x.offset l.to (subst P poor l.is_one) }
