use Rattle.std.proofs.Common.{◌≡◌, None, length, ◌<◌, ◌≤◌, sym, ◌∙◌, refl, rules, arith, position}
use Rattle.std.proofs.lemmas.Grind.{common_steps}
use Rattle.sieve_library.specs.Libraries.{is_named}
use Rattle.sieve_library.proofs.EntryLemmas.{replaced, found_replaced, location_replaced, has_room, added, found_added}
use Rattle.sieve_library.proofs.EntryLemmas.{location_added, not_there, no_room}
use Rattle.sieve_library.proofs.shelf.Shelf.put.Goals.{After-len}
use Rattle.sieve_library.proofs.shelf.Shelf.put.Goals as goal

-- no entry has the name
none : (c : After-len) → position (is_named c.args.name.now) c.args.self.now ≡ None
none c = let is : c.place.result ≡ None = search rules in sym c.place.ensures ∙ is

pub invariant_of-self : goal.invariant_of-self
invariant_of-self c =
    location_replaced c.args.name.now c.self.inside.entries.items c.self.view_is
    (record { name = c.index_mut.result.now.name; script = c.args.script }) (sym c.place.ensures ∙ c.in-Some.is)
    c.index_mut.ensures.value refl c.self.invariant

pub returns-in-Some-clause-ok : goal.returns-in-Some-clause-ok
returns-in-Some-clause-ok c =
    replaced c.args.name.now c.self.inside.entries.items c.self.view_is
    (record { name = c.index_mut.result.now.name; script = c.args.script }) (sym c.place.ensures ∙ c.in-Some.is) c.index_mut.ensures.value refl

pub returns-in-Some-clause-found : goal.returns-in-Some-clause-found
returns-in-Some-clause-found c =
    found_replaced c.args.name.now c.self.inside.entries.items c.self.view_is
    (record { name = c.index_mut.result.now.name; script = c.args.script }) (sym c.place.ensures ∙ c.in-Some.is) c.index_mut.ensures.value refl

pub returns-in-Some-clause-full : goal.returns-in-Some-clause-full
returns-in-Some-clause-full c = (
  λ h. absurd (cc h),
  λ h. absurd (has_room c.args.name.now c.self.inside.entries.items c.self.view_is (sym c.place.ensures ∙ c.in-Some.is) c.index_mut.ensures.value h),
)

pub returns-then-len-ge-MAX_SCRIPTS-clause-full : goal.returns-then-len-ge-MAX_SCRIPTS-clause-full
returns-then-len-ge-MAX_SCRIPTS-clause-full c =
    let many : 32 ≤ length c.self.inside.entries.items = grind (arith, common_steps) in (
      λ _. no_room c.args.name.now c.self.inside.entries.items c.self.view_is (none (goal.at.returns-then-len-ge-MAX_SCRIPTS-clause-full c).After-len)
          many c.self.invariant,
      λ _. refl,
    )

pub returns-then-len-ge-MAX_SCRIPTS-clause-replaced : goal.returns-then-len-ge-MAX_SCRIPTS-clause-replaced
returns-then-len-ge-MAX_SCRIPTS-clause-replaced c =
    λ h. absurd (not_there c.args.name.now c.args.self.now (none (goal.at.returns-then-len-ge-MAX_SCRIPTS-clause-replaced c).After-len) h)

pub returns-in_err-name-clause-replaced : goal.returns-in_err-name-clause-replaced
returns-in_err-name-clause-replaced c =
    λ h. absurd (not_there c.args.name.now c.args.self.now (none (goal.at.returns-in_err-name-clause-replaced c).After-len) h)

pub returns-in_err-push-clause-replaced : goal.returns-in_err-push-clause-replaced
returns-in_err-push-clause-replaced c =
    λ h. absurd (not_there c.args.name.now c.args.self.now (none (goal.at.returns-in_err-push-clause-replaced c).After-len) h)

pub invariant_of-self-2 : goal.invariant_of-self-2
invariant_of-self-2 c =
    let few : length c.self.inside.entries.items < 32 = grind (arith, common_steps) in
    rw c.in_ok-push.ensures.items (location_added c.args.name.now c.self.inside.entries.items c.self.view_is
    (record { name = c.in_ok-name.name; script = c.args.script }) (none (goal.at.invariant_of-self-2 c).After-len)
    c.in_ok-name.ensures.items few c.self.invariant)

pub returns-clause-ok : goal.returns-clause-ok
returns-clause-ok c =
    rw c.in_ok-push.ensures.items (added c.args.name.now c.self.inside.entries.items c.self.view_is
    (record { name = c.in_ok-name.name; script = c.args.script }) (none (goal.at.returns-clause-ok c).After-len) c.in_ok-name.ensures.items)

pub returns-clause-found : goal.returns-clause-found
returns-clause-found c =
    rw c.in_ok-push.ensures.items (found_added c.args.name.now c.self.inside.entries.items c.self.view_is
    (record { name = c.in_ok-name.name; script = c.args.script }) (none (goal.at.returns-clause-found c).After-len) c.in_ok-name.ensures.items)
