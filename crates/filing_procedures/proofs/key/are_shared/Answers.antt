use Rattle.std.proofs.Common.{◌≡◌, ◌<◌, ℕ, Bool, ◌&&◌, Some, sym, ap, ◌∙◌, arith}
use Rattle.std.specs.Cmp.{both_ways}
use Rattle.sieve_meaning.specs.Program.{Commands}
use Rattle.sieve_meaning.specs.Meaning.{ScriptName}
use Rattle.sieve_meaning.specs.Procedures.{is_shared}
use Rattle.sieve_library.specs.BorrowedShelves.{scripts_of}
use Rattle.sieve_library.specs.Libraries.{library_of}
use Rattle.filing_procedures.specs.Sets.{has}
use Rattle.filing_procedures.specs.Slots.{slots_of}
use Rattle.filing_procedures.proofs.KeyLemmas.{shared_from_keys, agree_at}
use Rattle.filing_procedures.proofs.key.are_shared.Goals as goal

pub returns : goal.returns
returns c = λ p q ka kb.
    let r = c.args.reach.now in
    let l = scripts_of r.shelves in
    let long : (s : ScriptName) (x : Commands) → (library_of l).find s ≡ Some x → slots_of l s < 64 = λ s x at.
    (let inside = r.has_slots.inside s x at in omega (arith, inside, r.has_slots.few)) in
    let slot = c.in-Some-Some.slot in
    let e : slot ≡ c.in-Some-Some.other_slot = omega arith in
    let left : c.args.key.left ≡ c.args.other.left = omega arith in
    let sa : c.args.key.slot ≡ Some slot = c.in-Some-Some.is-0 in
    let sb : c.args.other.slot ≡ Some slot = c.in-Some-Some.is-1 ∙ ap (λ (n : ℕ). Some n) (sym e) in
    both_ways c.is_same.result (is_shared (library_of l) p q)
    (λ yes. shared_from_keys l r.slots r.has_slots r.sets.items long r.reaches c.args.key c.args.other p q ka kb slot sa sb left
    (λ k inside. ap (λ (b : Bool). has c.args.key.active k && b) (sym (c.reached-reached.ensures k))
    ∙ sym (c.meet.ensures k) ∙ c.is_same.ensures.0 yes k inside ∙ c.meet-2.ensures k
    ∙ ap (λ (b : Bool). has c.args.other.active k && b) (c.reached-reached.ensures k)))
    (λ shared. c.is_same.ensures.1 (λ k inside.
    c.meet.ensures k
    ∙ ap (λ (b : Bool). has c.args.key.active k && b) (c.reached-reached.ensures k)
    ∙ agree_at l r.slots r.has_slots r.sets.items long r.reaches c.args.key c.args.other p q ka kb slot sa shared k
    ∙ ap (λ (b : Bool). has c.args.other.active k && b) (sym (c.reached-reached.ensures k))
    ∙ sym (c.meet-2.ensures k)))
