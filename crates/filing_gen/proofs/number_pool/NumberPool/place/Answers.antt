use Rattle.std.proofs.Common.{ℕ, List, nat_cmp, sym, ap, ◌∙◌, subst}
use Rattle.std.specs.BTreeMap.{insert_entry}
use Rattle.filing_gen.specs.Pools.{IsAmong, Admits}
use Rattle.filing_gen.proofs.Pools.{number_found, number_came_in}
use Rattle.filing_gen.proofs.number_pool.NumberPool.place.Goals as goal

pub returns-in-Some-clause-there : goal.returns-in-Some-clause-there
returns-in-Some-clause-there c =
    let found = number_found c.args.number c.self.inside.places.entries c.in-Some.place (sym (c.copied.ensures
    ∙ c.get.ensures.value) ∙ c.in-Some.is) in
    let seen = subst (λ (l : List (ℕ × ℕ)). IsAmong (c.args.number, c.in-Some.place) l) c.self.view_is found in
    assumption (seen, found)

pub invariant_of-self-2 : goal.invariant_of-self-2
invariant_of-self-2 c =
    (number_came_in c.args.number c.self.inside.places.entries c.insert.new.self.entries (sym (c.copied.ensures
    ∙ c.get.ensures.value) ∙ c.in_default.is)
    (c.in_ok-insert.ensures.entries
    ∙ ap (λ n. insert_entry nat_cmp c.self.inside.places.entries c.args.number n) c.len-place.ensures.len)
    c.self.invariant).numbered

pub returns-clause-there : goal.returns-clause-there
returns-clause-there c =
    let came = number_came_in c.args.number c.self.inside.places.entries c.insert.new.self.entries
    (sym (c.copied.ensures ∙ c.get.ensures.value) ∙ c.in_default.is)
    (c.in_ok-insert.ensures.entries
    ∙ ap (λ n. insert_entry nat_cmp c.self.inside.places.entries c.args.number n) c.len-place.ensures.len)
    c.self.invariant in
    subst (λ (n : ℕ). IsAmong (c.args.number, n) c.insert.new.self.entries) (sym c.len-place.ensures.len) came.here

pub returns-clause-admits : goal.returns-clause-admits
returns-clause-admits c =
    let came = number_came_in c.args.number c.self.inside.places.entries c.insert.new.self.entries
    (sym (c.copied.ensures ∙ c.get.ensures.value) ∙ c.in_default.is)
    (c.in_ok-insert.ensures.entries
    ∙ ap (λ n. insert_entry nat_cmp c.self.inside.places.entries c.args.number n) c.len-place.ensures.len)
    c.self.invariant in
    subst (λ (l : List (ℕ × ℕ)). Admits l c.insert.new.self.entries) c.self.view_is came.admits
