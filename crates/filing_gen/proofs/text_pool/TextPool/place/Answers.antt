use Rattle.std.proofs.Common.{ℕ, List, Result, Ok, Err, length, sym, ap, ◌∙◌, subst}
use Rattle.std.specs.Prelude.{IfErr}
use Rattle.std.specs.BTreeMap.{insert_entry}
use Rattle.filing_gen.specs.Pools.{IsAmong, Admits, texts_in}
use Rattle.filing_gen.proofs.Pools.{cmp_texts, text_found, text_missing, text_came_in, texts_more}
use Rattle.filing_gen.proofs.text_pool.TextPool.place.Goals as goal

pub returns-in-Some-clause-there : goal.returns-in-Some-clause-there
returns-in-Some-clause-there c =
    let found = text_found c.args.text.now c.self.inside.places.entries c.in-Some.place (sym (c.copied.ensures
    ∙ c.get.ensures.value) ∙ c.in-Some.is) in
    let seen = subst (λ (l : List (List ℕ × ℕ)). IsAmong (c.args.text.now, c.in-Some.place) l) c.self.view_is found in
    assumption (seen, found)

pub invariant_of-self-2 : goal.invariant_of-self-2
invariant_of-self-2 c =
    let came = text_came_in c.args.text.now c.in_ok-text.text c.self.inside.places.entries c.insert.new.self.entries
    c.in_ok-text.ensures.items (sym (c.copied.ensures ∙ c.get.ensures.value) ∙ c.in_default.is)
    (c.in_ok-insert.ensures.entries
    ∙ ap (λ n. insert_entry cmp_texts c.self.inside.places.entries c.in_ok-text.text n) c.len-place.ensures.len)
    c.self.invariant.numbered in
    texts_more c.args.text.now c.in_ok-text.text (length c.self.inside.places.entries) c.self.inside.places.entries
    c.insert.new.self.entries c.in_ok-text.ensures.items c.requires.short c.self.invariant came.numbered came.only

pub returns-clause-there : goal.returns-clause-there
returns-clause-there c =
    let came = text_came_in c.args.text.now c.in_ok-text.text c.self.inside.places.entries c.insert.new.self.entries
    c.in_ok-text.ensures.items (sym (c.copied.ensures ∙ c.get.ensures.value) ∙ c.in_default.is)
    (c.in_ok-insert.ensures.entries
    ∙ ap (λ n. insert_entry cmp_texts c.self.inside.places.entries c.in_ok-text.text n) c.len-place.ensures.len)
    c.self.invariant.numbered in
    subst (λ (n : ℕ). IsAmong (c.args.text.now, n) (texts_in c.insert.new.self.entries)) (sym c.len-place.ensures.len)
    (subst (λ (t : List ℕ). IsAmong (t, length c.self.inside.places.entries) (texts_in c.insert.new.self.entries))
    c.in_ok-text.ensures.items came.here)

pub returns-clause-admits : goal.returns-clause-admits
returns-clause-admits c =
    let came = text_came_in c.args.text.now c.in_ok-text.text c.self.inside.places.entries c.insert.new.self.entries
    c.in_ok-text.ensures.items (sym (c.copied.ensures ∙ c.get.ensures.value) ∙ c.in_default.is)
    (c.in_ok-insert.ensures.entries
    ∙ ap (λ n. insert_entry cmp_texts c.self.inside.places.entries c.in_ok-text.text n) c.len-place.ensures.len)
    c.self.invariant.numbered in
    subst (λ (l : List (List ℕ × ℕ)). Admits l (texts_in c.insert.new.self.entries)) c.self.view_is came.admits

-- what is known of any error
any_error : {A E : Type 0} (r : Result A E) (P : Type 0) → P → IfErr r (λ _. P)
any_error (Ok x) P h = tt
any_error (Err e) P h = h

pub returns-in_err-text-clause-modest : goal.returns-in_err-text-clause-modest
returns-in_err-text-clause-modest c =
    any_error c.from_residual.result _ (λ b at.
    text_missing c.args.text.now c.self.inside.places.entries b (sym (c.copied.ensures ∙ c.get.ensures.value)
    ∙ c.in_default.is)
    (subst (λ (l : List (List ℕ × ℕ)). IsAmong (c.args.text.now, b) l) (sym c.self.view_is) at))

pub returns-in_err-insert-clause-modest : goal.returns-in_err-insert-clause-modest
returns-in_err-insert-clause-modest c =
    any_error c.from_residual-in_err-insert.result _ (λ b at.
    text_missing c.args.text.now c.self.inside.places.entries b (sym (c.copied.ensures ∙ c.get.ensures.value)
    ∙ c.in_default.is)
    (subst (λ (l : List (List ℕ × ℕ)). IsAmong (c.args.text.now, b) l) (sym c.self.view_is) at))
