use Rattle.std.proofs.Common.{◌≡◌, List, ℕ, Some, option_map, sym, ap, subst, ◌∙◌, Err}
use Rattle.sqlite.specs.Held.{state}
use Rattle.record_tables.specs.Rows.{Tables}
use Rattle.record_tables.specs.Changes.{Puts, IsPastMessages, with_message, new_message}
use Rattle.record_copy.proofs.CauseLemmas.{never_lost, no_archive_read}
use Rattle.record_copy.proofs.LookLemmas.{kept_by_look}
use Rattle.record_copy.proofs.messages.copy_message.Goals as goal

same_some : (a b : List ℕ) → Some a ≡ Some b → a ≡ b
same_some a b e = cc

pub returns-clause-copied : goal.returns-clause-copied
returns-clause-copied g c clean = λ (s : Tables) stored keyed (body : List ℕ) has clean_to inside.
    let old = state g.T.Store c.args.tx.now.conn.now in
    let new = state g.T.Store c.insert_message.new.tx.conn.now in
    let told = c.in_ok-body.ensures.body clean s stored keyed in
    let same = same_some c.in-Some.body.items body (ap (option_map (λ v. v.items)) (sym c.in-Some.is) ∙ told ∙ has) in
    let put = rw c.as_slice.ensures.value at (c.in_ok-insert_message.ensures.ok clean_to inside) in
    subst (λ b. Puts old new (IsPastMessages c.args.number) (with_message (new_message c.args.number b))) same put

pub returns-clause-kept : goal.returns-clause-kept
returns-clause-kept g c =
    kept_by_look g.S.Store c.args.from.now c.message_body.new.conn c.requires c.message_body.ensures.looks (λ clean.
    (c.in_ok-body.ensures.open clean).1)

pub returns-in_err-body-clause-lost : goal.returns-in_err-body-clause-lost
returns-in_err-body-clause-lost g c clean is = λ (s : Tables) stored keyed.
    let e = no_archive_read c.from_residual.result c.in_err-body.field-0.0 c.from_residual.ensures.1 is in
    absurd (c.in_err-body.ensures.none clean (ap Err e) s stored keyed)

pub returns-in_err-insert_message-clause-lost : goal.returns-in_err-insert_message-clause-lost
returns-in_err-insert_message-clause-lost g c clean is =
    absurd (never_lost c.from_residual-in_err-insert_message.result c.in_err-insert_message.field-0.0
    c.from_residual-in_err-insert_message.ensures.1 is)
