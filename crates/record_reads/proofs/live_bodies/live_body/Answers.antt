use Rattle.std.proofs.Common.{◌≡◌, ◌∙◌, ap, refl, Err}
use Rattle.sqlite.specs.Order.{column}
use Rattle.sqlite.specs.declared.types.Value.TheVariants.{Blob}
use Rattle.sqlite_tied.specs.Compute.{everything}
use Rattle.record_tables.specs.Rows.{Tables}
use Rattle.record_reads.proofs.LookupLemmas.{body_values, popped}
use Rattle.record_reads.proofs.LiveBodies.{few_live_bodies, live_body_is, shows_live_body}
use Rattle.record_reads.proofs.TypedLemmas.{back, readable_all, handed_on}
use Rattle.record_reads.proofs.live_bodies.live_body.Goals as goal

pub read_all-requires : goal.read_all-requires
unfolding everything
read_all-requires g c = refl

pub returns-clause-body : goal.returns-clause-body
returns-clause-body g c clean = λ (t : Tables) s keyed.
    let found = c.in_ok-bodies.ensures.all clean in
    let n = c.args.number in
    let all = c.in_ok-bodies.bodies.items in
    let shown = shows_live_body _ _ found.0 n t s keyed (rw c.to_sql.ensures at found.1.0) in
    let read = back body_values (λ row body. column row 0 ≡ Blob body) (λ v. v.items) (λ body q e. let h = e in cc) found.0 _ all
    shown found.1.1 in
    popped (λ v. v.items) all _ _ c.pop.result c.in_ok-bodies.bodies.ok.0 read (few_live_bodies n t keyed) c.pop.ensures.variant.0 c.pop.ensures.value
    ∙ live_body_is n t keyed

pub returns-in_err-bodies-clause-none : goal.returns-in_err-bodies-clause-none
returns-in_err-bodies-clause-none g c clean is = λ (t : Tables) s keyed.
    let told = handed_on c.from_residual.result c.in_err-bodies.field-0.0 c.from_residual.ensures.1 is in
    let found = c.in_err-bodies.ensures.none clean (ap (λ f. Err f) told) in
    let n = c.args.number in
    found.1.1 (readable_all body_values _ (λ body. (body, refl)) found.0 _
    (shows_live_body _ _ found.0 n t s keyed (rw c.to_sql.ensures at found.1.0)))

pub returns-in_err-bodies-clause-seen : goal.returns-in_err-bodies-clause-seen
returns-in_err-bodies-clause-seen g c clean is =
    c.in_err-bodies.ensures.seen clean (ap (λ f. Err f) (handed_on c.from_residual.result c.in_err-bodies.field-0.0 c.from_residual.ensures.1 is))
