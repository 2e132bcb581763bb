use Rattle.std.proofs.Common.{
  ◌≡◌,
  ◌<◌,
  ◌+◌,
  ◌∷◌,
  [],
  ◌++◌,
  Some,
  get_or,
  length,
  take,
  vec_len,
  refl,
  sym,
  ap,
  ◌∙◌,
  subst,
  arith,
  rules,
  length-append,
}
use Rattle.std.proofs.lemmas.List.{append-nil}
use Rattle.std.proofs.lemmas.List.Elements.{Contains-get_or}
use Rattle.std.proofs.lemmas.Option.{slice_get-get_or, get_or_from_slice_get}
use Rattle.std.specs.List.{slice_get}
use Rattle.rule_folders.specs.Reading.{entry_of}
use Rattle.rule_folders.specs.Reached.{AreFollowed, IsFollowed, IsWalk}
use Rattle.rule_folders.proofs.Walking.{followed_none, followed_then, makes_then, walk_alone}
use Rattle.rule_folders.proofs.reached.Reached.follow.Goals as goal

pub loop-reached-init : goal.loop-reached-init
loop-reached-init g c =
    let place = g.S.Scripts.place c.args.scripts.now in
    let es = c.in-Ok.reached in (
      [],
      λ done h. subst (g.S.Scripts.made c.args.scripts.now) (sym (append-nil done)) h,
      refl,
      walk_alone place (entry_of c.args.program) es c.in-Ok.ensures,
      followed_none place [] es (vec_len c.new-edges.result) c.new-edges.result.items (search rules) c.new-edges.ensures.items,
      search rules,
    )

pub loop-reached-preserved : goal.loop-reached-preserved
loop-reached-preserved g c =
    let made = g.S.Scripts.made in
    let place = g.S.Scripts.place c.args.scripts.now in
    let program = entry_of c.args.program in
    let inv = c.loop-reached.invariant in
    let es = c.loop-reached.reached in
    let new = c.edges_of.new.self in
    let edges = c.loop-reached.edges in
    let n = vec_len edges in
    let one = c.in_ok-of_script.ensures in
    let v = c.in_ok-of_script.of_script in
    let within : n < length es = omega (arith, c.len.ensures) in
    let s = get_or es n program in
    let at : slice_get es c.len-in-loop-reached-2.result ≡ Some s =
    subst (λ k. slice_get es k ≡ Some s) (let e : n ≡ c.len-in-loop-reached-2.result = search rules in e) (slice_get-get_or es n program within) in
    let same : get_or es n s ≡ s = get_or_from_slice_get es n s s (slice_get-get_or es n program within) in
    let followed : IsFollowed place one.0 (es ++ one.2.added) s v.items =
    subst (λ l. IsFollowed place one.0 l s v.items) one.2.more (subst (λ f. IsFollowed f one.0 new s v.items) inv.2 (one.1 s at)) in
    let all = followed_then place inv.0 one.0 es one.2.added n edges.items s v within same inv.4 followed in
    let count : n + 1 ≡ vec_len c.push.new.self = omega (arith, c.in-Ok-push.ensures.len) in (
      inv.0 ++ one.0,
      makes_then made g.S.Scripts.place c.args.scripts.now c.loop-reached.scripts c.edges_of.new.scripts inv.0 one.0 inv.1 one.2.calls,
      one.2.places ∙ inv.2,
      subst (λ f. IsWalk f program (inv.0 ++ one.0) new) inv.2
          (one.2.walk program s inv.0 at (Contains-get_or es n program within)
          (subst (λ f. IsWalk f program inv.0 es) (sym inv.2) inv.3)),
      subst (AreFollowed place (inv.0 ++ one.0) new (take (vec_len c.push.new.self) new)) (sym c.in-Ok-push.ensures.items)
          (subst (λ k. AreFollowed place (inv.0 ++ one.0) new (take k new) (edges.items ++ v ∷ [])) count
          (subst (λ l. AreFollowed place (inv.0 ++ one.0) l (take (n + 1) l) (edges.items ++ v ∷ [])) (sym one.2.more) all)),
      omega (arith, count, ap length one.2.more, length-append es one.2.added),
    )
