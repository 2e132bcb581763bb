use Rattle.std.proofs.Common.{◌≡◌, ◌<◌, ◌+◌, ◌∷◌, length, [], ◌++◌, ℕ, List, map, take, get_or, sym, ap, ◌∙◌, subst}
use Rattle.std.proofs.lemmas.List.{map_push, take_more, length-map, get_or-map}
use Rattle.std.specs.List.{Contains}
use Rattle.rule_folders.specs.Includes.{include_of}
use Rattle.tool_findings.specs.Commands.{Include}
use Rattle.rule_folders.specs.declared.includes.Included.{Included}
use Rattle.rule_folders.specs.Reading.{Entry, octets}
use Rattle.rule_folders.specs.Reached.{AreEdges, HasInclude}
use Rattle.rule_folders.specs.Steps.{IsEdgeOf, with_edge}
use Rattle.rule_folders.proofs.Walking.{edges_then, goes_none, goes_then}
use Rattle.rule_folders.proofs.reached.Reached.edges_among.Goals as goal

-- an item of a list is among its images
item_in : (xs : List Included) (k : ℕ) (x : Included) → k < length xs → x ≡ get_or xs k x → Contains (map include_of xs) (include_of x)
item_in xs k x lt at =
    (k, subst (λ n. k < n) (sym (length-map xs include_of)) lt, get_or-map include_of xs k x (include_of x) lt ∙ ap include_of (sym at))

pub loop-included-init : goal.loop-included-init
loop-included-init g c = (
  [],
  subst (AreEdges (g.S.Scripts.place c.args.scripts.now) [] c.args.self.now []) (sym c.new-edges.ensures.items) tt,
  goes_none g.S.Scripts.made g.S.Scripts.place c.args.scripts.now c.args.self.now
      (λ (s : Entry). (i : Include) → Contains (map include_of c.args.includes.now) i → HasInclude (octets s) i),
)

pub loop-included-preserved : goal.loop-included-preserved
loop-included-preserved g c =
    let made = g.S.Scripts.made in
    let place = g.S.Scripts.place in
    let start = c.args.scripts.now in
    let includes = c.args.includes.now in
    let all = map include_of includes in
    let k = c.loop-included.included-index in
    let item = c.included-item.result in
    let inv = c.loop-included.invariant in
    let one = c.in_ok-edge.ensures in
    let es = c.loop-included.self in
    let new = c.edge_of.new.self in
    let old_edges = c.loop-included.edges.items in
    let edge = c.in_ok-edge.edge in
    let within : k < length includes = c.loop-included-test.true in
    let more : take (k + 1) includes ≡ take k includes ++ item ∷ [] =
    take_more includes k item within ∙ ap (λ x. take k includes ++ x ∷ []) (sym c.included-item.is) in
    let here : IsEdgeOf (place start) one.0 (es ++ one.2.added) (include_of item) edge =
    subst (λ f. IsEdgeOf f one.0 (es ++ one.2.added) (include_of item) edge) inv.2.places
    (subst (λ l. IsEdgeOf (place c.loop-included.scripts) one.0 l (include_of item) edge) one.2.more one.1) in
    let edges = edges_then (place start) edge inv.0 one.0 es one.2.added (map include_of (take k includes)) old_edges
    (include_of item) inv.1 here in (
      inv.0 ++ one.0,
      subst (λ l. AreEdges (place start) (inv.0 ++ one.0) new l c.add_edge.new.edges.items)
          (sym (ap (map include_of) more ∙ map_push include_of (take k includes) item))
          (subst (AreEdges (place start) (inv.0 ++ one.0) new (map include_of (take k includes) ++ include_of item ∷ []))
          (sym c.in-Ok.ensures)
          (subst (λ l. AreEdges (place start) (inv.0 ++ one.0) l (map include_of (take k includes) ++ include_of item ∷ [])
          (with_edge old_edges edge))
          (sym one.2.more) edges)),
      goes_then made place start c.loop-included.scripts c.edge_of.new.scripts c.args.self.now es new
          (λ (s : Entry). (i : Include) → Contains all i → HasInclude (octets s) i)
          (λ (s : Entry). HasInclude (octets s) (include_of item)) inv.0 one.0 inv.2 one.2
          (λ s h at. h (include_of item) (item_in includes k item within c.included-item.is)),
    )
