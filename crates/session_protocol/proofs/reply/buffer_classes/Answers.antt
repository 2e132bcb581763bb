use Rattle.std.proofs.Common.{◌≡◌, ◌∙◌, ℕ, ◌<◌, List, [], ◌∷◌, length, refl, arith}
use Rattle.std.specs.Prelude.{flat_map}
use Rattle.std.proofs.lemmas.Bool.Decides.{nat_tests}
use Rattle.session_protocol.specs.Replies.{class_octets, classes_octets}
use Rattle.session_protocol.proofs.Adding.{adds_all, adds_cut, adds_next, adds_nothing, adds_same}
use Rattle.session_protocol.proofs.reply.buffer_classes.Goals as goal

some_class : (paths : List (List ℕ)) (i : ℕ) → i < length paths → flat_map class_octets paths ≡ classes_octets paths
some_class [] i h = absurd (omega (arith, h))
some_class (path ∷ paths) i h = refl

pub loop-path-init : goal.loop-path-init
loop-path-init g c = adds_nothing _ _

pub loop-path-preserved : goal.loop-path-preserved
loop-path-preserved g c =
    adds_next class_octets c.args.paths.now c.loop-path.path-index c.path-item.result (omega arith) c.loop-path.invariant
    (rw (c.as_slice.ensures ∙ c.path-item.is) at c.in_ok-buffer_class.ensures)

pub returns-in_err-buffer_class : goal.returns-in_err-buffer_class
returns-in_err-buffer_class g c =
    adds_same (some_class c.args.paths.now c.loop-path.path-index (omega arith))
    (adds_cut class_octets c.args.paths.now c.loop-path.path-index c.from_residual.result c.path-item.result (omega arith)
    c.from_residual.ensures.0 c.loop-path.invariant (rw (c.as_slice.ensures ∙ c.path-item.is) at c.in_err-buffer_class.ensures))

pub returns : goal.returns
returns g c =
    let some : 0 < length c.args.paths.now = grind (arith, nat_tests) in
    adds_same (some_class c.args.paths.now 0 some)
    (adds_all class_octets c.args.paths.now c.loop-path.path-index (omega arith) c.loop-path.invariant)
