use Rattle.std.proofs.Common.{◌≡◌, ◌<◌, ◌≤◌, ◌==◌, [], ◌∷◌, ◌++◌, true, false, length, get_or, rules, arith, sym, ◌∙◌}
use Rattle.std.proofs.lemmas.Bool.Decides.{nat_tests}
use Rattle.class_paths.specs.Path.{is_mark}
use Rattle.class_paths.proofs.Segments.{path-start, begun-none, begun-more, next-slash, next-empty, next-many, next-mark, next-other, next-long}
use Rattle.class_paths.proofs.path.fits_path.Goals as goal
use Rattle.class_paths.proofs.path.fits_path.Goals.{then-run-eq0-via-then-run-eq0}
use Rattle.class_paths.proofs.path.fits_path.Goals.{then-run-eq0-via-else-run-eq0+then-closed-eq-MAX_SLASHES}
use Rattle.class_paths.proofs.path.fits_path.Goals.{then-not-fits_segment-via-then-not-fits_segment}
use Rattle.class_paths.proofs.path.fits_path.Goals.{then-not-fits_segment-via-else-not-fits_segment+then-run-eq-MAX_OCTETS}
use Rattle.class_paths.proofs.path.fits_path.Goals.{then-octet-eq-SLASH+else-run-eq0+else-closed-eq-MAX_SLASHES}
use Rattle.class_paths.proofs.path.fits_path.Goals.{else-octet-eq-SLASH+else-not-fits_segment+else-run-eq-MAX_OCTETS}

pub loop-octet-init : goal.loop-octet-init
loop-octet-init c = record { few = omega arith; short = omega arith; now = ([], begun-none, path-start c.args.path.now) }

pub returns-then-run-eq0 : goal.returns-then-run-eq0
returns-then-run-eq0 c =
    let inv = c.loop-octet.invariant.now in
    let h : c.loop-octet.octet-index < length c.args.path.now = search rules in
    let slash : get_or c.args.path.now c.loop-octet.octet-index 0 ≡ 47 = search rules in
    elim c.then-run-eq0.branch [
      | then-run-eq0-via-then-run-eq0 w ↦
          sym (inv.2 ∙ next-empty c.args.path.now inv.0 c.loop-octet.octet-index c.loop-octet.closed h slash
          (rw w.if-run-eq0.true at inv.1))
      | then-run-eq0-via-else-run-eq0+then-closed-eq-MAX_SLASHES w ↦
          let many : 7 ≤ c.loop-octet.closed = omega arith in
          sym (inv.2 ∙ next-many c.args.path.now inv.0 c.loop-octet.octet-index c.loop-octet.closed h slash many)
    ]

pub returns-then-not-fits_segment : goal.returns-then-not-fits_segment
returns-then-not-fits_segment c =
    let inv = c.loop-octet.invariant.now in
    let h : c.loop-octet.octet-index < length c.args.path.now = search rules in
    let other : (get_or c.args.path.now c.loop-octet.octet-index 0 == 47) ≡ false = grind (arith, nat_tests) in
    elim c.then-not-fits_segment.branch [
      | then-not-fits_segment-via-then-not-fits_segment w ↦
          sym (inv.2 ∙
          next-other c.args.path.now inv.0 c.loop-octet.octet-index c.loop-octet.closed h other
          (sym c.fits_segment.ensures ∙ w.if-not-fits_segment.true))
      | then-not-fits_segment-via-else-not-fits_segment+then-run-eq-MAX_OCTETS w ↦
          let long : 40 ≤ length inv.0 = omega (arith, inv.1.long) in
          sym (inv.2 ∙ next-long c.args.path.now inv.0 c.loop-octet.octet-index c.loop-octet.closed h other long)
    ]

pub loop-octet-preserved : goal.loop-octet-preserved
loop-octet-preserved c =
    let inv = c.loop-octet.invariant.now in
    let h : c.loop-octet.octet-index < length c.args.path.now = search rules in
    elim c.if-octet-eq-SLASH.branch [
      | then-octet-eq-SLASH+else-run-eq0+else-closed-eq-MAX_SLASHES w ↦
          let slash : get_or c.args.path.now c.loop-octet.octet-index 0 ≡ 47 = search rules in
          let some : 1 ≤ c.loop-octet.run = omega arith in
          record {
            few = omega arith;
            short = omega arith;
            now = (
              [],
              rw w.run-is begun-none,
              rw w.closed-is (inv.2
                  ∙ next-slash c.args.path.now inv.0 c.loop-octet.octet-index c.loop-octet.closed c.loop-octet.run h slash
                  inv.1 some c.loop-octet.invariant.short),
            );
          }
      | else-octet-eq-SLASH+else-not-fits_segment+else-run-eq-MAX_OCTETS w ↦
          let other : (get_or c.args.path.now c.loop-octet.octet-index 0 == 47) ≡ false = grind (arith, nat_tests) in
          let mark : is_mark (get_or c.args.path.now c.loop-octet.octet-index 0) ≡ true = sym w.fits_segment.ensures ∙ w.if-not-fits_segment.false in
          record {
            few = omega arith;
            short = omega arith;
            now = (
              inv.0 ++ get_or c.args.path.now c.loop-octet.octet-index 0 ∷ [],
              rw w.run-is (begun-more inv.0 c.loop-octet.run _ inv.1 mark),
              rw w.closed-is (inv.2
                  ∙ next-mark c.args.path.now inv.0 c.loop-octet.octet-index c.loop-octet.closed h other),
            );
          }
    ]
