use Rattle.std.proofs.Common.{ℕ, List, ◌+◌, ◌-◌, ◌^◌, ◌≤◌, ◌<◌, length, take, drop, ap, refl, eqb-true, eq-eqb, arith}
use Rattle.std.proofs.lemmas.Bool.{false≢true}
use Rattle.std.proofs.lemmas.List.{take_rest, length-drop}
use Rattle.sieve_meaning.specs.Matching.{items_of}
use Rattle.sieve_match.proofs.PieceLemmas.{front_to, front_fits, ends_last, ends_star, whole_to, whole_from, star_to, star_from}
use Rattle.sieve_match.proofs.PieceLemmas.{piece_nowhere, piece_to, piece_from, piece_within, piece_on, piece_back, last_to, last_from, fewer_items}
use Rattle.sieve_match.proofs.covering.pieces_cover.Goals as goal

pub returns-then-not-fits_front : goal.returns-then-not-fits_front
returns-then-not-fits_front c =
    let front = c.next_piece-front.ensures in (
      λ t. absurd (false≢true t),
      λ m. absurd (false≢true (c.if-not-fits_front.ensures.1 (front_to c.args.comparator (items_of c.args.pattern.now)
          c.next_piece-front.result.count front.within c.args.value.now front.starless m).0)),
    )

pub slice_bounds-rest-count : goal.slice_bounds-rest-count
slice_bounds-rest-count c =
    front_fits c.args.comparator (items_of c.args.pattern.now) c.next_piece-front.result.count c.next_piece-front.ensures.within
    c.args.value.now (c.if-not-fits_front.ensures.0 refl)

pub slice_bounds-rest-start : goal.slice_bounds-rest-start
slice_bounds-rest-start c =
    front_fits c.args.comparator (items_of c.args.pattern.now) c.next_piece-front.result.count c.next_piece-front.ensures.within
    c.args.value.now (c.if-not-fits_front.ensures.0 refl)

pub returns-in_default : goal.returns-in_default
returns-in_default c =
    let front = c.next_piece-front.ensures in
    let ends = ends_last c.args.pattern.now c.next_piece-front.result front c.in_default.is in (
      λ t. whole_from c.args.comparator (items_of c.args.pattern.now) c.next_piece-front.result.count front.within c.args.value.now
          ends (c.if-not-fits_front.ensures.0 refl) (eqb-true _ _ t),
      λ m. eq-eqb _ _ (whole_to c.args.comparator (items_of c.args.pattern.now) c.next_piece-front.result.count front.within
          c.args.value.now front.starless ends m),
    )

pub pieces-init : goal.pieces-init
pieces-init c =
    let front = c.next_piece-front.ensures in
    let all = items_of c.args.pattern.now in
    let n = c.next_piece-front.result.count in
    let value = c.args.value.now in
    let next = items_of c.in-Some.items.now in
    let ends = ends_star c.args.pattern.now c.next_piece-front.result c.in-Some.items front c.in-Some.is in record {
      same = (
        λ m. star_to c.args.comparator all n front.within value next ends (take (length value - n) (drop n value)) (take_rest value n)
            front.starless m,
        λ m. star_from c.args.comparator all n front.within value next ends (take (length value - n) (drop n value)) (take_rest value n)
            (c.if-not-fits_front.ensures.0 refl) m,
      );
      short = omega (arith, length-drop n value, ap (λ (xs : List ℕ). length xs) (take_rest value n));
    }

pub returns-in_default-after : goal.returns-in_default-after
returns-in_default-after c =
    let piece = c.next_piece-piece.ensures in
    let all = items_of c.pieces.items.now in
    let n = c.next_piece-piece.result.count in
    let rest = c.pieces.rest.now in
    let ends = ends_last c.pieces.items.now c.next_piece-piece.result piece c.in_default-after.is in (
      λ t. let f = c.fits_end.ensures.0 t in
          c.pieces.invariant.same.1 (last_from c.args.comparator all n piece.within piece.starless rest ends f.0 f.1),
      λ m. c.fits_end.ensures.1 (last_to c.args.comparator all n piece.within piece.starless rest ends (c.pieces.invariant.same.0 m)),
    )

pub returns-in_default-first_place : goal.returns-in_default-first_place
returns-in_default-first_place c =
    let piece = c.next_piece-piece.ensures in (
      λ t. absurd (false≢true t),
      λ m. absurd (piece_nowhere c.args.comparator (items_of c.pieces.items.now) c.next_piece-piece.result.count piece.within
          piece.starless c.pieces.rest.now c.in_default-first_place.ensures (c.pieces.invariant.same.0 m)),
    )

pub overflow_add-rest : goal.overflow_add-rest
overflow_add-rest c =
    let piece = c.next_piece-piece.ensures in
    let short : length c.pieces.rest.now ≤ length c.args.value.now = c.pieces.invariant.short in
    let long : length c.args.value.now < 2 ^ 63 = omega arith in
    omega (
      arith,
      piece_within c.args.comparator (items_of c.pieces.items.now) c.next_piece-piece.result.count piece.within
          piece.starless c.pieces.rest.now c.in-Some-first_place.place c.in-Some-first_place.ensures,
    )

pub slice_bounds-rest-count-in-pieces : goal.slice_bounds-rest-count-in-pieces
slice_bounds-rest-count-in-pieces c =
    let piece = c.next_piece-piece.ensures in
    piece_within c.args.comparator (items_of c.pieces.items.now) c.next_piece-piece.result.count piece.within piece.starless
    c.pieces.rest.now c.in-Some-first_place.place c.in-Some-first_place.ensures

pub slice_bounds-rest-start-in-pieces : goal.slice_bounds-rest-start-in-pieces
slice_bounds-rest-start-in-pieces c =
    let piece = c.next_piece-piece.ensures in
    piece_within c.args.comparator (items_of c.pieces.items.now) c.next_piece-piece.result.count piece.within piece.starless
    c.pieces.rest.now c.in-Some-first_place.place c.in-Some-first_place.ensures

pub pieces-smaller : goal.pieces-smaller
pieces-smaller c =
    let piece = c.next_piece-piece.ensures in
    fewer_items (items_of c.pieces.items.now) (items_of c.in-Some-after.after.now) c.next_piece-piece.result.count
    (ends_star c.pieces.items.now c.next_piece-piece.result c.in-Some-after.after piece c.in-Some-after.is)

pub pieces-preserved : goal.pieces-preserved
pieces-preserved c =
    let piece = c.next_piece-piece.ensures in
    let all = items_of c.pieces.items.now in
    let n = c.next_piece-piece.result.count in
    let rest = c.pieces.rest.now in
    let k = c.in-Some-first_place.place in
    let next = items_of c.in-Some-after.after.now in
    let ends = ends_star c.pieces.items.now c.next_piece-piece.result c.in-Some-after.after piece c.in-Some-after.is in
    let short : length rest ≤ length c.args.value.now = c.pieces.invariant.short in record {
      same = (
        λ m. piece_on c.args.comparator next rest (k + n) (piece_to c.args.comparator all n piece.within piece.starless rest k
            c.in-Some-first_place.ensures next ends (c.pieces.invariant.same.0 m)),
        λ m. c.pieces.invariant.same.1 (piece_from c.args.comparator all n piece.within piece.starless rest k
            c.in-Some-first_place.ensures next ends (piece_back c.args.comparator next rest (k + n) m)),
      );
      short = omega (arith, short, length-drop (k + n) rest, ap (λ (xs : List ℕ). length xs) (take_rest rest (k + n)));
    }
