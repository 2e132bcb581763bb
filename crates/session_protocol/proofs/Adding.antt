-- Octets that are added to a buffer, one part after the other, and the troubles of the sink meanwhile.
use Rattle.std.proofs.Common.{◌≡◌, ◌∙◌, ◌+◌, ◌<◌, ◌≤◌, ◌++◌, [], ◌∷◌, ℕ, List, length, take, drop, get_or, ap, sym, subst}
use Rattle.std.proofs.Common.{Result, Ok, Err}
use Rattle.std.specs.Prelude.{flat_map}
use Rattle.std.specs.Result.{IsErr}
use Rattle.std.proofs.lemmas.Bool.{false≢true}
use Rattle.std.proofs.lemmas.Grind.{flat_map-append}
use Rattle.std.proofs.lemmas.List.{append-nil, take_more}
use Rattle.std.proofs.Math.Seq.{take_all}
use Rattle.session_protocol.specs.Written.{Adds, WritesTo}
use Rattle.session_protocol.specs.declared.stream.Sink.{Ghosts}
use Rattle.session_protocol.specs.declared.stream.WriteFault.{WriteFault}
use Rattle.session_protocol.proofs.Buffering.{buffers_after, flushed, held_sent, held_short, refilled, short_after, short_first, written_on}
use Rattle.session_protocol.proofs.Pieces.{flat_map_at}
use Rattle.session_protocol.proofs.Troubles.{none_met, troubles_after}

module _ {K : Type 0} {g : Ghosts K} where
  -- octets that have room are held
  pub adds_held : (sink : K) (held octets kept : List ℕ) → kept ≡ held ++ octets → Adds g (Ok tt) sink held octets sink kept
  adds_held sink held octets kept is = record {
    written = λ k. held_sent held octets kept (g.written sink) is;
    troubles = none_met g.troubles sink;
  }

  -- nothing is added yet
  pub adds_nothing : (sink : K) (held : List ℕ) → Adds g (Ok tt) sink held [] sink held
  adds_nothing sink held = adds_held sink held [] held (sym (append-nil held))

  -- the same octets
  pub adds_same : {r : Result (Unit {0}) WriteFault} {old new : K} {held xs ys kept : List ℕ} → xs ≡ ys
      → Adds g r old held xs new kept → Adds g r old held ys new kept
  adds_same {r} {old} {new} {held} {xs} {ys} {kept} same h =
      let P : List ℕ → Type 0 = λ s. Adds g r old held s new kept in subst P same h

  -- one part of the octets after the other
  pub adds_after : {r : Result (Unit {0}) WriteFault} {u : Unit {0}} {old mid new : K} {held xs ys kept left : List ℕ}
      → Adds g (Ok u) old held xs mid kept → Adds g r mid kept ys new left → Adds g r old held (xs ++ ys) new left
  adds_after {r} {u} {old} {mid} {new} {held} {xs} {ys} {kept} {left} first next = record {
    written = λ k. buffers_after r held xs ys (g.written old) (g.written mid) kept (g.written new) left (first.written k) (next.written k);
    troubles = troubles_after g.troubles r old mid new first.troubles next.troubles;
  }

  -- after a fault in the first part
  pub adds_short : (r : Result (Unit {0}) WriteFault) {f : WriteFault} {old new : K} {held xs kept left : List ℕ} (ys : List ℕ)
      → IsErr r → Adds g (Err f) old held xs new kept → Adds g r old held (xs ++ ys) new left
  adds_short (Err e) {f} {old} {new} {held} {xs} ys is h = record {
    written = λ k. short_first held xs ys (g.written old) (g.written new) (h.written k);
    troubles = h.troubles;
  }
  adds_short (Ok u) ys is h = absurd (false≢true is)

  module _ {X : Type 0} (f : X → List ℕ) (xs : List X) (i : ℕ) where
    -- the octets of one more element
    pub adds_next : (d : X) {u v : Unit {0}} {old mid new : K} {held kept left : List ℕ} → i < length xs
        → Adds g (Ok u) old held (flat_map f (take i xs)) mid kept → Adds g (Ok v) mid kept (f (get_or xs i d)) new left
        → Adds g (Ok v) old held (flat_map f (take (i + 1) xs)) new left
    adds_next d h first next =
        let x = get_or xs i d in
        adds_same (sym (ap (flat_map f) (take_more xs i d h) ∙ flat_map-append f (take i xs) (x ∷ [])
        ∙ ap (λ s. flat_map f (take i xs) ++ s) (append-nil (f x)))) (adds_after first next)

    -- the octets of all elements
    pub adds_all : {u : Unit {0}} {old new : K} {held kept : List ℕ} → length xs ≤ i
        → Adds g (Ok u) old held (flat_map f (take i xs)) new kept → Adds g (Ok u) old held (flat_map f xs) new kept
    adds_all h all = adds_same (ap (flat_map f) (take_all i xs h)) all

    -- after a fault in the octets of an element
    pub adds_cut : (r : Result (Unit {0}) WriteFault) (d : X) {u : Unit {0}} {e : WriteFault} {old mid new : K} {held kept left last : List ℕ}
        → i < length xs → IsErr r → Adds g (Ok u) old held (flat_map f (take i xs)) mid kept
        → Adds g (Err e) mid kept (f (get_or xs i d)) new left → Adds g r old held (flat_map f xs) new last
    adds_cut r d h is first next =
        adds_same (sym (flat_map_at f xs i d h)) (adds_after first (adds_short r (flat_map f (drop (i + 1) xs)) is next))

  -- octets that have no room behind those that are held
  module _ {held octets : List ℕ} (full : 4096 < length held + length octets) where
    -- a fault while those are written that were held
    pub adds_unflushed : (r : Result (Unit {0}) WriteFault) {f : WriteFault} {old new : K} (left : List ℕ) → IsErr r
        → WritesTo g (Err f) old held new → Adds g r old held octets new left
    adds_unflushed (Err e) {f} {old} {new} left is h = record {
      written = λ k. held_short held octets full (Err e) (g.written old) (g.written new) left is (h.written k);
      troubles = h.troubles;
    }
    adds_unflushed (Ok u) left is h = absurd (false≢true is)

    -- they are held once all that was held before is written
    pub adds_refilled : {u : Unit {0}} {old new : K} {emptied kept : List ℕ} → WritesTo {F = WriteFault} g (Ok u) old held new
        → emptied ≡ [] → kept ≡ emptied ++ octets → Adds g (Ok u) old held octets new kept
    adds_refilled {u} {old} {new} {emptied} {kept} h none put = record {
      written = λ k. refilled held octets full emptied kept (g.written old) (g.written new) (h.written k) none put;
      troubles = h.troubles;
    }

    -- they are written, since they are more than can be held
    pub adds_written : {r : Result (Unit {0}) WriteFault} {u : Unit {0}} {old mid new : K} {emptied kept : List ℕ}
        → WritesTo {F = WriteFault} g (Ok u) old held mid → emptied ≡ [] → kept ≡ emptied → WritesTo g r mid octets new
        → Adds g r old held octets new kept
    adds_written {r} {u} {old} {mid} {new} {emptied} {kept} h none left more = record {
      written = λ k.
          written_on held octets full r emptied kept (g.written old) (g.written mid) (g.written new) (h.written k) none left
          (more.written k);
      troubles = troubles_after g.troubles r old mid new h.troubles more.troubles;
    }

  -- a fault of a write is that of the call
  pub writes_fault : (r : Result (Unit {0}) WriteFault) {f : WriteFault} {old new : K} {octets : List ℕ} → IsErr r
      → WritesTo g (Err f) old octets new → WritesTo g r old octets new
  writes_fault (Err e) is h = record { written = h.written; troubles = h.troubles }
  writes_fault (Ok u) is h = absurd (false≢true is)

  -- a fault while octets are added to an empty buffer
  pub writes_short : (r : Result (Unit {0}) WriteFault) {f : WriteFault} {old new : K} {octets kept : List ℕ} → IsErr r
      → Adds g (Err f) old [] octets new kept → WritesTo g r old octets new
  writes_short (Err e) {f} {old} {new} {octets} is h = record {
    written = λ k. short_after octets (g.written old) (g.written new) (h.written k);
    troubles = h.troubles;
  }
  writes_short (Ok u) is h = absurd (false≢true is)

  -- what was added to one is written
  pub writes_flushed : {r : Result (Unit {0}) WriteFault} {u : Unit {0}} {old mid new : K} {octets kept : List ℕ}
      → Adds g (Ok u) old [] octets mid kept → WritesTo g r mid kept new → WritesTo g r old octets new
  writes_flushed {r} {u} {old} {mid} {new} {octets} {kept} h more = record {
    written = λ k. flushed r octets (g.written old) (g.written mid) kept (g.written new) (h.written k) (more.written k);
    troubles = troubles_after g.troubles r old mid new h.troubles more.troubles;
  }
