-- Octets that a buffer holds before they are written.
use Rattle.std.proofs.Common.{◌≡◌, ◌∙◌, ◌+◌, ◌<◌, ◌++◌, [], ℕ, List, length, take, drop}
use Rattle.std.proofs.Common.{refl, ap, sym, subst, append_assoc, length-append, arith, Result, Ok, Err}
use Rattle.std.specs.Result.{IsErr}
use Rattle.std.proofs.lemmas.Bool.{false≢true}
use Rattle.std.proofs.lemmas.List.{append-nil, take-append-drop}
use Rattle.std.proofs.Math.Seq.{take-append_seam}
use Rattle.session_protocol.specs.Streams.{IsAfter}
use Rattle.session_protocol.specs.Written.{Buffers, Sends, Writes}
use Rattle.session_protocol.specs.declared.stream.WriteFault.{WriteFault}
use Rattle.session_protocol.proofs.Pieces.{writes_after}

-- octets that have room are held
pub held_sent : (held octets kept old : List ℕ) → kept ≡ held ++ octets → Sends (held ++ octets) kept old old
held_sent held octets kept old is = record {
  sent = [];
  written = sym (append-nil old);
  rest = sym is;
  together = λ _. refl;
}

-- octets come behind those that are left
sends_behind : (all kept old new ys : List ℕ) → Sends all kept old new → Sends (all ++ ys) (kept ++ ys) old new
sends_behind all kept old new ys w = record {
  sent = w.sent;
  written = w.written;
  rest = ap (λ s. s ++ ys) w.rest ∙ append_assoc w.sent kept ys;
  together = λ fits. w.together (omega (arith, length-append all ys, fits));
}

-- the first of what was left are sent too
sends_on : (all kept left old mid new : List ℕ) → Sends all kept old mid → Sends kept left mid new → Sends all left old new
sends_on all kept left old mid new w v = record {
  sent = w.sent ++ v.sent;
  written = v.written ∙ ap (λ s. s ++ v.sent) w.written ∙ append_assoc old w.sent v.sent;
  rest = w.rest ∙ ap (λ s. w.sent ++ s) v.rest ∙ sym (append_assoc w.sent v.sent left);
  together = λ fits.
      let none : w.sent ≡ [] = w.together fits in
      let same : all ≡ kept = w.rest ∙ ap (λ s. s ++ kept) none in
      ap (λ s. s ++ v.sent) none ∙ v.together (omega (arith, ap length same, fits));
}

-- one part of the octets after the other
pub sends_after : (held xs ys old mid kept new left : List ℕ) → Sends (held ++ xs) kept old mid → Sends (kept ++ ys) left mid new
    → Sends (held ++ (xs ++ ys)) left old new
sends_after held xs ys old mid kept new left first next =
    let P : List ℕ → Type 0 = λ s. Sends s left old new in
    subst P (append_assoc held xs ys)
    (sends_on ((held ++ xs) ++ ys) (kept ++ ys) left old mid new (sends_behind (held ++ xs) kept old mid ys first) next)

pub buffers_after : (r : Result (Unit {0}) WriteFault) (held xs ys old mid kept new left : List ℕ) → Sends (held ++ xs) kept old mid
    → Buffers r mid kept ys new left → Buffers r old held (xs ++ ys) new left
buffers_after (Ok u) held xs ys old mid kept new left first next = sends_after held xs ys old mid kept new left first next
buffers_after (Err f) held xs ys old mid kept new left first next =
    (next.0, sends_after held xs ys old mid kept new next.0 first next.1)

-- after a fault in the first part
pub short_first : (held xs ys old new : List ℕ) → (rest : List ℕ) × Sends (held ++ xs) rest old new
    → (rest : List ℕ) × Sends (held ++ (xs ++ ys)) rest old new
short_first held xs ys old new w =
    let P : List ℕ → Type 0 = λ s. Sends s (w.0 ++ ys) old new in
    (w.0 ++ ys, subst P (append_assoc held xs ys) (sends_behind (held ++ xs) w.0 old new ys w.1))

-- what is held is written behind what was sent
pub flushed : (r : Result (Unit {0}) WriteFault) (all old mid kept new : List ℕ) → Sends all kept old mid → Writes r mid kept new
    → Writes r old all new
flushed r all old mid kept new w v =
    let P : List ℕ → Type 0 = λ s. Writes r old s new in
    subst P (sym w.rest) (writes_after r old w.sent mid kept new w.written v)

-- what was sent is a prefix
pub short_after : (all old new : List ℕ) → (rest : List ℕ) × Sends all rest old new → IsAfter old all new
short_after all old new w =
    let sent = w.1.sent in
    let first : take (length sent) all ≡ sent = ap (take (length sent)) w.1.rest ∙ take-append_seam sent w.0 in
    (length sent, w.1.written ∙ ap (λ s. old ++ s) (sym first))

-- octets that have no room behind those that are held
module _ (held octets : List ℕ) (full : 4096 < length held + length octets) where
  -- some of them are sent
  some_sent : (sent left old new : List ℕ) → new ≡ old ++ sent → held ++ octets ≡ sent ++ left → Sends (held ++ octets) left old new
  some_sent sent left old new written rest = record {
    sent = sent;
    written = written;
    rest = rest;
    together = λ fits. absurd (omega (arith, length-append held octets, full, fits));
  }

  -- a fault while those are written that were held
  pub held_short : (r : Result (Unit {0}) WriteFault) (old new left : List ℕ) → IsErr r → IsAfter old held new
      → Buffers r old held octets new left
  held_short (Ok u) old new left is w = absurd (false≢true is)
  held_short (Err f) old new left is w = (
    drop w.0 held ++ octets,
    some_sent (take w.0 held) (drop w.0 held ++ octets) old new w.1
        (ap (λ s. s ++ octets) (sym (take-append-drop w.0 held)) ∙ append_assoc (take w.0 held) (drop w.0 held) octets),
  )

  -- they are held once all that was held before is written
  pub refilled : (emptied kept old mid : List ℕ) → mid ≡ old ++ held → emptied ≡ [] → kept ≡ emptied ++ octets
      → Sends (held ++ octets) kept old mid
  refilled emptied kept old mid is none put =
      let now : kept ≡ octets = put ∙ ap (λ s. s ++ octets) none in
      some_sent held kept old mid is (ap (λ s. held ++ s) (sym now))

  written_behind : (r : Result (Unit {0}) WriteFault) (old mid new : List ℕ) → mid ≡ old ++ held → Writes r mid octets new
      → Buffers r old held octets new []
  written_behind (Ok u) old mid new is w =
      some_sent (held ++ octets) [] old new (w ∙ ap (λ s. s ++ octets) is ∙ append_assoc old held octets)
      (sym (append-nil (held ++ octets)))
  written_behind (Err f) old mid new is w = (
    drop w.0 octets,
    some_sent (held ++ take w.0 octets) (drop w.0 octets) old new
        (w.1 ∙ ap (λ s. s ++ take w.0 octets) is ∙ append_assoc old held (take w.0 octets))
        (ap (λ s. held ++ s) (sym (take-append-drop w.0 octets)) ∙ sym (append_assoc held (take w.0 octets) (drop w.0 octets))),
  )

  -- they are written, since they are more than can be held
  pub written_on : (r : Result (Unit {0}) WriteFault) (emptied kept old mid new : List ℕ) → mid ≡ old ++ held → emptied ≡ []
      → kept ≡ emptied → Writes r mid octets new → Buffers r old held octets new kept
  written_on r emptied kept old mid new is none left w =
      let P : List ℕ → Type 0 = λ s. Buffers r old held octets new s in
      subst P (sym (left ∙ none)) (written_behind r old mid new is w)
