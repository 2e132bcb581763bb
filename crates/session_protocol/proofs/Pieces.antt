-- Writing in pieces.
use Rattle.std.proofs.Common.{◌≡◌, ℕ, ◌+◌, ◌<◌, List, ◌∷◌, ◌++◌, length, take, drop, get_or, ap, sym, ◌∙◌, append_assoc, add-one}
use Rattle.std.specs.Prelude.{flat_map, Result, Ok, Err, OnOk}
use Rattle.std.specs.Result.{is_err}
use Rattle.std.specs.Prelude.{true, false}
use Rattle.std.proofs.Math.Seq.{take-append-add, drop-cons}
use Rattle.std.proofs.lemmas.Bool.{false≢true}
use Rattle.std.proofs.lemmas.Grind.{flat_map-append}
use Rattle.std.proofs.lemmas.List.{take-append-drop}
use Rattle.session_protocol.specs.Streams.{IsAfter}
use Rattle.session_protocol.specs.Written.{Writes}
use Rattle.session_protocol.specs.declared.stream.WriteFault.{WriteFault}

-- a prefix of the next octets
pub joins : (old xs mid ys new : List ℕ) → mid ≡ old ++ xs → IsAfter mid ys new → IsAfter old (xs ++ ys) new
joins old xs mid ys new e b =
    (length xs + b.0, b.1 ∙ ap (λ s. s ++ take b.0 ys) e ∙ append_assoc old xs (take b.0 ys) ∙ ap (λ s. old ++ s) (sym (take-append-add xs ys b.0)))

pub writes_after : (r : Result (Unit {0}) WriteFault) (old xs mid ys new : List ℕ) → mid ≡ old ++ xs
    → Writes r mid ys new → Writes r old (xs ++ ys) new
writes_after (Ok u) old xs mid ys new e w = w ∙ ap (λ s. s ++ ys) e ∙ append_assoc old xs ys
writes_after (Err f) old xs mid ys new e w = joins old xs mid ys new e w

drop_next : {X : Type 0} (xs : List X) (i : ℕ) (d : X) → i < length xs → drop i xs ≡ get_or xs i d ∷ drop (i + 1) xs
drop_next xs i d h = rw add-one (drop-cons xs i d h)

pub flat_map_at : {X : Type 0} (f : X → List ℕ) (xs : List X) (i : ℕ) (d : X) → i < length xs
    → flat_map f xs ≡ flat_map f (take i xs) ++ (f (get_or xs i d) ++ flat_map f (drop (i + 1) xs))
flat_map_at f xs i d h =
    ap (flat_map f) (sym (take-append-drop i xs)) ∙ flat_map-append f (take i xs) (drop i xs)
    ∙ ap (λ s. flat_map f (take i xs) ++ flat_map f s) (drop_next xs i d h)

pub written_ok : (r : Result (Unit {0}) WriteFault) (old xs new : List ℕ) → Writes r old xs new → is_err r ≡ false → new ≡ old ++ xs
written_ok (Ok u) old xs new w e = w
written_ok (Err f) old xs new w e = absurd (false≢true (sym e))

pub outlasted : {P : Type 0} (r : Result (Unit {0}) WriteFault) → OnOk r P → is_err r ≡ false → P
outlasted (Ok u) p e = p
outlasted (Err f) p e = absurd (false≢true (sym e))

pub written_fault : (r : Result (Unit {0}) WriteFault) (old xs new : List ℕ) → Writes r old xs new → is_err r ≡ true → IsAfter old xs new
written_fault (Ok u) old xs new w e = absurd (false≢true e)
written_fault (Err f) old xs new w e = w
