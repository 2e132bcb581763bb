-- Calls that follow on others.
use Rattle.std.proofs.Common.{◌≡◌, ◌++◌, ◌<◌, ◌≤◌, [], ◌∷◌, List, ℕ, Result, Ok}
use Rattle.std.proofs.Common.{Err, length, refl, sym, subst, ap, inl, inr, ◌∙◌, append_assoc, arith}
use Rattle.std.specs.Result.{OnOk, OnErr}
use Rattle.std.proofs.lemmas.List.{append-nil}
use Rattle.record_places.specs.Calls.{Call, create, Begins, Makes, MayMake, owner_only}

-- one call
pub one : {F : Type 0} (made : F → List Call → Type 0) (first last : F) (call : Call)
    → ((done : List Call) → made first done → made last (done ++ (call ∷ []))) → Makes made first last (λ calls. calls ≡ call ∷ [])
one made first last call makes done was = (call ∷ [], refl, makes done was)

-- no call
pub none : {F : Type 0} (made : F → List Call → Type 0) (still : F) → Makes made still still (λ calls. calls ≡ [])
none made still done was = ([], refl, subst (made still) (sym (append-nil done)) was)

-- some calls, and then others
pub after : {F : Type 0} (made : F → List Call → Type 0) (first middle last : F) (early late all : List Call)
    → Makes made first middle (λ calls. calls ≡ early) → Makes made middle last (λ calls. calls ≡ late) → early ++ late ≡ all
    → Makes made first last (λ calls. calls ≡ all)
after made first middle last early late all before next same done was =
    let a = before done was in
    let b = next (done ++ a.0) a.2 in
    (a.0 ++ b.0, ap (λ calls. calls ++ b.0) a.1 ∙ (ap (λ calls. early ++ calls) b.1 ∙ same), subst (made last) (append_assoc done a.0 b.0) b.2)

-- what follows from the list of calls
pub so : {F : Type 0} (made : F → List Call → Type 0) (first last : F) (P Q : List Call → Type 0) → Makes made first last P
    → ((calls : List Call) → P calls → Q calls) → Makes made first last Q
so made first last P Q makes each done was =
    let a = makes done was in
    (a.0, each a.0 a.1, a.2)

-- at most the first call
pub begins_early : (all : List Call) (Named : Type 0) (calls rest : List Call) → calls ++ rest ≡ all → length calls ≤ 1 → Begins all Named calls
begins_early all Named calls rest same few = record { rest = rest; same = same; named = λ more. absurd (omega (arith, more, few)) }

-- the first of the calls, once the file has its name
pub begins_late : (all some rest : List Call) (Named : Type 0) → some ++ rest ≡ all → Named → (calls : List Call) → calls ≡ some
    → Begins all Named calls
begins_late all some rest Named same named calls is =
    record { rest = rest; same = ap (λ first. first ++ rest) is ∙ same; named = λ more. named }

-- no call
pub begins_none : (all : List Call) (Named : Type 0) (calls : List Call) → calls ≡ [] → Begins all Named calls
begins_none all Named calls is = subst (Begins all Named) (sym is) (begins_early all Named [] all refl (omega arith))

-- the first call alone
pub begins_one : (call : Call) (more : List Call) (Named : Type 0) (calls : List Call) → calls ≡ call ∷ [] → Begins (call ∷ more) Named calls
begins_one call more Named calls is =
    subst (Begins (call ∷ more) Named) (sym is) (begins_early (call ∷ more) Named (call ∷ []) more refl (omega arith))

-- a file was made or not, before what was to follow
pub made_early : (path : List ℕ) (more : List Call) (Named : Type 0) (calls : List Call) → MayMake path calls
    → Begins (create path owner_only ∷ more) Named calls
made_early path more Named calls (inl nothing) = begins_none (create path owner_only ∷ more) Named calls nothing
made_early path more Named calls (inr made) = begins_one (create path owner_only) more Named calls made

-- what holds, whatever was answered
pub on_ok : {T E : Type 0} (r : Result T E) (P : Type 0) → P → OnOk r P
on_ok (Ok x) P p = p
on_ok (Err e) P p = tt

pub on_err : {T E : Type 0} (r : Result T E) (P : Type 0) → P → OnErr r P
on_err (Ok x) P p = tt
on_err (Err e) P p = p
