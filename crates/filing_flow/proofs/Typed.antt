-- Structured code that has a type has shapes, and goes forward.
use Rattle.std.proofs.Common.{◌≡◌, ℕ, zero, suc, ◌+◌, ◌<◌, ◌≤◌, List, [], ◌∷◌, ◌++◌, length, Bool, true, false, Some}
use Rattle.std.proofs.Common.{None, refl, sym, ap, ◌∙◌, subst, arith, inl, inr, length-append}
use Rattle.std.specs.Prelude.{slice_get}
use Rattle.std.proofs.lemmas.Bool.{cases_lt}
use Rattle.filing_image.specs.declared.instruction.Operation.{Operation}
use Rattle.filing_image.specs.declared.instruction.Operation.TheVariants.{PushTrue, PushFalse, Not, Values, Join, Match, Pop, Exists, Size, Number}
use Rattle.filing_image.specs.declared.instruction.Operation.TheVariants.{Less, Jump, JumpIf, JumpUnless, Marked, Mark, File, Keep, Discard, Stop}
use Rattle.filing_image.specs.declared.instruction.Operation.TheVariants.{Fault, Call}
use Rattle.filing_verify.specs.declared.kind.Kind.TheVariants.{Truth, Texts, Count}
use Rattle.filing_image.specs.Program.{Program}
use Rattle.filing_verify.specs.Flow.{first_place, target, Follows}
use Rattle.filing_verify.specs.Shapes as shapes
use Rattle.sieve_meaning.specs.RunFaults.{number_of}
use Rattle.filing_flow.specs.Structure.{Action, Push, Negate, ValuesOf, JoinTwo, MatchKey, Drop, HasField, PushSize, PushNumber, IsLess, IsMarked}
use Rattle.filing_flow.specs.Structure.{SetMark, FileInto, SetKept, SetCancelled, End, Fail, CallTo, Flow, nothing, action, sequence, block, leave}
use Rattle.filing_flow.specs.Structure.{leave_if, size, Bounds, IsSoundAction, IsSound}
use Rattle.filing_flow.specs.Code.{places_in, IsWritten, Stands, end_at, jump_when}
use Rattle.filing_flow.specs.Types.{Shape, action_after, shape_at, HasType}

-- the shapes before each operation
abbrev pub shapes_of : (a : Flow) (es : List Shape) (i o : Shape) → HasType a es i o → List Shape
shapes_of nothing es i o d = []
shapes_of (action x) es i o d = i ∷ []
shapes_of (sequence a b) es i o d = shapes_of a es i d.0 d.1 ++ shapes_of b es d.0 o d.2
shapes_of (block a) es i o d = shapes_of a (o ∷ es) i o d
shapes_of (leave n) es i o d = i ∷ []
shapes_of (leave_if t n) es i o d = i ∷ []

pub shapes_long : (a : Flow) (es : List Shape) (i o : Shape) (d : HasType a es i o) → length (shapes_of a es i o d) ≡ size a
shapes_long (sequence a b) es i o d = omega (
  arith,
  length-append (shapes_of a es i d.0 d.1) (shapes_of b es d.0 o d.2),
  shapes_long a es i d.0 d.1,
  shapes_long b es d.0 o d.2,
)
shapes_long (block a) es i o d = shapes_long a (o ∷ es) i o d
shapes_long a es i o d = refl

-- the assignment has these from here on
abbrev pub ShapedAt : (ℕ → Shape) → ℕ → List Shape → Type 0
ShapedAt σ pc [] = Unit {0}
ShapedAt σ pc (k ∷ ks) = (σ pc ≡ k) × ShapedAt σ (pc + 1) ks

-- each successor in this program has the shape that the operation leaves, and a greater place
pub record FineAt (p : Program) (σ : ℕ → Shape) (pc : ℕ) (o : Operation) : Type 0 where
  pub result : Shape
  pub finds : shapes.after o (σ pc) ≡ Some result
  pub shallow : length (σ pc) ≤ 32
  pub shallow_after : length result ≤ 32
  pub goes : (q : ℕ) → Follows p o pc q → (pc < q) × (σ q ≡ result)

pub shaped_front : (σ : ℕ → Shape) (pc : ℕ) (a b : List Shape) → ShapedAt σ pc (a ++ b) → ShapedAt σ pc a
shaped_front σ pc [] b h = tt
shaped_front σ pc (k ∷ a) b h = (h.0, shaped_front σ (pc + 1) a b h.1)

pub shaped_back : (σ : ℕ → Shape) (pc : ℕ) (a b : List Shape) → ShapedAt σ pc (a ++ b) → ShapedAt σ (pc + length a) b
shaped_back σ pc [] b h = let e : pc ≡ pc + 0 = omega arith in subst (λ n. ShapedAt σ n b) e h
shaped_back σ pc (k ∷ a) b h = let e : pc + 1 + length a ≡ pc + length (k ∷ a) = omega arith in
    subst (λ n. ShapedAt σ n b) e (shaped_back σ (pc + 1) a b h.1)

module _ (p : Program) (σ : ℕ → Shape) where
  -- an operation that only goes on
  steady : (pc : ℕ) (o : Operation) (k r : Shape) → σ pc ≡ k → σ (pc + 1) ≡ r → target p o ≡ None
      → shapes.after o k ≡ Some r → length k ≤ 32 → length r ≤ 32 → FineAt p σ pc o
  steady pc o k r here next none e dk dr = record {
    result = r;
    finds = ap (shapes.after o) here ∙ e;
    shallow = rw here dk;
    shallow_after = dr;
    goes = λ q f. elim f [ inl (g, at) ↦ (omega arith, rw at next) | inr to ↦ absurd (cc (to, none)) ];
  }

  -- calls of later procedures enter them at places from a limit on, with the empty shape
  abbrev pub CallsFine : Bounds → (limit : ℕ) → Type 0
  CallsFine bounds limit = (b q : ℕ) → bounds.own < b → first_place p b ≡ Some q → (limit ≤ q) × (σ q ≡ [])

  call_fine : (bounds : Bounds) (limit pc b : ℕ) → CallsFine bounds limit → bounds.own < b → pc < limit → σ pc ≡ []
      → σ (pc + 1) ≡ [] → FineAt p σ pc (Call b)
  call_fine bounds limit pc b calls less before here next = record {
    result = [];
    finds = ap (shapes.after (Call b)) here;
    shallow = rw here (omega arith);
    shallow_after = omega arith;
    goes = λ q f. elim f [ inl (g, at) ↦ (omega arith, rw at next) | inr to ↦ let c = calls b q less to in (omega (arith, before, c.0), c.1) ];
  }

  action_fine : (bounds : Bounds) (limit : ℕ) → CallsFine bounds limit
      → (x : Action) (pc : ℕ) (op : Operation) (i o : Shape) → pc < limit → IsSoundAction bounds x
      → IsWritten (places_in p.texts p.numbers) x op → σ pc ≡ i → σ (pc + 1) ≡ o → action_after x i ≡ Some o
      → length i ≤ 32 → length o ≤ 32 → FineAt p σ pc op
  action_fine bounds limit calls (Push true) pc op i o before ok w here next e di dr = rw w (steady pc PushTrue i o here next refl e di dr)
  action_fine bounds limit calls (Push false) pc op i o before ok w here next e di dr = rw w (steady pc PushFalse i o here next refl e di dr)
  action_fine bounds limit calls Negate pc op [] o before ok w here next e di dr = absurd (cc e)
  action_fine bounds limit calls Negate pc op (Truth ∷ i) o before ok w here next e di dr = rw w (steady pc Not (Truth ∷ i) o here next refl e di dr)
  action_fine bounds limit calls Negate pc op (Texts ∷ i) o before ok w here next e di dr = absurd (cc e)
  action_fine bounds limit calls Negate pc op (Count ∷ i) o before ok w here next e di dr = absurd (cc e)
  action_fine bounds limit calls (ValuesOf name) pc op i o before ok (b, is, t) here next e di dr =
      rw is (steady pc (Values b) i o here next refl e di dr)
  action_fine bounds limit calls JoinTwo pc op (Texts ∷ Texts ∷ i) o before ok w here next e di dr =
      rw w (steady pc Join (Texts ∷ Texts ∷ i) o here next refl e di dr)
  action_fine bounds limit calls JoinTwo pc op _ o before ok w here next e di dr = absurd (cc e)
  action_fine bounds limit calls (MatchKey a key) pc op (Texts ∷ i) o before ok (b, is, t) here next e di dr =
      rw is (steady pc (Match a b) (Texts ∷ i) o here next refl e di dr)
  action_fine bounds limit calls (MatchKey a key) pc op _ o before ok w here next e di dr = absurd (cc e)
  action_fine bounds limit calls Drop pc op [] o before ok w here next e di dr = absurd (cc e)
  action_fine bounds limit calls Drop pc op (k ∷ i) o before ok w here next e di dr = rw w (steady pc Pop (k ∷ i) o here next refl e di dr)
  action_fine bounds limit calls (HasField name) pc op i o before ok (b, is, t) here next e di dr =
      rw is (steady pc (Exists b) i o here next refl e di dr)
  action_fine bounds limit calls PushSize pc op i o before ok w here next e di dr = rw w (steady pc Size i o here next refl e di dr)
  action_fine bounds limit calls (PushNumber n) pc op i o before ok (b, is, t) here next e di dr =
      rw is (steady pc (Number b) i o here next refl e di dr)
  action_fine bounds limit calls IsLess pc op (Count ∷ Count ∷ i) o before ok w here next e di dr =
      rw w (steady pc Less (Count ∷ Count ∷ i) o here next refl e di dr)
  action_fine bounds limit calls IsLess pc op _ o before ok w here next e di dr = absurd (cc e)
  action_fine bounds limit calls (IsMarked b) pc op i o before ok w here next e di dr = rw w (steady pc (Marked b) i o here next refl e di dr)
  action_fine bounds limit calls (SetMark b) pc op i o before ok w here next e di dr = rw w (steady pc (Mark b) i o here next refl e di dr)
  action_fine bounds limit calls (FileInto a path) pc op i o before ok (b, is, t) here next e di dr =
      rw is (steady pc (File a b) i o here next refl e di dr)
  action_fine bounds limit calls SetKept pc op i o before ok w here next e di dr = rw w (steady pc Keep i o here next refl e di dr)
  action_fine bounds limit calls SetCancelled pc op i o before ok w here next e di dr = rw w (steady pc Discard i o here next refl e di dr)
  action_fine bounds limit calls End pc op i o before ok w here next e di dr = rw w (steady pc Stop i o here next refl e di dr)
  action_fine bounds limit calls (Fail fault) pc op i o before ok w here next e di dr =
      rw w (steady pc (Fault (number_of fault)) i o here next refl e di dr)
  action_fine bounds limit calls (CallTo b) pc op [] o before ok w here next e di dr = let out : [] ≡ o = cc e in
      rw w (call_fine bounds limit pc b calls ok.0 before here (next ∙ sym out))
  action_fine bounds limit calls (CallTo b) pc op (k ∷ i) o before ok w here next e di dr = absurd (cc e)

  leave_if_fine : (t : Bool) (pc b : ℕ) (k : Shape) → σ pc ≡ Truth ∷ k → σ (pc + 1) ≡ k → σ b ≡ k → pc < b
      → length k ≤ 31 → FineAt p σ pc (jump_when t b)
  leave_if_fine true pc b k here next there lt d = record {
    result = k;
    finds = ap (shapes.after (JumpIf b)) here;
    shallow = rw here (omega arith);
    shallow_after = omega arith;
    goes = λ q f. elim f [ inl (g, at) ↦ (omega arith, rw at next) | inr to ↦ let e : b ≡ q = cc in (omega arith, rw (← e) there) ];
  }
  leave_if_fine false pc b k here next there lt d = record {
    result = k;
    finds = ap (shapes.after (JumpUnless b)) here;
    shallow = rw here (omega arith);
    shallow_after = omega arith;
    goes = λ q f. elim f [ inl (g, at) ↦ (omega arith, rw at next) | inr to ↦ let e : b ≡ q = cc in (omega arith, rw (← e) there) ];
  }

  leave_fine : (pc b : ℕ) (k : Shape) → σ pc ≡ k → σ b ≡ k → pc < b → length k ≤ 32 → FineAt p σ pc (Jump b)
  leave_fine pc b k here there lt d = record {
    result = k;
    finds = ap (shapes.after (Jump b)) here;
    shallow = rw here d;
    shallow_after = d;
    goes = λ q f. elim f [ inl (g, at) ↦ absurd (cc g) | inr to ↦ let e : b ≡ q = cc in (omega arith, rw (← e) there) ];
  }

  -- the ends of the blocks around have their shapes, and come from here on
  pub record EndAt (limit b : ℕ) (k : Shape) : Type 0 where
    pub shaped : σ b ≡ k
    pub later : limit ≤ b

  abbrev pub Around : ℕ → List ℕ → List Shape → Type 0
  Around limit ends es = (n : ℕ) (k : Shape) → shape_at es n ≡ Some k → EndAt limit (end_at ends n) k

  around_sooner : (limit l : ℕ) (ends : List ℕ) (es : List Shape) → l ≤ limit → Around limit ends es → Around l ends es
  around_sooner limit l ends es le h = λ n k e. let x = h n k e in record { shaped = x.shaped; later = omega (arith, x.later) }

  around_block : (limit : ℕ) (ends : List ℕ) (es : List Shape) (o : Shape) → σ limit ≡ o → Around limit ends es → Around limit (limit ∷ ends) (o ∷ es)
  around_block limit ends es o at h zero k e = let eq : o ≡ k = cc in record { shaped = at ∙ eq; later = omega arith }
  around_block limit ends es o at h (suc n) k e = h n k e

  pub starts : (a : Flow) (es : List Shape) (i o : Shape) (d : HasType a es i o) (pc : ℕ)
      → ShapedAt σ pc (shapes_of a es i o d) → σ (pc + size a) ≡ o → σ pc ≡ i
  starts nothing es i o d pc h end = let e : pc + 0 ≡ pc = omega arith in subst (λ (n : ℕ). σ n ≡ o) e end ∙ sym d
  starts (action x) es i o d pc h end = h.0
  starts (sequence a b) es i o d pc h end =
      let sa = shapes_of a es i d.0 d.1 in
      let sb = shapes_of b es d.0 o d.2 in
      let e1 : pc + length sa ≡ pc + size a = omega (arith, shapes_long a es i d.0 d.1) in
      let e2 : pc + (size a + size b) ≡ pc + size a + size b = omega arith in
      starts a es i d.0 d.1 pc (shaped_front σ pc sa sb h)
      (starts b es d.0 o d.2 (pc + size a) (subst (λ (n : ℕ). ShapedAt σ n sb) e1 (shaped_back σ pc sa sb h)) (subst (λ (n : ℕ). σ n ≡ o) e2 end))
  starts (block a) es i o d pc h end = starts a (o ∷ es) i o d pc h end
  starts (leave n) es i o d pc h end = h.0
  starts (leave_if t n) es i o d pc h end = h.0

  -- each operation from here to there is fine
  abbrev pub AllFine : (from to : ℕ) → Type 0
  AllFine from to = (q : ℕ) (op : Operation) → from ≤ q → q < to → slice_get p.code q ≡ Some op → FineAt p σ q op

  one_fine : (pc : ℕ) (op : Operation) → slice_get p.code pc ≡ Some op → FineAt p σ pc op → AllFine pc (pc + 1)
  one_fine pc op at fine q o low high found =
      let here : pc ≡ q = omega (arith, low, high) in
      let same : op ≡ o = cc (at, found, here) in
      subst (λ (n : ℕ). FineAt p σ n o) here (subst (λ (x : Operation). FineAt p σ pc x) same fine)

  module _ (bounds : Bounds) (limit : ℕ) (calls : CallsFine bounds limit) where
    pub flow_fine : (a : Flow) (ends : List ℕ) (pc : ℕ) (es : List Shape) (i o : Shape) (d : HasType a es i o)
        → IsSound bounds a → pc + size a ≤ limit → Stands (places_in p.texts p.numbers) p.code a ends pc
        → ShapedAt σ pc (shapes_of a es i o d) → σ (pc + size a) ≡ o → Around (pc + size a) ends es
        → AllFine pc (pc + size a)
    flow_fine nothing ends pc es i o d ok before at h end around = λ q op low high found. absurd (omega (arith, low, high))
    flow_fine (action x) ends pc es i o d ok before (op, at, w) h end around =
        one_fine pc op at (action_fine bounds limit calls x pc op i o (omega (arith, before)) ok w h.0 end d.0 d.1 d.2)
    flow_fine (sequence a b) ends pc es i o d ok before at h end around =
        let sa = shapes_of a es i d.0 d.1 in
        let sb = shapes_of b es d.0 o d.2 in
        let e1 : pc + length sa ≡ pc + size a = omega (arith, shapes_long a es i d.0 d.1) in
        let e2 : pc + (size a + size b) ≡ pc + size a + size b = omega arith in
        let hb : ShapedAt σ (pc + size a) sb = subst (λ (n : ℕ). ShapedAt σ n sb) e1 (shaped_back σ pc sa sb h) in
        let end' : σ (pc + size a + size b) ≡ o = subst (λ (n : ℕ). σ n ≡ o) e2 end in
        let mid : σ (pc + size a) ≡ d.0 = starts b es d.0 o d.2 (pc + size a) hb end' in
        let front = flow_fine a ends pc es i d.0 d.1 ok.0 (omega (arith, before)) at.0 (shaped_front σ pc sa sb h) mid
        (around_sooner (pc + (size a + size b)) (pc + size a) ends es (omega arith) around) in
        let back = flow_fine b ends (pc + size a) es d.0 o d.2 ok.1 (omega (arith, before)) at.1 hb end'
        (around_sooner (pc + (size a + size b)) (pc + size a + size b) ends es (omega arith) around) in
        λ q op low high found. elim (cases_lt q (pc + size a)) [
          | inl lt ↦ front q op low lt found
          | inr le ↦ back q op le (omega (arith, high)) found
        ]
    flow_fine (block a) ends pc es i o d ok before at h end around =
        flow_fine a ((pc + size a) ∷ ends) pc (o ∷ es) i o d ok before at h end
        (around_block (pc + size a) ends es o end around)
    flow_fine (leave n) ends pc es i o d ok before at h end around =
        let to = around n i d.1 in
        one_fine pc _ at (leave_fine pc (end_at ends n) i h.0 to.shaped (omega (arith, to.later)) d.0)
    flow_fine (leave_if t n) ends pc es i o d ok before at h end around =
        let to = around n o d.2 in
        one_fine pc _ at (leave_if_fine t pc (end_at ends n) o (h.0 ∙ d.0) end to.shaped (omega (arith, to.later)) d.1)
