-- Blocks whose end was known only when they were written.
use Rattle.std.proofs.Common.{◌≡◌, ℕ, zero, suc, ◌+◌, ◌≤◌, ◌<◌, ◌^◌, List, [], ◌∷◌, ◌++◌, Bool, true, false, nat_eq}
use Rattle.std.proofs.Common.{Some, cond, map, take, drop, length, get_or, set, refl, sym, ap, ◌∙◌, subst, arith}
use Rattle.std.proofs.Math.Seq.{take-append_seam, drop-append_seam}
use Rattle.std.proofs.lemmas.Bool.{eqb-true}
use Rattle.std.proofs.lemmas.List.{length-map}
use Rattle.std.proofs.lemmas.Option.{slice_get-map}
use Rattle.std.specs.Prelude.{slice_get, option_map}
use Rattle.filing_image.specs.declared.instruction.Operation.{Operation}
use Rattle.filing_image.specs.declared.instruction.Operation.TheVariants.{Jump}
use Rattle.filing_flow.specs.Structure.{Action, Push, Negate, ValuesOf, JoinTwo, MatchKey, Drop, HasField, PushSize}
use Rattle.filing_flow.specs.Structure.{PushNumber, IsLess, IsMarked, SetMark, FileInto, SetKept, SetCancelled, End}
use Rattle.filing_flow.specs.Structure.{Fail, CallTo, Flow, nothing, action, sequence, block, leave, leave_if, size}
use Rattle.filing_flow.specs.Code.{Operands, IsWritten, Stands, end_at, jump_when}
use Rattle.filing_flow.specs.Types.{Shape, shape_at, HasType}
use Rattle.filing_flow.proofs.Stands.{Named, stands_there}
use Rattle.filing_gen.specs.declared.output.Output.{Output}
use Rattle.filing_gen.specs.Pools.{IsAmong}
use Rattle.filing_gen.specs.Adds.{operands_of, Emits}
use Rattle.filing_gen.specs.Ends.{no_place, place_or, with_end, IsEnded}
use Rattle.filing_gen.proofs.Emitted.{emits_block, grows}

replaced : {A : Type 0} (f : A → A) (xs : List A) (i : ℕ) (d : A) → i < length xs
    → set (map f (take i xs) ++ drop i xs) i (f (get_or (map f (take i xs) ++ drop i xs) i d)) ≡ map f (take (suc i) xs) ++ drop (suc i) xs
replaced f [] i d lt = elim lt [ ]
replaced f (x ∷ xs) zero d lt = refl
replaced f (x ∷ xs) (suc i) d lt = ap (λ l. f x ∷ l) (replaced f xs i d (omega (arith, lt)))

-- one more item of a list was replaced
pub one_more : {A : Type 0} (f : A → A) (xs ys : List A) (i : ℕ) (v d : A) → ys ≡ map f (take i xs) ++ drop i xs
    → i < length xs → v ≡ f (get_or ys i d) → set ys i v ≡ map f (take (i + 1) xs) ++ drop (i + 1) xs
one_more f xs ys i v d is lt at =
    let next : suc i ≡ i + 1 = omega arith in
    ap (λ l. set l i v) is
    ∙ ap (λ w. set (map f (take i xs) ++ drop i xs) i w) (at ∙ ap (λ l. f (get_or l i d)) is)
    ∙ replaced f xs i d lt
    ∙ ap (λ n. map f (take n xs) ++ drop n xs) next

-- ENDS

-- the operation of an action is no jump
written_known : (n : Operands) (e : ℕ) (x : Action) (o : Operation) → IsWritten n x o → with_end e o ≡ o
written_known n e (Push true) o w = rw w refl
written_known n e (Push false) o w = rw w refl
written_known n e Negate o w = rw w refl
written_known n e (ValuesOf name) o (b, is, t) = rw is refl
written_known n e JoinTwo o w = rw w refl
written_known n e (MatchKey a key) o (b, is, t) = rw is refl
written_known n e Drop o w = rw w refl
written_known n e (HasField name) o (b, is, t) = rw is refl
written_known n e PushSize o w = rw w refl
written_known n e (PushNumber k) o (b, is, t) = rw is refl
written_known n e IsLess o w = rw w refl
written_known n e (IsMarked b) o w = rw w refl
written_known n e (SetMark b) o w = rw w refl
written_known n e (FileInto a path) o (b, is, t) = rw is refl
written_known n e SetKept o w = rw w refl
written_known n e SetCancelled o w = rw w refl
written_known n e End o w = rw w refl
written_known n e (Fail fault) o w = rw w refl
written_known n e (CallTo b) o w = rw w refl

-- a place that is known, since it is not after the end
place_known : (e b : ℕ) → b ≤ e → e ≤ no_place → place_or e b ≡ b
place_known e b le most = known (nat_eq b no_place) refl where
  known : (t : Bool) → nat_eq b no_place ≡ t → cond t e b ≡ b
  known true is = let at : b ≡ no_place = eqb-true b no_place is in omega (arith, le, most, at)
  known false is = refl

end_at_known : (e : ℕ) (ends : List ℕ) (n : ℕ) → end_at (map (place_or e) ends) n ≡ place_or e (end_at ends n)
end_at_known e [] n = refl
end_at_known e (b ∷ ends) zero = refl
end_at_known e (b ∷ ends) (suc n) = end_at_known e ends n

jump_known : (e : ℕ) (t : Bool) (b : ℕ) → with_end e (jump_when t b) ≡ jump_when t (place_or e b)
jump_known e true b = refl
jump_known e false b = refl

-- the operations from a place on are there too, with the end of their jumps
abbrev EndedFrom : (e low : ℕ) → List Operation → List Operation → Type 0
EndedFrom e low os ps = (i : ℕ) (o : Operation) → low ≤ i → slice_get os i ≡ Some o → slice_get ps i ≡ Some (with_end e o)

-- code that stands before the end, and its blocks too
ended_stands : (n : Operands) (e : ℕ) → e ≤ no_place → (os ps : List Operation) (low : ℕ) → EndedFrom e low os ps
    → (a : Flow) (ends : List ℕ) (place : ℕ) → low ≤ place → place + size a ≤ e → Stands n os a ends place
    → Stands n ps a (map (place_or e) ends) place
ended_stands n e most os ps low is nothing ends place from le h = tt
ended_stands n e most os ps low is (action x) ends place from le (o, at, w) = (o, is place o from at ∙ ap (λ k. Some k) (written_known n e x o w), w)
ended_stands n e most os ps low is (sequence a b) ends place from le h = (
  ended_stands n e most os ps low is a ends place from (omega (arith, le)) h.0,
  ended_stands n e most os ps low is b ends (place + size a) (omega (arith, from)) (omega (arith, le)) h.1,
)
ended_stands n e most os ps low is (block a) ends place from le h =
    subst (λ (b : ℕ). Stands n ps a (b ∷ map (place_or e) ends) place) (place_known e (place + size a) le most)
    (ended_stands n e most os ps low is a ((place + size a) ∷ ends) place from le h)
ended_stands n e most os ps low is (leave k) ends place from le at = is place _ from at ∙ ap (λ b. Some (Jump b)) (sym (end_at_known e ends k))
ended_stands n e most os ps low is (leave_if t k) ends place from le at = is place _ from at
    ∙ ap (λ o. Some o) (jump_known e t (end_at ends k)) ∙ ap (λ b. Some (jump_when t b)) (sym (end_at_known e ends k))

-- Code with a type jumps only to the ends of blocks that its type has.

inner_end : (es : List Shape) (inner : List ℕ) (n : ℕ) (k : Shape) → shape_at es n ≡ Some k → (x y : List ℕ)
    → length inner ≡ length es → end_at (inner ++ x) n ≡ end_at (inner ++ y) n
inner_end [] inner n k at x y same = cc
inner_end (e ∷ es) [] n k at x y same = omega (arith, same)
inner_end (e ∷ es) (b ∷ inner) zero k at x y same = refl
inner_end (e ∷ es) (b ∷ inner) (suc n) k at x y same = inner_end es inner n k at x y (omega (arith, same))

closed : (n : Operands) (os : List Operation) (a : Flow) (es : List Shape) (i o : Shape) → HasType a es i o
    → (inner x y : List ℕ) → length inner ≡ length es → (place : ℕ) → Stands n os a (inner ++ x) place
    → Stands n os a (inner ++ y) place
closed n os nothing es i o d inner x y same place h = tt
closed n os (action k) es i o d inner x y same place h = h
closed n os (sequence a b) es i o (m, p, q) inner x y same place h =
    (closed n os a es i m p inner x y same place h.0, closed n os b es m o q inner x y same (place + size a) h.1)
closed n os (block a) es i o d inner x y same place h = closed n os a (o ∷ es) i o d ((place + size a) ∷ inner) x y (ap suc same) place h
closed n os (leave k) es i o d inner x y same place h = h ∙ ap (λ b. Some (Jump b)) (inner_end es inner k i d.1 x y same)
closed n os (leave_if t k) es i o d inner x y same place h = h ∙ ap (λ b. Some (jump_when t b)) (inner_end es inner k o d.2 x y same)

-- BLOCKS

get_ended : {A : Type 0} (f : A → A) (xs ys : List A) (i : ℕ) (x : A) → length xs ≤ i → slice_get (xs ++ ys) i ≡ Some x
    → slice_get (xs ++ map f ys) i ≡ Some (f x)
get_ended f [] ys i x le at = slice_get-map f ys i ∙ ap (option_map f) at
get_ended f (y ∷ xs) ys zero x le at = absurd (omega (arith, le))
get_ended f (y ∷ xs) ys (suc i) x le at = get_ended f xs ys i x (omega (arith, le)) at

-- code that was written before the end of the block around it was known
pub jumps_ended : (x y z : Output) (a : Flow) (e : ℕ) (k i o : Shape) → HasType a (k ∷ []) i o
    → Emits x y a (no_place ∷ []) → length y.code.items ≤ e → e ≤ no_place → IsEnded (length x.code.items) e y z
    → (ends : List ℕ) → Emits x z a (e ∷ ends)
jumps_ended x y z a e k i o typed h below most is ends =
    let n = operands_of y in
    let low = length x.code.items in
    let front : take low y.code.items ≡ x.code.items = ap (take low) h.code ∙ take-append_seam x.code.items h.added in
    let back : drop low y.code.items ≡ h.added = ap (drop low) h.code ∙ drop-append_seam x.code.items h.added in
    let code : z.code.items ≡ x.code.items ++ map (with_end e) h.added = is.code
    ∙ ap (λ (l : List Operation). l ++ map (with_end e) (drop low y.code.items)) front
    ∙ ap (λ (l : List Operation). x.code.items ++ map (with_end e) l) back in
    let there : EndedFrom e low y.code.items z.code.items =
    λ i o le at.
    subst (λ (l : List Operation).
    slice_get l i ≡ Some (with_end e o)) (sym code)
    (get_ended (with_end e) x.code.items h.added i o le (subst (λ (l : List Operation).
    slice_get l i ≡ Some o) h.code at)) in
    let long : length y.code.items ≡ low + size a = (grows x y a (no_place ∷ []) h).code in
    let at_begin : Stands n z.code.items a (e ∷ []) low =
    ended_stands n e most y.code.items z.code.items low there a (no_place ∷ []) low (omega arith) (omega (
      arith,
      long,
      below,
    )) h.stands in
    let named : Named n (operands_of z) =
    record {
      text = λ b t at. subst (λ (l : List (List ℕ × ℕ)). IsAmong (t, b) l) (sym is.texts) at;
      number =
          λ b t at. subst (λ (l : List (ℕ × ℕ)). IsAmong (t, b) l) (sym is.numbers) at;
    } in
    record {
      keeps = record {
        text = λ b t at. named.text b t (h.keeps.text b t at);
        number = λ b t at. named.number b t (h.keeps.number b t at);
        texts = rw is.texts h.keeps.texts;
        numbers = rw is.numbers h.keeps.numbers;
      };
      added = map (with_end e) h.added;
      code = code;
      long = length-map h.added (with_end e) ∙ h.long;
      stands = stands_there n (operands_of z) named z.code.items z.code.items 0 (λ i o le at.
          at) a (e ∷ ends) low (omega arith) (closed n z.code.items a (k ∷ []) i o typed (e
          ∷ []) [] ends refl low at_begin);
    }

-- the block was written with no end, and then its end was
pub block_ended : (x y z : Output) (a : Flow) (ends : List ℕ) (k : Shape) → HasType a (k ∷ []) k k
    → Emits x y a (no_place ∷ []) → length y.code.items < 2 ^ 16
    → IsEnded (length x.code.items) (length y.code.items) y z → Emits x z (block a) ends
block_ended x y z a ends k typed h few is =
    emits_block x z a ends (length y.code.items) (grows x y a (no_place ∷ []) h).code
    (jumps_ended x y z a (length y.code.items) k k k typed h (omega arith) (omega (arith, few)) is ends)
