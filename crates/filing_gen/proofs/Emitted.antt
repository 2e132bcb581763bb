-- Pieces that were added one after the other.
use Rattle.std.proofs.Common.{◌≡◌, ℕ, zero, suc, ◌+◌, ◌≤◌, ◌<◌, List, [], ◌∷◌, ◌++◌, length, Bool, Some, refl, sym, ap}
use Rattle.std.proofs.Common.{◌∙◌, subst, arith, length-append, append_assoc, append-nil, drop, get_or, true, false}
use Rattle.std.specs.Prelude.{slice_get}
use Rattle.std.proofs.lemmas.List.{drop_more}
use Rattle.filing_image.specs.declared.instruction.Operation.{Operation}
use Rattle.filing_image.specs.declared.instruction.Operation.TheVariants.{Jump, JumpIf, JumpUnless, PushTrue, PushFalse}
use Rattle.filing_flow.specs.Structure.{Action, Push, Flow, nothing, action, sequence, block, leave, leave_if, size}
use Rattle.filing_flow.specs.Code.{IsWritten, Stands, end_at, jump_when}
use Rattle.filing_flow.proofs.Stands.{Named, SameFrom, stands_there}
use Rattle.filing_gen.specs.declared.output.Output.{Output}
use Rattle.filing_gen.specs.Pools.{IsAmong}
use Rattle.filing_gen.specs.Ends.{no_place}
use Rattle.filing_gen.specs.Adds.{operands_of, Puts, Keeps, Brings, Emits}

-- WHAT STAYS

pub get_front : {A : Type 0} (xs ys : List A) (i : ℕ) (x : A) → slice_get xs i ≡ Some x → slice_get (xs ++ ys) i ≡ Some x
get_front [] ys i x at = absurd (cc at)
get_front (y ∷ xs) ys zero x at = at
get_front (y ∷ xs) ys (suc i) x at = get_front xs ys i x at

get_seam : {A : Type 0} (xs : List A) (x : A) (ys : List A) → slice_get (xs ++ x ∷ ys) (length xs) ≡ Some x
get_seam [] x ys = refl
get_seam (y ∷ xs) x ys = get_seam xs x ys

pub same_front : (os more ps : List Operation) → ps ≡ os ++ more → SameFrom 0 os ps
same_front os more ps is i o low at = subst (λ (qs : List Operation). slice_get qs i ≡ Some o) (sym is) (get_front os more i o at)

pub named_by : (x y : Output) (n : ℕ) → Keeps x y n → Named (operands_of x) (operands_of y)
named_by x y n k = record { text = k.text; number = k.number }

pub keeps_same : (x : Output) (n : ℕ) → Keeps x x n
keeps_same x n = record { text = λ b t h. h; number = λ b k h. h; texts = omega arith; numbers = omega arith }

pub keeps_then : (x y z : Output) (n m k : ℕ) → k ≡ n + m → Keeps x y n → Keeps y z m → Keeps x z k
keeps_then x y z n m k is a b = record {
  text = λ p t h. b.text p t (a.text p t h);
  number = λ p t h. b.number p t (a.number p t h);
  texts = omega (arith, is, a.texts, b.texts);
  numbers = omega (arith, is, a.numbers, b.numbers);
}

pub keeps_put : (x y : Output) (o : Operation) → Puts x y o → Keeps x y 0
keeps_put x y o h = record {
  text = λ b t at. subst (λ (l : List (List ℕ × ℕ)). IsAmong (t, b) l) (sym h.texts) at;
  number = λ b k at. subst (λ (l : List (ℕ × ℕ)). IsAmong (k, b) l) (sym h.numbers) at;
  texts = rw h.texts (omega arith);
  numbers = rw h.numbers (omega arith);
}

-- ONE OPERATION

-- code of one operation that was put
one_put : (x y : Output) (o : Operation) (a : Flow) (ends : List ℕ) → Puts x y o → size a ≡ 1
    → Stands (operands_of y) y.code.items a ends (length x.code.items) → Emits x y a ends
one_put x y o a ends h one stands =
    record {
      keeps = keeps_then x x y 1 0 (size a) (omega (arith, one)) (keeps_same x 1) (keeps_put x y o h);
      added =
          o ∷ [];
      code = h.code;
      long = sym one;
      stands = stands;
    }

pub put_at_end : (x y : Output) (o : Operation) → Puts x y o → slice_get y.code.items (length x.code.items) ≡ Some o
put_at_end x y o h = subst (λ (qs : List Operation). slice_get qs (length x.code.items) ≡ Some o) (sym h.code) (get_seam x.code.items o [])

pub action_emitted : (x y : Output) (o : Operation) (k : Action) → Puts x y o → IsWritten (operands_of y) k o
    → (ends : List ℕ) → Emits x y (action k) ends
action_emitted x y o k h w ends = one_put x y o (action k) ends h refl (o, put_at_end x y o h, w)

pub leave_emitted : (x y : Output) (b n : ℕ) (ends : List ℕ) → Puts x y (Jump b) → end_at ends n ≡ b → Emits x y (leave n) ends
leave_emitted x y b n ends h is =
    one_put x y (Jump b) (leave n) ends h refl (subst (λ (k : ℕ). slice_get y.code.items (length x.code.items)
    ≡ Some (Jump k)) (sym is) (put_at_end x y (Jump b) h))

pub leave_if_emitted : (x y : Output) (t : Bool) (b n : ℕ) (ends : List ℕ) → Puts x y (jump_when t b)
    → end_at ends n ≡ b → Emits x y (leave_if t n) ends
leave_if_emitted x y t b n ends h is =
    one_put x y (jump_when t b) (leave_if t n) ends h refl (subst (λ (k : ℕ).
    slice_get y.code.items (length x.code.items) ≡ Some (jump_when t k)) (sym is) (put_at_end x y (jump_when t b) h))

pub true_emitted : (x y : Output) (b : Bool) → b ≡ true → Puts x y PushTrue → (ends : List ℕ) → Emits x y (action (Push b)) ends
true_emitted x y b is h ends = subst (λ (t : Bool). Emits x y (action (Push t)) ends) (sym is) (action_emitted x y PushTrue (Push true) h refl ends)

pub false_emitted : (x y : Output) (b : Bool) → b ≡ false → Puts x y PushFalse → (ends : List ℕ) → Emits x y (action (Push b)) ends
false_emitted x y b is h ends =
    subst (λ (t : Bool).
    Emits x y (action (Push t)) ends) (sym is) (action_emitted x y PushFalse (Push false) h refl ends)

-- jumps out of the block around, whose end is not known
pub jump_true_emitted : (x y : Output) (b : Bool) → b ≡ true → Puts x y (JumpIf no_place) → (ends : List ℕ)
    → end_at ends 0 ≡ no_place → Emits x y (leave_if b 0) ends
jump_true_emitted x y b is h ends there =
    subst (λ (t : Bool). Emits x y (leave_if t 0) ends) (sym is) (leave_if_emitted x y true no_place 0 ends h there)

pub jump_false_emitted : (x y : Output) (b : Bool) → b ≡ false → Puts x y (JumpUnless no_place) → (ends : List ℕ)
    → end_at ends 0 ≡ no_place → Emits x y (leave_if b 0) ends
jump_false_emitted x y b is h ends there =
    subst (λ (t : Bool). Emits x y (leave_if t 0) ends) (sym is) (leave_if_emitted x y false no_place 0 ends h there)

-- an operation that names a text or a number, which was added before it
named_emitted : (x m y : Output) (o : Operation) (k : Action) → Brings x m → Puts m y o → IsWritten (operands_of y) k o
    → (ends : List ℕ) → Emits x y (action k) ends
named_emitted x m y o k b h w ends =
    let code : m.code.items ≡ x.code.items = ap (λ c. c.items) b.code in
    record {
      keeps = keeps_then x m y 1 0 1 refl b.keeps (keeps_put m y o h);
      added = o ∷ [];
      code = h.code ∙ ap (λ (l : List Operation). l ++ o ∷ []) code;
      long = refl;
      stands = (o, subst (λ (l : List Operation). slice_get y.code.items (length l) ≡ Some o) code (put_at_end m y o h), w);
    }

text_there : (m y : Output) (o : Operation) (b : ℕ) (t : List ℕ) → Puts m y o → IsAmong (t, b) m.texts → IsAmong (t, b) y.texts
text_there m y o b t h at = (keeps_put m y o h).text b t at

number_there : (m y : Output) (o : Operation) (b k : ℕ) → Puts m y o → IsAmong (k, b) m.numbers → IsAmong (k, b) y.numbers
number_there m y o b k h at = (keeps_put m y o h).number b k at

-- by the place of a text, or of a number, that is there
pub text_emitted : (x m y : Output) (o : Operation) (k : Action) (b : ℕ) (t : List ℕ) → Brings x m → Puts m y o
    → IsAmong (t, b) m.texts → (IsAmong (t, b) y.texts → IsWritten (operands_of y) k o) → (ends : List ℕ)
    → Emits x y (action k) ends
text_emitted x m y o k b t brings h there written ends = named_emitted x m y o k brings h (written (text_there m y o b t h there)) ends

pub number_emitted : (x m y : Output) (o : Operation) (k : Action) (b n : ℕ) → Brings x m → Puts m y o
    → IsAmong (n, b) m.numbers → (IsAmong (n, b) y.numbers → IsWritten (operands_of y) k o) → (ends : List ℕ)
    → Emits x y (action k) ends
number_emitted x m y o k b n brings h there written ends = named_emitted x m y o k brings h (written (number_there m y o b n h there)) ends

-- PIECES

-- n operations were added, and at most n texts and n numbers
pub record Grows (old new : Output) (n : ℕ) : Type 0 where
  pub code : length new.code.items ≡ length old.code.items + n
  pub texts : length new.texts ≤ length old.texts + n
  pub numbers : length new.numbers ≤ length old.numbers + n

pub grows : (x y : Output) (a : Flow) (ends : List ℕ) → Emits x y a ends → Grows x y (size a)
grows x y a ends h = record {
  code = ap length h.code ∙ length-append x.code.items h.added
      ∙ ap (λ n. length x.code.items + n) h.long;
  texts = h.keeps.texts;
  numbers = h.keeps.numbers;
}

pub put_grows : (x y : Output) (o : Operation) → Puts x y o → Grows x y 1
put_grows x y o h = record {
  code = ap length h.code ∙ length-append x.code.items (o ∷ []);
  texts =
      rw h.texts (omega arith);
  numbers = rw h.numbers (omega arith);
}

-- what was emitted is still there after more was added
pub still_stands : (x y z : Output) (n : ℕ) (more : List Operation) (a : Flow) (ends : List ℕ) (place : ℕ) → Keeps y z n
    → z.code.items ≡ y.code.items ++ more → Stands (operands_of y) y.code.items a ends place
    → Stands (operands_of z) z.code.items a ends place
still_stands x y z n more a ends place k is h =
    stands_there (operands_of y) (operands_of z) (named_by y z n k) y.code.items z.code.items 0
    (same_front y.code.items more z.code.items is) a ends place (omega arith) h

pub emits_sequence : (x y z : Output) (a b : Flow) (ends : List ℕ) → Emits x y a ends → Emits y z b ends → Emits x z (sequence a b) ends
emits_sequence x y z a b ends e f = record {
  keeps = keeps_then x y z (size a) (size b) (size a + size b) refl e.keeps f.keeps;
  added = e.added ++ f.added;
  code = f.code ∙ ap (λ (l : List Operation). l ++ f.added) e.code ∙ append_assoc x.code.items e.added f.added;
  long = omega (arith, length-append e.added f.added, e.long, f.long);
  stands = (
    still_stands x y z (size b) f.added a ends (length x.code.items) f.keeps f.code e.stands,
    subst (λ (n : ℕ). Stands (operands_of z) z.code.items b ends n) (grows x y a ends e).code f.stands,
  );
}

-- the bracketing of sequences makes no difference
pub emits_assoc : (x y : Output) (a b c : Flow) (ends : List ℕ) → Emits x y (sequence (sequence a b) c) ends
    → Emits x y (sequence a (sequence b c)) ends
emits_assoc x y a b c ends e =
    let place : length x.code.items + (size a + size b) ≡ length x.code.items + size a + size b = omega arith in
    let total : size a + size b + size c ≡ size a + (size b + size c) = omega arith in
    record {
      keeps = subst (λ (n : ℕ). Keeps x y n) total e.keeps;
      added = e.added;
      code = e.code;
      long = e.long ∙ total;
      stands = (e.stands.0.0, (e.stands.0.1, subst (λ (n : ℕ). Stands (operands_of y) y.code.items c ends n) place e.stands.1));
    }

pub emits_nothing : (x : Output) (ends : List ℕ) → Emits x x nothing ends
emits_nothing x ends = record { keeps = keeps_same x 0; added = []; code = sym (append-nil x.code.items); long = refl; stands = tt }

pub emits_block : (x z : Output) (a : Flow) (ends : List ℕ) (b : ℕ) → b ≡ length x.code.items + size a
    → Emits x z a (b ∷ ends) → Emits x z (block a) ends
emits_block x z a ends b e h = record {
  keeps = h.keeps;
  added = h.added;
  code = h.code;
  long = h.long;
  stands =
      subst (λ (n : ℕ). Stands (operands_of z) z.code.items a (n ∷ ends) (length x.code.items)) e h.stands;
}

-- nothing was written before
pub after_nothing : (x y z : Output) (a : Flow) (ends : List ℕ) → Emits x y nothing ends → Emits y z a ends → Emits x z a ends
after_nothing x y z a ends e f =
    let g = emits_sequence x y z nothing a ends e f in
    let none : 0 + size a ≡ size a = omega arith in
    let here : length x.code.items + 0 ≡ length x.code.items = omega arith in
    record {
      keeps = subst (λ (n : ℕ). Keeps x z n) none g.keeps;
      added = g.added;
      code = g.code;
      long = g.long
          ∙ none;
      stands = subst (λ (n : ℕ). Stands (operands_of z) z.code.items a ends n) here g.stands.1;
    }

-- the first part of a block was written, and the rest is in a block inside it that ends at the same place
pub first_of_block : (x y z : Output) (a r f : Flow) (e : ℕ) (ends : List ℕ)
    → e ≡ length x.code.items + (size a + size r) → Emits x y a (e ∷ ends) → Emits y z (sequence (block r) f) ends
    → Emits x z (sequence (block (sequence a r)) f) ends
first_of_block x y z a r f e ends is h k =
    let grown = (grows x y a (e ∷ ends) h).code in
    let end : length y.code.items + size r ≡ e = omega (arith, grown, is) in
    let last : length y.code.items + size r ≡ length x.code.items + (size a + size r) = omega (arith, grown) in
    let total : size a + (size r + size f) ≡ size a + size r + size f = omega arith in
    let front : Stands (operands_of z) z.code.items a (e ∷ ends) (length x.code.items) =
    still_stands x y z (size r + size f) k.added a (e ∷ ends) (length x.code.items) k.keeps k.code h.stands in
    let rest : Stands (operands_of z) z.code.items r (e ∷ ends) (length x.code.items + size a) =
    subst (λ (n : ℕ). Stands (operands_of z) z.code.items r (e ∷ ends) n) grown (subst (λ (n : ℕ).
    Stands (operands_of z) z.code.items r (n ∷ ends) (length y.code.items)) end k.stands.0) in
    record {
      keeps = keeps_then x y z (size a) (size r + size f) (size a + size r + size f) (sym total) h.keeps k.keeps;
      added = h.added ++ k.added;
      code = k.code ∙ ap (λ (l : List Operation). l ++ k.added) h.code ∙ append_assoc x.code.items h.added k.added;
      long = omega (arith, length-append h.added k.added, h.long, k.long);
      stands = (
        subst (λ (n : ℕ). Stands (operands_of z) z.code.items (sequence a r) (n ∷ ends) (length x.code.items)) is (front, rest),
        subst (λ (n : ℕ). Stands (operands_of z) z.code.items f ends n) last k.stands.1,
      );
    }

-- Once the rest is added, so is the whole, where the blocks around end as they should.
pub record Completes (old now : Output) (rest whole : Flow) (Ends : List ℕ → Type 0) : Type 0 where
  pub emits : (x : Output) (ends : List ℕ) → Ends ends → Emits now x rest ends → Emits old x whole ends
  pub code : length now.code.items + size rest ≡ length old.code.items + size whole
  pub texts : length now.texts + size rest ≤ length old.texts + size whole
  pub numbers : length now.numbers + size rest ≤ length old.numbers + size whole

pub leads_first : (x : Output) (a : Flow) (Ends : List ℕ → Type 0) → Completes x x a a Ends
leads_first x a Ends = record { emits = λ y ends e h. h; code = refl; texts = omega arith; numbers = omega arith }

pub leads_last : (x y : Output) (a rest : Flow) (Ends : List ℕ → Type 0) → Completes x y rest a Ends → rest ≡ nothing
    → (ends : List ℕ) → Ends ends → Emits x y a ends
leads_last x y a rest Ends h is ends e = h.emits y ends e (subst (λ (r : Flow). Emits y y r ends) (sym is) (emits_nothing y ends))

pub leads_more : (x y z : Output) (a b rest whole : Flow) (Ends : List ℕ → Type 0) (some : List ℕ) → Ends some
    → Completes x y rest whole Ends → rest ≡ sequence a b → ((ends : List ℕ) → Ends ends → Emits y z a ends)
    → Completes x z b whole Ends
leads_more x y z a b rest whole Ends some there h is e =
    let g = grows y z a some (e some there) in
    let same : size rest ≡ size a + size b = ap size is in
    record {
      emits = λ w ends eq f. h.emits w ends eq (subst (λ (r : Flow). Emits y w r ends) (sym is) (emits_sequence y z w a b ends (e ends eq) f));
      code = omega (arith, h.code, g.code);
      texts = omega (arith, h.texts, g.texts);
      numbers = omega (arith, h.numbers, g.numbers);
    }

-- two parts at once
pub leads_both : (x y z : Output) (a b c rest whole : Flow) (Ends : List ℕ → Type 0) (some : List ℕ) → Ends some
    → Completes x y rest whole Ends → rest ≡ sequence a (sequence b c)
    → ((ends : List ℕ) → Ends ends → Emits y z (sequence a b) ends) → Completes x z c whole Ends
leads_both x y z a b c rest whole Ends some there h is e =
    let g = grows y z (sequence a b) some (e some there) in
    let same : size rest ≡ size a + (size b + size c) = ap size is in
    record {
      emits = λ w ends eq f.
          h.emits w ends eq (subst (λ (r : Flow).
          Emits y w r ends) (sym is)
          (emits_assoc y w a b c ends (emits_sequence y z w (sequence a b) c ends (e ends eq) f)));
      code = omega (arith, h.code, g.code);
      texts = omega (arith, h.texts, g.texts);
      numbers = omega (arith, h.numbers, g.numbers);
    }

-- the item of a turn
pub turn : {A : Type 0} (xs : List A) (i : ℕ) (x : A) → x ≡ get_or xs i x → i < length xs → drop i xs ≡ x ∷ drop (i + 1) xs
turn xs i x e lt = drop_more xs i x lt ∙ ap (λ y. y ∷ drop (i + 1) xs) (sym e)

-- the innermost block around ends there
abbrev pub To : ℕ → List ℕ → Type 0
To b ends = end_at ends 0 ≡ b

-- whichever blocks are around
abbrev pub Anywhere : List ℕ → Type 0
Anywhere ends = Unit {0}
