-- The state of a search, and what each of its steps keeps.
use Rattle.std.proofs.Common.{◌≡◌, ℕ, zero, suc, ◌+◌, ◌-◌, ◌*◌, ◌≤◌, ◌<◌, ◌^◌, Bool, true, false, cond, eqb, List, [], ◌∷◌, length, drop, ◌⊎◌, inl}
use Rattle.std.proofs.Common.{inr, add-one, Option, Some, None, refl, sym, ap, subst, ◌∙◌, arith}
use Rattle.std.proofs.lemmas.List.{drop-drop, nil_from_length}
use Rattle.std.proofs.lemmas.Bool.{eqb-true, eqb-false, false_from_ne_true}
use Rattle.std.proofs.Math.Nat.{mul-le-mul, mul-le-mul_left, mul-le-mul_right}
use Rattle.std.proofs.Math.Seq.{drop-nil}
use Rattle.std.specs.Borrow.{Bor}
use Rattle.sieve_meaning.specs.declared.matching.Comparator.{Comparator}
use Rattle.sieve_meaning.specs.declared.matching.Item.{Item}
use Rattle.sieve_meaning.specs.declared.matching.Item.TheVariants.{Octet, One, Any}
use Rattle.sieve_meaning.proofs.MatchingLemmas.{covers_to, covers_from}
use Rattle.sieve_meaning.specs.Matching.{covers, fold_octet, item_of, items_from, items_of, Matches}
use Rattle.sieve_match.specs.Steps.{compared_length, octet_count, Turn, ends, star, goes, stuck, turn_of}

-- the items match the text from some place on
abbrev pub SomeTail : Comparator → List Item → List ℕ → Type 0
SomeTail c is text = (n : ℕ) × Matches c is (drop n text)

-- the items from the last star on, and the items that are left: where the former match, the latter do
pub record Walked (c : Comparator) (after items : List Item) (from rest : List ℕ) : Type 0 where
  pub ahead : (n : ℕ) → Matches c after (drop n from) → Matches c items (drop n rest)
  pub back : Matches c items rest → Matches c after from

-- how many items come before the next star
abbrev pub fixed : List Item → ℕ
fixed [] = 0
fixed (Octet o ∷ is) = suc (fixed is)
fixed (One ∷ is) = suc (fixed is)
fixed (Any ∷ is) = 0

fixed-le : (is : List Item) → fixed is ≤ length is
fixed-le [] = omega arith
fixed-le (Octet o ∷ is) = omega (arith, fixed-le is)
fixed-le (One ∷ is) = omega (arith, fixed-le is)
fixed-le (Any ∷ is) = omega arith

compared-le : (is : List Item) (text : List ℕ) → compared_length is text ≤ fixed is
compared-le [] text = omega arith
compared-le (Octet o ∷ is) [] = omega arith
compared-le (Octet o ∷ is) (b ∷ bs) = omega arith
compared-le (One ∷ is) text = omega arith
compared-le (Any ∷ is) text = omega arith

compared-one : (is : List Item) (text : List ℕ) → compared_length is text ≤ 1
compared-one [] text = omega arith
compared-one (Octet o ∷ is) [] = omega arith
compared-one (Octet o ∷ is) (b ∷ bs) = omega arith
compared-one (One ∷ is) text = omega arith
compared-one (Any ∷ is) text = omega arith

-- what a comparison's outcome says
chosen : (b : Bool) (t u v : Turn) → cond b t u ≡ v → ((b ≡ true) × (t ≡ v)) ⊎ ((b ≡ false) × (u ≡ v))
chosen true t u v e = inl (refl, e)
chosen false t u v e = inr (refl, e)

stuck_is : (c : Comparator) (items : List Item) (rest : List ℕ) → turn_of c items rest ≡ stuck → Matches c items rest → ⊥
stuck_is c [] [] e m = cc
stuck_is c [] (b ∷ bs) e m = m
stuck_is c (Octet o ∷ is) [] e m = m
stuck_is c (Octet o ∷ is) (b ∷ bs) e m =
    elim (chosen (eqb (fold_octet c o) (fold_octet c b)) (goes is bs) stuck stuck e) [
      | inl h ↦ absurd (apart h.1)
      | inr h ↦ absurd (not_same _ _ h.0 m.0)
    ]
  where
    apart : goes is bs ≡ stuck → ⊥
    apart x = cc

    not_same : (x y : ℕ) → eqb x y ≡ false → x ≡ y → ⊥
    not_same x y h k = eqb-false x y h k
stuck_is c (One ∷ is) [] e m = m
stuck_is c items rest e m = cc

pub ends_is : (c : Comparator) (items : List Item) (rest : List ℕ) → turn_of c items rest ≡ ends → (items ≡ []) × (rest ≡ [])
ends_is c [] [] e = (refl, refl)
ends_is c (Octet o ∷ is) (b ∷ bs) e =
    elim (chosen (eqb (fold_octet c o) (fold_octet c b)) (goes is bs) stuck ends e) [
      | inl h ↦ absurd cc
      | inr h ↦ absurd cc
    ]
ends_is c (One ∷ is) [] e = absurd cc
ends_is c items rest e = absurd cc

pub star_is : (c : Comparator) (items : List Item) (rest : List ℕ) (next : List Item) → turn_of c items rest ≡ star next → items ≡ Any ∷ next
star_is c [] [] next e = absurd cc
star_is c (Octet o ∷ is) (b ∷ bs) next e =
    elim (chosen (eqb (fold_octet c o) (fold_octet c b)) (goes is bs) stuck (star next) e) [
      | inl h ↦ absurd cc
      | inr h ↦ absurd cc
    ]
star_is c (One ∷ is) [] next e = absurd cc
star_is c (Any ∷ is) text next e = cc
star_is c items rest next e = absurd cc

-- one octet further
pub record Goes (c : Comparator) (items : List Item) (rest : List ℕ) (next : List Item) (following : List ℕ) : Type 0 where
  pub ahead : (n : ℕ) → Matches c items (drop n rest) → Matches c next (drop n following)
  pub back : Matches c next following → Matches c items rest
  pub item : length items ≡ suc (length next)
  pub octet : length rest ≡ suc (length following)
  pub before : fixed items ≡ suc (fixed next)
  pub octets : octet_count items ≡ compared_length items rest + octet_count next

octet_tail : (c : Comparator) (o : ℕ) (is : List Item) (xs : List ℕ) → Matches c (Octet o ∷ is) xs → Matches c is (drop 1 xs)
octet_tail c o is [] m = absurd m
octet_tail c o is (x ∷ xs) m = m.1

one_tail : (c : Comparator) (is : List Item) (xs : List ℕ) → Matches c (One ∷ is) xs → Matches c is (drop 1 xs)
one_tail c is [] m = absurd m
one_tail c is (x ∷ xs) m = m

drop_both : (n b : ℕ) (bs : List ℕ) → drop 1 (drop n (b ∷ bs)) ≡ drop n bs
drop_both n b bs = drop-drop 1 n (b ∷ bs) ∙ rw (add-one n) refl

goes_made : (c : Comparator) (o b : ℕ) (is : List Item) (bs : List ℕ) → fold_octet c o ≡ fold_octet c b → Goes c (Octet o ∷ is) (b ∷ bs) is bs
goes_made c o b is bs h = record {
  ahead = λ n m. subst (λ (t : List ℕ). Matches c is t) (drop_both n b bs) (octet_tail c o is (drop n (b ∷ bs)) m);
  back = λ m. (h, m);
  item = refl;
  octet = refl;
  before = refl;
  octets = omega arith;
}

one_made : (c : Comparator) (b : ℕ) (is : List Item) (bs : List ℕ) → Goes c (One ∷ is) (b ∷ bs) is bs
one_made c b is bs = record {
  ahead = λ n m. subst (λ (t : List ℕ). Matches c is t) (drop_both n b bs) (one_tail c is (drop n (b ∷ bs)) m);
  back = λ m. m;
  item = refl;
  octet = refl;
  before = refl;
  octets = omega arith;
}

same_goes : (a x : List Item) (b y : List ℕ) → goes a b ≡ goes x y → (a ≡ x) × (b ≡ y)
same_goes a x b y e = (cc, cc)

moved : (c : Comparator) (items : List Item) (rest : List ℕ) (a x : List Item) (b y : List ℕ) → Goes c items rest a b
    → goes a b ≡ goes x y → Goes c items rest x y
moved c items rest a x b y g e = let s = same_goes a x b y e in rw (← s.0, ← s.1) g

goes_is : (c : Comparator) (items : List Item) (rest : List ℕ) (next : List Item) (following : List ℕ)
    → turn_of c items rest ≡ goes next following → Goes c items rest next following
goes_is c [] [] next following e = absurd cc
goes_is c (Octet o ∷ is) (b ∷ bs) next following e =
    elim (chosen (eqb (fold_octet c o) (fold_octet c b)) (goes is bs) stuck (goes next following) e) [
      | inl h ↦
          moved c (Octet o ∷ is) (b ∷ bs) is next bs following (goes_made c o b is bs (eqb-true _ _ h.0)) h.1
      | inr h ↦ absurd cc
    ]
goes_is c (One ∷ is) [] next following e = absurd cc
goes_is c (One ∷ is) (b ∷ bs) next following e = moved c (One ∷ is) (b ∷ bs) is next bs following (one_made c b is bs) e
goes_is c items rest next following e = absurd cc

-- no star has been met: what is left decides, and each comparison has used an item
pub record Fresh (c : Comparator) (all : List Item) (value : List ℕ) (items : List Item) (rest : List ℕ) (count : ℕ) : Type 0 where
  pub to : Matches c all value → Matches c items rest
  pub from : Matches c items rest → Matches c all value
  pub short : length rest ≤ length value
  pub used : count + length items ≤ length all
  pub least : octet_count all ≤ count + octet_count items

-- a star has been met: some place from where it was tried last on decides
pub record Tried (c : Comparator) (all : List Item) (value : List ℕ) (items : List Item) (rest : List ℕ)
    (after : List Item) (since : List ℕ) (count : ℕ) : Type 0 where
  pub to : Matches c all value → SomeTail c after since
  pub from : SomeTail c after since → Matches c all value
  pub walked : Walked c after items since rest
  pub done : ℕ
  pub done_is : done + length after ≡ length all
  pub gone : ℕ
  pub gone_is : gone + length since ≡ length value
  pub steps : ℕ
  pub steps_is : steps + length items ≡ length after
  pub fixed_is : fixed after ≡ steps + fixed items
  pub short : length rest ≤ length since
  pub used : count ≤ done * (length value + 1) + gone * fixed after + steps
  pub least : octet_count all ≤ count + octet_count items
  pub least_since : octet_count all ≤ count + octet_count after

pub Fresh-first : (c : Comparator) (all : List Item) (value : List ℕ) → Fresh c all value all value 0
Fresh-first c all value = record {
  to = λ x. x;
  from = λ x. x;
  short = omega arith;
  used = omega arith;
  least = omega arith;
}

pub Fresh-goes : (c : Comparator) (all : List Item) (value : List ℕ) (items next : List Item) (rest following : List ℕ)
    (count more : ℕ) → Fresh c all value items rest count → Goes c items rest next following
    → more ≡ compared_length items rest → Fresh c all value next following (count + more)
Fresh-goes c all value items next rest following count more h g m = record {
  to = λ x. g.ahead 0 (h.to x);
  from = λ x. h.from (g.back x);
  short = omega (arith, h.short, g.octet);
  used = omega (arith, h.used, g.item, m, compared-one items rest);
  least = omega (arith, h.least, g.octets, m);
}

pub Tried-goes : (c : Comparator) (all : List Item) (value : List ℕ) (items next : List Item) (rest following : List ℕ)
    (after : List Item) (since : List ℕ) (count more : ℕ) → Tried c all value items rest after since count
    → Goes c items rest next following → more ≡ compared_length items rest
    → Tried c all value next following after since (count + more)
Tried-goes c all value items next rest following after since count more h g m = record {
  to = h.to;
  from = h.from;
  walked = record { ahead = λ n x. g.ahead n (h.walked.ahead n x); back = λ x. h.walked.back (g.back x) };
  done = h.done;
  done_is = h.done_is;
  gone = h.gone;
  gone_is = h.gone_is;
  steps = suc h.steps;
  steps_is = omega (arith, h.steps_is, g.item);
  fixed_is = omega (arith, h.fixed_is, g.before);
  short = omega (arith, h.short, g.octet);
  used = omega (arith, h.used, m, compared-one items rest);
  least = omega (arith, h.least, g.octets, m);
  least_since = omega (arith, h.least_since);
}

walked_none : (c : Comparator) (is : List Item) (rest : List ℕ) → Walked c is is rest rest
walked_none c is rest = record { ahead = λ n x. x; back = λ x. x }

pub Fresh-star : (c : Comparator) (all : List Item) (value : List ℕ) (next : List Item) (rest : List ℕ) (count more : ℕ)
    → Fresh c all value (Any ∷ next) rest count → more ≤ 1 → Tried c all value next rest next rest (count + more)
Fresh-star c all value next rest count more h m =
    let d = length all - length next in
    let e : d + length next ≡ length all = omega (arith, h.used) in
    let l : d * 1 ≤ d * (length value + 1) = mul-le-mul_left d (omega arith) in
    record {
      to = h.to;
      from = h.from;
      walked = walked_none c next rest;
      done = d;
      done_is = e;
      gone = length value - length rest;
      gone_is = omega (arith, h.short);
      steps = 0;
      steps_is = omega arith;
      fixed_is = omega arith;
      short = omega arith;
      used = omega (arith, h.used, l, e);
      least = omega (arith, h.least);
      least_since = omega (arith, h.least);
    }

pub Tried-star : (c : Comparator) (all : List Item) (value : List ℕ) (next : List Item) (rest : List ℕ)
    (after : List Item) (since : List ℕ) (count more : ℕ) → Tried c all value (Any ∷ next) rest after since count
    → more ≤ 1 → Tried c all value next rest next rest (count + more)
Tried-star c all value next rest after since count more h m =
    let f : fixed after ≡ h.steps = omega (arith, h.fixed_is) in
    let l : h.gone * fixed after ≤ length value * fixed after = mul-le-mul_right (fixed after) (omega (arith, h.gone_is)) in
    let k : length value * fixed after ≡ length value * h.steps = rw f refl in
    record {
      to = λ x. place_to (h.to x);
      from = λ x. h.from (0, h.walked.back x);
      walked = walked_none c next rest;
      done = h.done + h.steps + 1;
      done_is = omega (arith, h.done_is, h.steps_is);
      gone = length value - length rest;
      gone_is = omega (arith, h.short, h.gone_is);
      steps = 0;
      steps_is = omega arith;
      fixed_is = omega arith;
      short = omega arith;
      used = omega (arith, h.used, l, k);
      least = omega (arith, h.least);
      least_since = omega (arith, h.least);
    }
  where
    place_to : SomeTail c after since → SomeTail c next rest
    place_to x = let y = h.walked.ahead x.0 x.1 in (x.0 + y.0, subst (λ (t : List ℕ). Matches c next t) (drop-drop y.0 x.0 rest) y.1)

pub Tried-stuck : (c : Comparator) (all : List Item) (value : List ℕ) (items : List Item) (rest : List ℕ)
    (after : List Item) (b : ℕ) (following : List ℕ) (count more : ℕ)
    → Tried c all value items rest after (b ∷ following) count → (Matches c items rest → ⊥) → more ≤ fixed items
    → Tried c all value after following after following (count + more)
Tried-stuck c all value items rest after b following count more h refused m = record {
  to = λ x. past (h.to x);
  from = λ x. h.from (suc x.0, x.1);
  walked = walked_none c after following;
  done = h.done;
  done_is = h.done_is;
  gone = suc h.gone;
  gone_is = omega (arith, h.gone_is);
  steps = 0;
  steps_is = omega arith;
  fixed_is = omega arith;
  short = omega arith;
  used = omega (arith, h.used, h.fixed_is);
  least = omega (arith, h.least_since);
  least_since = omega (arith, h.least_since);
}
  where
    past : SomeTail c after (b ∷ following) → SomeTail c after following
    past (zero, x) = absurd (refused (h.walked.ahead 0 x))
    past (suc n, x) = (n, x)

-- the bound on comparisons, at an end
pub Fresh-bound : (c : Comparator) (all : List Item) (value : List ℕ) (items : List Item) (rest : List ℕ)
    (count more : ℕ) → Fresh c all value items rest count → more ≤ fixed items
    → count + more ≤ (length all + 1) * (length value + 1)
Fresh-bound c all value items rest count more h m =
    let l : (length all + 1) * 1 ≤ (length all + 1) * (length value + 1) = mul-le-mul_left (length all + 1) (omega arith) in
    omega (arith, h.used, fixed-le items, l)

pub Tried-bound : (c : Comparator) (all : List Item) (value : List ℕ) (items : List Item) (rest : List ℕ)
    (after : List Item) (since : List ℕ) (count more : ℕ) → Tried c all value items rest after since count
    → more ≤ fixed items → count + more ≤ (length all + 1) * (length value + 1)
Tried-bound c all value items rest after since count more h m =
    let l : h.gone * fixed after ≤ length value * fixed after = mul-le-mul_right (fixed after) (omega (arith, h.gone_is)) in
    let k : (h.done + fixed after) * (length value + 1) ≤ length all * (length value + 1) =
    mul-le-mul_right (length value + 1) (omega (arith, h.done_is, fixed-le after)) in
    omega (arith, h.used, h.fixed_is, l, k)

abbrev pub State : Comparator → List Item → List ℕ → List Item → List ℕ → Option (Bor (List ℕ) × Bor (List ℕ)) → ℕ → Type 0
State c all value items rest None count = Fresh c all value items rest count
State c all value items rest (Some s) count = Tried c all value items rest (items_of s.0.now) s.1.now count

-- how much of the value is left after the place of the last try
abbrev pub left : List ℕ → Option (Bor (List ℕ) × Bor (List ℕ)) → ℕ
left value None = length value
left value (Some s) = length s.1.now

pub State-goes : (c : Comparator) (all : List Item) (value : List ℕ) (items next : List Item) (rest following : List ℕ)
    (s : Option (Bor (List ℕ) × Bor (List ℕ))) (count more : ℕ) → State c all value items rest s count
    → turn_of c items rest ≡ goes next following → more ≡ compared_length items rest
    → State c all value next following s (count + more)
State-goes c all value items next rest following None count more h g m =
    Fresh-goes c all value items next rest following count more h (goes_is c items rest next following g) m
State-goes c all value items next rest following (Some s) count more h g m =
    Tried-goes c all value items next rest following (items_of s.0.now) s.1.now count more h
    (goes_is c items rest next following g) m

pub State-star : (c : Comparator) (all : List Item) (value : List ℕ) (items next : List Item) (rest : List ℕ)
    (s : Option (Bor (List ℕ) × Bor (List ℕ))) (count more : ℕ) → State c all value items rest s count
    → turn_of c items rest ≡ star next → more ≡ compared_length items rest
    → Tried c all value next rest next rest (count + more)
State-star c all value items next rest None count more h g m =
    Fresh-star c all value next rest count more (rw (star_is c items rest next g) at h) (omega (
      arith,
      m,
      compared-one items rest,
    ))
State-star c all value items next rest (Some s) count more h g m =
    Tried-star c all value next rest (items_of s.0.now) s.1.now count more (rw (star_is c items rest next g) at h)
    (omega (arith, m, compared-one items rest))

pub State-stuck : (c : Comparator) (all : List Item) (value : List ℕ) (items : List Item) (rest : List ℕ)
    (after : List Item) (since : List ℕ) (b : ℕ) (following : List ℕ) (count more : ℕ)
    → Tried c all value items rest after since count → since ≡ b ∷ following → turn_of c items rest ≡ stuck
    → more ≡ compared_length items rest → Tried c all value after following after following (count + more)
State-stuck c all value items rest after since b following count more h e g m =
    Tried-stuck c all value items rest after b following count more (rw e at h) (stuck_is c items rest g) (omega (
      arith,
      m,
      compared-le items rest,
    ))

pub State-bound : (c : Comparator) (all : List Item) (value : List ℕ) (items : List Item) (rest : List ℕ)
    (s : Option (Bor (List ℕ) × Bor (List ℕ))) (count more : ℕ) → State c all value items rest s count
    → more ≡ compared_length items rest → count + more ≤ (length all + 1) * (length value + 1)
State-bound c all value items rest None count more h m = Fresh-bound c all value items rest count more h (omega (arith, m, compared-le items rest))
State-bound c all value items rest (Some s) count more h m =
    Tried-bound c all value items rest (items_of s.0.now) s.1.now count more h (omega (
      arith,
      m,
      compared-le items rest,
    ))

-- at an end the answer is known
pub State-ends : (c : Comparator) (all : List Item) (value : List ℕ) (items : List Item) (rest : List ℕ)
    (s : Option (Bor (List ℕ) × Bor (List ℕ))) (count : ℕ) → State c all value items rest s count
    → turn_of c items rest ≡ ends → true ≡ covers c all value
State-ends c all value items rest s count h e = sym (covers_from c all value (whole s h))
  where
    here : Matches c items rest
    here = let p = ends_is c items rest e in rw (p.0, p.1) tt

    whole : (s : Option (Bor (List ℕ) × Bor (List ℕ))) → State c all value items rest s count → Matches c all value
    whole None h = h.from here
    whole (Some s) h = h.from (0, h.walked.back here)

no_octets : (c : Comparator) (items : List Item) (rest : List ℕ) → turn_of c items rest ≡ ends → octet_count items ≡ 0
no_octets c items rest e = ap octet_count (ends_is c items rest e).0

-- where the pattern covers the value, each of its octets was compared
pub State-least : (c : Comparator) (all : List Item) (value : List ℕ) (items : List Item) (rest : List ℕ)
    (s : Option (Bor (List ℕ) × Bor (List ℕ))) (count more : ℕ) → State c all value items rest s count
    → turn_of c items rest ≡ ends → octet_count all ≤ count + more
State-least c all value items rest None count more h e = omega (arith, h.least, no_octets c items rest e)
State-least c all value items rest (Some s) count more h e = omega (arith, h.least, no_octets c items rest e)

refuted : (c : Comparator) (all : List Item) (value : List ℕ) → (Matches c all value → ⊥) → false ≡ covers c all value
refuted c all value fails = sym (false_from_ne_true (covers c all value) (λ e. fails (covers_to c all value e)))

pub Fresh-fails : (c : Comparator) (all : List Item) (value : List ℕ) (items : List Item) (rest : List ℕ) (count : ℕ)
    → Fresh c all value items rest count → turn_of c items rest ≡ stuck → false ≡ covers c all value
Fresh-fails c all value items rest count h e = refuted c all value (λ x. stuck_is c items rest e (h.to x))

pub Tried-fails : (c : Comparator) (all : List Item) (value : List ℕ) (items : List Item) (rest : List ℕ)
    (after : List Item) (since : List ℕ) (count : ℕ) → Tried c all value items rest after since count → length since ≡ 0
    → turn_of c items rest ≡ stuck → false ≡ covers c all value
Tried-fails c all value items rest after since count h empty e = refuted c all value (λ x. fails (h.to x))
  where
    none : since ≡ []
    none = nil_from_length since empty

    fails : SomeTail c after since → ⊥
    fails (n, m) =
        stuck_is c items rest e
        (h.walked.ahead 0 (subst (λ (t : List ℕ). Matches c after t) (ap (λ (t : List ℕ). drop n t) none ∙ drop-nil n
        ∙ sym none) m))

-- a pattern has no more items than octets
pub items-le : (e : Bool) (bs : List ℕ) → length (items_from e bs) ≤ length bs + 1
unfolding items_from
items-le true [] = omega arith
items-le false [] = omega arith
items-le true (b ∷ bs) = omega (arith, items-le false bs)
items-le false (b ∷ bs) = shorter (eqb b 92) (items-le true bs) (items-le false bs)
  where
    shorter : (t : Bool) → length (items_from true bs) ≤ length bs + 1 → length (items_from false bs) ≤ length bs + 1
        → length (cond t (items_from true bs) (item_of b ∷ items_from false bs)) ≤ suc (length bs) + 1
    shorter true h k = omega arith
    shorter false h k = omega arith

pub bound_fits : (n p l : ℕ) → n ≤ (p + 1) * (l + 1) → p ≤ 2 ^ 63 → l < 2 ^ 63 → n < 2 ^ 128
bound_fits n p l h i j =
    let k : (p + 1) * (l + 1) ≤ (2 ^ 63 + 1) * (2 ^ 63 + 1) =
    mul-le-mul {n₁ = p + 1} {m₁ = l + 1} {n₂ = 2 ^ 63 + 1} {m₂ = 2 ^ 63 + 1} (omega arith) (omega arith) in
    omega (arith, k)
