-- A field that is read is the field that was written, and what was written is read again.
use Rattle.std.proofs.Common.{◌≡◌, ℕ, ◌+◌, ◌^◌, ◌%◌, ◌<◌, ◌≤◌, Bool, true, false, cond, ltb, List, [], ◌∷◌, ◌++◌, length, get_or, take, drop, Option}
use Rattle.std.proofs.Common.{Some, None, refl, sym, ap, subst, ◌∙◌, append_assoc, arith, inl, inr}
use Rattle.std.specs.Int.{Width, w8, w16, w32, w64, byte_len, from_be_bytes, to_be_bytes}
use Rattle.std.proofs.lemmas.Bool.{cases_lt, ltb-false, le-ltb}
use Rattle.std.proofs.lemmas.List.{take_at, drop_at, take-append-drop, length-append, length-take, get_or-drop, get_or-take, get_or_past}
use Rattle.std.proofs.lemmas.Nat.{be_bytes_2, be_bytes_4, be_bytes_8, from_be_bytes-to_be_bytes_2}
use Rattle.std.proofs.lemmas.Nat.{from_be_bytes-to_be_bytes_4, from_be_bytes-to_be_bytes_8}
use Rattle.filing_image.specs.declared.instruction.Instruction.{Instruction}
use Rattle.filing_image.specs.Spelling.{text, instruction, FitsInstruction}
use Rattle.filing_image.specs.Reading.{◌>>=◌, number_at, text_at, instruction_at}

abbrev pub IsBytes : List ℕ → Type 0
IsBytes octets = (i : ℕ) → get_or octets i 0 < 256

IsBytes-drop : (n : ℕ) (octets : List ℕ) → IsBytes octets → IsBytes (drop n octets)
IsBytes-drop n octets h i = rw get_or-drop (h (n + i))

IsBytes-take : (n : ℕ) (octets : List ℕ) → IsBytes octets → IsBytes (take n octets)
IsBytes-take n octets h i =
    elim (cases_lt i n) [
      | inl lt ↦ rw (get_or-take n octets i 0 lt) (h i)
      | inr le ↦ rw (get_or_past (take n octets) i 0 (omega (arith, length-take n octets))) (omega arith)
    ]

-- the value of a step that did not fail
pub bind_some : {A B : Type 0} (r : Option A) (f : A → Option B) (y : B) → (r >>= f) ≡ Some y → (x : A) × (r ≡ Some x) × (f x ≡ Some y)
bind_some (Some x) f y e = (x, refl, e)
bind_some None f y e = absurd cc

-- a step that does not fail
pub bind_is : {A B : Type 0} (r : Option A) (f : A → Option B) (x : A) → r ≡ Some x → (r >>= f) ≡ f x
bind_is r f x e = rw e refl

-- a test that did not fail
pub guard_some : {A : Type 0} (b : Bool) (x y : A) → cond b None (Some x) ≡ Some y → (b ≡ false) × (x ≡ y)
guard_some true x y e = absurd cc
guard_some false x y e = (refl, cc)

abbrev found : {A : Type 0} → A → Option A
found x = Some x

pub some_is : {A : Type 0} (x y : A) → found x ≡ found y → x ≡ y
some_is x y e = cc

-- what a reader took from the front
pub record Takes (octets taken rest : List ℕ) : Type 0 where
  pub parts : octets ≡ taken ++ rest
  pub rest_fits : IsBytes rest

pub Takes-then : {a x b y c : List ℕ} → Takes a x b → Takes b y c → Takes a (x ++ y) c
Takes-then {x = x} {y = y} {c} p q = record { parts = p.parts ∙ ap (λ t. x ++ t) q.parts ∙ sym (append_assoc x y c); rest_fits = q.rest_fits }

-- ---- numbers

pub record IsWide (w : Width) (limit : ℕ) : Type 0 where
  pub len : (n : ℕ) → length (to_be_bytes w n) ≡ byte_len w
  pub back : (octets : List ℕ) → length octets ≡ byte_len w → IsBytes octets → to_be_bytes w (from_be_bytes w octets) ≡ octets
  pub again : (n : ℕ) → n < limit → from_be_bytes w (to_be_bytes w n) ≡ n
  pub below : (octets : List ℕ) → IsBytes octets → from_be_bytes w octets < limit

back_8 : (octets : List ℕ) → length octets ≡ 1 → IsBytes octets → to_be_bytes w8 (from_be_bytes w8 octets) ≡ octets
back_8 [] len fits = absurd (omega (arith, len))
back_8 (x ∷ []) len fits = let small : x < 256 = fits 0 in let e : x % 256 ≡ x = omega arith in ap (λ (y : ℕ). y ∷ []) e
back_8 (x ∷ y ∷ octets) len fits = absurd (omega (arith, len))

pub wide8 : IsWide w8 (2 ^ 8)
wide8 = record {
  len = λ n. refl;
  back = back_8;
  again = λ n lt. omega (arith, lt);
  below = λ octets fits. omega (arith, fits 0);
}

pub wide16 : IsWide w16 (2 ^ 16)
wide16 = record {
  len = λ n. refl;
  back = λ octets len fits. be_bytes_2 octets _ len fits refl;
  again = λ n lt. from_be_bytes-to_be_bytes_2 n lt;
  below = λ octets fits. omega (arith, fits 0, fits 1);
}

pub wide32 : IsWide w32 (2 ^ 32)
wide32 = record {
  len = λ n. refl;
  back = λ octets len fits. be_bytes_4 octets _ len fits refl;
  again = λ n lt. from_be_bytes-to_be_bytes_4 n lt;
  below = λ octets fits. omega (arith, fits 0, fits 1, fits 2, fits 3);
}

pub wide64 : IsWide w64 (2 ^ 64)
wide64 = record {
  len = λ n. refl;
  back = λ octets len fits. be_bytes_8 octets _ len fits refl;
  again = λ n lt. from_be_bytes-to_be_bytes_8 n lt;
  below = λ octets fits. omega (arith, fits 0, fits 1, fits 2, fits 3, fits 4, fits 5, fits 6, fits 7);
}

pub number_takes : {w : Width} {limit : ℕ} (wide : IsWide w limit) (octets : List ℕ) (x : ℕ × List ℕ) → IsBytes octets
    → number_at w octets ≡ Some x → Takes octets (to_be_bytes w x.0) x.1 × (x.0 < limit)
number_takes {w} wide octets x fits e =
    let g = guard_some (ltb (length octets) (byte_len w)) (from_be_bytes w (take (byte_len w) octets), drop (byte_len w) octets) x e in
    let long : byte_len w ≤ length octets = ltb-false _ _ g.0 in
    let n-is : from_be_bytes w (take (byte_len w) octets) ≡ x.0 = ap (λ (p : ℕ × List ℕ). p.0) g.1 in
    let rest-is : drop (byte_len w) octets ≡ x.1 = ap (λ (p : ℕ × List ℕ). p.1) g.1 in
    let front : to_be_bytes w x.0 ≡ take (byte_len w) octets =
    rw (← n-is) (wide.back (take (byte_len w) octets) (omega (arith, length-take (byte_len w) octets))
    (IsBytes-take (byte_len w) octets fits)) in (
      record {
        parts = rw (front, ← rest-is) (sym (take-append-drop (byte_len w) octets));
        rest_fits =
            rw (← rest-is) (IsBytes-drop (byte_len w) octets fits);
      },
      rw (← n-is) (wide.below (take (byte_len w) octets) (IsBytes-take (byte_len w) octets fits)),
    )

pub number_again : {w : Width} {limit : ℕ} (wide : IsWide w limit) (n : ℕ) (rest : List ℕ) → n < limit
    → number_at w (to_be_bytes w n ++ rest) ≡ Some (n, rest)
number_again {w} wide n rest lt =
    let len = wide.len n in
    let long : ltb (length (to_be_bytes w n ++ rest)) (byte_len w) ≡ false = le-ltb _ _ (omega (arith, length-append (to_be_bytes w n) rest)) in
    rw (long, take_at (to_be_bytes w n) rest (byte_len w) len, drop_at (to_be_bytes w n) rest (byte_len w) len, wide.again n lt) refl

-- ---- texts

pub text_takes : (octets : List ℕ) (x : List ℕ × List ℕ) → IsBytes octets → text_at octets ≡ Some x
    → Takes octets (text x.0) x.1 × (length x.0 < 2 ^ 16)
unfolding text_at
text_takes octets x fits e =
    let b = bind_some (number_at w16 octets) (λ n. cond (ltb (length n.1) n.0) None (Some (take n.0 n.1, drop n.0 n.1))) x e in
    let n = b.0 in
    let t = number_takes wide16 octets n fits b.1 in
    let g = guard_some (ltb (length n.1) n.0) (take n.0 n.1, drop n.0 n.1) x b.2 in
    let long : n.0 ≤ length n.1 = ltb-false _ _ g.0 in
    let len : length (take n.0 n.1) ≡ n.0 = omega (arith, length-take n.0 n.1) in
    let second : Takes n.1 (take n.0 n.1) (drop n.0 n.1) = record {
      parts = sym (take-append-drop n.0 n.1);
      rest_fits =
          IsBytes-drop n.0 n.1 t.0.rest_fits;
    } in
    let both = Takes-then t.0 second in
    let whole : Takes octets (text (take n.0 n.1)) (drop n.0 n.1) =
    subst (λ (k : ℕ). Takes octets (to_be_bytes w16 k ++ take n.0 n.1) (drop n.0 n.1)) (sym len) both in
    subst (λ (p : List ℕ × List ℕ). Takes octets (text p.0) p.1 × (length p.0 < 2 ^ 16)) g.1 (whole, omega (arith, t.1))

pub text_again : (octets rest : List ℕ) → length octets < 2 ^ 16 → text_at (text octets ++ rest) ≡ Some (octets, rest)
unfolding text_at
text_again octets rest lt =
    let long : ltb (length (octets ++ rest)) (length octets) ≡ false = le-ltb _ _ (omega (arith, length-append octets rest)) in
    rw (
      number_again wide16 (length octets) (octets ++ rest) lt,
      long,
      take_at octets rest (length octets) refl,
      drop_at octets rest (length octets) refl,
    ) refl

-- ---- instructions

abbrev with_b : ℕ → ℕ → ℕ × List ℕ → Option (Instruction × List ℕ)
with_b op a b = Some (record { op = op; a = a; b = b.0 }, b.1)

abbrev with_a : ℕ → ℕ × List ℕ → Option (Instruction × List ℕ)
with_a op a = number_at w16 a.1 >>= with_b op a.0

abbrev with_op : ℕ × List ℕ → Option (Instruction × List ℕ)
with_op op = number_at w8 op.1 >>= with_a op.0

pub instruction_takes : (octets : List ℕ) (x : Instruction × List ℕ) → IsBytes octets → instruction_at octets ≡ Some x
    → Takes octets (instruction x.0) x.1 × FitsInstruction x.0
unfolding instruction_at
instruction_takes octets x fits e =
    let op = bind_some (number_at w8 octets) with_op x e in
    let a = bind_some (number_at w8 op.0.1) (with_a op.0.0) x op.2 in
    let b = bind_some (number_at w16 a.0.1) (with_b op.0.0 a.0.0) x a.2 in
    let t0 = number_takes wide8 octets op.0 fits op.1 in
    let t1 = number_takes wide8 op.0.1 a.0 t0.0.rest_fits a.1 in
    let t2 = number_takes wide16 a.0.1 b.0 t1.0.rest_fits b.1 in
    let made : Instruction × List ℕ = (record { op = op.0.0; a = a.0.0; b = b.0.0 }, b.0.1) in
    subst (λ (y : Instruction × List ℕ). Takes octets (instruction y.0) y.1
    × FitsInstruction y.0) (some_is made x b.2) (Takes-then t0.0 (Takes-then t1.0 t2.0), record { op = t0.1; a = t1.1; b = t2.1 })

pub instruction_again : (i : Instruction) (rest : List ℕ) → FitsInstruction i → instruction_at (instruction i ++ rest) ≡ Some (i, rest)
unfolding instruction_at
instruction_again i rest fits =
    bind_is (number_at w8 (instruction i ++ rest)) with_op (
      i.op,
      to_be_bytes w8 i.a
          ++ (to_be_bytes w16 i.b ++ rest),
    ) (number_again wide8 i.op (to_be_bytes w8 i.a
    ++ (to_be_bytes w16 i.b ++ rest)) fits.op)
    ∙ bind_is (number_at w8 (to_be_bytes w8 i.a ++ (to_be_bytes w16 i.b ++ rest))) (with_a i.op) (
      i.a,
      to_be_bytes w16 i.b ++ rest,
    ) (number_again wide8 i.a (to_be_bytes w16 i.b ++ rest) fits.a)
    ∙ bind_is (number_at w16 (to_be_bytes w16 i.b ++ rest)) (with_b i.op i.a) (i.b, rest) (number_again wide16 i.b rest fits.b)
