-- Due days that rows show.
use Rattle.std.proofs.Common.{◌≡◌, ◌==◌, ◌&&◌, ℕ, Bool, true, false, List, [], ◌∷◌, map, refl, sym, ap, ◌∙◌, arith}
use Rattle.std.proofs.lemmas.Bool.Decides.{nat_tests}
use Rattle.std.specs.Bool.{Decides}
use Rattle.std.specs.Cmp.Lexicographic.{pointwise}
use Rattle.std.proofs.lemmas.Bool.{and_parts as both}
use Rattle.record_tables.specs.Rows.{Due}
use Rattle.record_tables.specs.Reads.{due_values}
use Rattle.record_reads.specs.StoredDues.{shows_due}

is_number : (m n : ℕ) → (m == n) ≡ true → m ≡ n
is_number m n h = grind (arith, nat_tests)

itself : (n : ℕ) → (n == n) ≡ true
itself n = grind (arith, nat_tests)

one_told : (d e : Due) → Decides (shows_due (due_values d) e) (d ≡ e)
one_told d e = (
  λ h.
      let parts = both (d.number == e.number) (d.day == e.day) h in
      λ i. record { number = is_number d.number e.number parts.0 i; day = is_number d.day e.day parts.1 i },
  λ h. ap (λ (x : Due). (d.number == x.number) && (d.day == x.day)) (sym h) ∙ rw (itself d.number, itself d.day) refl,
)

head_is : {C : Type 0} (x y : C) (b : Bool) → (b ≡ true → x ≡ y) → (xs ys : List C) (r : Bool) → (r ≡ true → xs ≡ ys)
    → (b && r) ≡ true → x ∷ xs ≡ y ∷ ys
head_is x y true one xs ys r rest e = λ i. one refl i ∷ rest e i
head_is x y false one xs ys r rest e = absurd (cc)

pub dues-told : (ds es : List Due) → Decides (pointwise shows_due (map due_values ds) es) (ds ≡ es)
dues-told [] [] = (λ _. refl, λ _. refl)
dues-told [] (e ∷ es) = (λ h. absurd (cc), λ h. absurd (cc))
dues-told (d ∷ ds) [] = (λ h. absurd (cc), λ h. absurd (cc))
dues-told (d ∷ ds) (e ∷ es) =
    let rest = dues-told ds es in (
      λ h. head_is d e (shows_due (due_values d) e) (one_told d e).0 ds es (pointwise shows_due (map due_values ds) es) rest.0 h,
      λ h. let one : d ≡ e = cc in let more : ds ≡ es = cc in rw ((one_told d e).1 one, rest.1 more) refl,
    )
