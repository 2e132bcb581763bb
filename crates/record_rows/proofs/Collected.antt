-- Numbers of live records, collected into a set.
use Rattle.std.proofs.Common.{◌≡◌, ℕ, ◌+◌, ◌<◌, ◌≤◌, ◌==◌, Bool, true, false, not, ◌&&◌, ◌||◌, List, [], ◌∷◌, map}
use Rattle.std.proofs.Common.{length, drop, get_or, Ordering, Less, Equal, Greater, nat_cmp, refl, ap, sym, ◌∙◌, arith}
use Rattle.std.proofs.lemmas.Bool.Decides.{nat_tests}
use Rattle.std.proofs.lemmas.List.{drop_more, drop_all}
use Rattle.std.specs.Ordering.{match_ordering}
use Rattle.std.specs.BTreeSet.{insert_key}
use Rattle.record_tables.specs.declared.rows.RecordRow.{RecordRow}
use Rattle.record_archive.specs.Archive.{Record}
use Rattle.record_tables.specs.CodeRows.{record_of}
use Rattle.record_rows.specs.SoundRows.{is_of_live, is_one_of}

or_again : (a b : Bool) → (a || b) ≡ (a || (a || b))
or_again true b = refl
or_again false b = refl

or_swap : (a b c : Bool) → (a || (b || c)) ≡ (b || (a || c))
or_swap true true c = refl
or_swap true false c = refl
or_swap false b c = refl

or_moves : (a b c : Bool) → (a || (b || c)) ≡ ((b || a) || c)
or_moves true true c = refl
or_moves true false c = refl
or_moves false true c = refl
or_moves false false c = refl

or_none : (a : Bool) → (a || false) ≡ a
or_none true = refl
or_none false = refl

inserted_by : (o : Ordering) (k x : ℕ) (ks : List ℕ) (n : ℕ) → nat_cmp x k ≡ o → is_one_of (insert_key nat_cmp ks x) n ≡ ((x == n) || is_one_of ks n)
    → is_one_of (match_ordering o (x ∷ k ∷ ks) (k ∷ ks) (k ∷ insert_key nat_cmp ks x)) n ≡ ((x == n) || ((k == n) || is_one_of ks n))
inserted_by Less k x ks n e rest = refl
inserted_by Equal k x ks n e rest = let same : k ≡ x = grind (arith, nat_tests) in
    ap (λ z. (z == n) || is_one_of ks n) same ∙ or_again (x == n) (is_one_of ks n)
    ∙ ap (λ z. (x == n) || ((z == n) || is_one_of ks n)) (sym same)
inserted_by Greater k x ks n e rest = ap (λ z. (k == n) || z) rest ∙ or_swap (k == n) (x == n) (is_one_of ks n)

inserted : (ks : List ℕ) (x n : ℕ) → is_one_of (insert_key nat_cmp ks x) n ≡ ((x == n) || is_one_of ks n)
inserted [] x n = refl
inserted (k ∷ ks) x n = inserted_by (nat_cmp x k) k x ks n refl (inserted ks x n)

live_drop : (f : Record → ℕ) (xs : List RecordRow) (i : ℕ) (d : RecordRow) (n : ℕ) → i < length xs
    → is_of_live f (map record_of (drop i xs)) n
    ≡ ((not (get_or xs i d).destroyed && (f (record_of (get_or xs i d)) == n))
    || is_of_live f (map record_of (drop (i + 1) xs)) n)
live_drop f xs i d n h = ap (λ z. is_of_live f (map record_of z) n) (drop_more xs i d h)

-- a destroyed record adds nothing
pub collected-skip : (f : Record → ℕ) (ks : List ℕ) (xs : List RecordRow) (i : ℕ) (d : RecordRow) (n : ℕ) (whole : Bool)
    → i < length xs → (get_or xs i d).destroyed ≡ true
    → (is_one_of ks n || is_of_live f (map record_of (drop i xs)) n) ≡ whole
    → (is_one_of ks n || is_of_live f (map record_of (drop (i + 1) xs)) n) ≡ whole
collected-skip f ks xs i d n whole h gone so =
    ap (λ z. is_one_of ks n || ((not z && (f (record_of (get_or xs i d)) == n)) || is_of_live f (map record_of (drop (i + 1) xs)) n)) (sym gone)
    ∙ ap (λ z. is_one_of ks n || z) (sym (live_drop f xs i d n h)) ∙ so

-- a live one adds its number
pub collected-more : (f : Record → ℕ) (ks more : List ℕ) (xs : List RecordRow) (i : ℕ) (d : RecordRow) (n : ℕ)
    (whole : Bool) → i < length xs → (get_or xs i d).destroyed ≡ false
    → more ≡ insert_key nat_cmp ks (f (record_of (get_or xs i d)))
    → (is_one_of ks n || is_of_live f (map record_of (drop i xs)) n) ≡ whole
    → (is_one_of more n || is_of_live f (map record_of (drop (i + 1) xs)) n) ≡ whole
collected-more f ks more xs i d n whole h live grown so =
    let x : ℕ = f (record_of (get_or xs i d)) in
    let rest : Bool = is_of_live f (map record_of (drop (i + 1) xs)) n in
    ap (λ z. z || rest) (ap (λ z. is_one_of z n) grown ∙ inserted ks x n)
    ∙ sym (or_moves (is_one_of ks n) (x == n) rest)
    ∙ ap (λ z. is_one_of ks n || ((not z && (x == n)) || rest)) (sym live)
    ∙ ap (λ z. is_one_of ks n || z) (sym (live_drop f xs i d n h)) ∙ so

pub collected-all : (f : Record → ℕ) (ks : List ℕ) (xs : List RecordRow) (i n : ℕ) (whole : Bool) → length xs ≤ i
    → (is_one_of ks n || is_of_live f (map record_of (drop i xs)) n) ≡ whole → is_one_of ks n ≡ whole
collected-all f ks xs i n whole h so = sym (or_none (is_one_of ks n))
    ∙ ap (λ z. is_one_of ks n || is_of_live f (map record_of z) n) (sym (drop_all i xs h)) ∙ so
