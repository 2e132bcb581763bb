-- Paths that appear twice; and the paths of the rows of listed classes, and their number.
use Rattle.std.proofs.Common.{◌≡◌, ℕ, suc, ◌+◌, Bool, true, false, ◌||◌, cond, List, [], ◌∷◌, length, Some, is_some}
use Rattle.std.proofs.Common.{Ordering, Less, Equal, Greater, nat_cmp, is_eq, refl, ap, sym, ◌∙◌, arith, if◌then◌else◌}
use Rattle.std.proofs.lemmas.Map.Text.{is_eq-slice_cmp}
use Rattle.std.proofs.lemmas.Slice.Eq.{bytes_eq-Decides}
use Rattle.std.proofs.lemmas.Bool.{or_parts}
use Rattle.std.proofs.Math.Bool.{or-false, or_assoc}
use Rattle.std.specs.Str.{bytes_eq}
use Rattle.std.specs.Cmp.Lexicographic.{slice_cmp}
use Rattle.std.specs.Ordering.{match_ordering}
use Rattle.class_paths.specs.Path.{unfiled}
use Rattle.class_plan.specs.Plans.{Row, row_at, has, with_row, open_row}
use Rattle.class_plan.specs.Entries.{Entry, row_of, rows_from, is_listed, comes_again, with_unfiled, is_known, class_count_of}
use Rattle.class_plan.proofs.Put.{has-put}

or_swap : (a b s : Bool) → (a || (b || s)) ≡ (b || (a || s))
or_swap true true s = refl
or_swap true false s = refl
or_swap false true s = refl
or_swap false false s = refl

-- which paths the rows of listed classes have
pub has-rows_from : (q : List ℕ) (rs : List Row) (es : List Entry) → has (rows_from rs es) q ≡ (is_listed q es || has rs q)
has-rows_from q rs [] = refl
has-rows_from q rs (e ∷ es) = has-rows_from q (with_row (row_of e) rs) es
    ∙ ap (λ b. is_listed q es || b) (has-put q (row_of e) rs) ∙ or_swap (is_listed q es) (bytes_eq q e.path) (has rs q)
    ∙ sym (or_assoc (bytes_eq q e.path) (is_listed q es) (has rs q))

-- a path appears twice, after those of the rows
abbrev pub again : List Row → List Entry → Bool
again rs [] = false
again rs (e ∷ es) = has rs e.path || again (with_row (row_of e) rs) es

pub comes_again-again : (seen : List Entry) (rs : List Row) (es : List Entry)
    → ((q : List ℕ) → is_listed q seen ≡ has rs q) → comes_again seen es ≡ again rs es
comes_again-again seen rs [] same = refl
comes_again-again seen rs (e ∷ es) same =
    ap (λ b. b || comes_again (e ∷ seen) es) (same e.path)
    ∙ ap (λ b. has rs e.path || b) (comes_again-again (e ∷ seen) (with_row (row_of e) rs) es (λ q.
    ap (λ b. bytes_eq q e.path || b) (same q) ∙ sym (has-put q (row_of e) rs)))

pub rows-step : (all : List Entry) (rs more : List Row) (e : Entry) (rest xs : List Entry) → xs ≡ e ∷ rest
    → more ≡ with_row (row_of e) rs → rows_from [] all ≡ rows_from rs xs → rows_from [] all ≡ rows_from more rest
rows-step all rs more e rest xs cut is so = so ∙ rw (cut, is)

pub again-step : (all : List Entry) (rs more : List Row) (e : Entry) (rest xs : List Entry) (before now old : Bool)
    → xs ≡ e ∷ rest → more ≡ with_row (row_of e) rs → old ≡ has rs e.path → now ≡ (before || old)
    → again [] all ≡ (before || again rs xs) → again [] all ≡ (now || again more rest)
again-step all rs more e rest xs before now old cut is seen joins so =
    so ∙ rw (cut, is, joins, seen) (sym (or_assoc before (has rs e.path) (again (with_row (row_of e) rs) rest)))

pub again-none : (es : List Entry) → comes_again [] es ≡ again [] es
again-none es = comes_again-again [] [] es (λ q. refl)

pub again-all : (all : List Entry) (twice : Bool) (rs : List Row) (xs : List Entry) → xs ≡ []
    → again [] all ≡ (twice || again rs xs) → again [] all ≡ twice
again-all all twice rs xs none so = so ∙ rw none (or-false twice)

-- a put of a new path adds one row
placed_new : (r x : Row) (xs : List Row) (o : Ordering) → o ≡ slice_cmp nat_cmp r.path x.path
    → bytes_eq r.path x.path ≡ false → length (with_row r xs) ≡ suc (length xs)
    → length (match_ordering o (r ∷ x ∷ xs) (record { path = x.path; is_open = r.is_open; schedule = r.schedule }
    ∷ xs) (x ∷ with_row r xs)) ≡ suc (suc (length xs))
placed_new r x xs Less e ne ih = refl
placed_new r x xs Equal e ne ih = let h : true ≡ false = ap is_eq e ∙ is_eq-slice_cmp r.path x.path ∙ ne in absurd (cc)
placed_new r x xs Greater e ne ih = ap suc ih

has-cons : (q : List ℕ) (x : Row) (xs : List Row) (b : Bool) → is_some (cond b (Some x) (row_at q xs)) ≡ (b || has xs q)
has-cons q x xs true = refl
has-cons q x xs false = refl

pub length-put-new : (r : Row) (xs : List Row) → has xs r.path ≡ false → length (with_row r xs) ≡ suc (length xs)
length-put-new r [] h = refl
length-put-new r (x ∷ xs) h =
    let both : (bytes_eq r.path x.path || has xs r.path) ≡ false = sym (has-cons r.path x xs (bytes_eq r.path x.path)) ∙ h in
    placed_new r x xs (slice_cmp nat_cmp r.path x.path) refl (or_parts _ _ both).0 (length-put-new r xs (or_parts _ _ both).1)

length-rows_from : (rs : List Row) (es : List Entry) → again rs es ≡ false → length (rows_from rs es) ≡ length rs + length es
length-rows_from rs [] h = omega arith
length-rows_from rs (e ∷ es) h =
    let more : length (rows_from (with_row (row_of e) rs) es) ≡ length (with_row (row_of e) rs) + length es =
    length-rows_from (with_row (row_of e) rs) es (or_parts _ _ h).1 in
    let one : length (with_row (row_of e) rs) ≡ suc (length rs) = length-put-new (row_of e) rs (or_parts _ _ h).0 in
    omega arith

pub has-rows : (q : List ℕ) (es : List Entry) → has (rows_from [] es) q ≡ is_listed q es
has-rows q es = has-rows_from q [] es ∙ or-false (is_listed q es)

length_unfiled : (rs : List Row) (b : Bool) → b ≡ has rs unfiled
    → length (if b then rs else with_row (open_row unfiled) rs) ≡ length rs + (if b then 0 else 1)
length_unfiled rs true e = omega arith
length_unfiled rs false e = let h = length-put-new (open_row unfiled) rs (sym e) in omega arith

-- the number of classes, where no path appears twice
pub length-listing : (es : List Entry) → comes_again [] es ≡ false → length (with_unfiled (rows_from [] es)) ≡ class_count_of es
length-listing es h =
    let rows = length-rows_from [] es (sym (again-none es) ∙ h) in
    let unfiled_too = length_unfiled (rows_from [] es) (has (rows_from [] es) unfiled) refl in
    let same = ap (λ b. length es + (if b then 0 else 1)) (has-rows unfiled es) in
    unfiled_too ∙ ap (λ n. n + (if has (rows_from [] es) unfiled then 0 else 1)) (let e : length (rows_from [] es)
    ≡ length es = omega arith in e) ∙ same

bytes_or : (b x : Bool) → (b ≡ true → x ≡ true) → x ≡ (b || x)
bytes_or true x h = h refl
bytes_or false x h = refl

has_unfiled : (q : List ℕ) (rs : List Row) (b : Bool) → b ≡ has rs unfiled
    → has (if b then rs else with_row (open_row unfiled) rs) q ≡ (bytes_eq q unfiled || has rs q)
has_unfiled q rs true e =
    bytes_or (bytes_eq q unfiled) (has rs q) (λ h. ap (has rs) ((bytes_eq-Decides q unfiled).0 h) ∙ sym e)
has_unfiled q rs false e = has-put q (open_row unfiled) rs

-- which paths the classes of a plan have
pub has-listing : (es : List Entry) (q : List ℕ) → has (with_unfiled (rows_from [] es)) q ≡ is_known es q
has-listing es q = has_unfiled q (rows_from [] es) (has (rows_from [] es) unfiled) refl ∙ ap (λ b. bytes_eq q unfiled || b) (has-rows q es)
