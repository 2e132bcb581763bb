-- A text as it is shown, with one character more.
use Rattle.std.proofs.Common.{◌≡◌, ℕ, List, [], ◌∷◌, ◌++◌, flat_map, append_assoc, append-nil}
use Rattle.std.proofs.lemmas.Str.{encodes-append}
use Rattle.std.proofs.lemmas.Grind.{flat_map-append}
use Rattle.std.specs.Str.{encode_utf8_all}
use Rattle.cli_page.specs.Escaping.{shown_of, path_shown_of}

-- characters as they are shown, with one more
one_more : (show : ℕ → List ℕ) (bs xs : List ℕ) (x : ℕ)
    → (bs ++ encode_utf8_all (flat_map show xs)) ++ encode_utf8_all (show x) ≡ bs ++ encode_utf8_all (flat_map show (xs ++ x ∷ []))
one_more show bs xs x =
    rw (flat_map-append show xs (x ∷ []), append-nil (show x), encodes-append (flat_map show xs) (show x)) (append_assoc bs _ _)

pub shown_more : (bs xs : List ℕ) (x : ℕ)
    → (bs ++ encode_utf8_all (flat_map shown_of xs)) ++ encode_utf8_all (shown_of x) ≡ bs ++ encode_utf8_all (flat_map shown_of (xs ++ x ∷ []))
shown_more = one_more shown_of

pub path_more : (bs xs : List ℕ) (x : ℕ)
    → (bs ++ encode_utf8_all (flat_map path_shown_of xs)) ++ encode_utf8_all (path_shown_of x)
    ≡ bs ++ encode_utf8_all (flat_map path_shown_of (xs ++ x ∷ []))
path_more = one_more path_shown_of

-- ten pieces, one after the other
pub ten_pushed : (t0 t1 t2 t3 t4 t5 t6 t7 t8 t9 t10 a1 a2 a3 a4 a5 a6 a7 a8 a9 a10 : List ℕ) → t1 ≡ t0 ++ a1 → t2 ≡ t1 ++ a2
    → t3 ≡ t2 ++ a3 → t4 ≡ t3 ++ a4 → t5 ≡ t4 ++ a5 → t6 ≡ t5 ++ a6 → t7 ≡ t6 ++ a7 → t8 ≡ t7 ++ a8 → t9 ≡ t8 ++ a9
    → t10 ≡ t9 ++ a10
    → t10 ≡ t0 ++ (a1 ++ (a2 ++ (a3 ++ (a4 ++ (a5 ++ (a6 ++ (a7 ++ (a8 ++ (a9 ++ (a10 ++ []))))))))))
ten_pushed t0 t1 t2 t3 t4 t5 t6 t7 t8 t9 t10 a1 a2 a3 a4 a5 a6 a7 a8 a9 a10 e1 e2 e3 e4 e5 e6 e7 e8 e9 e10 =
    rw (e10, e9, e8, e7, e6, e5, e4, e3, e2, e1) (simp (append_assoc, append-nil))
