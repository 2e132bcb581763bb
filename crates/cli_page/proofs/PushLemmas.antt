-- Pieces, one after the other.
use Rattle.std.proofs.Common.{◌≡◌, ℕ, List, ◌++◌, append_assoc}

pub pushed_2 : (t0 t1 t2 a b : List ℕ) → t1 ≡ t0 ++ a → t2 ≡ t1 ++ b → t2 ≡ t0 ++ (a ++ b)
pushed_2 t0 t1 t2 a b d e = rw (e, d) (append_assoc t0 a b)

pub pushed_3 : (t0 t1 t2 t3 a b c : List ℕ) → t1 ≡ t0 ++ a → t2 ≡ t1 ++ b → t3 ≡ t2 ++ c → t3 ≡ t0 ++ (a ++ (b ++ c))
pushed_3 t0 t1 t2 t3 a b c d e f = rw (f, e, d) (simp append_assoc)

pub pushed_4 : (t0 t1 t2 t3 t4 a b c d : List ℕ) → t1 ≡ t0 ++ a → t2 ≡ t1 ++ b → t3 ≡ t2 ++ c → t4 ≡ t3 ++ d
    → t4 ≡ t0 ++ (a ++ b ++ c ++ d)
pushed_4 t0 t1 t2 t3 t4 a b c d e f g h = rw (h, g, f, e) (simp append_assoc)

pub pushed_5 : (t0 t1 t2 t3 t4 t5 a b c d e : List ℕ) → t1 ≡ t0 ++ a → t2 ≡ t1 ++ b → t3 ≡ t2 ++ c → t4 ≡ t3 ++ d → t5 ≡ t4 ++ e
    → t5 ≡ t0 ++ (a ++ b ++ c ++ d ++ e)
pushed_5 t0 t1 t2 t3 t4 t5 a b c d e h i j k l = rw (l, k, j, i, h) (simp append_assoc)

pub pushed_6 : (t0 t1 t2 t3 t4 t5 t6 a b c d e f : List ℕ) → t1 ≡ t0 ++ a → t2 ≡ t1 ++ b → t3 ≡ t2 ++ c → t4 ≡ t3 ++ d
    → t5 ≡ t4 ++ e → t6 ≡ t5 ++ f → t6 ≡ t0 ++ (a ++ b ++ c ++ d ++ e ++ f)
pushed_6 t0 t1 t2 t3 t4 t5 t6 a b c d e f h i j k l m = rw (m, l, k, j, i, h) (simp append_assoc)

pub pushed_7 : (t0 t1 t2 t3 t4 t5 t6 t7 a b c d e f g : List ℕ) → t1 ≡ t0 ++ a → t2 ≡ t1 ++ b → t3 ≡ t2 ++ c → t4 ≡ t3 ++ d
    → t5 ≡ t4 ++ e → t6 ≡ t5 ++ f → t7 ≡ t6 ++ g → t7 ≡ t0 ++ (a ++ b ++ c ++ d ++ e ++ f ++ g)
pushed_7 t0 t1 t2 t3 t4 t5 t6 t7 a b c d e f g h i j k l m n = rw (n, m, l, k, j, i, h) (simp append_assoc)

pub pushed_8 : (t0 t1 t2 t3 t4 t5 t6 t7 t8 a b c d e f g h : List ℕ) → t1 ≡ t0 ++ a → t2 ≡ t1 ++ b → t3 ≡ t2 ++ c → t4 ≡ t3 ++ d
    → t5 ≡ t4 ++ e → t6 ≡ t5 ++ f → t7 ≡ t6 ++ g → t8 ≡ t7 ++ h
    → t8 ≡ t0 ++ (a ++ b ++ c ++ d ++ e ++ f ++ g ++ h)
pushed_8 t0 t1 t2 t3 t4 t5 t6 t7 t8 a b c d e f g h i j k l m n o p = rw (p, o, n, m, l, k, j, i) (simp append_assoc)
