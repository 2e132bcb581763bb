-- A test never looks at the open classes.
use Rattle.std.proofs.Common.{◌≡◌, ℕ, Bool, not, ◌&&◌, ◌||◌, List, refl, ap, ap₂}
use Rattle.sieve_meaning.specs.Program.{Test, always, negated, all_of, any_of, has_all, over, under, header, Tests, no_test, test_then}
use Rattle.sieve_meaning.specs.Truth.{truth, all_true, some_true}
use Rattle.mail_case.specs.Message.{case_of}

module _ (message : List ℕ) (f g : List ℕ → Bool) where
  mutual
    pub same_truth : (t : Test) → truth (case_of message f) t ≡ truth (case_of message g) t
    same_truth (always b) = refl
    same_truth (negated t) = ap not (same_truth t)
    same_truth (all_of ts) = same_all ts
    same_truth (any_of ts) = same_some ts
    same_truth (has_all names) = refl
    same_truth (over n) = refl
    same_truth (under n) = refl
    same_truth (header m c n ns k ks) = refl

    same_all : (ts : Tests) → all_true (case_of message f) ts ≡ all_true (case_of message g) ts
    same_all no_test = refl
    same_all (test_then t ts) = ap₂ ◌&&◌ (same_truth t) (same_all ts)

    same_some : (ts : Tests) → some_true (case_of message f) ts ≡ some_true (case_of message g) ts
    same_some no_test = refl
    same_some (test_then t ts) = ap₂ ◌||◌ (same_truth t) (same_some ts)
