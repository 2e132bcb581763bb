-- Calls of a desk, one after the other.
use Rattle.std.proofs.Common.{◌≡◌, List, [], ◌∷◌, ◌++◌, Result, Ok, Err, IsErr, IsErrAnd, Bool, true, false, refl, ap, subst}
use Rattle.std.specs.Prelude.{◌||◌}
use Rattle.std.proofs.lemmas.Bool.{false≢true}
use Rattle.record_archive.specs.Calls.{Keeper}
use Rattle.desk_commands.specs.Answers.{Answer}
use Rattle.desk_commands.specs.ArchiveAnswers.{is_of_archive}
use Rattle.desk_commands.specs.Calls.{Calls}
use Rattle.desk_commands.specs.Standing.{Command, Standing}
use Rattle.desk_commands.specs.declared.fault.DeskFault.{DeskFault}
use Rattle.filing_desk.specs.Deliveries.{Call, Goes, Follows, are_of_archive}

-- a refusal that is passed on
pub passed_on : {T : Type 0} (r : Result T DeskFault) (f : DeskFault) → IsErr r → IsErrAnd r (λ e. e ≡ f) → r ≡ Err f
passed_on (Err e) f is same = ap Err same
passed_on (Ok t) f is same = absurd (false≢true is)

goes_on : (xs ys : List Call) (s mid new : Standing) → Goes s xs mid → Goes mid ys new → Goes s (xs ++ ys) new
goes_on [] ys s mid new here there = let From : Standing → Type 0 = λ z. Goes z ys new in subst From here there
goes_on (c ∷ xs) ys s mid new (next, step, rest) there = (next, step, goes_on xs ys next mid new rest there)

-- ---- answers of the archive

one_of : (a b : Bool) → a ≡ true → (a || b) ≡ true
one_of true b e = refl
one_of false b e = absurd (false≢true e)

rest_of : (a b c : Bool) → (b ≡ true → c ≡ true) → (a || b) ≡ true → (a || c) ≡ true
rest_of true b c h e = refl
rest_of false b c h e = h e

last_of : (a b : Bool) → b ≡ true → (a || b) ≡ true
last_of true b e = refl
last_of false b e = e

in_first : (xs ys : List Call) → are_of_archive xs ≡ true → are_of_archive (xs ++ ys) ≡ true
in_first [] ys e = absurd (false≢true e)
in_first (c ∷ xs) ys e = rest_of (is_of_archive c.command c.answer) (are_of_archive xs) (are_of_archive (xs ++ ys)) (in_first xs ys) e

in_last : (xs ys : List Call) → are_of_archive ys ≡ true → are_of_archive (xs ++ ys) ≡ true
in_last [] ys e = e
in_last (c ∷ xs) ys e = last_of (is_of_archive c.command c.answer) (are_of_archive (xs ++ ys)) (in_last xs ys e)

-- ---- calls that a desk went through

module _ {D : Type 0} (keeper : Keeper D Standing) where
  pub one_call : (old new : D) (c : Command) (a : Answer) → Calls keeper old c a new
      → Follows keeper old (record { command = c; answer = a } ∷ []) new
  one_call old new c a call = record {
    was_clean = call.was_clean;
    leads = λ h s there.
        let l = call.leads (λ e. h (one_of (is_of_archive c a) false e)) s there in
        record { to = l.to; is_one = (l.to, l.is_one, refl); there = l.there };
  }

  pub calls_on : (old mid new : D) (xs ys : List Call) → Follows keeper old xs mid → Follows keeper mid ys new
      → Follows keeper old (xs ++ ys) new
  calls_on old mid new xs ys first second = record {
    was_clean = λ h. first.was_clean (second.was_clean h);
    leads = λ h s there.
        let l = first.leads (λ e. second.was_clean (h (in_first xs ys e))) s there in
        let k = second.leads (λ e. h (in_last xs ys e)) l.to l.there in
        record { to = k.to; is_one = goes_on xs ys s l.to k.to l.is_one k.is_one; there = k.there };
  }
