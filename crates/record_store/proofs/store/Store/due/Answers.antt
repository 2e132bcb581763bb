use Rattle.std.proofs.Common.{◌≡◌, ◌==◌, ◌∙◌, ℕ, ℤ, pos, negsuc, [], Some, None, map, filter, refl, sym, ap, subst, arith}
use Rattle.std.specs.List.{AllByRecursion}
use Rattle.record_archive.specs.Archive.{Archive, due_list, due_list_on, from_1970}
use Rattle.record_archive.specs.Lines.{line_view}
use Rattle.std.proofs.lemmas.Grind.{common_steps}
use Rattle.jiff.specs.Words.{epoch_day}
use Rattle.record_adoption.specs.Counts.{count_at}
use Rattle.record_store.specs.Dues.{IsDatable, due_records, due_line}
use Rattle.record_store.proofs.Causes.{passed_cause}
use Rattle.record_store.proofs.DueLemmas.{due_list_is, unheld_are, due_records_datable}
use Rattle.record_store.proofs.store.Store.due.Goals as goal

-- the due list of a day of 1970 or later, and of one before
listed : (a : Archive) (z : ℤ) (n : ℕ) → Some n ≡ from_1970 z → due_list a n ≡ due_list_on a z
listed a (pos m) n is = let same : n ≡ m = cc in ap (due_list a) same
listed a (negsuc m) n is = absurd cc

none_listed : (a : Archive) (z : ℤ) → None ≡ from_1970 z → [] ≡ due_list_on a z
none_listed a (pos m) is = absurd cc
none_listed a (negsuc m) is = refl

pub returns-clause-tells : goal.returns-clause-tells
returns-clause-tells g c = λ (a : Archive) s.
    let one = c.in_ok-due.ensures.tells a s in (
      one.0,
      λ clean. c.in_ok-lines.ensures.lines ∙ ap (λ l. map due_line (filter (λ d. count_at c.due_records.new.self.held d.number == 0) l)) (one.1 clean)
          ∙ ap (map due_line) (unheld_are a (count_at c.due_records.new.self.held) one.0.held (due_records a c.in-Some.day))
          ∙ due_list_is a s.archive c.in-Some.day ∙ listed a (epoch_day c.args.day) c.in-Some.day (sym c.in-Some.is ∙ c.number_from_1970.ensures),
    )

pub returns-in_default-clause-tells : goal.returns-in_default-clause-tells
returns-in_default-clause-tells g c = λ (a : Archive) s.
    let none : c.number_from_1970.result ≡ None = grind (arith, common_steps) in
    (s, λ clean. ap (map line_view) c.new.ensures.items ∙ none_listed a (epoch_day c.args.day) (sym none ∙ c.number_from_1970.ensures))

pub returns-in_err-lines-clause-cause : goal.returns-in_err-lines-clause-cause
returns-in_err-lines-clause-cause g c =
    passed_cause g.S.Store c.args.self.now c.due_records.new.self c.from_residual-in_err-lines.result
    c.in_err-lines.field-0.0 c.from_residual-in_err-lines.ensures.1
    (λ (a : Archive) s clean.
    c.in_err-lines.ensures.lost (subst (AllByRecursion IsDatable) (sym ((c.in_ok-due.ensures.tells a s).1 clean))
    (due_records_datable a c.in-Some.day s.archive)))
