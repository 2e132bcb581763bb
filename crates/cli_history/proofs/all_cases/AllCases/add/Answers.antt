use Rattle.std.proofs.Common.{◌≡◌, ◌∙◌, Some, ap, false, option_map, refl, subst, sym, ℕ, List}
use Rattle.std.proofs.lemmas.Result.{on_ok_weaker}
use Rattle.std.specs.Str.{bytes_eq}
use Rattle.cli_history.specs.AllCases.{Name, case_named, case_of, kept_view, with_next}
use Rattle.cli_history.proofs.AllCaseLemmas.{added, same_name}
use Rattle.cli_history.proofs.all_cases.AllCases.add.Goals as goal

pub returns-in-Some : goal.returns-in-Some
returns-in-Some c =
    let old = c.args.self.now in
    let next = kept_view c.args.next.kept in
    let name = c.args.next.name in
    let own = c.as_slice.ensures.value in
    let before : case_of old name ≡ Some (kept_view c.in-Some.before) =
    ap (case_named old) (sym own) ∙ sym c.take.ensures.taken ∙ ap (option_map kept_view) c.in-Some.is in
    on_ok_weaker c.keep.result (λ kept (n : Name).
    added name old c.take.new.self c.keep.new.self next (kept_view c.joined.result) n (bytes_eq name.items n.items) refl
    (same_name old name n) (c.joined.ensures ∙ ap (λ o. with_next o next) (sym before))
    (λ other. c.take.ensures.others n (subst (λ (l : List ℕ). bytes_eq l n.items ≡ false) (sym own) other)) (kept n)) c.keep.ensures

pub returns-in-None : goal.returns-in-None
returns-in-None c =
    let old = c.args.self.now in
    let next = kept_view c.args.next.kept in
    let name = c.args.next.name in
    let own = c.as_slice.ensures.value in
    let before = ap (case_named old) (sym own) ∙ sym c.take.ensures.taken ∙ ap (option_map kept_view) c.in-None.is in
    on_ok_weaker c.keep-in-None.result (λ kept (n : Name).
    added name old c.take.new.self c.keep-in-None.new.self next next n (bytes_eq name.items n.items) refl (same_name old name n)
    (ap (λ o. with_next o next) (sym before))
    (λ other. c.take.ensures.others n (subst (λ (l : List ℕ). bytes_eq l n.items ≡ false) (sym own) other)) (kept n)) c.keep-in-None.ensures
