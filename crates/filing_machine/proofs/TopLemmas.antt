-- The topmost entry of a stack.
use Rattle.std.proofs.Common.{◌≡◌, ℕ, false, List, [], ◌∷◌, Some, map, slice_get, refl, sym, ap}
use Rattle.std.specs.List.{list_any}
use Rattle.std.specs.Option.{unwrap_or}
use Rattle.sieve_meaning.specs.Case.{Facts}
use Rattle.filing_table.specs.Machine.{comparison_holds}
use Rattle.mail_case.specs.Fields.{field_at}
use Rattle.filing_machine.specs.declared.state.Item.{Item}
use Rattle.filing_machine.specs.declared.state.Item.TheVariants.{Truth, Fields, Count}
use Rattle.filing_machine.specs.StateViews.{entry}
use Rattle.filing_machine.specs.Tops.{any_on_top}

pub any_of_fields : (c : Facts) (k : ℕ) (key : List ℕ) (items : List Item) (places : List ℕ)
    → slice_get items 0 ≡ Some (Fields places)
    → any_on_top k key (map (entry c) items)
    ≡ list_any (comparison_holds k key) (map (λ place. (field_at c place).value) places)
any_of_fields c k key [] places e = absurd (cc e)
any_of_fields c k key (item ∷ items) places e =
    let is : item ≡ Fields places = ap (λ o. unwrap_or o item) e in
    ap (λ x. any_on_top k key (map (entry c) (x ∷ items))) is

pub none_of_another : (c : Facts) (k : ℕ) (key : List ℕ) (items : List Item) (item : Item)
    → slice_get items 0 ≡ Some item → ((places : List ℕ) → item ≡ Fields places → ⊥)
    → any_on_top k key (map (entry c) items) ≡ false
none_of_another c k key [] item e other = absurd (cc e)
none_of_another c k key (Truth b ∷ items) item e other = refl
none_of_another c k key (Count n ∷ items) item e other = refl
none_of_another c k key (Fields places ∷ items) item e other = absurd (other places (sym (ap (λ o. unwrap_or o item) e)))
