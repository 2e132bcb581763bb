-- What a session leaves unread.
use Rattle.std.proofs.Common.{◌≡◌, ℕ, zero, suc, ◌+◌, ◌-◌, ◌<◌, ◌≤◌, List, refl, ap, ◌∙◌}
use Rattle.session_protocol.specs.Session.{Item, Got, Stop, start_of, left_after, left_by}
use Rattle.session_protocol.specs.declared.items.SessionEnd.{SessionEnd}
use Rattle.session_protocol.proofs.Served.{one_less, none_left}

left_step : (n : ℕ) (input : List ℕ) → left_by (suc n) input ≡ left_after (start_of input) (λ rest. left_by n rest)
unfolding left_by
left_step n input = refl

left_none : (input : List ℕ) → left_by zero input ≡ input
unfolding left_by
left_none input = refl

-- after an item: what is left of the rest
pub left_more : (i : ℕ) (input : List ℕ) (item : Item) (rest : List ℕ) → i < 1000000 → start_of input ≡ Got item rest
    → left_by (1000000 - i) input ≡ left_by (1000000 - (i + 1)) rest
left_more i input item rest h e =
    ap (λ n. left_by n input) (one_less i h) ∙ left_step (1000000 - (i + 1)) input ∙ ap (λ x. left_after x (λ y. left_by (1000000 - (i + 1)) y)) e

-- after a line that ends the session
pub left_stop : (i : ℕ) (input rest : List ℕ) (e : SessionEnd) → i < 1000000 → start_of input ≡ Stop e rest → left_by (1000000 - i) input ≡ rest
left_stop i input rest e h is =
    ap (λ n. left_by n input) (one_less i h) ∙ left_step (1000000 - (i + 1)) input ∙ ap (λ x. left_after x (λ y. left_by (1000000 - (i + 1)) y)) is

-- after the last item
pub left_limit : (i : ℕ) (input : List ℕ) → 1000000 ≤ i → left_by (1000000 - i) input ≡ input
left_limit i input h = ap (λ n. left_by n input) (none_left i h) ∙ left_none input
