-- The reasons against one more capture.
use Rattle.std.proofs.Common.{◌≡◌, ◌<◌, ◌≤◌, ℕ, refl, arith, true, false, Some, None}
use Rattle.std.specs.Prelude.{nat_le, nat_lt}
use Rattle.std.proofs.lemmas.Bool.Decides.{nat_tests}
use Rattle.desk_commands.specs.Limits.{greatest_message, last_moment, last_ticket, most_in_flight}
use Rattle.desk_commands.specs.Standing.{begin_refusal}

-- from the first
pub refused_moment : (count last moment size : ℕ) → last_moment < moment → begin_refusal count last moment size ≡ Some 94
refused_moment count last moment size h = let e : nat_lt last_moment moment ≡ true = grind (arith, nat_tests, h) in rw e refl

pub refused_length : (count last moment size : ℕ) → moment ≤ last_moment → greatest_message < size → begin_refusal count last moment size ≡ Some 95
refused_length count last moment size h k =
    let e : nat_lt last_moment moment ≡ false = grind (arith, nat_tests, h) in
    let f : nat_lt greatest_message size ≡ true = grind (arith, nat_tests, k) in
    rw e (rw f refl)

pub refused_count : (count last moment size : ℕ) → moment ≤ last_moment → size ≤ greatest_message
    → most_in_flight ≤ count → begin_refusal count last moment size ≡ Some 90
refused_count count last moment size h k l =
    let e : nat_lt last_moment moment ≡ false = grind (arith, nat_tests, h) in
    let f : nat_lt greatest_message size ≡ false = grind (arith, nat_tests, k) in
    let g : nat_le most_in_flight count ≡ true = grind (arith, nat_tests, l) in
    rw e (rw f (rw g refl))

pub refused_ticket : (count last moment size : ℕ) → moment ≤ last_moment → size ≤ greatest_message
    → count < most_in_flight → last_ticket ≤ last → begin_refusal count last moment size ≡ Some 97
refused_ticket count last moment size h k l m =
    let e : nat_lt last_moment moment ≡ false = grind (arith, nat_tests, h) in
    let f : nat_lt greatest_message size ≡ false = grind (arith, nat_tests, k) in
    let g : nat_le most_in_flight count ≡ false = grind (arith, nat_tests, l) in
    let i : nat_le last_ticket last ≡ true = grind (arith, nat_tests, m) in
    rw e (rw f (rw g (rw i refl)))

pub allowed : (count last moment size : ℕ) → moment ≤ last_moment → size ≤ greatest_message → count < most_in_flight
    → last < last_ticket → begin_refusal count last moment size ≡ None
allowed count last moment size h k l m =
    let e : nat_lt last_moment moment ≡ false = grind (arith, nat_tests, h) in
    let f : nat_lt greatest_message size ≡ false = grind (arith, nat_tests, k) in
    let g : nat_le most_in_flight count ≡ false = grind (arith, nat_tests, l) in
    let i : nat_le last_ticket last ≡ false = grind (arith, nat_tests, m) in
    rw e (rw f (rw g (rw i refl)))
