-- The numbers that words are.
use Rattle.std.proofs.Common.{◌≡◌, ◌==◌, ◌&&◌, ◌||◌, ◌++◌, ◌∷◌, [], ℕ, Bool, true, false, List, length, flat_map, Option, Some, None}
use Rattle.std.proofs.Common.{ap, ap₂, arith, refl, sym, true≢false, ◌∙◌}
use Rattle.std.proofs.lemmas.Bool.Decides.{nat_tests}
use Rattle.std.specs.List.{list_all}
use Rattle.std.specs.Prelude.{is_some}
use Rattle.choice_words.specs.Numbers.{numbers_typed}
use Rattle.choice_words.specs.Volumes.{volume_numbers}
use Rattle.choice_words.specs.declared.numbers.TypedNumbers.{TypedNumbers}
use Rattle.choice_words.specs.declared.volumes.VolumeNumbers.{VolumeNumbers}
use Rattle.command_lines.specs.Numbers.{AreTyped, alone_in, alone_unless, are_numbers, listed, of_volumes_in}
use Rattle.command_lines.specs.declared.archives.numbers.Numbers.{Numbers}
use Rattle.cli_changes.specs.Approvals.{are_none}

and_false : (b : Bool) → (b && false) ≡ false
and_false true = refl
and_false false = refl

and_first : (x y : Bool) → (x && y) ≡ true → x ≡ true
and_first true y e = refl
and_first false y e = e

-- a word that is numbers is one at least
some_in : (o : Option VolumeNumbers) (k : Option TypedNumbers) → (is_some o || is_some k) ≡ true → are_none (alone_unless o k) (listed o) ≡ false
some_in None None e = sym e
some_in None (Some t) e = refl
some_in (Some w) k e = refl

-- so are more
more_some : (xs ys : List TypedNumbers) (vs ws : List VolumeNumbers) → are_none xs vs ≡ false → are_none (xs ++ ys) (vs ++ ws) ≡ false
more_some [] ys [] ws e = absurd (true≢false e)
more_some [] ys (v ∷ vs) ws e =
    let some : (length ((v ∷ vs) ++ ws) == 0) ≡ false = grind (arith, nat_tests) in
    ap (λ b. (length ys == 0) && b) some ∙ and_false (length ys == 0)
more_some (x ∷ xs) ys vs ws e =
    let some : (length ((x ∷ xs) ++ ys) == 0) ≡ false = grind (arith, nat_tests) in
    ap (λ b. b && (length (vs ++ ws) == 0)) some

-- THE NUMBERS THAT WORDS ARE are one at least where there is a word
pub some_typed : (words : List (List ℕ)) (n : Numbers) → (length words == 0) ≡ false → AreTyped words n
    → are_none n.alone.items n.of_volumes.items ≡ false
some_typed [] n some typed = absurd (true≢false some)
some_typed (w ∷ ws) n some typed =
    ap₂ are_none typed.alone typed.of_volumes
    ∙ more_some (alone_in w) (flat_map alone_in ws) (of_volumes_in w) (flat_map of_volumes_in ws)
    (some_in (volume_numbers w) (numbers_typed w) (and_first (are_numbers w) (list_all are_numbers ws) typed.each))
