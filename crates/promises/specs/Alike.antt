-- Answers that say the same, except for an offset and for 20 in the place of 21.
use Rattle.std.specs.Prelude.{◌≡◌, ℕ, ◌⊎◌, List, [], ◌∷◌}
use Rattle.desk_commands.specs.Answers.{Answer, refused}
use Rattle.desk_commands.specs.Standing.{Standing}
use Rattle.promises.specs.Runs.{SessionFrom}
use Rattle.promises.specs.Serial.{kept_answers}

-- a text that has no tree is refused with one of these
abbrev pub IsNoTree : ℕ → Type 0
IsNoTree n = (n ≡ 20) ⊎ (n ≡ 21)

abbrev pub AreSameNumber : ℕ → ℕ → Type 0
AreSameNumber m n = (m ≡ n) ⊎ (IsNoTree m × IsNoTree n)

-- refusals by the same number, or equal answers
abbrev pub AreAlike : Answer → Answer → Type 0
AreAlike (refused m x) (refused n y) = AreSameNumber m n
AreAlike a b = a ≡ b

abbrev pub AllAlike : List Answer → List Answer → Type 0
AllAlike [] [] = Unit {0}
AllAlike (a ∷ rest) (b ∷ others) = AreAlike a b × AllAlike rest others
AllAlike [] (b ∷ others) = ⊥
AllAlike (a ∷ rest) [] = ⊥

-- what is left of the answers of two sessions after striking says the same
abbrev pub AnswerAlike : {s t : Standing} → SessionFrom s → SessionFrom t → Type 0
AnswerAlike x y = AllAlike (kept_answers x.commands x.answers) (kept_answers y.commands y.answers)
