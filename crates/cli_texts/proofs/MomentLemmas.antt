-- The text of a moment.
use Rattle.std.proofs.Common.{◌≡◌, ℕ, ◌/◌, ◌≤◌, List, pos, arith}
use Rattle.jiff.specs.Words.{epoch_day}
use Rattle.jiff_core.specs.declared.civil.date.Date.{Date}
use Rattle.cli_texts.specs.Moments.{last_moment, day_and_time, IsMomentText}

pub moment_is : (m : ℕ) (day : Date) (t : List ℕ) → m ≤ last_moment → epoch_day day ≡ pos (m / 86400) → t ≡ day_and_time day m → IsMomentText m t
moment_is m day t le at is = record {
  told = λ _. (day, at, is);
  later = λ lt. absurd (omega (arith, le, lt));
}
