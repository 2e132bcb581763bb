-- What gives messages of old mail their moments, as it is asked for.
use Rattle.std.specs.Prelude.{◌≡◌, ◌≤◌, ◌<◌, ◌*◌, ◌^◌, ℕ, pos}
use Rattle.jiff.specs.Words.{epoch_day}
use Rattle.jiff_core.specs.declared.civil.date.Date.{Date}
use Rattle.command_lines.specs.declared.archives.imports.Dating.{Dating as Asked}
use Rattle.command_lines.specs.declared.archives.imports.Dating.TheVariants as asked
use Rattle.command_lines.specs.declared.archives.imports.Import.{Import}
use Rattle.mail_dates.specs.declared.dating.Dating.{Dating}
use Rattle.mail_dates.specs.declared.dating.Dating.TheVariants as dating
use Rattle.mail_import.specs.declared.message.Terms.{Terms}

-- the beginning of a day, in seconds since 1970, which has come; a day has 86,400 seconds
abbrev pub IsBeginning : Date → (now moment : ℕ) → Type 0
IsBeginning day now moment = (moment ≤ now) × ((n : ℕ) → n < 2 ^ 32 → epoch_day day ≡ pos n → moment ≡ n * 86400)

-- WHAT GIVES THE MOMENT OF A MESSAGE is what is asked for, where the clock shows `now`
abbrev pub IsDating : Asked → (now : ℕ) → Dating → Type 0
IsDating asked.Received now d = d ≡ dating.Received
IsDating asked.Date now d = d ≡ dating.Date
IsDating asked.Now now d = d ≡ dating.At now
IsDating (asked.On day) now d = (moment : ℕ) × (d ≡ dating.At moment) × IsBeginning day now moment

pub record AreTermsOf (asked : Import) (terms : Terms) : Type 0 where
  pub dating : IsDating asked.dating terms.clock terms.dating
  pub is_again : terms.is_again ≡ asked.is_again
