-- How many messages of old mail were taken, and how many not.
use Rattle.std.specs.Prelude.{ℕ, ◌+◌, ◌-◌, ◌^◌, min}
use Rattle.mail_intake.specs.Calls.{no_memory, unfit, given_up}
use Rattle.mail_import.specs.Fates.{Why, no_mail, undated, too_long, because}
use Rattle.mail_import.specs.declared.tally.ImportTally.{ImportTally}

-- the tally of no messages
abbrev pub no_messages : ImportTally
no_messages = record { taken = 0; known = 0; unfit = 0; given_up = 0; empty = 0; files = 0; folders = 0 }

-- so many more, up to the greatest number of 64 bits
abbrev pub more : ℕ → ℕ → ℕ
more n count = min (count + n) (2 ^ 64 - 1)

abbrev pub one_more : ℕ → ℕ
one_more count = more 1 count

-- A MESSAGE THAT STAYS is counted once: as unfit, or as given up, which may be taken later
abbrev pub with_staying : Why → ImportTally → ImportTally
with_staying (no_mail why) t = record t { unfit = one_more t.unfit }
with_staying (undated why) t = record t { unfit = one_more t.unfit }
with_staying too_long t = record t { unfit = one_more t.unfit }
with_staying (because (unfit words)) t = record t { unfit = one_more t.unfit }
with_staying (because no_memory) t = record t { given_up = one_more t.given_up }
with_staying (because (given_up words)) t = record t { given_up = one_more t.given_up }

abbrev pub with_beside : (files folders : ℕ) → ImportTally → ImportTally
with_beside files folders t = record t { files = more files t.files; folders = more folders t.folders }
