-- The numbers of refusals.
use Rattle.std.specs.Prelude.{ℕ}
use Rattle.mail_head.specs.declared.buffer.HeadFault.{HeadFault}
use Rattle.mail_head.specs.declared.buffer.HeadFault.TheVariants.{TooLong, NoMemory}

-- 1 for a message that is too long, 99 for no memory
abbrev pub number_of : HeadFault → ℕ
number_of TooLong = 1
number_of NoMemory = 99
