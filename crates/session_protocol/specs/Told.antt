-- What calls tell of a source.
use Rattle.std.specs.Prelude.{Result}
use Rattle.session_protocol.specs.Streams.{TellsEnd, TellsTroubles}
use Rattle.session_protocol.specs.declared.stream.Source.{Ghosts}

-- WHAT A RESULT TELLS OF THE READS that led to it: where it says that the input has ended, a read met its end; and the
-- troubles that the source met.
pub record TellsReads {S T F : Type 0} (g : Ghosts S) (ended : Type 0) (result : Result T F) (old new : S) : Type 0 where
  pub ends : TellsEnd ended (g.ends old) (g.ends new)
  pub troubles : TellsTroubles g.troubles result old new
