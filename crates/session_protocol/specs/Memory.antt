-- Sources and sinks over memory.
use Rattle.std.specs.Prelude.{ℕ, Bool, List, nat_lt}
use Rattle.session_protocol.specs.declared.tally.Tally.{Tally}
use Rattle.session_protocol.specs.declared.memory.MemorySource.{MemorySource}
use Rattle.session_protocol.specs.declared.memory.MemorySink.{MemorySink}

-- what a source has left
abbrev pub left_of : MemorySource → List ℕ
left_of s = s.rest.now

-- what a sink has taken
abbrev pub written_of : MemorySink → List ℕ
written_of s = s.written.items

-- Whether the last call was interrupted. No error is behind its trouble: these streams make their troubles themselves.
abbrev pub ends_interrupted : Tally → Bool
ends_interrupted tally = nat_lt 0 tally.interruptions
