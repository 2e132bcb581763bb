-- Scripts that are set one after another.
use Rattle.std.proofs.Common.{◌≡◌, ℕ, suc, ◌<◌, ◌+◌, List, [], ◌∷◌, length, drop, get_or, add-one, drop-cons, refl, sym, ap, inl, inr}
use Rattle.desk_commands.specs.Answers.{Answer}
use Rattle.desk_commands.specs.Standing.{Command}
use Rattle.desk_commands.specs.declared.fault.DeskFault.{DeskFault}
use Rattle.cli_sources.specs.Faults.{IsFaultOf}
use Rattle.cli_sources.specs.Setting.{Setting, Sets, SetsAll, StopsAmong, accepted, refused}
use Rattle.cli_sources.specs.declared.fault.RulesFault.{RulesFault}
use Rattle.cli_sources.specs.declared.reading.Script.{Script}
use Rattle.std.specs.Prelude.{string_bytes}

-- the next script, and the rest
pub next_of : (scripts : List Script) (k : ℕ) (script : Script) → k < length scripts → script ≡ get_or scripts k script
    → drop k scripts ≡ script ∷ drop (k + 1) scripts
next_of scripts k script lt is =
    rw (add-one, drop-cons scripts k script) (ap (λ (s : Script). s ∷ drop (suc k) scripts) (sym is))

module _ {D : Type 0} (Calls : D → Command → Answer → D → Type 0) (setting : Setting) (all : List Script) where
  -- what the rest of the scripts does from here on is what all of them do from the beginning
  pub record Goes (rest : List Script) (first now : D) : Type 0 where
    pub sets : (end : D) → SetsAll Calls setting rest now end → SetsAll Calls setting all first end
    pub stops : (fault : RulesFault) (end : D) → StopsAmong Calls setting rest fault now end → StopsAmong Calls setting all fault first end

  pub goes_on : (script : Script) (rest left : List Script) (first now next : D) → left ≡ script ∷ rest
      → Goes left first now → Sets Calls setting script now accepted next → Goes rest first next
  goes_on script rest left first now next is so call =
      let so' = rw is at so in
      record {
        sets = λ end more. so'.sets end (next, call, more);
        stops = λ fault end more. so'.stops fault end (inr (next, call, more));
      }

  pub goes_to_end : (left : List Script) (first now : D) → left ≡ [] → Goes left first now → SetsAll Calls setting all first now
  goes_to_end left first now none so = let so' = rw none at so in so'.sets now refl

  pub goes_to_fault : (script : Script) (rest left : List Script) (first now end : D) (refusal : DeskFault) (fault : RulesFault)
      → left ≡ script ∷ rest → IsFaultOf (string_bytes script.path) refusal fault → Goes left first now
      → Sets Calls setting script now (refused refusal) end → StopsAmong Calls setting all fault first end
  goes_to_fault script rest left first now end refusal fault is of so call =
      let so' = rw is at so in so'.stops fault end (inl (refusal, of, call))
