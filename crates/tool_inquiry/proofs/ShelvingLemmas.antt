-- One more script after others.
use Rattle.std.proofs.Common.{◌≡◌, List, [], ◌∷◌, ◌++◌, inl, inr, refl}
use Rattle.sieve_library.specs.Libraries.{Scripts}
use Rattle.tool_inquiry.specs.declared.faults.InquiryFault.{InquiryFault}
use Rattle.tool_inquiry.specs.declared.faults.InquiryFault.TheVariants.{Full, TooLong, NoMemory}
use Rattle.tool_inquiry.specs.declared.scripts.ScriptFile.{ScriptFile}
use Rattle.tool_inquiry.specs.Shelving.{with_file, with_files, HasNoRoomFor, HasRoomForAll, IsFullFor, IsFullForAll}

pub with_last : (fs : List ScriptFile) (f : ScriptFile) (l : Scripts) → with_files (fs ++ f ∷ []) l ≡ with_file f (with_files fs l)
with_last [] f l = refl
with_last (g ∷ gs) f l = with_last gs f (with_file g l)

pub room_for_last : (fs : List ScriptFile) (f : ScriptFile) (l : Scripts) → HasRoomForAll fs l
    → (HasNoRoomFor f (with_files fs l) → ⊥) → HasRoomForAll (fs ++ f ∷ []) l
room_for_last [] f l room last = (last, tt)
room_for_last (g ∷ gs) f l room last = (room.0, room_for_last gs f (with_file g l) room.1 last)

pub full_before : (fs : List ScriptFile) (f : ScriptFile) (l : Scripts) (fault : InquiryFault) → IsFullForAll fs l fault
    → IsFullForAll (fs ++ f ∷ []) l fault
full_before [] f l (Full path) full = absurd full
full_before [] f l TooLong full = absurd full
full_before [] f l NoMemory full = inl tt
full_before (g ∷ gs) f l fault full =
    elim full [ inl first ↦ inl first | inr more ↦ inr (full_before gs f (with_file g l) fault more) ]

pub full_at_last : (fs : List ScriptFile) (f : ScriptFile) (l : Scripts) (fault : InquiryFault)
    → IsFullFor f (with_files fs l) fault → IsFullForAll (fs ++ f ∷ []) l fault
full_at_last [] f l fault full = inl full
full_at_last (g ∷ gs) f l fault full = inr (full_at_last gs f (with_file g l) fault full)
