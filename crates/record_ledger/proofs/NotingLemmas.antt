-- Changes that are noted on an occasion.
use Rattle.std.proofs.Common.{◌≡◌, ◌∙◌, ◌+◌, ℕ, List, [], ◌∷◌, ◌++◌, length, false, ap, Result, Ok, Err}
use Rattle.std.specs.Result.{IsErr}
use Rattle.std.proofs.lemmas.Bool.{false≢true}
use Rattle.sqlite.specs.Store.{Ghosts}
use Rattle.sqlite.specs.State.{HasCleanDisk}
use Rattle.sqlite.specs.Held.{state}
use Rattle.record_archive.specs.Archive.{Archive}
use Rattle.record_archive.specs.Calls.{Makes}
use Rattle.record_archive.specs.declared.fault.ArchiveRefusal.{ArchiveRefusal}
use Rattle.record_history.specs.Events.{Deed}
use Rattle.record_history.specs.Lines.{line_of}
use Rattle.record_history.specs.Laws.{Told}
use Rattle.record_store.specs.Faults.{StoreFault}
use Rattle.record_noted.specs.Histories.{Becomes, KeepsLines, Notes, StandsWith}
use Rattle.record_noted.specs.declared.store.NotedStore.{NotedStore}
use Rattle.record_ledger.specs.Notes.{TellsOf}
use Rattle.record_ledger.specs.Notings.{IsNoted, NotesDeed}
use Rattle.record_ledger.specs.declared.occasion.Occasion.{Occasion}

-- a refusal notes nothing
pub unnoted : {S K X : Type 0} (g : Ghosts S) (old new : NotedStore S) (occasion : Occasion K) (command : Archive → Result Archive ArchiveRefusal)
    (IsDeed : Archive → Deed → Type 0) (result : Result X StoreFault) → IsErr result → NotesDeed g old new occasion command IsDeed result
unnoted g old new occasion command IsDeed (Err f) is = tt
unnoted g old new occasion command IsDeed (Ok x) is = absurd (false≢true is)

-- the line that was made tells of the deed
retold : {K : Type 0} (occasion : Occasion K) (n m : ℕ) (made deed : Deed) (line kept : List ℕ) → TellsOf occasion n made line → n ≡ m
    → made ≡ deed → kept ≡ line → TellsOf occasion m deed kept
retold occasion n m made deed line kept tells same is whole = record {
  event = tells.event;
  line_is = whole ∙ tells.line_is ∙ ap (λ k. line_of k tells.event) same;
  who = tells.who;
  deed_is = tells.deed_is ∙ is;
  notes = tells.notes;
  reason = tells.reason;
  spelled = tells.spelled;
}

makes_so : {S : Type 0} (g : Ghosts S) (mid new : NotedStore S) (ls : List (List ℕ)) (Holds : Archive → Type 0)
    → ((b : Archive) → StandsWith g new b ls → Holds b) → (made : Result Archive ArchiveRefusal) → Becomes g mid new made ls → Makes Holds made
makes_so g mid new ls Holds holds (Ok b) there = holds b there
makes_so g mid new ls Holds holds (Err r) there = there

-- the line of the deed is the last one
module _ {S K X : Type 0} (g : Ghosts S) (old mid new : NotedStore S) (keeps : KeepsLines g old mid) (occasion : Occasion K)
    (command : Archive → Result Archive ArchiveRefusal) (Answers : Archive → X → Type 0) (n : ℕ) (made deed : Deed) (line kept : List ℕ)
    (tells : TellsOf occasion n made line) (same : n ≡ mid.next) (is : made ≡ deed) (whole : kept ≡ line) (IsDeed : Archive → Deed → Type 0) where
  pub deed_noted : (result : Result X StoreFault) → Notes g mid new result command Answers kept
      → (HasCleanDisk (state g mid.store.conn) → (a : Archive) (ls : List (List ℕ)) → StandsWith g old a ls → Told a ls → IsDeed a deed)
      → NotesDeed g old new occasion command IsDeed result
  deed_noted (Ok x) notes is_deed = λ clean a ls s told.
      let there = keeps a ls s in
      makes_so g mid new (ls ++ kept ∷ []) (IsNoted g new occasion (IsDeed a) ls) (λ b stands. record {
        line = kept;
        deed = deed;
        is_deed = is_deed (notes.was_clean clean) a ls s told;
        tells = retold occasion n (length ls + 1) made deed line kept tells (same ∙ there.next) is whole;
        stands = stands;
      }) (command a) (notes.obeys clean a ls there).0
  deed_noted (Err f) notes is_deed = tt
