-- The records of a volume behind those of the volumes before it.
use Rattle.std.proofs.Common.{◌≡◌, ◌==◌, ◌∙◌, ◌++◌, [], ℕ, List, ap, subst, sym}
use Rattle.std.proofs.lemmas.List.{append-nil}
use Rattle.record_archive.specs.Archive.{Archive}
use Rattle.record_choice.specs.declared.entry.RecordEntry.{RecordEntry}
use Rattle.cli_console.specs.Sinks.{Writes, more_written}
use Rattle.cli_readings.specs.Lists.{AreListedAs, HasText, Lists, end_of}
use Rattle.cli_console.specs.Sequences.{more_for}
use Rattle.cli_readings.specs.VolumeLists.{AddsVolume, Begins, Ends, head_in, in_volume}
use Rattle.cli_readings.specs.declared.list.ListText.{ListText}
use Rattle.cli_readings.specs.declared.volume_lists.VolumeList.{VolumeList}

module _ {K : Type 0} (written : K → List ℕ → Type 0) where
  -- the list as it is once the records of a volume are to come
  abbrev pub for_volume : ℕ → VolumeList K → VolumeList K
  for_volume v x = record x { list = record x.list { listing = in_volume v x.list.listing } }

  -- what stands before the records, and the records
  pub volume_added : (a : Archive) (v : ℕ) (x begun : VolumeList K) (list : ListText K) (es : List RecordEntry)
      → Begins written (for_volume v x) begun → Lists written a begun.list es list
      → AddsVolume written a v x es (record begun { list = list })
  volume_added a v x begun list es begins lists = record {
    rows = lists.rows;
    are = subst (λ n. AreListedAs a (in_volume v x.list.listing) (n == 0) es lists.rows) begins.counted
        (subst (λ l. AreListedAs a l (begun.list.count == 0) es lists.rows) begins.listing lists.are);
    added = more_written (HasText written) x.list begun.list list (head_in x) lists.rows begins.added lists.added;
    counted = lists.counted ∙ ap (more_for es) begins.counted;
    listing = lists.listing ∙ begins.listing;
    begun = begins.begun;
  }

  -- what stands before the records, where that was not written, and what stands after them
  pub list_ended : (x begun : VolumeList K) (list : ListText K) → Begins written x begun
      → Writes (HasText written) begun.list list (end_of begun.list.listing.format begun.list.count) → list.text.items ≡ []
      → Ends written x list.sink
  list_ended x begun list begins ends none all has =
      let head = all ++ head_in x in
      let end = end_of x.list.listing.format x.list.count in
      let same : end_of begun.list.listing.format begun.list.count ≡ end =
      ap (λ l. end_of l.format begun.list.count) begins.listing ∙ ap (end_of x.list.listing.format) begins.counted in
      let last = ends head (begins.added all has) in
      subst (λ t. written list.sink t)
      (sym (append-nil last.0) ∙ ap (λ t. last.0 ++ t) (sym none) ∙ last.2 ∙ ap (λ t. head ++ t) same) last.1
