-- Files that hold a database are not files in which none has been made yet, whatever the page size.
use Rattle.std.proofs.Common.{◌≡◌, ◌<◌, ◌≤◌, ◌-◌, ◌*◌, ℕ, List, [], length, take, unwrap_or, Option}
use Rattle.std.proofs.Common.{Some, slice_index, get_or-take, sym, ap, ◌∙◌, inl, inr, arith, refl, length-take}
use Rattle.sqlite_wal.specs.Format.{part}
use Rattle.sqlite_wal.specs.Recovery.{Image, pages_after}
use Rattle.sqlite_wal.proofs.PartLemmas.{slice_index-part, part_within}
use Rattle.sqlite_wal.proofs.RecoveryLemmas.{replays_once}
use Rattle.sqlite_wal.proofs.AppendLemmas.{some_value, page_from_pages}
use Rattle.sqlite_pages.specs.PageMap.{PageMap}
use Rattle.sqlite_pool.specs.File.{header_in, IsSoundFile}
use Rattle.sqlite_pool.specs.Stored.{stored_size, Adopts}
use Rattle.sqlite_pool.specs.StoredLaws.{trimmed_some}
use Rattle.sqlite_pool.specs.Opening.{IsBlankFile}
use Rattle.sqlite_pool.proofs.ProbeLemmas.{first_byte}

module _ (size : ℕ) (image : Image) (pages : PageMap) (found : Adopts size image pages) (sound : IsSoundFile size pages) where
  -- page 1 is as long as a page is stored, and begins with SQLite's name
  first_page_of : (page : List ℕ) × (found.stored 1 ≡ Some page) × (length page ≡ stored_size size) × (16 ≤ size) × (slice_index page 0 ≡ 83)
  first_page_of =
      let (page, is) = some_value (found.stored 1) found.whole.first in
      let used : pages 1 ≡ Some (take size page) = ap (λ (p : PageMap). p 1) (sym found.shows) ∙ trimmed_some size _ 1 page is in
      let head : header_in pages ≡ take 100 (take size page) = ap (λ (o : Option (List ℕ)). take 100 (unwrap_or o [])) used in
      let magic = ap (take 16) (sym head) ∙ sound.header.0.magic in
      let long : 16 ≤ length (take 16 (take 100 (take size page))) = omega (arith, ap length magic) in
      let large : 16 ≤ size = omega (
        arith,
        long,
        length-take 16 (take 100 (take size page)),
        length-take 100 (take size page),
        length-take size page,
      ) in
      let byte : slice_index page 0 ≡ 83 = sym (get_or-take size page 0 0 (omega arith)) ∙ sym (get_or-take 100 (take size page) 0 0 (omega arith))
      ∙ sym (get_or-take 16 (take 100 (take size page)) 0 0 (omega arith)) ∙ ap (λ (b : List ℕ). slice_index b 0) magic in
      (page, is, found.whole.sized 1 page is, large, byte)

  -- with no frame to replay, the database file begins with that page
  file_begins : found.found.frames ≡ 0 → (2 ≤ length image.db) × (slice_index image.db 0 ≡ 83)
  file_begins none =
      let whole = stored_size size in
      let raw = found.found in
      let (page, is, sized, large, byte) = first_page_of in
      let alone : pages_after whole image.log image.db 0 1 ≡ Some page =
      ap (λ (p : PageMap). p 1) (ap (pages_after whole image.log image.db) (sym none) ∙ raw.gives) ∙ is in
      let start : (1 - 1) * whole ≡ 0 = omega arith in
      let front : part image.db 0 whole ≡ page =
      ap (λ (at : ℕ). part image.db at whole) (sym start) ∙ (page_from_pages whole image.log image.db 0 1 page alone).0 in
      let some : 16 ≤ whole = omega arith in
      let long = part_within image.db 0 whole (omega arith) (ap length front ∙ sized) in (
        omega arith,
        sym (slice_index-part image.db 0 whole 0 (omega arith)) ∙ ap (λ (b : List ℕ). slice_index b 0) front ∙ byte,
      )

  pub not_blank : (other : ℕ) → 0 < other → ¬ IsBlankFile other image
  not_blank other some (inl none) = omega (arith, found.found.present)
  not_blank other some (inr blank) =
      let raw = found.found in
      let none : raw.frames ≡ 0 = elim blank.0 [
        | inl ignored ↦ replays_once (stored_size size) image.log raw.frames 0 raw.replays (inl (ignored.0, refl))
        | inr taken ↦ elim raw.replays [
          | inl ignored ↦ ignored.1
          | inr ours ↦ replays_once (stored_size size) image.log raw.frames 0 raw.replays (rw (sym ours.0.head.size ∙ taken.0.head.size) blank.0)
        ]
      ] in
      let (long, byte) = file_begins none in
      elim blank.1.0 [
        | inl short ↦ omega arith
        | inr more ↦ elim more [ inl zeroed ↦ omega (arith, zeroed.1) | inr rest ↦ rest.1 (byte ∙ sym (first_byte other some)) ]
      ]
