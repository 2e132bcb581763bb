-- A record that is counted in one class.
use Rattle.std.proofs.Common.{◌≡◌, ◌∙◌, sym, ap, ℕ, List, ◌<◌, length, get_or, set, Some, option_map, slice_get, refl}
use Rattle.std.proofs.lemmas.Option.{slice_get_read, slice_get-map}
use Rattle.std.proofs.lemmas.List.{get_or_default, map-set}
use Rattle.std.proofs.Math.Seq.{map-set_same}
use Rattle.cli_page.specs.Counting.{counted}
use Rattle.cli_page.specs.Tallies.{HasPathAt, CountsOne, counts_of, paths_of}
use Rattle.cli_page.specs.declared.counts.Seen.{Seen}
use Rattle.cli_page.specs.declared.tally.ClassCounts.{ClassCounts}
use Rattle.cli_page.specs.declared.tally.Tally.{Tally}

-- the same class, read twice
pub read_twice : (classes : List ClassCounts) (place : ℕ) (one other : ClassCounts) → place < length classes
    → one ≡ get_or classes place one → other ≡ get_or classes place other → one ≡ other
read_twice classes place one other within a b = a ∙ (get_or_default classes place one other within ∙ sym b)

pub counts_one : (path : List ℕ) (seen : Seen) (old new : Tally) (place : ℕ) (class changed : ClassCounts)
    → HasPathAt path old.classes.items place → class ≡ get_or old.classes.items place class
    → changed.path ≡ class.path → changed.counts ≡ counted old.day class.counts seen
    → new.classes.items ≡ set old.classes.items place changed → new.all ≡ counted old.day old.all seen → new.day ≡ old.day
    → CountsOne path seen old new
counts_one path seen old new place class changed has read same_path counts classes all day =
    let items : List ClassCounts = old.classes.items in
    let at : slice_get items place ≡ Some class = slice_get_read items (length items) place class refl has.0 read in
    let same : class ≡ get_or items place class = read in
    record {
      place = place;
      counts = class.counts;
      its_path = has;
      was = slice_get-map (λ (c : ClassCounts). c.counts) items place ∙ ap (option_map (λ (c : ClassCounts). c.counts)) at;
      classes = ap counts_of classes ∙ (map-set (λ (c : ClassCounts). c.counts) items place changed
          ∙ ap (set (counts_of items) place) counts);
      paths = ap paths_of classes ∙ map-set_same (λ (c : ClassCounts). c.path.items) items place changed class
          (ap (λ p. p.items) same_path ∙ ap (λ (c : ClassCounts). c.path.items) same);
      all = all;
      day = day;
    }
