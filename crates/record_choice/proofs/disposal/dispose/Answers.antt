use Rattle.std.proofs.Common.{◌≡◌, ◌∙◌, ap, map, length, subst, take}
use Rattle.std.specs.List.Sorted.{IsPermutation}
use Rattle.jiff.specs.Words.{epoch_day}
use Rattle.record_archive.specs.Archive.{Archive, Line}
use Rattle.record_archive.specs.Lines.{line_view}
use Rattle.record_choice.specs.Disposals.{Destroys}
use Rattle.record_choice.proofs.disposal.dispose.Goals as goal

pub returns-clause-these : goal.returns-clause-these
returns-clause-these g c =
    let ns = c.in_ok-numbers.numbers.items in
    let same : c.as_slice-2.result.now ≡ ns = c.as_slice-2.ensures.value in
    let these = c.destroy_each.ensures.these in (
      ns,
      these.0,
      these.1,
      λ clean (a : Archive) s.
          let before = c.destroy_each.ensures.falls clean in (
            subst (λ l. IsPermutation (map (λ (x : Line). x.number) l) ns)
                (ap (map line_view) c.as_slice.ensures.value ∙ c.in_ok-lines.ensures.lines before a s) c.in_ok-numbers.ensures,
            subst (λ l. Destroys (g.R.Repository.stands c.destroy_each.new.records) (epoch_day c.args.day)
                (take c.destroy_each.result.count l) these.0 a) same (these.2 clean a (c.asked_lines.ensures.reads.stands a s)),
          ),
      λ done. c.destroy_each.ensures.all done ∙ ap length same,
    )
