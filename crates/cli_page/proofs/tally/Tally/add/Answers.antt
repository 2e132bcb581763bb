use Rattle.std.proofs.Common.{ap, ◌∙◌, refl}
use Rattle.cli_page.specs.Counting.{counted}
use Rattle.cli_page.specs.declared.tally.ClassCounts.{ClassCounts}
use Rattle.cli_page.proofs.TallyLemmas.{counts_one, read_twice}
use Rattle.cli_page.proofs.tally.Tally.add.Goals as goal

pub returns-clause-ok : goal.returns-clause-ok
returns-clause-ok c =
    let items = c.args.self.now.classes.items in
    let class : ClassCounts = c.index_mut.result.now in
    let changed : ClassCounts = record { path = c.index_mut.result.now.path; counts = c.in-Some-with-2.class } in
    let has = rw c.as_slice.ensures.value at c.in-Some.ensures in
    let same = read_twice items c.in-Some.place c.index.result.now class has.0 c.index.ensures c.index_mut.ensures.value in
    counts_one c.args.path.now c.args.seen.now c.args.self.now _ c.in-Some.place class changed has
    c.index_mut.ensures.value refl
    (c.in-Some-with-2.ensures.value ∙ ap (λ (k : ClassCounts). counted c.args.self.now.day k.counts c.args.seen.now) same)
    refl c.in-Some-with.ensures.value refl
