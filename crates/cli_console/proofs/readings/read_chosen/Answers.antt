use Rattle.std.proofs.Common.{◌≤◌, ◌^◌, ◌++◌, ◌∙◌, [], arith, subst}
use Rattle.record_archive.specs.Archive.{Archive}
use Rattle.cli_console.specs.Finds.{chosen_ahead, chosen_in}
use Rattle.cli_console.proofs.Ahead.{all_taken, at_zero, counts_up, more_taken, none_to_walk, walk_begins, walked}
use Rattle.cli_console.proofs.readings.read_chosen.Goals as goal

pub loop-init : goal.loop-init
loop-init g c = record {
  reads = record { stands = λ a s. s; falls = λ clean. clean };
  same = c.from-walk.ensures.choice;
  on = λ clean (a : Archive) s. at_zero c.from-walk.result.from;
  taken = λ clean (a : Archive) s. (
    [],
    walk_begins c.from-walk.result c.args.choice.now a (g.met.R.Repository.is_archive c.args.archive.now a s) c.from-walk.ensures.choice
        c.from-walk.ensures.begins,
    g.met.K.Reader.takes_none c.args.reader.now a,
  );
}

pub loop-preserved : goal.loop-preserved
loop-preserved g c =
    let was = c.loop.invariant in
    record {
      reads = record {
        stands = λ (a : Archive) s. c.take_page.ensures.reads.stands a (c.next_page.ensures.reads.stands a (was.reads.stands a s));
        falls = λ clean. was.reads.falls (c.next_page.ensures.reads.falls (c.take_page.ensures.reads.falls clean));
      };
      same = c.next_page.ensures.same ∙ was.same;
      on = λ clean (a : Archive) s.
          let mid = c.take_page.ensures.reads.falls clean in
          let turn =
          walked c.loop.walk c.next_page.new.self a c.in_ok-page.field-0 c.in-Some.page c.in-Some.is c.next_page.ensures.same
          (c.in_ok-page.ensures.page mid a (was.reads.stands a s)) in
          counts_up c.loop.counter c.loop.walk.from c.next_page.new.self.from turn.0 (was.on (c.next_page.ensures.reads.falls mid) a s) turn.2;
      taken = λ clean (a : Archive) s.
          let mid = c.take_page.ensures.reads.falls clean in
          let stood = was.reads.stands a s in
          let so_far = was.taken (c.next_page.ensures.reads.falls mid) a s in
          let page = c.in-Some.page.items in
          let turn =
          walked c.loop.walk c.next_page.new.self a c.in_ok-page.field-0 c.in-Some.page c.in-Some.is c.next_page.ensures.same
          (c.in_ok-page.ensures.page mid a stood) in
          let took =
          subst (λ l. g.K.Reader.takes c.loop.reader a l c.take_page.new.reader) c.as_slice.ensures.value
          (c.in_ok-take_page.ensures.taken clean a (c.next_page.ensures.reads.stands a stood) tt) in (
            so_far.0 ++ page,
            more_taken so_far.0 page (chosen_in c.args.choice.now a) (chosen_ahead c.loop.walk a) (chosen_ahead c.next_page.new.self a) so_far.1
                turn.1,
            g.met.K.Reader.takes_more c.args.reader.now c.loop.reader c.take_page.new.reader a so_far.0 page so_far.2 took,
          );
    }

pub returns-clause-taken : goal.returns-clause-taken
returns-clause-taken g c = λ clean (a : Archive) s.
    let big : 2 ^ 32 ≤ c.loop.counter = omega arith in
    let so_far = c.loop.invariant.taken clean a s in
    let stood = c.loop.invariant.reads.stands a s in
    let none =
    none_to_walk c.loop.walk a (g.met.R.Repository.is_archive c.loop.archive a stood) c.loop.counter big (c.loop.invariant.on clean a s) in
    (so_far.0, all_taken so_far.0 (chosen_in c.args.choice.now a) (chosen_ahead c.loop.walk a) so_far.1 none, so_far.2)
