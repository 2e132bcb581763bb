use Rattle.std.proofs.Common.{rules, ◌∙◌, ◌≤◌, ◌∷◌, ◌++◌, [], ap, arith, length, subst, sym, take}
use Rattle.std.proofs.lemmas.List.{append-nil, take_all, take_more}
use Rattle.std.proofs.lemmas.Result.{on_ok_weaker}
use Rattle.record_archive.specs.Archive.{Archive}
use Rattle.cli_console.proofs.Told.{told_at}
use Rattle.cli_console.proofs.reader.take_page.Goals as goal

pub loop-at-preserved : goal.loop-at-preserved
loop-at-preserved g c =
    let entries = c.args.entries.now in
    let at = c.loop-at.at in
    let entry = c.index-entries-at.result in
    record {
      reads = search rules;
      taken = λ clean (a : Archive) s beside.
          let told = told_at a entries c.args.headers.now beside at entry c.index-entries-at.is c.get.result c.get.ensures.lookup in
          let so_far = c.loop-at.invariant.taken (c.take.ensures.reads.falls clean) a s beside in
          let took = c.in_ok-take.ensures.taken clean a (c.loop-at.invariant.reads.stands a s) told in
          subst (λ l. g.K.Reader.takes c.args.reader.now a l c.take.new.self)
          (sym (take_more entries at entry (omega arith) ∙ ap (λ e. take at entries ++ e ∷ []) (sym c.index-entries-at.is)))
          (g.met.K.Reader.takes_more c.args.reader.now c.loop-at.reader c.take.new.self a (take at entries) (entry ∷ []) so_far took);
    }

pub returns-clause-taken : goal.returns-clause-taken
returns-clause-taken g c =
    let entries = c.args.entries.now in
    let at = c.loop-at.at in
    let all : length entries ≤ at = omega arith in
    on_ok_weaker c.rest.result (λ (rested : (a : Archive) → g.K.Reader.takes c.loop-at.reader a [] c.rest.new.self) clean (a : Archive) s beside.
    subst (λ l. g.K.Reader.takes c.args.reader.now a l c.rest.new.self) (append-nil (take at entries) ∙ take_all at entries all)
    (g.met.K.Reader.takes_more c.args.reader.now c.loop-at.reader c.rest.new.self a (take at entries) []
    (c.loop-at.invariant.taken clean a s beside) (rested a))) c.rest.ensures
