use Rattle.std.proofs.Common.{List, ℕ, ◌≤◌, inr, sym, subst, arith}
use Rattle.std.proofs.lemmas.Bool.Decides.{nat_tests}
use Rattle.cli_volumes.specs.Rows.{AreThere}
use Rattle.cli_volumes.proofs.RowLaws.{begun_below, lacking_files, whole_row}
use Rattle.cli_volumes.proofs.listing.judge_files.Goals as goal

pub returns-in-Ok-eq0 : goal.returns-in-Ok-eq0
returns-in-Ok-eq0 g c =
    omega (arith, begun_below c.args.last c.as_slice.result.now, c.in-Ok-eq0.ensures.whole.1, c.requires.last, c.in-Ok-eq0.field-0-is)

pub returns-in-Ok : goal.returns-in-Ok
returns-in-Ok g c =
    let leads = g.F.ListedFolder.leads c.args.folder.now in
    let there = c.as_slice.result.now in
    let some : 1 ≤ c.in-Ok.last = grind (arith, nat_tests, c.in-Ok.last-test) in
    let are : AreThere leads c.args.named.now there =
    subst (λ (l : List ℕ). AreThere leads c.args.named.now l) (sym c.as_slice.ensures.value) c.in_ok-there.ensures in
    whole_row leads c.args.sheet c.args.named.now there c.args.last c.in-Ok.last c.requires.all_named c.requires.last are
    c.in-Ok.ensures.whole.0 c.in-Ok.ensures.whole.1 some

pub returns : goal.returns
returns g c =
    let leads = g.F.ListedFolder.leads c.args.folder.now in
    let there = c.as_slice.result.now in
    let volumes = c.in_ok-missing_in-in-Err.field-0 in
    let are : AreThere leads c.args.named.now there =
    subst (λ (l : List ℕ). AreThere leads c.args.named.now l) (sym c.as_slice.ensures.value) c.in_ok-there.ensures in
    inr (lacking_files leads c.args.sheet c.args.named.now there volumes.items c.args.last c.requires.all_named c.requires.last are
    (c.in-Err.ensures.gaps volumes c.in_ok-missing_in-in-Err.ensures) (c.in-Err.ensures.some volumes c.in_ok-missing_in-in-Err.ensures))
