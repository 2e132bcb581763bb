use Rattle.cli_tasks.proofs.volume_twice.twice_to.Goals as goal

pub returns : goal.returns
returns g c = record {
  none = c.none-none.result;
  is_none = c.none-none.ensures;
  gathered = c.in_ok-gathered.gathered;
  gathers = c.in_ok-gathered.ensures;
  begun = c.in_ok-begun.begun;
  groups = c.in_ok-begun.ensures;
  whole = c.in_ok-whole.whole;
  rows = c.in_ok-whole.ensures;
  writes = c.in_ok-written.ensures;
}
