use Rattle.filing_desk.proofs.desk.Desk.enter.Goals as goal

pub returns-clause-entered : goal.returns-clause-entered
returns-clause-entered g c = λ there. record {
  program = c.in_ok-program.program.value;
  paths = c.in_ok-paths.paths;
  open_paths = c.in_ok-paths.ensures.open there;
  pins = c.in_ok-program.ensures.pinned;
  well = c.in_ok-program.ensures.well;
  holds = c.in_ok-flight.ensures;
}
