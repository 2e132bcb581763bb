use Rattle.session_protocol.proofs.Refinement.{run_leads, run_refines, run_sure, served_refines, answered_refines}
use Rattle.session_protocol.proofs.CrashLemmas.{run_leaves}
use Rattle.session_protocol.proofs.Refinement.{cut_in_answer_refines, cut_in_ending_refines}
use Rattle.session_protocol.proofs.laws.sessions_refine_states.Goals as goal

pub returns : goal.returns
returns g c = record {
  sure = run_sure g.R.Registry.keeper;
  leads = run_leads g.R.Registry.keeper;
  done = run_refines g.R.Registry.keeper;
  served = served_refines g.R.Registry.keeper;
  answered = answered_refines g.R.Registry.keeper;
  cut_in_answer = cut_in_answer_refines g.R.Registry.keeper;
  cut_in_ending = cut_in_ending_refines g.R.Registry.keeper;
  crash = run_leaves g.R.Registry.keeper;
}
