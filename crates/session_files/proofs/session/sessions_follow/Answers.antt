use Rattle.record_files.proofs.OpeningLemmas.{finds_kept}
use Rattle.session_files.proofs.session.sessions_follow.Goals as goal

pub returns : goal.returns
returns c = finds_kept
