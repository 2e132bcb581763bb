use Rattle.std.proofs.Common.{refl}
use Rattle.record_archive.specs.Archive.{Archive}
use Rattle.cli_changes.proofs.moments.Timing.look.Goals as goal

pub returns-in_ok-last-in-Unnamed-clause-last : goal.returns-in_ok-last-in-Unnamed-clause-last
returns-in_ok-last-in-Unnamed-clause-last g c = λ clean (a : Archive) s.
    rw c.in-Unnamed.is (c.in_ok-last-in-Unnamed.ensures.last clean a s)

pub returns-in-Now-clause-last : goal.returns-in-Now-clause-last
returns-in-Now-clause-last g c = λ clean (a : Archive) s. rw c.in-Now.is refl

pub returns-in-At-clause-last : goal.returns-in-At-clause-last
returns-in-At-clause-last g c = λ clean (a : Archive) s. rw c.in-At.is refl
