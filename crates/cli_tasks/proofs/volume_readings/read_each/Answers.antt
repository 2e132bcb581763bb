use Rattle.std.proofs.Common.{◌≡◌, ◌+◌, ℕ, arith, refl, subst, suc}
use Rattle.cli_tasks.specs.Readings.{ReadsEach}
use Rattle.cli_tasks.proofs.volume_readings.read_each.Goals as goal

pub loop-below-init : goal.loop-below-init
loop-below-init g c = λ none. refl

pub loop-below-preserved : goal.loop-below-preserved
loop-below-preserved g c = λ none.
    let below = c.loop-below.below in
    let more : suc below ≡ below + 1 = omega arith in
    let read = c.in_ok-reading.ensures none in
    subst (λ (n : ℕ). ReadsEach g.A.Kept.Store (g.A.Archives.is_at c.args.archives.now) c.args.volumes.folder.now g.R.VolumeReader.takes
    c.args.questions.now c.args.typed.now n c.args.reader c.in_ok-reading.reading.reader) more
    (c.loop-below.reading.reader, c.loop-below.invariant read.0, read.1)

pub returns : goal.returns
returns g c = λ none.
    let all : c.loop-below.below ≡ c.args.volumes.last = omega arith in
    subst (λ (n : ℕ). ReadsEach g.A.Kept.Store (g.A.Archives.is_at c.args.archives.now) c.args.volumes.folder.now g.R.VolumeReader.takes
    c.args.questions.now c.args.typed.now n c.args.reader c.loop-below.reading.reader) all (c.loop-below.invariant none)
