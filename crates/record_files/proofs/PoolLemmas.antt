-- What a pool says of its two files.
use Rattle.std.proofs.Common.{◌≡◌, ℕ, ◌+◌, zero, suc, List, length, IsTrue, refl, arith, length-set}
use Rattle.sqlite_disk.specs.declared.Disk.{Ghosts}
use Rattle.sqlite_wal.specs.Recovery.{IsCommitted}
use Rattle.sqlite_wal.specs.Index.{gate_of, key_of}
use Rattle.sqlite_wal.specs.Log.{durable}
use Rattle.sqlite_wal.proofs.LogLemmas.{sound_of}
use Rattle.sqlite_pool.specs.declared.pool.Pool.{Pool}
use Rattle.sqlite_pool.specs.Pool.{state, files, log_frames}
use Rattle.sqlite_pool.proofs.PoolLemmas.{below_open}
use Rattle.record_files.specs.Copying.{HasNoFrame}

-- its count of faults is theirs
pub faults_is : {D : Type 0} {g : Ghosts D} (it : Pool D g) → (state it).faults ≡ g.faults (files it).0 + g.faults (files it).1
unfolding state files
faults_is it = refl

none_committed : (size : ℕ) (log : List ℕ) (frames : ℕ) → HasNoFrame log → IsCommitted size log frames → frames ≡ 0
none_committed size log zero short is = refl
none_committed size log (suc more) short is = absurd (omega (arith, short, (is.valid 0 (omega arith)).within))

-- a log that is too short for a frame has none
pub has_none : {D : Type 0} {g : Ghosts D} (it : Pool D g) → IsTrue (state it).is_open → HasNoFrame (g.seen (files it).0) → log_frames it ≡ 0
unfolding state files log_frames
has_none {D} {g} it is_open short =
    let below = it.backing.pager.log in
    let hidden = (sound_of below (below_open _ _ is_open)).ready.hidden in
    none_committed below.page_size _ (length below.index)
    (omega (arith, short, length-set (g.seen below.log) (gate_of (durable below)) (key_of (durable below)))) hidden.committed
