use Rattle.std.proofs.Common.{Vec, subst, sym, ℕ}
use Rattle.std.proofs.lemmas.Result.{IfOk-weaker}
use Rattle.std.specs.declared.alloc.Global.{Global}
use Rattle.sqlite.specs.Held.{Held}
use Rattle.cli_tasks.specs.Changes.{ListsHeld}
use Rattle.cli_tasks.proofs.volume_changes.ListHeldWork.work.Goals as goal

pub returns : goal.returns
returns g c =
    let lists = λ (after : Held g.row.S.Denot) (v : Vec ℕ Global). ListsHeld g.S.Store c.args.self.name.now c.args.archive after v.items in
    IfOk-weaker c.list_held-listed.result (lists c.list_held-listed.new.archive.conn) (lists c.into_connection.result)
    (λ v told. subst (λ (after : Held g.row.S.Denot). lists after v) (sym c.into_connection.ensures) told) c.list_held-listed.ensures.listed
