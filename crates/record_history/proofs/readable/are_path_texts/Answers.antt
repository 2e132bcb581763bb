use Rattle.std.proofs.Common.{rules}
use Rattle.std.specs.Prelude.{◌↔◌, All, IsTrue}
use Rattle.record_history.proofs.ReadableLemmas.{IsPath, paths_readable}
use Rattle.record_history.proofs.readable.are_path_texts.Goals as goal

pub returns : goal.returns
returns c =
    let each : IsTrue c.all.result ↔ All IsPath c.args.paths.now = search rules in
    paths_readable c.all.result c.args.paths.now each
