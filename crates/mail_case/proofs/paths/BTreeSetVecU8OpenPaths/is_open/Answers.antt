use Rattle.std.proofs.Common.{◌∙◌}
use Rattle.mail_case.proofs.PathLemmas.{keys_have}
use Rattle.mail_case.proofs.paths.BTreeSetVecU8OpenPaths.is_open.Goals as goal

pub returns : goal.returns
returns c = c.contains.ensures ∙ keys_have c.args.path.now c.args.self.now.keys
