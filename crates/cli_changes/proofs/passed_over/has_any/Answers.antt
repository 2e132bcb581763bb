use Rattle.std.proofs.Common.{sym, ℕ, Vec}
use Rattle.std.specs.declared.alloc.Global.{Global}
use Rattle.record_choice.proofs.EntryLaws.{any_counted}
use Rattle.cli_changes.proofs.passed_over.has_any.Goals as goal

pub returns : goal.returns
returns c = let e = any_counted (λ (n : Vec ℕ Global). n.items) c.args.holds.now in sym e
