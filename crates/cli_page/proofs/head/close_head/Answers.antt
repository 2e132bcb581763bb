use Rattle.std.proofs.Common.{codes}
use Rattle.cli_page.proofs.PushLemmas.{pushed_3}
use Rattle.cli_page.specs.Heads.{head_end}
use Rattle.cli_page.specs.declared.style.TheConstants.{STYLE}
use Rattle.cli_page.proofs.head.close_head.Goals as goal

pub returns : goal.returns
unfolding head_end
returns c =
    pushed_3 c.args.page.now c.markup.new.self c.markup-2.new.self c.markup-3.new.self (codes "</title>\n<style>") STYLE.now
    (codes "</style>\n</head>\n") c.in_ok-markup.ensures c.in_ok-markup-2.ensures c.in_ok-markup-3.ensures
