use Rattle.std.proofs.Common.{codes}
use Rattle.cli_page.specs.Indexes.{file_link}
use Rattle.cli_page.specs.Names.{file_name}
use Rattle.cli_page.proofs.PushLemmas.{pushed_5}
use Rattle.cli_page.proofs.index.Letter.link.Goals as goal

pub returns : goal.returns
unfolding file_link
returns c =
    let name = file_name c.args.volume c.args.self.now.file in
    pushed_5 c.args.page.now c.markup.new.self c.file_name.new.self c.markup-2.new.self c.file_name-2.new.self c.markup-3.new.self
    (codes "</td><td class=\"d\"><a href=\"") name (codes "\">") name (codes "</a></td></tr>\n")
    c.in_ok-markup.ensures c.in_ok-file_name.ensures c.in_ok-markup-2.ensures c.in_ok-file_name-2.ensures c.in_ok-markup-3.ensures
