use Rattle.command_lines.proofs.archives.list_asked.Goals as goal

pub returns-then-is_empty : goal.returns-then-is_empty
returns-then-is_empty c = record {
  twice = (cc);
  unchosen = (c.in_ok-choice.choice, c.in_ok-choice.ensures, (cc));
  listing = c.in_ok-listing.ensures;
}
