use Rattle.std.proofs.Common.{rules}
use Rattle.class_plan.specs.Document.{contents_of}
use Rattle.class_plan.proofs.document.lists_from.Goals as goal

pub returns-then-not-has_only_file_keys : goal.returns-then-not-has_only_file_keys
unfolding contents_of
returns-then-not-has_only_file_keys c = search rules

pub returns-in_default : goal.returns-in_default
unfolding contents_of
returns-in_default c = search rules

pub returns-in_default-2 : goal.returns-in_default-2
unfolding contents_of
returns-in_default-2 c = search rules

pub returns : goal.returns
unfolding contents_of
returns c = rw (c.schedule_of_text.ensures.schedule, c.as_bytes.ensures.value) (search rules)
