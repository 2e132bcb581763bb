use Rattle.std.proofs.Common.{◌≡◌, sym, ◌∙◌, rules, false, string_bytes}
use Rattle.std.proofs.lemmas.Map.Iter.{rest_more, rest_all}
use Rattle.std.specs.Map.Iter.{deref}
use Rattle.std.specs.BTreeMap.{keys}
use Rattle.class_plan.specs.Document.{is_file_key}
use Rattle.class_plan.proofs.Steps.{has_only-keys, known-less, known-all}
use Rattle.class_plan.proofs.document.has_only_file_keys.Goals as goal

pub returns-then-not-fits_file : goal.returns-then-not-fits_file
returns-then-not-fits_file c =
    let rest = rest_more deref c.loop-key.key-iterator c.next.new.self c.next.result c.in-Some.key c.in-Some.is c.next.ensures.steps in
    let fits : is_file_key (string_bytes c.in-Some.key.now) ≡ false = search rules in
    sym (known-less is_file_key _ (keys c.args.table.now) _ _ rest c.loop-key.invariant.known fits)
    ∙ has_only-keys is_file_key c.args.table.now.entries

pub returns : goal.returns
returns c =
    let rest = rest_all deref c.loop-key.key-iterator c.next.new.self c.next.result c.in-None.is c.next.ensures.steps in
    sym (known-all is_file_key (keys c.args.table.now) _ rest c.loop-key.invariant.known) ∙ has_only-keys is_file_key c.args.table.now.entries
