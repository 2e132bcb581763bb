use Rattle.std.proofs.Common.{◌≡◌, ◌∙◌, List, rules, string_bytes, subst, sym, true}
use Rattle.std.proofs.lemmas.Map.Iter.{rest_all, rest_more}
use Rattle.std.specs.Map.Iter.{deref_pair}
use Rattle.cli_console.specs.Sinks.{Writes}
use Rattle.cli_history.specs.AllCases.{Entry, IsCaseText, kept_view}
use Rattle.cli_history.proofs.AllCaseLemmas.{AreBegun, all_written, none_written, one_written}
use Rattle.cli_history.proofs.all_cases.AllCases.write_to.Goals as goal

pub loop-name-init : goal.loop-name-init
loop-name-init g c =
    let written = g.K.Sink.written in
    let gives : c.into_iter-name-iterator.result ≡ c.args.self.now.cases.entries = c.into_iter-name-iterator.ensures.into_iter_gives.0 in
    record {
      can = search rules;
      finite = search rules;
      so_far = subst (λ (left : List Entry). AreBegun written c.args.is_json c.args.self.now.cases.entries left c.args.sink c.write.new.self true)
          (sym gives) (none_written written c.args.is_json c.args.self.now.cases.entries c.args.sink c.write.new.self
          (subst (λ t. Writes written c.args.sink c.write.new.self t) (c.as_bytes.ensures.value ∙ c.text_ahead.ensures) c.in_ok-write.ensures));
    }

pub loop-name-preserved : goal.loop-name-preserved
loop-name-preserved g c =
    let written = g.K.Sink.written in
    let is_json = c.args.is_json in
    let entries = c.args.self.now.cases.entries in
    let was = c.loop-name.invariant in
    let entry : Entry = (c.in-Some.name.now, c.in-Some.kept.now) in
    let text = string_bytes c.in_ok-text.text in
    let rest = rest_more deref_pair c.loop-name.name-iterator c.next.new.self c.next.result (
      c.in-Some.name,
      c.in-Some.kept,
    ) c.in-Some.is c.next.ensures.steps in
    record {
      can = search rules;
      finite = search rules;
      so_far = one_written written is_json entries c.args.sink entry c.next.new.self c.loop-name.sink c.write-in-loop-name.new.self
          c.loop-name.is_first text
          (subst (λ (left : List Entry). AreBegun written is_json entries left c.args.sink c.loop-name.sink c.loop-name.is_first) rest
          was.so_far)
          (subst (λ name. IsCaseText is_json c.loop-name.is_first name (kept_view c.in-Some.kept.now) text) c.as_slice.ensures.value
          c.in_ok-text.ensures)
          (subst (λ t. Writes written c.loop-name.sink c.write-in-loop-name.new.self t) c.as_bytes-in-loop-name.ensures.value
          c.in_ok-write-2.ensures);
    }

pub returns : goal.returns
returns g c =
    let written = g.K.Sink.written in
    let is_json = c.args.is_json in
    let entries = c.args.self.now.cases.entries in
    let rest = rest_all deref_pair c.loop-name.name-iterator c.next.new.self c.next.result c.in-None.is c.next.ensures.steps in
    all_written written is_json entries c.args.sink c.loop-name.sink c.write-2.new.self c.loop-name.is_first
    (subst (λ (left : List Entry). AreBegun written is_json entries left c.args.sink c.loop-name.sink c.loop-name.is_first) rest
    c.loop-name.invariant.so_far)
    (subst (λ t. Writes written c.loop-name.sink c.write-2.new.self t) (c.as_bytes-2.ensures.value ∙ c.text_behind.ensures)
    c.in_ok-write-3.ensures)
