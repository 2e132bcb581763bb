use Rattle.std.proofs.Common.{◌∙◌, sym, ap, map-id, refl, rules, chars}
use Rattle.std.proofs.lemmas.Iterator.{YieldsList-from_chars}
use Rattle.std.proofs.lemmas.Iterator.Consumers.{YieldsList-so_far, YieldsList-turn, YieldsList-end}
use Rattle.std.specs.Str.{encode_utf8_all}
use Rattle.cli_texts.proofs.CutLemmas.{split_at, front_more, front_ends, front_all, pushed_next}
use Rattle.cli_texts.proofs.headers.front_of.Goals as goal

pub loop-c-init : goal.loop-c-init
loop-c-init c = record { text = search rules; cut = λ rest. refl }

pub loop-c-preserved : goal.loop-c-preserved
loop-c-preserved c = record {
  text = pushed_next _ _ c.loop-c.yielded c.in-Some.c c.loop-c.invariant.text c.in_ok-push.ensures.bytes;
  cut = front_more c.args.most c.loop-c.left _ c.columns_of.result c.in-Some.c c.loop-c.yielded c.columns_of.ensures c.in-Some-checked_sub.ensures.0
      c.in-Some-checked_sub.ensures.1 c.loop-c.invariant.cut;
}

pub returns-in-None-checked_sub : goal.returns-in-None-checked_sub
returns-in-None-checked_sub c =
    let road = YieldsList-from_chars c.args.text.now c.utf8.text cc in
    let so_far = sym (map-id c.loop-c.yielded) ∙ YieldsList-so_far road c.loop-c.yielded _ c.loop-c.yielded_by in
    let turn = YieldsList-turn road c.loop-c.yielded _ c.loop-c.yielded_by _ _ c.in-Some.c c.in-Some.is c.next.ensures.steps in
    c.loop-c.invariant.text
    ∙ ap encode_utf8_all (front_ends (chars c.args.text.now) c.loop-c.yielded c.args.most c.loop-c.left c.columns_of.result c.in-Some.c
    (split_at (chars c.args.text.now) c.loop-c.yielded c.in-Some.c so_far turn.0 turn.1) c.columns_of.ensures c.in-None-checked_sub.ensures
    c.loop-c.invariant.cut)

pub returns : goal.returns
returns c =
    let end = YieldsList-end (YieldsList-from_chars c.args.text.now c.utf8.text cc) c.loop-c.yielded _ c.loop-c.yielded_by
    _ _ c.in-None.is c.next.ensures.steps in
    c.loop-c.invariant.text
    ∙ ap encode_utf8_all (front_all (chars c.args.text.now) c.loop-c.yielded c.args.most c.loop-c.left (sym (map-id c.loop-c.yielded) ∙ end.0)
    c.loop-c.invariant.cut)
