use Rattle.std.proofs.Common.{◌∙◌, ◌++◌, ap}
use Rattle.cli_page.specs.Heads.{before_policy, after_policy, head_start, policy_for, style_sum}
use Rattle.cli_page.specs.Pages.{text_piece}
use Rattle.cli_page.proofs.PushLemmas.{pushed_3}
use Rattle.cli_page.proofs.head.open_head.Goals as goal

pub returns : goal.returns
unfolding head_start
returns c =
    let policy = c.as_str.ensures.value ∙ c.in_ok-policy.ensures in
    pushed_3 c.args.page.now c.markup.new.self c.text.new.self c.markup-2.new.self before_policy (text_piece (policy_for style_sum)) after_policy
    c.in_ok-markup.ensures (c.in_ok-text.ensures ∙ ap (λ t. c.markup.new.self ++ text_piece t) policy) c.in_ok-markup-2.ensures
