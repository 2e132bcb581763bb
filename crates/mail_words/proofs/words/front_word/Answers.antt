use Rattle.std.proofs.Common.{sym, ◌∙◌}
use Rattle.mail_words.specs.Unfolding.{without_line_ends}
use Rattle.mail_words.proofs.FrontLemmas.{Opened, Lettered, front-not_open, front-not_encoding, front-not_closed, front-no_charset}
use Rattle.mail_words.proofs.FrontLemmas.{front-no_text, front-is}
use Rattle.mail_words.proofs.words.front_word.Goals.{After-split_part, After-split_part-2}
use Rattle.mail_words.proofs.words.front_word.Goals.{then-is_empty-via-then-is_empty, then-is_empty-via-else-is_empty+then-is_empty-2}
use Rattle.mail_words.proofs.words.front_word.Goals as goal

opened : (c : After-split_part) → Opened (without_line_ends c.args.text.now) (without_line_ends c.in_ok-opened.opened.now)
    (without_line_ends c.split_part.result.0.now) (without_line_ends c.split_part.result.1.now)
opened c = record {
  begins = c.in_ok-opened.ensures;
  charset_is = c.split_part.ensures.front;
  following = c.split_part.ensures.following;
}

lettered : (c : After-split_part-2) → Lettered (without_line_ends c.args.text.now) (without_line_ends c.in_ok-opened.opened.now)
    (without_line_ends c.split_part.result.0.now) (without_line_ends c.split_part.result.1.now)
    (without_line_ends c.in_ok-encoding.rest.now) (without_line_ends c.split_part-2.result.0.now)
    (without_line_ends c.split_part-2.result.1.now) c.in_ok-encoding.encoding
lettered c = record {
  front = opened (goal.at.After-split_part-2 c).After-split_part;
  named = c.in_ok-encoding.ensures.0;
  encoding = c.in_ok-encoding.ensures.1;
  text_is = c.split_part-2.ensures.front;
  following = c.split_part-2.ensures.following;
}

pub returns-in_err-opened : goal.returns-in_err-opened
returns-in_err-opened c = c.from_residual.ensures ∙ front-not_open (without_line_ends c.args.text.now) c.in_err-opened.ensures

pub returns-in_err-encoding : goal.returns-in_err-encoding
returns-in_err-encoding c =
    c.from_residual-in_err-encoding.ensures
    ∙ front-not_encoding (opened (goal.at.returns-in_err-encoding c).After-split_part) c.in_err-encoding.ensures

pub returns-in_err-following : goal.returns-in_err-following
returns-in_err-following c =
    c.from_residual-in_err-following.ensures
    ∙ front-not_closed (lettered (goal.at.returns-in_err-following c).After-split_part-2) c.in_err-following.ensures

pub returns-then-is_empty : goal.returns-then-is_empty
returns-then-is_empty c =
    let all = lettered (goal.at.returns-then-is_empty c).After-split_part-2 in
    elim c.then-is_empty.branch [
      | then-is_empty-via-then-is_empty w ↦ front-no_charset all (sym c.is_empty.ensures ∙ w.if-is_empty.true)
      | then-is_empty-via-else-is_empty+then-is_empty-2 w ↦
          front-no_text all (sym w.is_empty-else-is_empty.ensures ∙ w.if-is_empty-2.true)
    ]

pub returns : goal.returns
returns c =
    front-is (lettered (goal.at.returns c).After-split_part-2) c.in_ok-following.ensures
    (sym c.is_empty.ensures ∙ c.if-is_empty.false) (sym c.is_empty-else-is_empty.ensures ∙ c.if-is_empty-2.false)
