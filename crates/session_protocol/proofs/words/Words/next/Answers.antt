use Rattle.std.proofs.Common.{◌≡◌, ◌+◌, ◌-◌, ◌∷◌, Some, ◌∙◌, ap, sym, rules, tests, arith, take, drop, length}
use Rattle.session_words.specs.Words.{words_of}
use Rattle.std.specs.Prelude.{◌==◌}
use Rattle.std.proofs.lemmas.Grind.{common_steps}
use Rattle.std.proofs.lemmas.Iterator.{YieldsList-from_slice}
use Rattle.std.proofs.lemmas.Iterator.Search.{position_from_yields_List}
use Rattle.session_protocol.proofs.FirstWord.{space_at, last_word, word_more}
use Rattle.session_protocol.specs.WordsLeft.{words_after, words_left}
use Rattle.session_protocol.proofs.words.Words.next.Goals.{After-position}
use Rattle.session_protocol.proofs.words.Words.next.Goals as goal

found : (c : After-position) → c.position.result ≡ space_at c.in_ok-text.text.now
found c =
    position_from_yields_List (λ o. o == 32) _ _ c.position.result c.position.ensures.ran
    (YieldsList-from_slice c.in_ok-text.text.now cc) (λ x b q k. search (rules, tests))

left : (c : After-position) → words_left c.args.self.now ≡ words_of c.in_ok-text.text.now
left c = let rest : c.args.self.now.rest ≡ Some c.in_ok-text.text = search rules in ap words_after rest

pub returns-in-None-clause-some : goal.returns-in-None-clause-some
returns-in-None-clause-some c =
    let here = (goal.at.returns-in-None-clause-some c).After-position in
    left here ∙ last_word _ (sym c.in-None.is ∙ found here)

pub returns-in-Some-clause-some : goal.returns-in-Some-clause-some
returns-in-Some-clause-some c =
    let here = (goal.at.returns-in-Some-clause-some c).After-position in
    let text = c.in_ok-text.text.now in
    let more : words_of text ≡ take c.in-Some.at text ∷ words_of (drop (c.in-Some.at + 1) text) = word_more _ _ (sym c.in-Some.is ∙ found here) in
    let rest : drop (c.in-Some.at + 1) text ≡ take (length text - (c.in-Some.at + 1)) (drop (c.in-Some.at + 1) text) = grind (arith, common_steps) in
    left here ∙ more ∙ ap (λ r. take c.in-Some.at text ∷ words_of r) rest
