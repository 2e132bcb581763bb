use Rattle.std.proofs.Common.{◌≡◌, ℕ, List, [], ◌∷◌, Vec, sym, ◌∙◌, subst, arith}
use Rattle.std.specs.declared.alloc.Global.{Global}
use Rattle.std.proofs.lemmas.Map.Iter.{rest_more, rest_all}
use Rattle.std.proofs.lemmas.List.{length-map}
use Rattle.filing_gen.specs.Pools.{texts_in, octets_of}
use Rattle.filing_gen.proofs.Pools.{IsPlaced, placed_first, placed_last, text_inside, text_placed, once_in_all, all_short}
use Rattle.filing_gen.proofs.text_pool.by_place.Goals as goal

pub loop-text-init : goal.loop-text-init
loop-text-init c =
    let es = c.args.places.entries in
    let long = length-map c.in_ok-texts.texts.items (λ (t : Vec ℕ Global). t.items) ∙ c.in_ok-texts.ensures
    ∙ c.len.ensures.len ∙ sym (length-map es (λ (e : Vec ℕ Global × ℕ). (e.0.items, e.1))) in
    subst (λ (l : List (Vec ℕ Global × ℕ)). IsPlaced (texts_in es) (texts_in l) (octets_of c.in_ok-texts.texts.items))
    (sym c.into_iter-text-iterator.ensures.into_iter_gives.0)
    (placed_first (texts_in es) (octets_of c.in_ok-texts.texts.items) long)

pub index_mut-requires : goal.index_mut-requires
index_mut-requires c =
    let es = c.args.places.entries in
    let next : c.loop-text.text-iterator ≡ (c.in-Some.text, c.in-Some.place) ∷ c.next.new.self =
    rest_more (λ (p : Vec ℕ Global × ℕ). p) c.loop-text.text-iterator c.next.new.self c.next.result (
      c.in-Some.text,
      c.in-Some.place,
    ) c.in-Some.is c.next.ensures.steps in
    let v = c.loop-text.texts in
    let inside =
    text_inside es c.next.new.self c.loop-text.texts.items c.in-Some.text c.in-Some.place c.requires.numbered
    (subst (λ (l : List (Vec ℕ Global × ℕ)).
    IsPlaced (texts_in es) (texts_in l) (octets_of c.loop-text.texts.items)) next c.loop-text.invariant) in
    omega (arith, inside, v.ok.0)

pub loop-text-preserved : goal.loop-text-preserved
loop-text-preserved c =
    let es = c.args.places.entries in
    let next : c.loop-text.text-iterator ≡ (c.in-Some.text, c.in-Some.place) ∷ c.next.new.self =
    rest_more (λ (p : Vec ℕ Global × ℕ). p) c.loop-text.text-iterator c.next.new.self c.next.result (
      c.in-Some.text,
      c.in-Some.place,
    ) c.in-Some.is c.next.ensures.steps in
    text_placed es c.next.new.self c.loop-text.texts.items c.in-Some.text c.in-Some.place c.requires.numbered
    (subst (λ (l : List (Vec ℕ Global × ℕ)).
    IsPlaced (texts_in es) (texts_in l) (octets_of c.loop-text.texts.items)) next c.loop-text.invariant)

pub returns : goal.returns
returns c =
    let es = c.args.places.entries in
    let none : c.loop-text.text-iterator ≡ [] =
    rest_all (λ (p : Vec ℕ Global × ℕ). p) c.loop-text.text-iterator c.next.new.self c.next.result c.in-None.is
    c.next.ensures.steps in
    let done = subst (λ (l : List (Vec ℕ Global × ℕ)).
    IsPlaced (texts_in es) (texts_in l) (octets_of c.loop-text.texts.items)) none c.loop-text.invariant in
    let octets = octets_of c.loop-text.texts.items in
    record {
      places = λ t b at. placed_last (texts_in es) octets done t b at;
      once = once_in_all (texts_in es) octets c.requires.numbered done;
      count = sym (length-map c.loop-text.texts.items (λ (t : Vec ℕ Global). t.items)) ∙ done.long;
      short = all_short (texts_in es) octets c.requires done;
    }
