use Rattle.std.proofs.Common.{rules, ◌≡◌, ◌∷◌, [], ◌++◌, Some, None, option_map, string_bytes, sym, ap, ◌∙◌, subst, refl, lit<}
use mathlib.Core.Path.{fun_ext}
use Rattle.std.proofs.lemmas.List.{append-nil}
use Rattle.std.specs.List.{slice_get}
use Rattle.rule_folders.specs.Reading.{Entry, Makes, answer_of, Read, number_at, octets}
use Rattle.rule_folders.specs.Includes.{include_of}
use Rattle.rule_folders.specs.Reached.{HasInclude, IsWalk, read_of}
use Rattle.rule_folders.proofs.Numbers.{found_at, at_push}
use Rattle.rule_folders.proofs.Walking.{goes_none, walk_more, walk_missing}
use Rattle.rule_folders.proofs.reached.Reached.number_of.Goals as goal

pub returns-in-Some : goal.returns-in-Some
returns-in-Some g c = (
  [],
  found_at (string_bytes c.args.path) c.args.self.now c.in-Some.number
      (sym (c.in-Some.ensures ∙ ap (λ q. number_at q c.args.self.now) c.as_str.ensures.value)),
  goes_none g.S.Scripts.made g.S.Scripts.place c.args.scripts.now c.args.self.now
      (λ (s : Entry). HasInclude (octets s) (include_of c.args.included.now)),
)

pub returns-in_default-text : goal.returns-in_default-text
returns-in_default-text g c =
    let made = g.S.Scripts.made in
    let place = g.S.Scripts.place in
    let path = string_bytes c.args.path in
    let is_global = c.args.included.now.is_global in
    let r : Read = record { path = path; is_global = is_global; answer = None } in
    let none : answer_of c.in_ok-found.found ≡ None = search rules in
    let calls : Makes made c.args.scripts.now c.read.new.self (r ∷ []) =
    subst (λ q. Makes made c.args.scripts.now c.read.new.self ((record { path = q; is_global = is_global; answer = None }) ∷ []))
    c.as_str-2.ensures.value
    (subst (λ o. Makes made c.args.scripts.now c.read.new.self
    ((record { path = c.as_str-2.result.now; is_global = is_global; answer = o }) ∷ [])) none c.in_ok-found.ensures.made) in (
      r ∷ [],
      (0, lit< tt, refl),
      record {
        calls = calls;
        places = fun_ext (λ name. fun_ext (λ b. c.in_ok-found.ensures.kept name b));
        added = [];
        more = sym (append-nil c.args.self.now);
        walk = λ p s e h at w. walk_missing (place c.args.scripts.now) p e c.args.self.now path s (include_of c.args.included.now) w at h c.requires;
      },
    )

pub returns-in-Ok : goal.returns-in-Ok
returns-in-Ok g c =
    let made = g.S.Scripts.made in
    let place = g.S.Scripts.place in
    let path = string_bytes c.args.path in
    let i = c.args.included.now in
    let es = c.args.self.now in
    let t : Entry = record { path = path; name = i.name.items; is_global = i.is_global; text = option_map (λ v. v.items) c.in-Some-text.text } in
    let some : answer_of c.in_ok-found.found ≡ Some t.text = search rules in
    let calls : Makes made c.args.scripts.now c.read.new.self (read_of t ∷ []) =
    subst (λ q. Makes made c.args.scripts.now c.read.new.self ((record { path = q; is_global = i.is_global; answer = Some t.text }) ∷ []))
    c.as_str-2.ensures.value
    (subst (λ o. Makes made c.args.scripts.now c.read.new.self
    ((record { path = c.as_str-2.result.now; is_global = i.is_global; answer = o }) ∷ [])) some c.in_ok-found.ensures.made) in
    let new : number_at path es ≡ None = search rules in (
      read_of t ∷ [],
      (
        t,
        subst (λ l. slice_get l c.in-Ok.number ≡ Some t) (sym c.in-Ok.ensures.added)
            (subst (λ n. slice_get (es ++ t ∷ []) n ≡ Some t) (sym c.in-Ok.ensures.number) (at_push es t)),
        refl,
      ),
      record {
        calls = calls;
        places = fun_ext (λ name. fun_ext (λ b. c.in_ok-found.ensures.kept name b));
        added = t ∷ [];
        more = c.in-Ok.ensures.added;
        walk = λ p s e h at w.
            subst (IsWalk (place c.args.scripts.now) p (e ++ read_of t ∷ [])) (sym c.in-Ok.ensures.added)
            (walk_more (place c.args.scripts.now) p e es t s w new at (include_of i, h, refl, refl, c.requires));
      },
    )
