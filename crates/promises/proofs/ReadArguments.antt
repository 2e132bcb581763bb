-- The arguments of a form, as the meaning reads them.
use Rattle.promises.proofs.TagKinds.{AreOfKind, AreKinds, one_more, one_passed, each_once}
use Rattle.std.proofs.Common.{◌≡◌, ℕ, Bool, true, false, List, [], ◌∷◌, Option, Some, None, refl, sym, ap, subst, ◌∙◌, ◌⊎◌, inl, inr}
use Rattle.std.specs.Prelude.{◌||◌, codes, count_by, if◌then◌else◌}
use Rattle.std.specs.List.{list_any, list_all}
use Rattle.std.specs.Str.{bytes_eq, str_to_ascii_lowercase}
use Rattle.std.proofs.lemmas.Bool.{true≢false, cases_Bool, or_parts, or_left, or_right, and_from, not-false}
use Rattle.std.proofs.Math.Bool.{or-false}
use Rattle.sieve_check.proofs.Shaped.{lower_is}
use Rattle.sieve_syntax.specs.Tree.{InnerTests}
use Rattle.sieve_syntax.specs.declared.tree.StringList.{StringList}
use Rattle.sieve_syntax.specs.declared.tree.StringList.TheVariants as string_list
use Rattle.sieve_syntax.specs.declared.tree.Argument.{Argument}
use Rattle.sieve_syntax.specs.declared.tree.Argument.TheVariants as arguments
use Rattle.sieve_check.specs.declared.table.TagKind.{TagKind}
use Rattle.sieve_check.specs.declared.table.TagKind.TheVariants as kinds
use Rattle.sieve_check.specs.Tables.{TagWord, WordForm, comparator_table, size_form}
use Rattle.sieve_check.specs.Lookup.{same_name, same_text, tag_named}
use Rattle.sieve_check.specs.Pieces.{PieceWord, tagged, positional, string_first, comparator_pieces, tag_pieces, pieces, positional_arguments}
use Rattle.sieve_check.specs.Rules.{is_unknown_tag, tag_after, has_kind, same_kind, lacks_string, is_unknown_comparator}
use Rattle.sieve_check.specs.Shapes.{HasForm}
use Rattle.sieve_meaning.specs.Reading.{has_tag, string_lists}
use Rattle.sieve_meaning.specs.Words.{same_word}
use Rattle.promises.specs.ReadingLaw.{is_named, is_tag_of, numbers_in, comparators_in, is_comparator, HasArguments}

-- names that are equal in any case of their letters are equal to the same words
pub same_as : (a b c : List ℕ) → same_name a b ≡ true → same_word a c ≡ same_word b c
same_as a b c h = ap (λ (l : List ℕ). bytes_eq l (str_to_ascii_lowercase c)) (lower_is a b h)

as_word : (a b : List ℕ) → same_name a b ≡ true → same_word a b ≡ true
unfolding same_name
as_word a b h = h

any_same : (a b : List ℕ) (names : List (List ℕ)) → same_name a b ≡ true → list_any (same_word a) names ≡ list_any (same_word b) names
any_same a b names h = ap (λ (l : List ℕ). list_any (λ (c : List ℕ). bytes_eq l (str_to_ascii_lowercase c)) names) (lower_is a b h)

any_kind : (a b : List ℕ) (tags : List (List (List ℕ))) → same_name a b ≡ true
    → list_any (λ names. list_any (same_word a) names) tags ≡ list_any (λ names. list_any (same_word b) names) tags
any_kind a b tags h =
    ap (λ (l : List ℕ). list_any (λ (names : List (List ℕ)).
    list_any (λ (c : List ℕ). bytes_eq l (str_to_ascii_lowercase c)) names) tags) (lower_is a b h)

-- each tag of a table is read under its name, and the one that names a comparator is `:comparator`
abbrev pub AreRead : List (List (List ℕ)) → List TagWord → Type 0
AreRead names [] = Unit {0}
AreRead names (w ∷ ws) = (w.names_comparator ≡ same_word w.name (codes "comparator"))
    × (list_any (λ kind. list_any (same_word w.name) kind) names ≡ true) × AreRead names ws

-- the tag has the kind of the row, by the names of any kind
abbrev HasKindOf : List TagWord → List ℕ → TagWord → Type 0
HasKindOf tags t w = (kind : List (List ℕ)) (k : TagKind) → AreOfKind kind k tags → list_any (same_word t) kind ≡ same_kind k w.kind

-- a tag that is in the table
record IsRow (names : List (List (List ℕ))) (tags : List TagWord) (t : List ℕ) (w : TagWord) : Type 0 where
  comparator : w.names_comparator ≡ same_word t (codes "comparator")
  listed : list_any (λ kind. list_any (same_word t) kind) names ≡ true
  kind : HasKindOf tags t w

the_row : (v w : TagWord) → ◌≡◌ {A = Option TagWord} (Some v) (Some w) → v ≡ w
the_row v w e = cc

no_row : (w : TagWord) → ◌≡◌ {A = Option TagWord} None (Some w) → ⊥
no_row w e = cc

chosen : (b : Bool) (x y : Option TagWord) (z : Option TagWord) → (if b then x else y) ≡ z → ((b ≡ true) × (x ≡ z)) ⊎ ((b ≡ false) × (y ≡ z))
chosen true x y z e = inl (refl, e)
chosen false x y z e = inr (refl, e)

row_read : (names : List (List (List ℕ))) (tags : List TagWord) → AreRead names tags → (t : List ℕ) (w : TagWord)
    → tag_named t tags ≡ Some w → IsRow names tags t w
row_read names [] all t w e = absurd (no_row w e)
row_read names (v ∷ vs) all t w e = elim (chosen (same_name t v.name) (Some v) (tag_named t vs) (Some w) e) [
  | inl h ↦ subst (IsRow names (v ∷ vs) t) (the_row v w h.1) (record {
    comparator = all.0
        ∙ sym (same_as t v.name (codes "comparator") h.0);
    listed = any_kind t v.name names h.0
        ∙ all.1;
    kind = λ kind k each. any_same t v.name kind h.0 ∙ each.0;
  })
  | inr h ↦ let r = row_read names vs all.2 t w h.1 in record {
    comparator = r.comparator;
    listed = r.listed;
    kind =
        λ kind k each. r.kind kind k each.1;
  }
]

abbrev pub lists_of : List Argument → List StringList
lists_of [] = []
lists_of (arguments.Strings l ∷ more) = l ∷ lists_of more
lists_of (arguments.Number n ∷ more) = lists_of more
lists_of (arguments.Tag t ∷ more) = lists_of more

-- what is read of arguments is what the pieces of the form have
pub record IsPieced (names : List (List (List ℕ))) (tags : List TagWord) (args : List Argument) : Type 0 where
  pub lists : string_lists false args ≡ lists_of (positional_arguments (pieces tags args))
  pub numbers : numbers_in args ≡ numbers_in (positional_arguments (pieces tags args))
  pub listed : list_all (is_tag_of names) args ≡ true
  pub comparators : list_any is_unknown_comparator (pieces tags args) ≡ false → list_all is_comparator (comparators_in false args) ≡ true
  pub counted : (kind : List (List ℕ)) (k : TagKind) → AreOfKind kind k tags
      → count_by (is_named kind) args ≡ count_by (has_kind k) (pieces tags args)

known_comparator : (w : Option TagWord) (s : List ℕ) → is_unknown_comparator (tagged w (Some s)) ≡ false → is_comparator (string_list.One s) ≡ true
unfolding same_text
known_comparator w s h =
    ap (λ (b : Bool). bytes_eq s (codes "i;octet") || b) (sym (or-false (bytes_eq s (codes "i;ascii-casemap"))))
    ∙ not-false (list_any (λ t. same_text s t) comparator_table) h

-- a tag that names no comparator, and what follows it
alone_read : (names : List (List (List ℕ))) (tags : List TagWord) (t : List ℕ) (w : TagWord) (more : List Argument)
    → pieces tags (arguments.Tag t ∷ more) ≡ tagged (Some w) None ∷ pieces tags more
    → same_word t (codes "comparator") ≡ false → list_any (λ kind. list_any (same_word t) kind) names ≡ true
    → HasKindOf tags t w → IsPieced names tags more → IsPieced names tags (arguments.Tag t ∷ more)
unfolding string_lists
alone_read names tags t w more e plain listed kind_of r = record {
  lists = ap (λ (b : Bool). string_lists b more) plain ∙ r.lists ∙ sym (ap (λ (ps : List PieceWord). lists_of (positional_arguments ps)) e);
  numbers = r.numbers ∙ sym (ap (λ (ps : List PieceWord). numbers_in (positional_arguments ps)) e);
  listed = and_from (list_any (λ kind. list_any (same_word t) kind) names) (list_all (is_tag_of names) more) listed r.listed;
  counted = λ kind k each.
      one_more (is_named kind) (has_kind k) (arguments.Tag t) (tagged (Some w) None) more (pieces tags more)
      (kind_of kind k each) (r.counted kind k each) ∙ sym (ap (λ (ps : List PieceWord). count_by (has_kind k) ps) e);
  comparators = λ h. (let k : list_any is_unknown_comparator (tagged (Some w) None ∷ pieces tags more) ≡ false =
      sym (ap (λ (ps : List PieceWord). list_any is_unknown_comparator ps) e)
      ∙ h in ap (λ (b : Bool). list_all is_comparator (comparators_in b more)) plain ∙ r.comparators k);
}

-- `:comparator`, its string, and what follows
named_read : (names : List (List (List ℕ))) (tags : List TagWord) (t : List ℕ) (w : TagWord) (s : List ℕ)
    (more : List Argument) → pieces tags (arguments.Tag t ∷ arguments.Strings (string_list.One s) ∷ more)
    ≡ tagged (Some w) (Some s) ∷ pieces tags more → same_word t (codes "comparator") ≡ true
    → list_any (λ kind. list_any (same_word t) kind) names ≡ true → HasKindOf tags t w → IsPieced names tags more
    → IsPieced names tags (arguments.Tag t ∷ arguments.Strings (string_list.One s) ∷ more)
unfolding string_lists
named_read names tags t w s more e named listed kind_of r = record {
  lists = ap (λ (b : Bool). string_lists b (arguments.Strings (string_list.One s) ∷ more)) named ∙ r.lists
      ∙ sym (ap (λ (ps : List PieceWord). lists_of (positional_arguments ps)) e);
  numbers = r.numbers ∙ sym (ap (λ (ps : List PieceWord). numbers_in (positional_arguments ps)) e);
  listed = and_from (list_any (λ kind. list_any (same_word t) kind) names) (list_all (is_tag_of names) more) listed r.listed;
  counted = λ kind k each.
      one_more (is_named kind) (has_kind k) (arguments.Tag t) (tagged (Some w) (Some s))
      (arguments.Strings (string_list.One s) ∷ more) (pieces tags more) (kind_of kind k each)
      (one_passed (is_named kind) (arguments.Strings (string_list.One s)) more refl ∙ r.counted kind k each)
      ∙ sym (ap (λ (ps : List PieceWord). count_by (has_kind k) ps) e);
  comparators = λ h. (
      let k : list_any is_unknown_comparator (tagged (Some w) (Some s) ∷ pieces tags more) ≡ false =
      sym (ap (λ (ps : List PieceWord). list_any is_unknown_comparator ps) e) ∙ h in
      let p = or_parts (is_unknown_comparator (tagged (Some w) (Some s))) (list_any is_unknown_comparator (pieces tags more)) k in
      ap (λ (b : Bool). list_all is_comparator (comparators_in b (arguments.Strings (string_list.One s) ∷ more))) named
      ∙ and_from (is_comparator (string_list.One s)) (list_all is_comparator (comparators_in false more))
      (known_comparator (Some w) s p.0) (r.comparators p.1));
}

-- no string outside brackets follows a tag
no_string : (w : TagWord) (b : Bool) (more : List PieceWord) → comparator_pieces b w None more ≡ tagged (Some w) None ∷ more
no_string w true more = refl
no_string w false more = refl

-- what the checker finds for a tag without a string after it
tag_alone : (names : List (List (List ℕ))) (tags : List TagWord) → AreRead names tags
    → (t : List ℕ) (more : List Argument) → string_first more ≡ None
    → list_any is_unknown_tag (pieces tags (arguments.Tag t ∷ more)) ≡ false
    → list_any lacks_string (pieces tags (arguments.Tag t ∷ more)) ≡ false
    → (list_any is_unknown_tag (pieces tags more) ≡ false → list_any lacks_string (pieces tags more) ≡ false
    → IsPieced names tags more) → IsPieced names tags (arguments.Tag t ∷ more)
tag_alone names tags all t more none u l rest = go (tag_named t tags) refl
  where
    go : (o : Option TagWord) → tag_named t tags ≡ o → IsPieced names tags (arguments.Tag t ∷ more)
    go None e =
        let f : pieces tags (arguments.Tag t ∷ more) ≡ tagged None None ∷ pieces tags more =
        ap (λ (o : Option TagWord). tag_pieces o (string_first more) (pieces tags more)) e in
        absurd (true≢false (sym (ap (λ (ps : List PieceWord). list_any is_unknown_tag ps) f) ∙ u))
    go (Some w) e =
        let f : pieces tags (arguments.Tag t ∷ more) ≡ tagged (Some w) None ∷ pieces tags more =
        ap (λ (o : Option TagWord). tag_pieces o (string_first more) (pieces tags more)) e
        ∙ ap (λ (o : Option (List ℕ)). comparator_pieces w.names_comparator w o (pieces tags more)) none
        ∙ no_string w w.names_comparator (pieces tags more) in
        let row = row_read names tags all t w e in
        let v : (w.names_comparator || list_any lacks_string (pieces tags more)) ≡ false =
        sym (ap (λ (ps : List PieceWord). list_any lacks_string ps) f) ∙ l in
        let p = or_parts w.names_comparator (list_any lacks_string (pieces tags more)) v in
        alone_read names tags t w more f (sym row.comparator
        ∙ p.0) row.listed row.kind (rest (sym (ap (λ (ps : List PieceWord). list_any is_unknown_tag ps) f) ∙ u) p.1)

tag_string : (names : List (List (List ℕ))) (tags : List TagWord) → AreRead names tags
    → (t s : List ℕ) (more : List Argument)
    → list_any is_unknown_tag (pieces tags (arguments.Tag t ∷ arguments.Strings (string_list.One s) ∷ more)) ≡ false
    → list_any lacks_string (pieces tags (arguments.Tag t ∷ arguments.Strings (string_list.One s) ∷ more)) ≡ false
    → (list_any is_unknown_tag (pieces tags more) ≡ false → list_any lacks_string (pieces tags more) ≡ false
    → IsPieced names tags more)
    → (IsPieced names tags more → IsPieced names tags (arguments.Strings (string_list.One s) ∷ more))
    → IsPieced names tags (arguments.Tag t ∷ arguments.Strings (string_list.One s) ∷ more)
tag_string names tags all t s more u l rest with_string = go (tag_named t tags) refl
  where
    after : List PieceWord
    after = pieces tags more

    whole : List PieceWord
    whole = pieces tags (arguments.Tag t ∷ arguments.Strings (string_list.One s) ∷ more)

    given : (w : TagWord) (b : Bool) → IsRow names tags t w → w.names_comparator ≡ b
        → whole ≡ comparator_pieces b w (Some s) (positional (arguments.Strings (string_list.One s)) ∷ after)
        → IsPieced names tags (arguments.Tag t ∷ arguments.Strings (string_list.One s) ∷ more)
    given w true row is f =
        named_read names tags t w s more f (sym row.comparator
        ∙ is) row.listed row.kind (rest (sym (ap (λ (ps : List PieceWord). list_any is_unknown_tag ps) f)
        ∙ u) (sym (ap (λ (ps : List PieceWord). list_any lacks_string ps) f) ∙ l))
    given w false row is f =
        let v : (w.names_comparator || list_any lacks_string after) ≡ false = sym (ap (λ (ps : List PieceWord). list_any lacks_string ps) f) ∙ l in
        let p = or_parts w.names_comparator (list_any lacks_string after) v in
        alone_read names tags t w (arguments.Strings (string_list.One s) ∷ more) f (sym row.comparator
        ∙ is) row.listed row.kind
        (with_string (rest (sym (ap (λ (ps : List PieceWord). list_any is_unknown_tag ps) f) ∙ u) p.1))

    go : (o : Option TagWord) → tag_named t tags ≡ o → IsPieced names tags (arguments.Tag t ∷ arguments.Strings (string_list.One s) ∷ more)
    go None e =
        let f : whole ≡ tagged None None ∷ positional (arguments.Strings (string_list.One s)) ∷ after =
        ap (λ (o : Option TagWord).
        tag_pieces o (Some s) (positional (arguments.Strings (string_list.One s)) ∷ after)) e in
        absurd (true≢false (sym (ap (λ (ps : List PieceWord). list_any is_unknown_tag ps) f) ∙ u))
    go (Some w) e =
        given w w.names_comparator (row_read names tags all t w e) refl (ap (λ (o : Option TagWord).
        tag_pieces o (Some s) (positional (arguments.Strings (string_list.One s)) ∷ after)) e)

string_read : (names : List (List (List ℕ))) (tags : List TagWord) (l : StringList) (more : List Argument)
    → IsPieced names tags more → IsPieced names tags (arguments.Strings l ∷ more)
unfolding string_lists
string_read names tags l more r = record {
  lists = ap (λ (ls : List StringList). l ∷ ls) r.lists;
  numbers = r.numbers;
  listed = r.listed;
  comparators = r.comparators;
  counted = λ kind k each.
      one_more (is_named kind) (has_kind k) (arguments.Strings l) (positional (arguments.Strings l)) more
      (pieces tags more) refl (r.counted kind k each);
}

number_read : (names : List (List (List ℕ))) (tags : List TagWord) (n : ℕ) (more : List Argument)
    → IsPieced names tags more → IsPieced names tags (arguments.Number n ∷ more)
unfolding string_lists
number_read names tags n more r = record {
  lists = r.lists;
  numbers = ap (λ (ns : List ℕ). n ∷ ns) r.numbers;
  listed = r.listed;
  comparators = r.comparators;
  counted = λ kind k each.
      one_more (is_named kind) (has_kind k) (arguments.Number n) (positional (arguments.Number n)) more
      (pieces tags more) refl (r.counted kind k each);
}

nothing_read : (names : List (List (List ℕ))) (tags : List TagWord) → IsPieced names tags []
unfolding string_lists
nothing_read names tags = record { lists = refl; numbers = refl; listed = refl; comparators = λ h. refl; counted = λ kind k each. refl }

pieces_read : (names : List (List (List ℕ))) (tags : List TagWord) → AreRead names tags → (args : List Argument)
    → list_any is_unknown_tag (pieces tags args) ≡ false → list_any lacks_string (pieces tags args) ≡ false
    → IsPieced names tags args
pieces_read names tags all [] u l = nothing_read names tags
pieces_read names tags all (arguments.Strings s ∷ more) u l = string_read names tags s more (pieces_read names tags all more u l)
pieces_read names tags all (arguments.Number n ∷ more) u l = number_read names tags n more (pieces_read names tags all more u l)
pieces_read names tags all (arguments.Tag t ∷ []) u l = tag_alone names tags all t [] refl u l (λ v m. nothing_read names tags)
pieces_read names tags all (arguments.Tag t ∷ arguments.Strings (string_list.One s) ∷ more) u l =
    tag_string names tags all t s more u l (λ v m. pieces_read names tags all more v m) (λ r.
    string_read names tags (string_list.One s) more r)
pieces_read names tags all (arguments.Tag t ∷ arguments.Strings (string_list.Listed s ss) ∷ more) u l =
    tag_alone names tags all t (arguments.Strings (string_list.Listed s ss) ∷ more) refl u l (λ v m.
    pieces_read names tags all (arguments.Strings (string_list.Listed s ss) ∷ more) v m)
pieces_read names tags all (arguments.Tag t ∷ arguments.Number n ∷ more) u l =
    tag_alone names tags all t (arguments.Number n ∷ more) refl u l (λ v m.
    pieces_read names tags all (arguments.Number n ∷ more) v m)
pieces_read names tags all (arguments.Tag t ∷ arguments.Tag v ∷ more) u l =
    tag_alone names tags all t (arguments.Tag v ∷ more) refl u l (λ w m.
    pieces_read names tags all (arguments.Tag v ∷ more) w m)

-- the arguments of a form
pub form_read : (names : List (List (List ℕ))) (form : WordForm) (args : List Argument) (inner : InnerTests)
    → AreRead names form.tags → AreKinds form names → HasForm form args inner → (ps : List Argument)
    → positional_arguments (pieces form.tags args) ≡ ps → HasArguments names (lists_of ps) (numbers_in ps) args
form_read names form args inner all kinds_are h ps e =
    let t = or_parts (list_any is_unknown_tag (pieces form.tags args)) (tag_after (pieces form.tags args)) h.tags in
    let r = pieces_read names form.tags all args t.0 h.strings in
    record {
      tags_are = r.listed;
      one_of_each = each_once form args names kinds_are h.once r.counted;
      lists_are = r.lists ∙ ap lists_of e;
      numbers_are = r.numbers ∙ ap numbers_in e;
      comparators_are = r.comparators h.comparators;
    }

-- a `size` has a limit
pub limit_there : (args : List Argument) → list_any (has_kind kinds.SizeLimit) (pieces size_form.tags args) ≡ true
    → (has_tag (codes "over") args || has_tag (codes "under") args) ≡ true
limit_there args h = elim (found args h) [
  | inl o ↦ or_left (has_tag (codes "over") args) (has_tag (codes "under") args) o
  | inr u ↦ or_right (has_tag (codes "over") args) (has_tag (codes "under") args) u
]
  where
    no_limit : (t : List ℕ) (more : List Argument) → same_name t (codes "over") ≡ false
        → same_name t (codes "under") ≡ false → pieces size_form.tags (arguments.Tag t ∷ more) ≡ tagged None None
        ∷ pieces size_form.tags more
    no_limit t more e f = rw (e, f) refl

    found : (args : List Argument) → list_any (has_kind kinds.SizeLimit) (pieces size_form.tags args) ≡ true
        → (has_tag (codes "over") args ≡ true) ⊎ (has_tag (codes "under") args ≡ true)
    found [] h = absurd (true≢false (sym h))
    found (arguments.Strings l ∷ more) h = found more h
    found (arguments.Number n ∷ more) h = found more h
    found (arguments.Tag t ∷ more) h = elim (cases_Bool (same_name t (codes "over"))) [
      | inl e ↦ inl (or_left (same_word t (codes "over")) (has_tag (codes "over") more) (as_word t (codes "over") e))
      | inr e ↦ elim (cases_Bool (same_name t (codes "under"))) [
        | inl f ↦ inr (or_left (same_word t (codes "under")) (has_tag (codes "under") more) (as_word t (codes "under") f))
        | inr f ↦ elim (found more (sym (ap (λ (ps : List PieceWord). list_any (has_kind kinds.SizeLimit) ps) (no_limit t more e f)) ∙ h)) [
          | inl o ↦ inl (or_right (same_word t (codes "over")) (has_tag (codes "over") more) o)
          | inr u ↦ inr (or_right (same_word t (codes "under")) (has_tag (codes "under") more) u)
        ]
      ]
    ]
