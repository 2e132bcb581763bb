-- Examples of the definitions.
use Rattle.std.proofs.Common.{◌≡◌, ◌∷◌, ◌++◌, [], codes, refl, true, false, Some, None}
use Rattle.std.specs.Fmt.{digits}
use Rattle.csv.specs.declared.writer.QuoteStyle.TheVariants.{Always, Necessary}
use Rattle.cli_texts.specs.Lines.{title_words}
use Rattle.cli_texts.specs.Rows.{captured_fields, cell, due_field, header_fields, is_formula, number_field, spaced, style_for, yes_or_no}

no_title : title_words None ≡ []
no_title = refl

sum_of_cells : cell (codes "=1+1") ≡ codes "'=1+1"
sum_of_cells = refl

-- U+FF0B, the full-width plus sign
wide_sign : is_formula (239 ∷ 188 ∷ 139 ∷ codes "1") ≡ true
wide_sign = refl

-- a tab
after_a_tab : cell (9 ∷ codes "bill") ≡ 39 ∷ 9 ∷ codes "bill"
after_a_tab = refl

as_it_is : cell (codes "a bill") ≡ codes "a bill"
as_it_is = refl

-- the sign is not the first
no_formula : is_formula (codes "a=1") ≡ false
no_formula = refl

semicolon : style_for (codes "1" ∷ codes "a; b" ∷ []) ≡ Always
semicolon = refl

comma : style_for (codes "1" ∷ codes "a, b" ∷ []) ≡ Necessary
comma = refl

no_hold : spaced [] ≡ []
no_hold = refl

never : due_field None ≡ codes "never"
never = refl

nothing_captured : captured_fields None ≡ header_fields None
nothing_captured = refl

alone : number_field None 17 ≡ codes "17"
unfolding digits
alone = refl

in_a_volume : number_field (Some 3) 17 ≡ codes "3/17"
unfolding digits
in_a_volume = refl

gone : yes_or_no true ≡ codes "yes"
gone = refl
