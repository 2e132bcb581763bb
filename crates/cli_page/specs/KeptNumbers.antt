-- The numbers of the records that a hold keeps, and how a page shows them.
use Rattle.std.specs.Prelude.{◌≡◌, ℕ, zero, suc, ◌+◌, ◌-◌, ◌^◌, ◌==◌, Bool, true, false, min, if◌then◌else◌, List, [], ◌∷◌, ◌++◌}
use Rattle.std.specs.Prelude.{length, map, flat_map, codes, decimal, Option, Some, None, Vec}
use Rattle.std.specs.Cmp.Lexicographic.{slice_cmp}
use Rattle.std.specs.List.Sorted.{IsStrictlySortedBy}
use Rattle.std.specs.Ordering.{nat_cmp}
use Rattle.std.specs.Str.{bytes_eq}
use Rattle.std.specs.declared.alloc.Global.{Global}
use Rattle.cli_texts.specs.Rows.{number_field}
use Rattle.cli_page.specs.declared.holds.Stretch.{Stretch}
use Rattle.cli_page.specs.Pages.{name_piece, number_cell_piece}

-- THE NUMBER OF A RECORD, with that of its volume in an archive of volumes
abbrev pub Number : Type 0
Number = Option ℕ × ℕ

-- so many numbers, upwards from a first
abbrev pub count_up : (volume : Option ℕ) → (first count : ℕ) → List Number
count_up volume first zero = []
count_up volume first (suc n) = (volume, first) ∷ count_up volume (first + 1) n

abbrev pub numbers_in : Stretch → List Number
numbers_in s = count_up s.volume s.first (suc s.more)

-- THE NUMBERS OF SOME STRETCHES
abbrev pub numbers_of : List Stretch → List Number
numbers_of stretches = flat_map numbers_in stretches

-- ---- as a page shows them

-- U+2013, which stands between the first and the last number of a stretch
abbrev pub dash : List ℕ
dash = 226 ∷ 128 ∷ 147 ∷ []

-- its first number, with that of its volume, and behind a dash its last one
abbrev pub stretch_text : Stretch → List ℕ
stretch_text s = number_field s.volume s.first ++ (if s.more == 0 then [] else dash ++ decimal (s.first + s.more))

-- two records are of one volume, or of a store that is one file
abbrev pub is_same_volume : (one other : Option ℕ) → Bool
is_same_volume None None = true
is_same_volume None (Some other) = false
is_same_volume (Some one) None = false
is_same_volume (Some one) (Some other) = one == other

abbrev pub more_stretch : Stretch → List ℕ
more_stretch s = codes ", " ++ stretch_text s

abbrev pub stretches_text : List Stretch → List ℕ
stretches_text [] = []
stretches_text (s ∷ ss) = stretch_text s ++ flat_map more_stretch ss

unfoldable pub hold_head : (name : List ℕ) → List ℕ
hold_head name = codes "<tr><th scope=\"row\">" ++ name_piece name ++ codes "</th>"

unfoldable pub numbers_cell : List Stretch → List ℕ
numbers_cell stretches = codes "<td>" ++ stretches_text stretches ++ codes "</td></tr>\n"

-- THE ROW OF A HOLD: its name, how many records it keeps, and their numbers
abbrev pub hold_row : (name : List ℕ) → (count : ℕ) → List Stretch → List ℕ
hold_row name count stretches = hold_head name ++ number_cell_piece count ++ numbers_cell stretches

-- ---- the holds of a report

-- a hold by its name, and the records that it keeps
abbrev pub Entry : Type 0
Entry = Vec ℕ Global × Vec Stretch Global

-- THE RECORDS THAT THE HOLD OF A NAME KEEPS; none where no hold has the name
abbrev pub kept_by : (name : List ℕ) → List Entry → List Number
kept_by name [] = []
kept_by name (e ∷ es) = if bytes_eq name e.0.items then numbers_of e.1.items else kept_by name es

-- the number of a record, where its hold has the name
abbrev pub number_for : (name hold : List ℕ) → Number → List Number
number_for name hold n = if bytes_eq name hold then n ∷ [] else []

-- the same for each of its holds
abbrev pub numbers_for : (name : List ℕ) → (holds : List (List ℕ)) → Number → List Number
numbers_for name holds n = flat_map (λ h. number_for name h n) holds

-- a hold keeps one record more, which is its last, and no other hold does
abbrev pub KeepsOneMore : (hold : List ℕ) → Number → (old new : List Entry) → Type 0
KeepsOneMore hold n old new = (name : List ℕ) → kept_by name new ≡ kept_by name old ++ number_for name hold n

-- EACH OF THE HOLDS keeps one record more, and no other hold does
abbrev pub KeepAlso : (holds : List (List ℕ)) → Number → (old new : List Entry) → Type 0
KeepAlso holds n old new = (name : List ℕ) → kept_by name new ≡ kept_by name old ++ numbers_for name holds n

-- in byte order of their names, of which each stands there once
abbrev pub AreInOrder : List Entry → Type 0
AreInOrder holds = IsStrictlySortedBy (λ (x y : Vec ℕ Global). slice_cmp nat_cmp x.items y.items) (map (λ (e : Entry). e.0) holds)

-- ---- as a page shows them

-- how many records some stretches have, up to 2^64 - 1
abbrev pub count_shown : List Stretch → ℕ
count_shown stretches = min (length (numbers_of stretches)) (2 ^ 64 - 1)

abbrev pub entry_row : Entry → List ℕ
entry_row e = hold_row e.0.items (count_shown e.1.items) e.1.items

unfoldable pub holds_head : List ℕ
holds_head = codes "<section aria-labelledby=\"holds\">\n<h2 id=\"holds\">Holds</h2>\n"

unfoldable pub no_holds : List ℕ
no_holds = codes "<p>No hold keeps a record.</p>\n</section>\n"

unfoldable pub holds_table_head : List ℕ
holds_table_head =
    codes "<p>A record is not destroyed while any hold keeps it.</p>\n<table>\n<caption>Holds and the records that they keep</caption>\n<thead><tr><th scope=\"col\">Hold</th><th scope=\"col\" class=\"n\">Records</th><th scope=\"col\">Numbers of the records</th></tr></thead>\n<tbody>\n"

unfoldable pub holds_table_end : List ℕ
holds_table_end = codes "</tbody>\n</table>\n</section>\n"

-- THE SECTION OF HOLDS: a row for each, in their order
abbrev pub holds_section : List Entry → List ℕ
holds_section holds =
    holds_head ++ (if length holds == 0 then no_holds else holds_table_head ++ flat_map entry_row holds ++ holds_table_end)
