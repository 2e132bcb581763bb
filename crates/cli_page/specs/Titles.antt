-- The titles of classes, as a page shows them.
use Rattle.std.specs.Prelude.{ℕ, List, [], ◌∷◌, ◌++◌, Option, Some, None, codes, find}
use Rattle.std.specs.Str.{bytes_eq}
use Rattle.cli_texts.specs.declared.titles.ListedTitle.{ListedTitle}
use Rattle.cli_page.specs.Pages.{name_piece}

-- the title of the class of this path, if it has one
abbrev pub title_in : List ListedTitle → (path : List ℕ) → Option ListedTitle
title_in titles path = find (λ t. bytes_eq t.path.now path) titles

-- a text below what a cell has, if there is one
abbrev pub below : List ℕ → List ℕ
below [] = []
below (b ∷ bs) = codes "<br>" ++ name_piece (b ∷ bs)

-- a path, and the title of its class below it
abbrev pub path_and_title : (path : List ℕ) → Option ListedTitle → List ℕ
path_and_title path None = name_piece path
path_and_title path (Some t) = name_piece path ++ below t.title.now

-- A CLASS AS A PAGE SHOWS IT: its path, and below it its title, if it has one
unfoldable pub class_text : List ListedTitle → (path : List ℕ) → List ℕ
class_text titles path = path_and_title path (title_in titles path)
