-- The chain of marks over the lines of a history. The mark of a line is the SHA-256 of the mark before it and the line, each
-- with a line feed after it; before the first line the mark is empty. So a shell computes the last one:
--   mark=; while IFS= read -r line; do mark=$(printf '%s\n%s\n' "$mark" "$line" | sha256sum | cut -c1-64); done
use Rattle.std.specs.Prelude.{ℕ, List, [], ◌∷◌, ◌++◌, codes}
use Rattle.sha2.specs.Sha256.{sha256}
use Rattle.hex.specs.Hex.{encode_lower}

-- in 64 hexadecimal digits
abbrev pub mark_after : (mark line : List ℕ) → List ℕ
mark_after mark line = encode_lower (sha256 (mark ++ codes "\n" ++ line ++ codes "\n"))

abbrev pub chain_from : (mark : List ℕ) → List (List ℕ) → List ℕ
chain_from mark [] = mark
chain_from mark (l ∷ ls) = chain_from (mark_after mark l) ls

-- THE MARK of the last line
abbrev pub chain : List (List ℕ) → List ℕ
chain ls = chain_from [] ls

-- the mark of each line
abbrev pub marks_from : (mark : List ℕ) → List (List ℕ) → List (List ℕ)
marks_from mark [] = []
marks_from mark (l ∷ ls) = mark_after mark l ∷ marks_from (mark_after mark l) ls
