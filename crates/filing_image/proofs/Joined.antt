-- What was written one after the other is the spelling.
use Rattle.std.proofs.Common.{◌≡◌, ℕ, List, ◌++◌, length, map, append_assoc}
use Rattle.std.specs.List.{flat_map}
use Rattle.std.specs.Int.{w16, w32, w64, to_be_bytes}
use Rattle.filing_image.specs.Program.{Program, parts, instruction_of, version_of}
use Rattle.filing_image.specs.Spelling.{spelling, mark, text, instruction, procedure_count, procedures}
use Rattle.std.proofs.lemmas.List.{length-map}

pub five : (o a b c d e o1 o2 o3 o4 o5 : List ℕ) → o1 ≡ o ++ a → o2 ≡ o1 ++ b → o3 ≡ o2 ++ c → o4 ≡ o3 ++ d → o5 ≡ o4
    ++ e → o5 ≡ o ++ (a ++ (b ++ (c ++ (d ++ e))))
five o a b c d e o1 o2 o3 o4 o5 h1 h2 h3 h4 h5 = rw (h5, h4, h3, h2, h1) (simp append_assoc)

seven : (a b c d e f g o1 o2 o3 o4 o5 o6 o7 : List ℕ) → o1 ≡ a → o2 ≡ o1 ++ b → o3 ≡ o2 ++ c → o4 ≡ o3 ++ d → o5 ≡ o4
    ++ e → o6 ≡ o5 ++ f → o7 ≡ o6 ++ g → o7 ≡ a ++ (b ++ (c ++ (d ++ (e ++ (f ++ g)))))
seven a b c d e f g o1 o2 o3 o4 o5 o6 o7 h1 h2 h3 h4 h5 h6 h7 = rw (h7, h6, h5, h4, h3, h2, h1) (simp append_assoc)

abbrev pub counts : Program → List ℕ
counts p = to_be_bytes w16 (length p.texts)
    ++ (to_be_bytes w16 (length p.numbers)
    ++ (to_be_bytes w16 p.slots ++ (procedure_count p.procedures ++ to_be_bytes w16 (length p.code))))

pub joined : (p : Program) (o1 o2 o3 o4 o5 o6 o7 : List ℕ) → o1 ≡ mark (version_of p.procedures) → o2 ≡ o1
    ++ to_be_bytes w32 p.budget → o3 ≡ o2 ++ counts p
    → o4 ≡ o3 ++ flat_map text p.texts → o5 ≡ o4 ++ flat_map (to_be_bytes w64) p.numbers → o6 ≡ o5
    ++ procedures p.procedures → o7 ≡ o6 ++ flat_map instruction (map instruction_of p.code)
    → o7 ≡ spelling (parts p)
unfolding spelling
joined p o1 o2 o3 o4 o5 o6 o7 h1 h2 h3 h4 h5 h6 h7 =
    let count : List ℕ = to_be_bytes w16 (length p.code) in
    let rest : List ℕ = flat_map text p.texts
    ++ (flat_map (to_be_bytes w64) p.numbers
    ++ (procedures p.procedures ++ flat_map instruction (map instruction_of p.code))) in
    let regrouped : (procedure_count p.procedures ++ count) ++ rest ≡ procedure_count p.procedures
    ++ (count ++ rest) = append_assoc (procedure_count p.procedures) count rest in
    rw (
      length-map p.code instruction_of,
      ← regrouped,
    ) (seven (mark (version_of p.procedures)) (to_be_bytes w32 p.budget) (counts p)
    (flat_map text p.texts) (flat_map (to_be_bytes w64) p.numbers) (procedures p.procedures)
    (flat_map instruction (map instruction_of p.code)) o1 o2 o3 o4 o5 o6 o7 h1 h2 h3 h4 h5 h6 h7)
