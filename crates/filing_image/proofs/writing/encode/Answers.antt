use Rattle.std.proofs.Common.{◌≡◌, ℕ, ◌++◌, List, map, ap, ◌∙◌}
use Rattle.std.specs.List.{flat_map}
use Rattle.std.specs.Int.{w32, w64, to_be_bytes}
use Rattle.filing_image.specs.Program.{instruction_of, version_of}
use Rattle.filing_image.specs.Spelling.{mark, text, instruction}
use Rattle.filing_image.proofs.Joined.{joined}
use Rattle.filing_image.proofs.writing.encode.Goals as goal

pub returns-clause-spelled : goal.returns-clause-spelled
returns-clause-spelled c =
    let p = c.args.image.now in
    let o1 = c.put_mark.new.out.items in
    let o2 = c.extend_from_slice.new.self.items in
    let o3 = c.put_counts.new.out.items in
    let o4 = c.put_texts.new.out.items in
    let o5 = c.put_numbers.new.out.items in
    let o6 = c.put_first_places.new.out.items in
    let o7 = c.put_code.new.out.items in
    let h1 : o1 ≡ mark (version_of p.procedures) = c.in_ok-put_mark.ensures
    ∙ ap (λ (o : List ℕ). o ++ mark c.version.result) c.new-out.ensures.items ∙ ap mark c.version.ensures in
    let h2 : o2 ≡ o1 ++ to_be_bytes w32 p.budget = rw (c.in_ok-extend_from_slice.ensures.items, c.to_be_bytes.ensures, c.budget.ensures) in
    let h4 : o4 ≡ o3 ++ flat_map text p.texts = rw (← c.texts.ensures.value) c.in_ok-put_texts.ensures in
    let h5 : o5 ≡ o4 ++ flat_map (to_be_bytes w64) p.numbers = rw (← c.numbers.ensures.value) c.in_ok-put_numbers.ensures in
    let h7 : o7 ≡ o6 ++ flat_map instruction (map instruction_of p.code) = rw (← c.code.ensures.value) c.in_ok-put_code.ensures in
    joined p o1 o2 o3 o4 o5 o6 o7 h1 h2 c.in_ok-put_counts.ensures h4 h5 c.in_ok-put_first_places.ensures h7
