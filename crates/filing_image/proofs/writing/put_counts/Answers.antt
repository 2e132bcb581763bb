use Rattle.std.proofs.Common.{◌≡◌, ◌++◌, length}
use Rattle.std.specs.Int.{w16, to_be_bytes}
use Rattle.filing_image.specs.Spelling.{procedure_count}
use Rattle.filing_image.proofs.Joined.{five}
use Rattle.filing_image.proofs.writing.put_counts.Goals as goal

pub returns : goal.returns
returns c =
    let p = c.args.image.now in
    let o = c.args.out.now.items in
    let o1 = c.put_u16.new.out.items in
    let o2 = c.put_u16-2.new.out.items in
    let o3 = c.put_u16-3.new.out.items in
    let o4 = c.put_procedure_count.new.out.items in
    let o5 = c.put_u16-4.new.out.items in
    let h1 : o1 ≡ o ++ to_be_bytes w16 (length p.texts) = rw (← c.text_count.ensures.value) c.in_ok-put_u16.ensures in
    let h2 : o2 ≡ o1 ++ to_be_bytes w16 (length p.numbers) = rw (← c.numbers.ensures.value) c.in_ok-put_u16-2.ensures in
    let h3 : o3 ≡ o2 ++ to_be_bytes w16 p.slots = rw (← c.slots.ensures) c.in_ok-put_u16-3.ensures in
    let h4 : o4 ≡ o3 ++ procedure_count p.procedures = c.in_ok-put_procedure_count.ensures in
    let h5 : o5 ≡ o4 ++ to_be_bytes w16 (length p.code) = rw (← c.code.ensures.value) c.in_ok-put_u16-4.ensures in
    five o (to_be_bytes w16 (length p.texts)) (to_be_bytes w16 (length p.numbers)) (to_be_bytes w16 p.slots)
    (procedure_count p.procedures) (to_be_bytes w16 (length p.code)) o1 o2 o3 o4 o5 h1 h2 h3 h4 h5
