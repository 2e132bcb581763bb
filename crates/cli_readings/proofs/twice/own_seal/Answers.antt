use Rattle.std.proofs.Common.{◌∙◌, ℕ, List, ap, ap₂, length, sym}
use Rattle.std.specs.Prelude.{Vec}
use Rattle.std.specs.declared.alloc.Global.{Global}
use Rattle.record_archive.specs.Archive.{Archive}
use Rattle.cli_texts.specs.Sums.{shown_sum}
use Rattle.cli_readings.proofs.twice.own_seal.Goals as goal

pub returns-clause-told : goal.returns-clause-told
returns-clause-told g c = λ clean (a : Archive) s.
    let count = c.len.ensures ∙ sym c.as_slice.ensures.len ∙ ap length c.as_slice.ensures.value in
    let sum = ap (λ (v : Vec ℕ Global). v.items) c.into_bytes.ensures.value ∙ c.in_ok-sum.ensures ∙ ap shown_sum c.as_slice.ensures.value in
    (c.in_ok-message.message.items, c.in_ok-message.ensures.told clean a s, ap₂ (λ (n : ℕ) (digits : List ℕ). (n, digits)) count sum)
