use Rattle.std.proofs.Common.{subst}
use Rattle.std.specs.Prelude.{IfOk}
use Rattle.record_archive.specs.Archive.{Archive}
use Rattle.cli_history.specs.Seals.{known}
use Rattle.cli_readings.specs.Groups.{OwnKey, key_of}
use Rattle.cli_readings.specs.Twice.{IsKeyOf, told_key, untold}
use Rattle.cli_readings.proofs.twice.seal_of_record.Goals as goal

pub returns-in_default-clause-told : goal.returns-in_default-clause-told
returns-in_default-clause-told g c =
    let archive = g.R.Repository in
    let told = known c.args.seals.now c.args.entry.now.message in
    subst (λ k. IfOk c.own_seal.result (λ (seal : OwnKey). archive.clean c.own_seal.new.archive → (a : Archive)
    → archive.stands c.args.archive.now a → IsKeyOf k a c.args.entry.now (key_of seal)))
    (untold c.length_and_sum.result told c.length_and_sum.ensures c.in_default.is) c.own_seal.ensures.told

pub returns-clause-told : goal.returns-clause-told
returns-clause-told g c = λ clean (a : Archive) s.
    told_key c.length_and_sum.result (known c.args.seals.now c.args.entry.now.message) (c.in-Some.octets, c.in-Some.sum) a c.args.entry.now
    c.in_ok-from_slice.field-0.items c.length_and_sum.ensures c.in-Some.is c.in_ok-from_slice.ensures.items
