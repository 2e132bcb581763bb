use Rattle.std.proofs.Common.{inl}
use Rattle.cli_volumes.proofs.listing.judge_named.Goals as goal

pub returns-in_ok-missing_in-in-Err : goal.returns-in_ok-missing_in-in-Err
returns-in_ok-missing_in-in-Err g c =
    let volumes = c.in_ok-missing_in-in-Err.field-0 in
    inl (c.in-Err.ensures.gaps volumes c.in_ok-missing_in-in-Err.ensures, c.in-Err.ensures.some volumes c.in_ok-missing_in-in-Err.ensures)
