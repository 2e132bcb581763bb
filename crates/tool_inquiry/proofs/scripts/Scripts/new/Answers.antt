use Rattle.std.proofs.Common.{◌∙◌, sym, ap}
use Rattle.std.proofs.lemmas.Result.{err_from_is_err_and}
use Rattle.sieve_library.specs.Libraries.{no_scripts}
use Rattle.tool_inquiry.specs.Shelving.{with_file}
use Rattle.tool_inquiry.proofs.ShelvingLemmas.{with_last, room_for_last, full_before, full_at_last}
use Rattle.tool_inquiry.proofs.scripts.Scripts.new.Goals as goal

pub returns-in_err-library-clause-full : goal.returns-in_err-library-clause-full
returns-in_err-library-clause-full c =
    let p = err_from_is_err_and c.from_residual.result c.from_residual.ensures.1 in
    let full = rw c.as_slice.ensures.value at c.in_err-library.ensures.full in
    rw (p.1, p.2) (full_before c.args.others.items c.args.main no_scripts _ full)

pub returns-in_err-add_file-clause-full : goal.returns-in_err-add_file-clause-full
returns-in_err-add_file-clause-full c =
    let p = err_from_is_err_and c.from_residual-in_err-add_file.result c.from_residual-in_err-add_file.ensures.1 in
    let full = rw (c.in_ok-library.ensures.library, c.as_slice.ensures.value) at c.in_err-add_file.ensures.full in
    rw (p.1, p.2) (full_at_last c.args.others.items c.args.main no_scripts _ full)

pub returns-clause-library : goal.returns-clause-library
returns-clause-library c =
    c.in_ok-add_file.ensures.ok ∙ ap (with_file c.args.main) (rw c.as_slice.ensures.value at c.in_ok-library.ensures.library)
    ∙ sym (with_last c.args.others.items c.args.main no_scripts)

pub returns-clause-room : goal.returns-clause-room
returns-clause-room c =
    let room = rw c.as_slice.ensures.value at c.in_ok-library.ensures.room in
    let last = rw (c.in_ok-library.ensures.library, c.as_slice.ensures.value) at c.in_ok-add_file.ensures.room in
    room_for_last c.args.others.items c.args.main no_scripts room last
