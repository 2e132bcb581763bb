use Rattle.std.proofs.Common.{map, string_bytes, true, false, refl, sym, subst}
use Rattle.mail_import.specs.Imports.{Does}
use Rattle.mail_import.specs.declared.message.Terms.{Terms}
use Rattle.mail_import.proofs.FindingLaws.{does_none}
use Rattle.mail_import.proofs.Taken.{does_bare, does_nameless, no_paths, rest_bare, rest_nameless, rest_none}
use Rattle.mail_import.proofs.import.tell_rest.Goals as goal

pub returns-then-files-gt0 : goal.returns-then-files-gt0
returns-then-files-gt0 g c =
    let goes = g.M.OldMailroom.goes in
    let has = g.M.OldMailroom.has in
    let none = g.met.M.OldMailroom.goes_none in
    let and_then = g.met.M.OldMailroom.goes_then in
    λ (terms : Terms).
    let after = record c.args.progress.now { tally = c.count_nameless.new.self } in
    subst (λ ss. Does goes has terms c.args.room.now c.args.progress.now ss c.tell_nameless.new.self after)
    (sym (rest_nameless c.args.path.now (map string_bytes c.args.files.now.paths.items) c.args.files.now.nameless c.if-files-gt0.true))
    (does_nameless goes has none and_then terms
    c.args.room.now c.tell_nameless.new.self c.args.progress.now after c.args.files.now.nameless c.tell_nameless.ensures.call
    c.count_nameless.ensures refl)

pub returns-then-is_empty : goal.returns-then-is_empty
returns-then-is_empty g c =
    let goes = g.M.OldMailroom.goes in
    let has = g.M.OldMailroom.has in
    let none = g.met.M.OldMailroom.goes_none in
    let and_then = g.met.M.OldMailroom.goes_then in
    λ (terms : Terms).
    let after = record c.args.progress.now { tally = c.count_empty.new.self } in
    subst (λ ss. Does goes has terms c.args.room.now c.args.progress.now ss c.tell_empty.new.self after)
    (sym (rest_bare c.args.path.now (map string_bytes c.args.files.now.paths.items) c.args.files.now.nameless c.if-files-gt0.false
    (no_paths string_bytes c.args.files.now.paths.items c.as_slice.result.now c.is_empty.result true c.as_slice.ensures.value
    c.is_empty.ensures c.if-is_empty.true)))
    (does_bare goes has none and_then terms
    c.args.room.now c.tell_empty.new.self c.args.progress.now after c.args.path.now c.tell_empty.ensures.call c.count_empty.ensures refl)

pub returns-else-is_empty : goal.returns-else-is_empty
returns-else-is_empty g c =
    let goes = g.M.OldMailroom.goes in
    let has = g.M.OldMailroom.has in
    let none = g.met.M.OldMailroom.goes_none in
    let and_then = g.met.M.OldMailroom.goes_then in
    λ (terms : Terms).
    subst (λ ss. Does goes has terms c.args.room.now c.args.progress.now ss c.args.room.now
    c.args.progress.now)
    (sym (rest_none c.args.path.now (map string_bytes c.args.files.now.paths.items) c.args.files.now.nameless c.if-files-gt0.false
    (no_paths string_bytes c.args.files.now.paths.items c.as_slice.result.now c.is_empty.result false c.as_slice.ensures.value
    c.is_empty.ensures c.if-is_empty.false)))
    (does_none goes has none and_then terms
    c.args.room.now c.args.progress.now)
