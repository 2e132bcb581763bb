use Rattle.std.proofs.Common.{[], ◌++◌, ◌+◌, List, take, drop, suc, map, string_bytes, sym, subst}
use Rattle.mail_intake.proofs.Passing.{names_more, names_split}
use Rattle.mail_import.specs.Findings.{AreOfFiles, Finding, IsFiled}
use Rattle.mail_import.specs.Sources.{Mail}
use Rattle.mail_import.proofs.SourceLaws.{filed_more, filed_none, files_at}
use Rattle.mail_import.proofs.FindingLaws.{does_none, takes_break, takes_then}
use Rattle.mail_import.proofs.Taken.{on_err}
use Rattle.mail_import.proofs.import.take_files.Goals as goal

pub loop-path-init : goal.loop-path-init
loop-path-init g c =
    let goes = g.M.OldMailroom.goes in
    let has = g.M.OldMailroom.has in
    let none = g.met.M.OldMailroom.goes_none in
    let and_then = g.met.M.OldMailroom.goes_then in
    let terms = c.args.terms.now in record {
      findings = [];
      does = does_none goes has none and_then terms c.args.room.now c.args.progress.now;
      all = λ (m : Mail) h. filed_none m;
    }

pub returns-in_err-take_file-clause-ended : goal.returns-in_err-take_file-clause-ended
returns-in_err-take_file-clause-ended g c =
    let goes = g.M.OldMailroom.goes in
    let has = g.M.OldMailroom.has in
    let none = g.met.M.OldMailroom.goes_none in
    let and_then = g.met.M.OldMailroom.goes_then in
    let terms = c.args.terms.now in
    let paths = c.args.paths.now in
    let i = c.loop-path.path-index in
    let before = map string_bytes (take i paths) in
    let name = c.as_str.result.now in
    on_err _ _ (takes_break goes has none and_then terms (AreOfFiles before) (IsFiled name) (AreOfFiles (map string_bytes paths)) c.args.room.now
    c.loop-path.room
    c.take_file.new.room c.args.progress.now c.loop-path.progress c.take_file.new.progress c.loop-path.invariant c.in_err-take_file.ensures.ended
    (λ (m : Mail) (xs ys : List Finding) are one.
    files_at m (map string_bytes paths) before name (map string_bytes (drop (suc i) paths)) xs ys are
    (names_split string_bytes paths i c.path-item.result name c.path-item.is c.as_str.ensures.value c.loop-path-test.true) one))

pub loop-path-preserved : goal.loop-path-preserved
loop-path-preserved g c =
    let goes = g.M.OldMailroom.goes in
    let has = g.M.OldMailroom.has in
    let none = g.met.M.OldMailroom.goes_none in
    let and_then = g.met.M.OldMailroom.goes_then in
    let terms = c.args.terms.now in
    let paths = c.args.paths.now in
    let i = c.loop-path.path-index in
    let before = map string_bytes (take i paths) in
    let name = c.as_str.result.now in
    takes_then goes has none and_then terms (AreOfFiles before) (IsFiled name) (AreOfFiles (map string_bytes (take (i + 1) paths))) c.args.room.now
    c.loop-path.room
    c.take_file.new.room c.args.progress.now c.loop-path.progress c.take_file.new.progress c.loop-path.invariant
    c.in_ok-take_file.ensures.taken (λ (m : Mail) (xs ys : List Finding) are one.
    subst (λ l. AreOfFiles l m (xs ++ ys))
    (sym (names_more string_bytes paths i c.path-item.result name c.path-item.is c.as_str.ensures.value c.loop-path-test.true))
    (filed_more m before name xs ys are one))
