use Rattle.std.proofs.Common.{[], ◌∷◌, ◌++◌, List, map, string_bytes, refl, ◌∙◌, ap, subst, append_assoc}
use Rattle.mail_import.specs.Findings.{AreOfFiles, AreOfFolder, Finding, beside, end_of, rest_of}
use Rattle.mail_import.specs.Sources.{Mail}
use Rattle.mail_import.proofs.SourceLaws.{end_is, unseen_of_folder}
use Rattle.mail_import.proofs.FindingLaws.{breaks_at_once, does_none, does_then, done_breaks, then_breaks}
use Rattle.mail_import.proofs.Taken.{does_beside, on_err}
use Rattle.mail_import.proofs.import.take_folder.Goals as goal

pub returns-in_err-files-clause-ended : goal.returns-in_err-files-clause-ended
returns-in_err-files-clause-ended g c =
    let goes = g.M.OldMailroom.goes in
    let has = g.M.OldMailroom.has in
    let none = g.met.M.OldMailroom.goes_none in
    let and_then = g.met.M.OldMailroom.goes_then in
    let terms = c.args.terms.now in
    on_err _ _ (breaks_at_once goes has none and_then terms (AreOfFolder c.args.source c.args.path.now) c.args.room.now c.args.progress.now
    (unseen_of_folder c.args.source c.args.path.now))

pub returns-in_err-take_files-clause-ended : goal.returns-in_err-take_files-clause-ended
returns-in_err-take_files-clause-ended g c =
    let goes = g.M.OldMailroom.goes in
    let has = g.M.OldMailroom.has in
    let none = g.met.M.OldMailroom.goes_none in
    let and_then = g.met.M.OldMailroom.goes_then in
    let terms = c.args.terms.now in
    on_err _ _ (then_breaks goes has none and_then terms (AreOfFiles (map string_bytes c.as_slice.result.now)) (AreOfFolder c.args.source
    c.args.path.now)
    c.args.room.now c.args.room.now c.take_files.new.room c.args.progress.now c.args.progress.now c.take_files.new.progress []
    (does_none goes has none and_then terms c.args.room.now c.args.progress.now) c.in_err-take_files.ensures.ended (λ (m : Mail) h (ys : List Finding)
    are.
    let listed = c.in_ok-files.ensures.listed m h in (
      end_of c.args.source c.args.path.now m,
      (ys, subst (λ l. AreOfFiles l m ys) (ap (map string_bytes) c.as_slice.ensures.value ∙ listed.paths) are, refl),
    )))

pub returns-in_err-passed-clause-ended : goal.returns-in_err-passed-clause-ended
returns-in_err-passed-clause-ended g c =
    let goes = g.M.OldMailroom.goes in
    let has = g.M.OldMailroom.has in
    let none = g.met.M.OldMailroom.goes_none in
    let and_then = g.met.M.OldMailroom.goes_then in
    let terms = c.args.terms.now in
    let taken = c.in_ok-take_files.ensures.taken in
    let paths = map string_bytes c.in_ok-files.files.paths.items in
    let rest = rest_of c.args.path.now paths c.in_ok-files.files.nameless in
    on_err _ _ (done_breaks goes has none and_then terms (AreOfFolder c.args.source c.args.path.now) c.args.room.now c.tell_rest.new.room
    c.args.progress.now
    c.tell_rest.new.progress (taken.findings ++ rest)
    (does_then goes has none and_then terms c.args.room.now c.take_files.new.room c.tell_rest.new.room c.args.progress.now c.take_files.new.progress
    c.tell_rest.new.progress taken.findings rest taken.does (c.tell_rest.ensures terms)) (λ (m : Mail) h.
    let listed = c.in_ok-files.ensures.listed m h in
    let last = beside (m.files c.args.source) (m.folders c.args.source) ∷ [] in (
      last,
      (
        taken.findings,
        subst (λ l. AreOfFiles l m taken.findings) (ap (map string_bytes) c.as_slice.ensures.value ∙ listed.paths) (taken.all m h),
        append_assoc taken.findings rest last ∙ ap (λ l. taken.findings ++ l)
            (end_is c.args.source c.args.path.now m paths c.in_ok-files.files.nameless (m.files c.args.source) (m.folders c.args.source)
            listed.paths listed.nameless refl refl),
      ),
    )))

pub returns-clause-taken : goal.returns-clause-taken
returns-clause-taken g c =
    let goes = g.M.OldMailroom.goes in
    let has = g.M.OldMailroom.has in
    let none = g.met.M.OldMailroom.goes_none in
    let and_then = g.met.M.OldMailroom.goes_then in
    let terms = c.args.terms.now in
    let taken = c.in_ok-take_files.ensures.taken in
    let paths = map string_bytes c.in_ok-files.files.paths.items in
    let rest = rest_of c.args.path.now paths c.in_ok-files.files.nameless in
    let passed = c.in_ok-passed.passed in
    let last = beside passed.files passed.folders ∷ [] in record {
      findings = taken.findings ++ (rest ++ last);
      does = does_then goes has none and_then terms c.args.room.now c.take_files.new.room _ c.args.progress.now c.take_files.new.progress _
          taken.findings
          (rest ++ last) taken.does
          (does_then goes has none and_then terms c.take_files.new.room c.tell_rest.new.room c.tell_rest.new.room c.take_files.new.progress
          c.tell_rest.new.progress _ rest last (c.tell_rest.ensures terms)
          (does_beside goes has none and_then terms c.tell_rest.new.room c.tell_rest.new.progress _ passed.files passed.folders
          c.count_beside.ensures refl));
      all = λ (m : Mail) h.
          let listed = c.in_ok-files.ensures.listed m h in
          let counted = c.in_ok-passed.ensures.counted m ((c.tell_rest.ensures terms).calls.kept m (taken.does.calls.kept m h)) in (
            taken.findings,
            subst (λ l. AreOfFiles l m taken.findings) (ap (map string_bytes) c.as_slice.ensures.value ∙ listed.paths) (taken.all m h),
            ap (λ l. taken.findings ++ l)
                (end_is c.args.source c.args.path.now m paths c.in_ok-files.files.nameless passed.files passed.folders listed.paths
                listed.nameless counted.files counted.folders),
          );
    }
