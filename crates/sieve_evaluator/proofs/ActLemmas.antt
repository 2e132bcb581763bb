-- Acts, and what commands do in the meaning.
use Rattle.std.proofs.Common.{◌≡◌, List, Bool, true, false, refl, ap}
use Rattle.std.specs.Prelude.{◌||◌, not, if◌then◌else◌, codes}
use Rattle.std.proofs.Math.Bool.{or-false, or-true}
use Rattle.class_paths.specs.Paths.{insert_path}
use Rattle.sieve_syntax.specs.declared.tree.Argument.{Argument}
use Rattle.sieve_meaning.specs.declared.run_fault.RunFault.TheVariants.{ClassNotOpen}
use Rattle.sieve_meaning.specs.declared.words.CommandWord.TheVariants as words
use Rattle.sieve_meaning.specs.Reading.{string_lists, first_string, has_tag}
use Rattle.sieve_meaning.specs.Meaning as meaning
use Rattle.sieve_meaning.specs.Meaning.{run, and_then}
use Rattle.sieve_evaluator.specs.Acts.{filing_act, done_by, ActsAreDone}

-- a `fileinto`, given whether its class is open and whether it has `:copy`
filing_done : (is_open copy : Bool) (args : List Argument) (f : meaning.Filing)
    → (if is_open then meaning.GoesOn (record f {
      filed = insert_path (first_string (string_lists false args)) f.filed;
      cancelled = f.cancelled || not copy;
    }) else meaning.Faults ClassNotOpen f)
    ≡ done_by (filing_act is_open copy) args f
filing_done true true args f =
    ap (λ b. meaning.GoesOn (record f {
      filed = insert_path (first_string (string_lists false args)) f.filed;
      cancelled = b;
    })) (or-false f.cancelled)
filing_done true false args f =
    ap (λ b. meaning.GoesOn (record f {
      filed = insert_path (first_string (string_lists false args)) f.filed;
      cancelled = b;
    })) (or-true f.cancelled)
filing_done false copy args f = refl

pub acts_done : ActsAreDone
acts_done facts inc words.If args f plain t inner rest more = absurd plain
acts_done facts inc words.FileInto args f plain t inner rest more =
    ap (λ e. and_then e (run facts inc more)) (filing_done (facts.is_open (first_string (string_lists false args)))
    (has_tag (codes "copy") args) args f)
acts_done facts inc words.Include args f plain t inner rest more = absurd plain
acts_done facts inc word args f plain t inner rest more = refl
