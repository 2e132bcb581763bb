use Rattle.std.proofs.Common.{◌≡◌, ap, ◌∙◌, sym, subst, Err, Ok, Result, inr}
use Rattle.std.specs.Prelude.{IfOk}
use Rattle.sieve_syntax.specs.View.{tree_of}
use Rattle.sieve_meaning.specs.Reading.{program_of}
use Rattle.sieve_meaning.specs.Meaning.{Library}
use Rattle.sieve_library.specs.BorrowedShelves.{scripts_of}
use Rattle.sieve_library.specs.Libraries.{library_of}
use Rattle.filing_image.specs.declared.instruction.Operation.TheVariants.{Fault}
use Rattle.desk_commands.specs.Pinning.{PinsChoice, script}
use Rattle.desk_officers.specs.Ends.{alone}
use Rattle.desk_officers.proofs.MeaningLemmas.{library_meant}
use Rattle.desk_officers.proofs.PinLemmas.{compiled_pins, heavy_pins}
use Rattle.desk_officers.proofs.pinned.pin_script.Goals as goal

ok_not_err : {A E : Type 0} {r : Result A E} {x : A} {y : E} → r ≡ Ok x → r ≡ Err y → ⊥
ok_not_err {A} {E} {r} {x} {y} h k = let e : ◌≡◌ {A = Result A E} (Ok x) (Err y) = sym h ∙ k in cc

all_ok : {A E : Type 0} {P Q : A → Type 0} (r : Result A E) → IfOk r P → ((x : A) → P x → Q x) → IfOk r Q
all_ok (Ok x) h f = f x h
all_ok (Err y) h f = tt

pub returns-in-Ok : goal.returns-in-Ok
returns-in-Ok c =
    let main = program_of (tree_of c.args.script.now.script) in
    let lib = scripts_of c.args.shelves in
    let P : Library → Type 0 = λ l. PinsChoice (script c.args.name.now main) l c.in-Ok.program in
    subst P (library_meant lib) (compiled_pins (library_of lib) c.args.name.now main c.in-Ok.program
    c.in-Ok.ensures.compiled (λ heavy.
    ok_not_err c.in-Ok.is ((c.compile_with.ensures.too_large (ok_not_err c.in-Ok.is)).1 heavy)))

pub single-requires : goal.single-requires
single-requires c = inr (ap Fault c.number.ensures)

pub returns-in-Err-TooLarge : goal.returns-in-Err-TooLarge
returns-in-Err-TooLarge c =
    let main = program_of (tree_of c.args.script.now.script) in
    let lib = scripts_of c.args.shelves in
    let refused = c.in-Err-TooLarge.is ∙ ap Err c.in-Err-TooLarge.field-0-is in
    let heavy = (c.compile_with.ensures.too_large (λ none. cc (refused, none))).0 refused in
    all_ok c.single.result c.single.ensures (λ v e.
    let P : Library → Type 0 = λ l. PinsChoice (script c.args.name.now main) l v in
    subst P (library_meant lib) (heavy_pins (library_of lib) c.args.name.now main v (e ∙ ap (λ n. alone (Fault n)) c.number.ensures) heavy))
