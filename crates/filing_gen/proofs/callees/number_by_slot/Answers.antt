use Rattle.std.proofs.Common.{◌≡◌, ◌∷◌, ◌-◌, ℕ, map, subst, arith}
use Rattle.sieve_library.specs.BorrowedShelves.{scripts_of}
use Rattle.sieve_library.specs.Libraries.{library_of}
use Rattle.filing_procedures.specs.ProcedureCode.{names_of, procedure_of, number_of}
use Rattle.filing_gen.proofs.callees.number_by_slot.Goals as goal

pub returns : goal.returns
returns c = λ left s x is there at.
    let l = scripts_of c.args.reach.now.shelves in
    let p = c.args.procedure.now in
    let fewer : p.key.left - 1 ≡ left = omega (arith, is) in
    subst (λ (n : ℕ).
    c.number_of.result ≡ number_of (library_of l) (map procedure_of c.args.later.now) (record {
      script = x;
      left =
          n;
      chain = s ∷ names_of p;
    })) fewer
    (c.number_of.ensures (record { script = x; left = p.key.left - 1; chain = s ∷ names_of p })
    (c.key_of_entry.ensures l s x there at c.requires.key))
