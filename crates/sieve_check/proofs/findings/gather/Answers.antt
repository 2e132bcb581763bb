use Rattle.std.proofs.Common.{refl}
use Rattle.sieve_check.specs.Context.{has_of}
use Rattle.sieve_check.specs.Findings.{no_findings}
use Rattle.sieve_check.specs.Pieces.{pieces}
use Rattle.sieve_check.specs.Rules.{piece_lacks, is_unknown_tag, lacks_string, is_unknown_comparator}
use Rattle.sieve_check.specs.Views.{form_view}
use Rattle.sieve_check.proofs.FoundLemmas.{any_found, tag_after_found, two_tags_found}
use Rattle.sieve_check.proofs.findings.gather.Goals as goal

pub returns-clause-capability : goal.returns-clause-capability
returns-clause-capability c =
    rw c.go_over.ensures (any_found (has_of c.args.named) (λ f. f.lacks_capability) (piece_lacks (has_of c.args.named))
    (λ f p. refl) no_findings (pieces (form_view c.args.form.now).tags c.args.arguments.now))

pub returns-clause-tag : goal.returns-clause-tag
returns-clause-tag c =
    let ps = pieces (form_view c.args.form.now).tags c.args.arguments.now in
    let unknown = any_found (has_of c.args.named) (λ f. f.unknown_tag) is_unknown_tag (λ f p. refl) no_findings ps in
    let following = tag_after_found (has_of c.args.named) ps in
    rw (c.go_over.ensures, unknown, following)

pub returns-clause-twice : goal.returns-clause-twice
returns-clause-twice c =
    rw c.go_over.ensures (two_tags_found (has_of c.args.named) (form_view c.args.form.now)
    (pieces (form_view c.args.form.now).tags c.args.arguments.now))

pub returns-clause-string : goal.returns-clause-string
returns-clause-string c =
    rw c.go_over.ensures (any_found (has_of c.args.named) (λ f. f.lacks_string) lacks_string (λ f p.
    refl) no_findings (pieces (form_view c.args.form.now).tags c.args.arguments.now))

pub returns-clause-comparator : goal.returns-clause-comparator
returns-clause-comparator c =
    rw c.go_over.ensures (any_found (has_of c.args.named) (λ f. f.unknown_comparator) is_unknown_comparator (λ f p.
    refl) no_findings (pieces (form_view c.args.form.now).tags c.args.arguments.now))
