-- The plan of a text, by the answer of the TOML reader and the contents of the table.
use Rattle.std.proofs.Common.{◌≡◌, ℕ, List, Some, None, Ok, Err, ap, sym}
use Rattle.std.proofs.lemmas.Bool.{false_from_ne_true}
use Rattle.std.proofs.lemmas.Str.{is_utf8-from_IsUtf8, IsUtf8-from_is_utf8}
use Rattle.std.specs.Str.{IsUtf8, is_utf8}
use Rattle.toml.specs.Data.{Members}
use Rattle.toml.specs.Parse.{parse_document}
use Rattle.class_plan.specs.declared.faults.PlanFault.{PlanFault}
use Rattle.class_plan.specs.declared.faults.PlanFault.TheVariants.{NotToml, BadShape}
use Rattle.class_plan.specs.Faults.{IsSmallest, HoldsNone}
use Rattle.class_plan.specs.Plans.{Listing}
use Rattle.class_plan.specs.Entries.{Contents, plan_of}
use Rattle.class_plan.specs.Document.{contents_of, document_of, text_faults, plan_of_text}
use Rattle.class_plan.proofs.Judged.{judged-made, judged-smallest}

pub document-not_utf8 : (t : List ℕ) → ¬ (IsUtf8 t) → document_of t ≡ None
unfolding document_of
document-not_utf8 t h = rw (false_from_ne_true (is_utf8 t) (λ e. h (IsUtf8-from_is_utf8 t e)))

pub document-text : (t s : List ℕ) → IsUtf8 t → s ≡ t → document_of t ≡ parse_document s
unfolding document_of
document-text t s h is = rw (is_utf8-from_IsUtf8 t h) (ap parse_document (sym is))

pub text-none : (t : List ℕ) → document_of t ≡ None → plan_of_text t ≡ Err NotToml
unfolding plan_of_text
text-none t e = rw e

pub text-shape : (t : List ℕ) (ms : Members) → document_of t ≡ Some ms → None ≡ contents_of ms → plan_of_text t ≡ Err BadShape
unfolding plan_of_text
text-shape t ms e f = rw (e, ← f)

pub text-contents : (t : List ℕ) (ms : Members) (f : Contents) → document_of t ≡ Some ms → Some f ≡ contents_of ms → plan_of_text t ≡ plan_of f
unfolding plan_of_text
text-contents t ms f e g = rw (e, ← g)

pub text-smallest : (t : List ℕ) (f : PlanFault) → plan_of_text t ≡ Err f → IsSmallest (text_faults t) f
unfolding plan_of_text
text-smallest t f e = judged-smallest (text_faults t) _ f (sym e)

pub text-made : (t : List ℕ) (p : Listing) → plan_of_text t ≡ Ok p → HoldsNone (text_faults t)
unfolding plan_of_text
text-made t p e = (judged-made (text_faults t) _ p (sym e)).1
