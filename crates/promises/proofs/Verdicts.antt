-- A script or an image has one verdict.
use Rattle.std.proofs.Common.{◌≡◌, ◌≢◌, [], ℕ, List, refl, arith, ap, ◌∙◌, sym, subst, inl, inr, Some, None}
use Rattle.std.proofs.lemmas.List.{append-nil}
use Rattle.sieve_syntax.specs.Tree.{CommandTrees}
use Rattle.sieve_text.specs.declared.fault.TextRefusal.{TextRefusal}
use Rattle.sieve_text.specs.declared.fault.TextRefusal.TheVariants.{Scan, Syntax, Nesting}
use Rattle.sieve_text.specs.declared.fault.TextFault.TheVariants.{Refused}
use Rattle.sieve_text.specs.Tokens.{scan_number}
use Rattle.sieve_text.specs.Grammar.{IsScript, Explains, text_number, kinds}
use Rattle.sieve_check.specs.Rules as rules
use Rattle.filing_image.specs.Program.{Program}
use Rattle.filing_verify.specs.declared.fault.VerifyFault.{VerifyFault}
use Rattle.filing_verify.specs.declared.fault.VerifyFault.TheVariants.{NoMemory, Operand, Backward, Stack, RunsOff, Budget}
use Rattle.filing_verify.specs.Well.{IsWell, Fails, verify_number}
use Rattle.desk_commands.specs.Parts.{IsGood, IsGoodImage, IsImageOf, RefusesImage, RefusesScript}
use Rattle.promises.specs.Alike.{AreSameNumber}
use Rattle.promises.proofs.CitedLaws.{ProgramsAreOne, TextsAreOne}

-- ---- scripts

some_none : {A : Type 0} (x : A) → Some x ≡ None → ⊥
some_none x e = cc

pub some_is : {A : Type 0} (x y : A) → Some x ≡ Some y → x ≡ y
some_is x y e = cc

module _ (texts : TextsAreOne) where
  pub one_tree : (text : List ℕ) (t u : CommandTrees) → IsScript text t → IsScript text u → t ≡ u
  one_tree text t u h k = texts.at_most_one t u (sym h.0.2 ∙ ap kinds (texts.one_scan text h.0.0 k.0.0 h.0.1 k.0.1) ∙ k.0.2)

  pub one_script : (text : List ℕ) (t u : CommandTrees) → IsGood text t → IsGood text u → t ≡ u
  one_script text t u h k = one_tree text t u h.is_script k.is_script

  unexplained : (text : List ℕ) (t : CommandTrees) (r : TextRefusal) → IsScript text t → Explains text (Refused r 0) → ⊥
  unexplained text t (Scan r) h e = texts.no_both text h.0.0 r h.0.1 e
  unexplained text t Syntax h e = e.1 t h.0
  unexplained text t Nesting h e = e.1 t h

  pub script_or : (text : List ℕ) (t : CommandTrees) (n : ℕ) → IsGood text t → RefusesScript text n → ⊥
  script_or text t n h (inl k) = unexplained text t k.refusal h.is_script k.explains
  script_or text t n h (inr k) = some_none n (sym k.rule ∙ ap rules.refusal_of (one_tree text k.tree t k.is_script h.is_script) ∙ h.well_made)

  one_reason : (text : List ℕ) (r q : TextRefusal) → Explains text (Refused r 0) → Explains text (Refused q 0)
      → AreSameNumber (text_number r) (text_number q)
  one_reason text (Scan r) (Scan q) h k = inl (ap scan_number (texts.one_fault text r q h k))
  one_reason text (Scan r) Syntax h k = absurd (texts.no_both text k.0.0 r k.0.1 h)
  one_reason text (Scan r) Nesting h k = absurd (texts.no_both text k.0.0 r k.0.1 h)
  one_reason text Syntax (Scan q) h k = absurd (texts.no_both text h.0.0 q h.0.1 k)
  one_reason text Nesting (Scan q) h k = absurd (texts.no_both text h.0.0 q h.0.1 k)
  one_reason text Syntax Syntax h k = inl refl
  one_reason text Syntax Nesting h k = inr (inl refl, inr refl)
  one_reason text Nesting Syntax h k = inr (inr refl, inl refl)
  one_reason text Nesting Nesting h k = inl refl

  pub one_refusal : (text : List ℕ) (m n : ℕ) → RefusesScript text m → RefusesScript text n → AreSameNumber m n
  one_refusal text m n (inl h) (inl k) = rw (h.is_number, k.is_number) (one_reason text h.refusal k.refusal h.explains k.explains)
  one_refusal text m n (inl h) (inr k) = absurd (unexplained text k.tree h.refusal k.is_script h.explains)
  one_refusal text m n (inr h) (inl k) = absurd (unexplained text h.tree k.refusal h.is_script k.explains)
  one_refusal text m n (inr h) (inr k) =
      inl (some_is m n (sym h.rule ∙ ap rules.refusal_of (one_tree text h.tree k.tree h.is_script k.is_script)
      ∙ k.rule))

-- ---- images

well_fails : (p : Program) (f : VerifyFault) → IsWell p → Fails f p → verify_number f ≢ 99 → ⊥
well_fails p NoMemory w h e = e refl
well_fails p Operand w h e = h w.in_range
well_fails p Backward w h e = h.1 w.forward
well_fails p Stack w h e = h.2 w.shaped
well_fails p RunsOff w h e = h.3 w.inside
well_fails p Budget w h e = h.4 w.within

-- the first fault that holds is one alone
fails_once : (p : Program) (f g : VerifyFault) → Fails f p → Fails g p → verify_number f ≢ 99 → verify_number g ≢ 99
    → verify_number f ≡ verify_number g
fails_once p NoMemory g h k e d = absurd (e refl)
fails_once p Operand NoMemory h k e d = absurd (d refl)
fails_once p Operand Operand h k e d = refl
fails_once p Operand Backward h k e d = absurd (h k.0)
fails_once p Operand Stack h k e d = absurd (h k.0)
fails_once p Operand RunsOff h k e d = absurd (h k.0)
fails_once p Operand Budget h k e d = absurd (h k.0)
fails_once p Backward NoMemory h k e d = absurd (d refl)
fails_once p Backward Operand h k e d = absurd (k h.0)
fails_once p Backward Backward h k e d = refl
fails_once p Backward Stack h k e d = absurd (h.1 k.1)
fails_once p Backward RunsOff h k e d = absurd (h.1 k.1)
fails_once p Backward Budget h k e d = absurd (h.1 k.1)
fails_once p Stack NoMemory h k e d = absurd (d refl)
fails_once p Stack Operand h k e d = absurd (k h.0)
fails_once p Stack Backward h k e d = absurd (k.1 h.1)
fails_once p Stack Stack h k e d = refl
fails_once p Stack RunsOff h k e d = absurd (h.2 k.2)
fails_once p Stack Budget h k e d = absurd (h.2 k.2)
fails_once p RunsOff NoMemory h k e d = absurd (d refl)
fails_once p RunsOff Operand h k e d = absurd (k h.0)
fails_once p RunsOff Backward h k e d = absurd (k.1 h.1)
fails_once p RunsOff Stack h k e d = absurd (k.2 h.2)
fails_once p RunsOff RunsOff h k e d = refl
fails_once p RunsOff Budget h k e d = absurd (h.3 k.3)
fails_once p Budget NoMemory h k e d = absurd (d refl)
fails_once p Budget Operand h k e d = absurd (k h.0)
fails_once p Budget Backward h k e d = absurd (k.1 h.1)
fails_once p Budget Stack h k e d = absurd (k.2 h.2)
fails_once p Budget RunsOff h k e d = absurd (k.3 h.3)
fails_once p Budget Budget h k e d = refl

number_not : (a b : ℕ) → a ≡ b → a ≢ 99 → b ≢ 99
number_not a b e h x = h (e ∙ x)

module _ (one_start : ProgramsAreOne) where
  pub one_image : (octets : List ℕ) (p q : Program) → IsImageOf octets p → IsImageOf octets q → p ≡ q
  one_image octets p q h k = (one_start p q [] [] h.fits k.fits (append-nil _ ∙ sym h.spells ∙ k.spells ∙ sym (append-nil _))).0

  pub image_or : (octets : List ℕ) (p : Program) (n : ℕ) → IsGoodImage octets p → RefusesImage octets n → n ≢ 99 → ⊥
  image_or octets p n h (inl k) e = omega (arith, h.is_image.short, k.long)
  image_or octets p n h (inr (inl k)) e = k.no_image p h.is_image.fits h.is_image.spells
  image_or octets p n h (inr (inr k)) e =
      well_fails k.program k.fault (subst IsWell (one_image octets p k.program h.is_image k.is_image) h.well) k.fails
      (number_not n _ k.is_number e)

  pub one_image_refusal : (octets : List ℕ) (m n : ℕ) → RefusesImage octets m → RefusesImage octets n → m ≢ 99 → n ≢ 99 → m ≡ n
  one_image_refusal octets m n (inl h) (inl k) d e = h.is_number ∙ sym k.is_number
  one_image_refusal octets m n (inl h) (inr (inl k)) d e = absurd (omega (arith, h.long, k.short))
  one_image_refusal octets m n (inl h) (inr (inr k)) d e = absurd (omega (arith, h.long, k.is_image.short))
  one_image_refusal octets m n (inr (inl h)) (inl k) d e = absurd (omega (arith, k.long, h.short))
  one_image_refusal octets m n (inr (inr h)) (inl k) d e = absurd (omega (arith, k.long, h.is_image.short))
  one_image_refusal octets m n (inr (inl h)) (inr (inl k)) d e = h.is_number ∙ sym k.is_number
  one_image_refusal octets m n (inr (inl h)) (inr (inr k)) d e = absurd (h.no_image k.program k.is_image.fits k.is_image.spells)
  one_image_refusal octets m n (inr (inr h)) (inr (inl k)) d e = absurd (k.no_image h.program h.is_image.fits h.is_image.spells)
  one_image_refusal octets m n (inr (inr h)) (inr (inr k)) d e =
      let F : Program → Type 0 = Fails h.fault in
      h.is_number ∙
      fails_once k.program h.fault k.fault (subst F (one_image octets h.program k.program h.is_image k.is_image)
      h.fails) k.fails (number_not m _ h.is_number d) (number_not n _ k.is_number e) ∙ sym k.is_number
