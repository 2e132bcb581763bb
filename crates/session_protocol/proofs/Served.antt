-- How far a session has come.
use Rattle.std.proofs.Common.{◌≡◌, ◌<◌, ◌≤◌, ◌+◌, ◌-◌, ◌++◌, ◌∷◌, [], ℕ, zero, suc, List, length, take, true, false, refl, arith, ap}
use Rattle.std.proofs.Common.{◌∙◌, sym, subst, append_assoc, length-append, inl, inr, Result, Ok, Err}
use Rattle.std.specs.Prelude.{OnOk, IsErrOf}
use Rattle.std.specs.Result.{is_err}
use Rattle.std.proofs.lemmas.List.{append-nil}
use Rattle.std.proofs.Math.Seq.{take-append_seam}
use Rattle.std.proofs.lemmas.Grind.{flat_map-append}
use Rattle.session_protocol.specs.Streams.{IsAfter}
use Rattle.session_protocol.specs.Written.{Writes}
use Rattle.desk_commands.specs.Answers.{Answer}
use Rattle.desk_commands.specs.Standing.{Command}
use Rattle.session_protocol.specs.Session.{Item, Got, Stop, start_of, Session, go_on, session_of, ending_octets}
use Rattle.session_protocol.specs.Session.{answers_octets, ItemStep, Run, IsServed, IsAnswered, IsCutInAnswer}
use Rattle.session_protocol.specs.Session.{IsCutInEnding}
use Rattle.session_protocol.specs.Replies.{reply_octets}
use Rattle.session_protocol.specs.Done.{HasDone, Hears, Says}
use Rattle.session_protocol.specs.declared.session.ServeFault.{ServeFault}
use Rattle.session_protocol.specs.declared.session.ServeFault.TheVariants.{Read, Write}
use Rattle.session_protocol.specs.declared.stream.WriteFault.{WriteFault}
use Rattle.session_protocol.specs.declared.items.SessionEnd.{SessionEnd}
use Rattle.session_protocol.specs.declared.items.SessionEnd.TheVariants.{Limit}
use Rattle.session_protocol.proofs.Pieces.{written_ok, written_fault}

-- a session with some items before its own
abbrev pub before : List Item → Session → Session
before items s = record { items = items ++ s.items; ending = s.ending }

-- after this number of items, what is left ends the session
abbrev pub IsOver : (count : ℕ) (left : List ℕ) → SessionEnd → Type 0
IsOver count left e = session_of (1000000 - count) left ≡ record { items = []; ending = e }

session_more : (n : ℕ) (left : List ℕ) → session_of (suc n) left ≡ go_on (start_of left) (λ rest. session_of n rest)
unfolding session_of
session_more n left = refl

session_over : (left : List ℕ) → session_of zero left ≡ record { items = []; ending = Limit }
unfolding session_of
session_over left = refl

pub one_less : (i : ℕ) → i < 1000000 → 1000000 - i ≡ suc (1000000 - (i + 1))
one_less i h = omega arith

pub none_left : (i : ℕ) → 1000000 ≤ i → 1000000 - i ≡ 0
none_left i h = omega arith

session_next : (i : ℕ) (left : List ℕ) → i < 1000000
    → session_of (1000000 - i) left ≡ go_on (start_of left) (λ rest. session_of (1000000 - (i + 1)) rest)
session_next i left h = ap (λ n. session_of n left) (one_less i h) ∙ session_more (1000000 - (i + 1)) left

pub limit_ends : (i : ℕ) (left : List ℕ) → 1000000 ≤ i → IsOver i left Limit
limit_ends i left h = ap (λ n. session_of n left) (none_left i h) ∙ session_over left

pub stop_ends : (i : ℕ) (left rest : List ℕ) (e : SessionEnd) → i < 1000000 → start_of left ≡ Stop e rest → IsOver i left e
stop_ends i left rest e h is = session_next i left h ∙ ap (λ x. go_on x (λ y. session_of (1000000 - (i + 1)) y)) is

rest_more : (i : ℕ) (all : Session) (items : List Item) (left : List ℕ) (item : Item) (rest : List ℕ) → i < 1000000
    → all ≡ before items (session_of (1000000 - i) left) → start_of left ≡ Got item rest
    → all ≡ before (items ++ item ∷ []) (session_of (1000000 - (i + 1)) rest)
rest_more i all items left item rest h so_far e =
    let next : Session = session_of (1000000 - (i + 1)) rest in
    so_far ∙ ap (before items) (session_next i left h ∙ ap (λ x. go_on x (λ y. session_of (1000000 - (i + 1)) y)) e)
    ∙ ap (λ x. record { items = x; ending = next.ending }) (sym (append_assoc items (item ∷ []) next.items))

said_more : (w₀ w w' : List ℕ) (answers : List Answer) (r : Answer) → w ≡ w₀ ++ answers_octets answers → w' ≡ w
    ++ reply_octets r → w' ≡ w₀ ++ answers_octets (answers ++ r ∷ [])
said_more w₀ w w' answers r so_far ew =
    ew ∙ ap (λ x. x ++ reply_octets r) so_far ∙ append_assoc w₀ (answers_octets answers) (reply_octets r)
    ∙ ap (λ x. w₀ ++ x) (sym (flat_map-append reply_octets answers (r ∷ [])
    ∙ ap (λ x. answers_octets answers ++ x) (append-nil (reply_octets r))))

first_items : (n : ℕ) (all : Session) (items : List Item) (left : List ℕ) → all ≡ before items (session_of n left)
    → items ≡ take (length items) all.items
first_items n all items left e = sym (ap (λ x. take (length items) x.items) e ∙ take-append_seam items (session_of n left).items)

all_ends : (n : ℕ) (all : Session) (items : List Item) (left : List ℕ) (e : SessionEnd) → all ≡ before items (session_of n left)
    → session_of n left ≡ record { items = []; ending = e } → all ≡ record { items = items; ending = e }
all_ends n all items left e heard stop = heard ∙ ap (before items) stop ∙ ap (λ x. record { items = x; ending = e }) (append-nil items)

hears_first : {S : Type 0} (f : ServeFault) (n : ℕ) (all : Session) (items : List Item) (left : List ℕ)
    → (S → all ≡ before items (session_of n left)) → S → Hears (Err f) all items
hears_first f n all items left heard t = (length items, first_items n all items left (heard t))

hears_all : {S : Type 0} (r : Result (Unit {0}) ServeFault) (n : ℕ) (all : Session) (items : List Item)
    (left : List ℕ) (e : SessionEnd) → (S → all ≡ before items (session_of n left))
    → (S → session_of n left ≡ record { items = []; ending = e }) → S → Hears r all items
hears_all (Ok x) n all items left e heard stop t = sym (ap (λ x. x.items) (all_ends n all items left e (heard t) (stop t)))
hears_all (Err f) n all items left e heard stop t = hears_first f n all items left heard t

-- a part of these octets after what was said before
part_said : (said w octets w' : List ℕ) → w ≡ said → IsAfter w octets w' → IsAfter said octets w'
part_said said w octets w' e b = (b.0, b.1 ∙ ap (λ x. x ++ take b.0 octets) e)

says_end : (r : Result (Unit {0}) ServeFault) (w₀ w w' : List ℕ) (answers : List Answer) (e : SessionEnd)
    → (r ≡ Err Read → ⊥) → w ≡ w₀ ++ answers_octets answers → Writes r w (ending_octets e) w' → Says r w₀ answers w'
says_end (Ok x) w₀ w w' answers e none so_far wrote = (e, wrote ∙ ap (λ x. x ++ ending_octets e) so_far)
says_end (Err Read) w₀ w w' answers e none so_far wrote = absurd (none refl)
says_end (Err Write) w₀ w w' answers e none so_far wrote = inr (e, part_said _ w (ending_octets e) w' so_far wrote)

ok_no_err : {E : Type 0} (x : Unit {0}) (f : E) → Ok x ≡ Err f → ⊥
ok_no_err x f h = cc

module _ {D : Type 0} (Does : D → Command → Answer → D → Type 0) where
  -- A number of items were done, and answered where the sink knows its octets. Where the source does, they are
  -- the first of the session, and what is left has the further ones.
  pub record Doing (source_tells sink_tells : Type 0) (count : ℕ) (all : Session) (s₀ : D) (w₀ left : List ℕ) (s : D) (w : List ℕ) : Type 0 where
    pub items : List Item
    pub answers : List Answer
    pub run : Run Does s₀ items answers s
    pub few : length items ≤ count
    pub heard : source_tells → all ≡ before items (session_of (1000000 - count) left)
    pub said : sink_tells → w ≡ w₀ ++ answers_octets answers

  run_more : (s₀ s s' : D) (items : List Item) (answers : List Answer) (i : Item) (r : Answer)
      → Run Does s₀ items answers s → ItemStep Does s i r s' → Run Does s₀ (items ++ i ∷ []) (answers ++ r ∷ []) s'
  run_more s₀ s s' [] [] i r run step = let P : D → Type 0 = λ x. ItemStep Does x i r s' in (s', subst P run step, refl)
  run_more s₀ s s' (j ∷ items) (q ∷ answers) i r run step = (run.0, run.1, run_more run.0 s s' items answers i r run.2 step)
  run_more s₀ s s' [] (q ∷ answers) i r run step = absurd run
  run_more s₀ s s' (j ∷ items) [] i r run step = absurd run

module _ {D : Type 0} {Does : D → Command → Answer → D → Type 0} {S K : Type 0} {count : ℕ} {all : Session} {s₀ : D}
    {w₀ left : List ℕ} {s : D} {w : List ℕ} (h : Doing Does S K count all s₀ w₀ left s w) where
  -- an item more
  pub do_more : (item : Item) (r : Answer) (rest : List ℕ) (s' : D) (w' : List ℕ) (wrote : Result (Unit {0}) WriteFault)
      → count < 1000000 → ItemStep Does s item r s' → (S → start_of left ≡ Got item rest)
      → (K → Writes wrote w (reply_octets r) w') → is_err wrote ≡ false → Doing Does S K (count + 1) all s₀ w₀ rest s' w'
  do_more item r rest s' w' wrote few step hears says ok = record {
    items = h.items ++ item ∷ [];
    answers = h.answers ++ r ∷ [];
    run = run_more Does s₀ s s' h.items h.answers item r h.run step;
    few = omega (arith, length-append h.items (item ∷ []), h.few);
    heard = λ t. rest_more count all h.items left item rest few (h.heard t) (hears t);
    said = λ k. said_more w₀ w w' h.answers r (h.said k) (written_ok wrote w (reply_octets r) w' (says k) ok);
  }

  -- a read fault
  pub done_unheard : count ≤ 1000000
      → HasDone Does (λ items. S → Hears (Err Read) all items) (λ answers. K → Says (Err Read) w₀ answers w) s₀ s
  done_unheard few = record {
    items = h.items;
    answers = h.answers;
    run = h.run;
    few = omega (arith, h.few, few);
    heard = hears_first Read (1000000 - count) all h.items left h.heard;
    said = h.said;
  }

  pub answered_now : S → K → IsAnswered Does all s₀ w₀ w s
  answered_now t k =
      let P : List Item → Type 0 = λ x. Run Does s₀ x h.answers s in
      (length h.items, h.answers, subst P (first_items (1000000 - count) all h.items left (h.heard t)) h.run, h.said k)

  -- a write fault in an answer
  pub done_unsaid : (item : Item) (r : Answer) (rest : List ℕ) (s' : D) (w' : List ℕ) (wrote : Result (Unit {0}) WriteFault)
      → count < 1000000 → ItemStep Does s item r s' → (S → start_of left ≡ Got item rest)
      → (K → Writes wrote w (reply_octets r) w') → is_err wrote ≡ true → HasDone Does (λ items. S
      → Hears (Err Write) all items) (λ answers. K → Says (Err Write) w₀ answers w') s₀ s'
  done_unsaid item r rest s' w' wrote few step hears says failed = record {
    items = h.items ++ item ∷ [];
    answers = h.answers ++ r ∷ [];
    run = run_more Does s₀ s s' h.items h.answers item r h.run step;
    few = omega (arith, length-append h.items (item ∷ []), h.few, few);
    heard = hears_first Write (1000000 - (count + 1)) all (h.items ++ item ∷ []) rest
        (λ t. rest_more count all h.items left item rest few (h.heard t) (hears t));
    said = λ k. inl (h.answers, r, refl, part_said _ w (reply_octets r) w' (h.said k) (written_fault wrote w (reply_octets r) w' (says k) failed));
  }

  pub cut_in_answer : (item : Item) (r : Answer) (rest : List ℕ) (s' : D) (w' : List ℕ) (wrote : Result (Unit {0}) WriteFault)
      → count < 1000000 → ItemStep Does s item r s' → (S → start_of left ≡ Got item rest)
      → (K → Writes wrote w (reply_octets r) w') → is_err wrote ≡ true → S → K → IsCutInAnswer Does all s₀ w₀ w' s'
  cut_in_answer item r rest s' w' wrote few step hears says failed t k =
      let items : List Item = h.items ++ item ∷ [] in
      let P : List Item → Type 0 = λ x. Run Does s₀ x (h.answers ++ r ∷ []) s' in
      let heard = rest_more count all h.items left item rest few (h.heard t) (hears t) in (
        length items,
        h.answers,
        r,
        subst P (first_items (1000000 - (count + 1)) all items rest heard) (run_more Does s₀ s s' h.items h.answers item r h.run step),
        part_said _ w (reply_octets r) w' (h.said k) (written_fault wrote w (reply_octets r) w' (says k) failed),
      )

  -- the end of the session
  pub done_all : (wrote : Result (Unit {0}) ServeFault) (e : SessionEnd) (w' : List ℕ) → count ≤ 1000000
      → (S → IsOver count left e) → (wrote ≡ Err Read → ⊥) → (K → Writes wrote w (ending_octets e) w')
      → HasDone Does (λ items. S → Hears wrote all items) (λ answers. K → Says wrote w₀ answers w') s₀ s
  done_all wrote e w' few stop none says = record {
    items = h.items;
    answers = h.answers;
    run = h.run;
    few = omega (arith, h.few, few);
    heard = hears_all wrote (1000000 - count) all h.items left e h.heard stop;
    said = λ k. says_end wrote w₀ w w' h.answers e none (h.said k) (says k);
  }

  pub all_told : (e : SessionEnd) → IsOver count left e → S → all ≡ record { items = h.items; ending = e }
  all_told e stop t = all_ends (1000000 - count) all h.items left e (h.heard t) stop

  pub ended_ok : {E : Type 0} (wrote : Result (Unit {0}) E) (e : SessionEnd) (w' : List ℕ) → IsOver count left e
      → Writes wrote w (ending_octets e) w' → S → K → OnOk wrote (IsServed Does all s₀ w₀ w' s)
  ended_ok (Ok x) e w' stop says t k = rw (all_told e stop t) (h.answers, h.run, says ∙ ap (λ x. x ++ ending_octets e) (h.said k))
  ended_ok (Err x) e w' stop says t k = tt

  pub ended_cut : {E : Type 0} (wrote : Result (Unit {0}) E) (f : E) (e : SessionEnd) (w' : List ℕ) → IsOver count left e
      → Writes wrote w (ending_octets e) w' → S → K → IsErrOf wrote f → IsCutInEnding Does all s₀ w₀ w' s
  ended_cut (Err x) f e w' stop says t k is = rw (all_told e stop t) (h.answers, h.run, part_said _ w (ending_octets e) w' (h.said k) says)
  ended_cut (Ok x) f e w' stop says t k is = absurd (ok_no_err x f is)
