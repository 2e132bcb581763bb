-- The tokens of a script and its refusal, by the grammar and as they are read.
use Rattle.std.proofs.Common.{◌≡◌, ℕ, ◌+◌, ◌<◌, ◌≤◌, List, [], ◌∷◌, ◌++◌, length, drop, Option, Some, None, Result, Ok}
use Rattle.std.proofs.Common.{Err, refl, sym, ap, subst, ◌∙◌, arith, inl, inr, length-append}
use Rattle.std.specs.Prelude.{◌↔◌}
use Rattle.std.proofs.lemmas.Bool.{cases_lt, lt-ltb, le-ltb}
use Rattle.std.proofs.lemmas.List.{append-nil, length-drop}
use Rattle.sieve_syntax.specs.declared.token.Token.{Token}
use Rattle.sieve_syntax.specs.declared.token.TokenKind.{TokenKind}
use Rattle.sieve_text.specs.declared.fault.ScanRefusal.{ScanRefusal}
use Rattle.sieve_text.specs.declared.fault.ScanRefusal.TheVariants.{NotUtf8, NoToken, StringNotClosed, CommentNotClosed}
use Rattle.sieve_text.specs.declared.fault.ScanRefusal.TheVariants.{NumberTooLarge, ScriptTooLong, StringTooLong}
use Rattle.sieve_text.specs.declared.fault.ScanFault.TheVariants.{Refused}
use Rattle.sieve_text.specs.Octets.{stray_len}
use Rattle.sieve_text.specs.Gaps.{gap_len}
use Rattle.sieve_text.specs.Tokens.{kind_at, token_at, Reads, IsSound, IsScan, IsFaulty, StandsIn, either_place, text_len, fault_place}
use Rattle.sieve_text.specs.TokenGrammar.{Gap, IsFirst, IsCut, IsFront}
use Rattle.sieve_text.specs.FaultGrammar.{IsFaultHere, IsFaultAt, IsText, IsRefusedAt}
use Rattle.sieve_text.proofs.CutLemmas.{cut_from, token_cut}
use Rattle.sieve_text.proofs.FaultFound.{fault_found, fault_gap, fault_some, lexeme_gap}
use Rattle.sieve_text.proofs.FaultKind.{kind_refused, no_answer}
use Rattle.sieve_text.proofs.GapFound.{gap_found}
use Rattle.sieve_text.proofs.GapGrammar.{gap_sound, dropped}
use Rattle.sieve_text.proofs.GapLemmas.{drop_more, gap_nothing}
use Rattle.sieve_text.proofs.KindFound.{kind_found}
use Rattle.sieve_text.proofs.StrayGrammar.{clean_whole, whole_clean, stray_at, at_stray}
use Rattle.sieve_text.proofs.WithinLemmas.{kind_within, token_within}

token_is : (script : List ℕ) (at : ℕ) (k : TokenKind × ℕ) → at + gap_len 0 (drop at script) < length script
    → kind_at (drop (at + gap_len 0 (drop at script)) script) ≡ Ok k
    → token_at script at
    ≡ Ok (Some (record {
      kind = k.0;
      start = at + gap_len 0 (drop at script);
      end =
          at + gap_len 0 (drop at script) + k.1;
    }))
unfolding token_at
token_is script at k lt e = rw (lt-ltb (at + gap_len 0 (drop at script)) (length script) lt, e) refl

token_none : (script : List ℕ) (at : ℕ) → length script ≤ at + gap_len 0 (drop at script) → token_at script at ≡ Ok None
unfolding token_at
token_none script at h = rw (le-ltb (at + gap_len 0 (drop at script)) (length script) h) refl

token_refused : (script : List ℕ) (at : ℕ) (r : ScanRefusal) → at + gap_len 0 (drop at script) < length script
    → kind_at (drop (at + gap_len 0 (drop at script)) script) ≡ Err r → token_at script at ≡ Err r
unfolding token_at
token_refused script at r lt e = rw (lt-ltb (at + gap_len 0 (drop at script)) (length script) lt, e) refl

same_token : (t : Token) (k : TokenKind) (start end : ℕ) → t.kind ≡ k → t.start ≡ start → t.end ≡ end
    → record { kind = k; start = start; end = end } ≡ t
same_token t k start end a b c = let e : (k, start, end) ≡ (t.kind, t.start, t.end) = cc in
    ap (λ (x : TokenKind × ℕ × ℕ). let u : Token = record { kind = x.0; start = x.1; end = x.2 } in u) e

-- where what follows a gap begins
at_gap : (script : List ℕ) (at : ℕ) (gap rest : List ℕ) → drop at script ≡ gap ++ rest → Gap gap rest
    → gap_len 0 rest ≡ 0 → (gap_len 0 (drop at script) ≡ length gap)
    × (drop (at + gap_len 0 (drop at script)) script ≡ rest)
at_gap script at gap rest cut g none =
    let n : gap_len 0 (drop at script) ≡ length gap = ap (λ (cs : List ℕ). gap_len 0 cs) cut ∙ gap_found gap rest g none in
    (n, drop_more at (gap_len 0 (drop at script)) script ∙ dropped (drop at script) gap rest cut (gap_len 0 (drop at script)) (sym n))

-- a token by the grammar is read
pub record IsNext (script : List ℕ) (at : ℕ) (t : Token) (following : List ℕ) : Type 0 where
  pub read : token_at script at ≡ Ok (Some t)
  pub left : drop t.end script ≡ following
  pub within : t.end ≤ length script

token_next : (script : List ℕ) (at : ℕ) (t : Token) (following : List ℕ) → at ≤ length script
    → IsFirst at (drop at script) t following → IsNext script at t following
token_next script at t following within h =
    let g = at_gap script at h.gap (h.octets ++ following) h.cut h.gap_is (lexeme_gap t.kind h.octets following h.token.spelled) in
    let start : ℕ = at + gap_len 0 (drop at script) in
    let found = kind_found t.kind h.octets following h.token in
    let some = kind_within (h.octets ++ following) (t.kind, length h.octets) found in
    let d = ap length h.cut ∙ length-append h.gap (h.octets ++ following) in
    let l = length-append h.octets following in
    let m = length-drop at script in
    let at_start : t.start ≡ start = h.start ∙ ap (λ n. at + n) (sym g.0) in
    let at_end : t.end ≡ start + length h.octets = h.end ∙ ap (λ n. n + length h.octets) at_start in
    let s = h.start in
    let e = h.end in
    record {
      read = token_is script at (t.kind, length h.octets) (omega arith) (ap kind_at g.1 ∙ found)
          ∙ ap (λ (u : Token). Ok (Some u)) (same_token t t.kind start (start + length h.octets) refl at_start at_end);
      left = ap (λ n. drop n script) at_end ∙ drop_more start (length h.octets) script
          ∙ dropped (drop start script) h.octets following g.1 (length h.octets) refl;
      within = omega arith;
    }

-- tokens by the grammar are read up to the end
cut_reads : (script : List ℕ) (at : ℕ) (ts : List Token) → at ≤ length script → IsCut at (drop at script) ts → (end : ℕ)
    × Reads script at ts end × (token_at script end ≡ Ok None)
cut_reads script at [] within h =
    let g = at_gap script at (drop at script) [] (sym (append-nil (drop at script))) h nothing in
    let d = length-drop at script in
    (at, refl, token_none script at (omega (arith, g.0)))
  where
    nothing : gap_len 0 [] ≡ 0
    nothing = gap_nothing [] refl
cut_reads script at (t ∷ ts) within h =
    let n = token_next script at t h.0 within h.1 in
    let r = cut_reads script t.end ts n.within (subst (λ (cs : List ℕ). IsCut t.end cs ts) (sym n.left) h.2) in
    (r.0, (n.read, r.1), r.2)

-- a front of tokens is read, and is what was read
front_reads : (script : List ℕ) (at : ℕ) (ts : List Token) (end : ℕ) (rest : List ℕ) → at ≤ length script
    → IsFront at (drop at script) ts end rest → Reads script at ts end × (drop end script ≡ rest)
    × (end ≤ length script)
front_reads script at [] end rest within h = (h.0, ap (λ n. drop n script) (sym h.0) ∙ h.1, omega (arith, h.0))
front_reads script at (t ∷ ts) end rest within h =
    let n = token_next script at t h.0 within h.1 in
    let r = front_reads script t.end ts end rest n.within (subst (λ (cs : List ℕ). IsFront t.end cs ts end rest) (sym n.left) h.2) in
    ((n.read, r.0), r.1, r.2)

reads_front : (script : List ℕ) (at : ℕ) (ts : List Token) (end : ℕ) → at ≤ length script → Reads script at ts end
    → IsFront at (drop at script) ts end (drop end script) × (end ≤ length script)
reads_front script at [] end within h = ((h, ap (λ n. drop n script) h), omega (arith, h))
reads_front script at (t ∷ ts) end within h =
    let w = token_within script at t within h.0 in
    let r = reads_front script t.end ts end w.2 h.1 in
    ((drop t.end script, token_cut script at t h.0, r.0), r.1)

-- places of refusals
shifted : (start n : ℕ) (r : ScanRefusal) → either_place start (start + n) r ≡ start + either_place 0 n r
shifted start n NoToken = refl
shifted start n NotUtf8 = omega arith
shifted start n StringNotClosed = omega arith
shifted start n CommentNotClosed = omega arith
shifted start n NumberTooLarge = omega arith
shifted start n ScriptTooLong = omega arith
shifted start n StringTooLong = omega arith

-- what is read where a refusal is given
pub record IsRefusalAt (script : List ℕ) (at : ℕ) (r : ScanRefusal) : Type 0 where
  pub some : at + gap_len 0 (drop at script) < length script
  pub refused : kind_at (drop (at + gap_len 0 (drop at script)) script) ≡ Err r

refusal_parts : (script : List ℕ) (at : ℕ) (r : ScanRefusal) → token_at script at ≡ Err r → IsRefusalAt script at r
refusal_parts script at r e = elim (cases_lt (at + gap_len 0 (drop at script)) (length script)) [
  | inl lt ↦ record { some = lt; refused = answer (kind_at (drop (at + gap_len 0 (drop at script)) script)) refl lt }
  | inr none ↦ absurd (no_answer None r (sym (token_none script at none) ∙ e))
]
  where
    errors : (q : ScanRefusal) → ◌≡◌ {A = Result (Option Token) ScanRefusal} (Err q) (Err r)
        → ◌≡◌ {A = Result (TokenKind × ℕ) ScanRefusal} (Err q) (Err r)
    errors q e = cc

    answer : (x : Result (TokenKind × ℕ) ScanRefusal) → kind_at (drop (at + gap_len 0 (drop at script)) script) ≡ x
        → at + gap_len 0 (drop at script) < length script → kind_at (drop (at + gap_len 0 (drop at script)) script)
        ≡ Err r
    answer (Ok k) is lt =
        absurd (no_answer (Some (record {
          kind = k.0;
          start = at + gap_len 0 (drop at script);
          end =
              at + gap_len 0 (drop at script) + k.1;
        })) r (sym (token_is script at k lt is) ∙ e))
    answer (Err q) is lt = is ∙ errors q (sym (token_refused script at q lt is) ∙ e)

-- why a text is no sequence of tokens, and where, as it is read
abbrev pub IsReadFault : List ℕ → ScanRefusal → ℕ → Type 0
IsReadFault script r place = (ts : List Token) × (end : ℕ) × Reads script 0 ts end × (token_at script end ≡ Err r)
    × (place ≡ fault_place script end r)

fault_here : (bs : List ℕ) (r : ScanRefusal) → 0 < length bs → kind_at bs ≡ Err r → gap_len 0 bs ≡ 0
    → IsFaultHere r (either_place 0 (text_len bs) r) bs
fault_here [] r some e g = absurd (omega arith)
fault_here (b ∷ bs) r some e g = kind_refused b bs r e g

read_fault : (script : List ℕ) (r : ScanRefusal) (place : ℕ) → IsReadFault script r place → IsFaultAt script r place
read_fault script r place h =
    let end : ℕ = h.1 in
    let f = reads_front script 0 h.0 end (omega arith) h.2 in
    let p = refusal_parts script end r h.3 in
    let g = gap_sound (drop end script) in
    let start : ℕ = end + gap_len 0 (drop end script) in
    let faulty : drop start script ≡ g.rest = drop_more end (gap_len 0 (drop end script)) script
    ∙ dropped (drop end script) g.gap g.rest g.cut (gap_len 0 (drop end script)) g.long in
    let d = length-drop start script in
    let s = p.some in
    let some = ap length faulty in
    record {
      tokens = h.0;
      end = end;
      rest = drop end script;
      front = f.0;
      gap = g.gap;
      faulty = g.rest;
      cut = g.cut;
      gap_is = g.gap_is;
      before = either_place 0 (text_len g.rest) r;
      fault = fault_here g.rest r (omega arith) (sym (ap kind_at faulty) ∙ p.refused) g.stops;
      place_is = h.4 ∙ shifted start (text_len (drop start script)) r
          ∙ ap (λ (cs : List ℕ). start + either_place 0 (text_len cs) r) faulty
          ∙ ap (λ n. end + n + either_place 0 (text_len g.rest) r) (sym g.long);
    }

fault_read : (script : List ℕ) (r : ScanRefusal) (place : ℕ) → IsFaultAt script r place → IsReadFault script r place
fault_read script r place h =
    let f = front_reads script 0 h.tokens h.end h.rest (omega arith) h.front in
    let g = at_gap script h.end h.gap h.faulty (f.1 ∙ h.cut) h.gap_is (fault_gap r h.before h.faulty h.fault) in
    let q = fault_found r h.before h.faulty h.fault in
    let start : ℕ = h.end + gap_len 0 (drop h.end script) in
    let d = length-drop start script in
    let some = fault_some r h.before h.faulty h.fault in
    let n = ap length g.1 in
    let at_fault : fault_place script h.end r ≡ place = shifted start (text_len (drop start script)) r
    ∙ ap (λ (cs : List ℕ). start + either_place 0 (text_len cs) r) g.1 ∙ ap (λ m. start + m) q.1
    ∙ ap (λ m. h.end + m + h.before) g.0 ∙ sym h.place_is in
    (h.tokens, h.end, f.0, token_refused script h.end r (omega arith) (ap kind_at g.1 ∙ q.0), sym at_fault)

-- LAWS

sound_text : (script : List ℕ) → IsSound script → IsText script
sound_text script h = (h.0, h.1, clean_whole script h.2)

text_sound : (script : List ℕ) → IsText script → IsSound script
text_sound script h = (h.0, h.1, whole_clean script h.2)

pub tokens_law : (script : List ℕ) (ts : List Token) → IsScan script ts ↔ (IsText script × IsCut 0 script ts)
tokens_law script ts = (
  λ h. (sound_text script h.0, cut_from script 0 ts h.1.0 h.1.1 h.1.2),
  λ h.
      (text_sound script h.0, cut_reads script 0 ts (omega arith) h.1),
)

to_fault : (script : List ℕ) (r : ScanRefusal) (place : ℕ) → IsSound script × IsReadFault script r place → IsText script × IsFaultAt script r place
to_fault script r place h = (sound_text script h.0, read_fault script r place h.1)

from_fault : (script : List ℕ) (r : ScanRefusal) (place : ℕ) → IsText script × IsFaultAt script r place → IsSound script × IsReadFault script r place
from_fault script r place h = (text_sound script h.0, fault_read script r place h.1)

no_read_fault : (script : List ℕ) (place : ℕ) (A : Type 0) → IsReadFault script ScriptTooLong place → A
no_read_fault script place A h = absurd (read_fault script ScriptTooLong place h).fault

no_read_utf8 : (script : List ℕ) (place : ℕ) (A : Type 0) → IsReadFault script NotUtf8 place → A
no_read_utf8 script place A h = absurd (read_fault script NotUtf8 place h).fault

refused_one : (script : List ℕ) (r : ScanRefusal) (place : ℕ) → StandsIn script (Refused r place) → IsRefusedAt script r place
refused_one script ScriptTooLong place (inl h) = h
refused_one script ScriptTooLong place (inr h) = no_read_fault script place _ h.1
refused_one script NotUtf8 place (inl h) = (h.0.0, h.0.1, h.1)
refused_one script NotUtf8 place (inr h) = no_read_utf8 script place _ h.1
refused_one script NoToken place (inl h) = inl (h.0.0, h.0.1, rw h.1 (stray_at script h.0.2))
refused_one script NoToken place (inr h) = inr (to_fault script NoToken place h)
refused_one script StringNotClosed place (inl h) = absurd h.0
refused_one script StringNotClosed place (inr h) = to_fault script StringNotClosed place h
refused_one script CommentNotClosed place (inl h) = absurd h.0
refused_one script CommentNotClosed place (inr h) = to_fault script CommentNotClosed place h
refused_one script NumberTooLarge place (inl h) = absurd h.0
refused_one script NumberTooLarge place (inr h) = to_fault script NumberTooLarge place h
refused_one script StringTooLong place (inl h) = absurd h.0
refused_one script StringTooLong place (inr h) = to_fault script StringTooLong place h

refused_back : (script : List ℕ) (r : ScanRefusal) (place : ℕ) → IsRefusedAt script r place → StandsIn script (Refused r place)
refused_back script ScriptTooLong place h = inl h
refused_back script NotUtf8 place h = inl ((h.0, h.1), h.2)
refused_back script NoToken place (inl h) = let s = at_stray script place h.2 in inl ((h.0, h.1, s.0), s.1)
refused_back script NoToken place (inr h) = inr (from_fault script NoToken place h)
refused_back script StringNotClosed place h = inr (from_fault script StringNotClosed place h)
refused_back script CommentNotClosed place h = inr (from_fault script CommentNotClosed place h)
refused_back script NumberTooLarge place h = inr (from_fault script NumberTooLarge place h)
refused_back script StringTooLong place h = inr (from_fault script StringTooLong place h)

pub refusals_law : (script : List ℕ) (r : ScanRefusal) (place : ℕ) → StandsIn script (Refused r place) ↔ IsRefusedAt script r place
refusals_law script r place = (refused_one script r place, refused_back script r place)

faulty_at : (script : List ℕ) (r : ScanRefusal) → IsFaulty script r → (place : ℕ) × StandsIn script (Refused r place)
faulty_at script r (inl h) = (either_place 0 (stray_len script) r, inl (h, refl))
faulty_at script r (inr h) = (fault_place script h.1.1 r, inr (h.0, (h.1.0, h.1.1, h.1.2, h.1.3, refl)))

at_faulty : (script : List ℕ) (r : ScanRefusal) (place : ℕ) → StandsIn script (Refused r place) → IsFaulty script r
at_faulty script r place (inl h) = inl h.0
at_faulty script r place (inr h) = inr (h.0, (h.1.0, h.1.1, h.1.2, h.1.3))

pub faults_law : (script : List ℕ) (r : ScanRefusal) → IsFaulty script r ↔ ((place : ℕ) × IsRefusedAt script r place)
faults_law script r = (
  λ h. (let f = faulty_at script r h in (f.0, refused_one script r f.0 f.1)),
  λ h.
      at_faulty script r h.0 (refused_back script r h.0 h.1),
)
