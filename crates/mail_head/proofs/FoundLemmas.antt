-- The first field of a text, and where the fields of a header begin.
use Rattle.std.proofs.Common.{◌≡◌, ℕ, ◌+◌, ◌-◌, ◌<◌, ◌≤◌, List, [], ◌∷◌, ◌++◌, length, take, drop, map, refl, sym, ap}
use Rattle.std.proofs.Common.{◌∙◌, arith, Some, None, append_assoc}
use Rattle.std.proofs.lemmas.List.{append-nil, length-append, length-map, length-drop, drop-drop, map-append}
use Rattle.std.proofs.lemmas.List.Elements.{All-push}
use Rattle.std.specs.Prelude.{slice_index_or}
use Rattle.std.specs.List.{All}
use Rattle.mail_head.specs.declared.reading.FoundField.{FoundField}
use Rattle.mail_head.specs.Lines.{header_of, logical_lines}
use Rattle.mail_head.specs.Fields.{field_of, fields_of}
use Rattle.mail_head.specs.FirstField.{IsFirstField}
use Rattle.mail_head.specs.Starts.{field_from, IsFieldStart}
use Rattle.mail_head.proofs.FieldLemmas.{fields_of-some, fields_of-none, fields_of-done}

-- no field stands in a text before `rest`, which is its end
pub record Passed (text rest : List ℕ) : Type 0 where
  pub same : fields_of text ≡ fields_of rest
  pub end : rest ≡ drop (length text - length rest) text
  pub within : length rest ≤ length text

pub Passed-none : (text : List ℕ) → Passed text text
Passed-none text = record {
  same = refl;
  end = ap (λ n. drop n text) (let e : 0 ≡ length text - length text = omega arith in e);
  within = omega arith;
}

end_of_end : (text rest after : List ℕ) (n : ℕ) → rest ≡ drop (length text - length rest) text
    → length rest ≤ length text → n ≤ length rest → after ≡ drop n rest → after ≡ drop (length text - length after) text
end_of_end text rest after n e within room ea =
    let long : length after ≡ length rest - n = ap length ea ∙ length-drop n rest in
    let places : (length text - length rest) + n ≡ length text - length after = omega arith in
    ea ∙ ap (drop n) e ∙ drop-drop n (length text - length rest) text ∙ ap (λ m. drop m text) places

-- a logical line that is no field is passed over
pub Passed-more : (text rest line after : List ℕ) (n : ℕ) → Passed text rest
    → logical_lines (header_of rest) ≡ take n rest ∷ logical_lines (header_of (drop n rest)) → n ≤ length rest
    → line ≡ take n rest → after ≡ drop n rest → None ≡ field_of line → Passed text after
Passed-more text rest line after n h lines room el ea none =
    let cut : logical_lines (header_of rest) ≡ line ∷ logical_lines (header_of (drop n rest)) = lines
    ∙ ap (λ x. x ∷ logical_lines (header_of (drop n rest))) (sym el) in
    let long : length after ≡ length rest - n = ap length ea ∙ length-drop n rest in
    record {
      same = h.same ∙ sym (fields_of-none [] rest line (drop n rest) (fields_of rest) cut none refl) ∙ ap fields_of (sym ea);
      end = end_of_end text rest after n h.end h.within room ea;
      within = omega (arith, h.within);
    }

-- the first logical line that is a field
pub Passed-found : (text rest line after : List ℕ) (n : ℕ) (found : FoundField) → Passed text rest
    → logical_lines (header_of rest) ≡ take n rest ∷ logical_lines (header_of (drop n rest)) → n ≤ length rest
    → line ≡ take n rest → length line ≡ n → after ≡ drop n rest → Some found.field ≡ field_of line
    → length found.field.0 + length found.field.1 < length line → found.from.now ≡ rest → found.after.now ≡ after
    → IsFirstField text found
Passed-found text rest line after n found h lines room el size ea some short from following =
    let cut : logical_lines (header_of rest) ≡ line ∷ logical_lines (header_of (drop n rest)) = lines
    ∙ ap (λ x. x ∷ logical_lines (header_of (drop n rest))) (sym el) in
    let field : found.field ∷ fields_of (drop n rest) ≡ fields_of rest =
    fields_of-some [] rest line (drop n rest) found.field (fields_of rest) cut some refl in
    let long : length after ≡ length rest - n = ap length ea ∙ length-drop n rest in
    record {
      first = h.same ∙ ap fields_of (sym from);
      field = ap fields_of from ∙ sym field ∙ ap (λ x. found.field ∷ fields_of x) (sym (following ∙ ea));
      from_end = from ∙ h.end ∙ ap (λ m. drop (length text - m) text) (ap length (sym from));
      from_within = rw from h.within;
      after_end = following ∙ end_of_end text rest after n h.end h.within room ea ∙ ap (λ m. drop (length text - m) text) (ap length (sym following));
      between = rw (from, following) (omega arith);
    }

pub Passed-done : (text rest : List ℕ) → Passed text rest → header_of rest ≡ [] → fields_of text ≡ []
Passed-done text rest h e = h.same ∙ sym (fields_of-done [] rest (fields_of rest) e refl)

-- the starts of the fields before `rest`
pub record Started (octets rest starts : List ℕ) : Type 0 where
  pub end : rest ≡ drop (length octets - length rest) octets
  pub within : length rest ≤ length octets
  pub value : map (field_from octets) starts ++ fields_of rest ≡ fields_of octets
  pub begin : All (IsFieldStart octets) starts

pub Started-none : (octets starts : List ℕ) → starts ≡ [] → Started octets octets starts
Started-none octets starts e = record {
  end = ap (λ n. drop n octets) (let z : 0 ≡ length octets - length octets = omega arith in z);
  within = omega arith;
  value = rw e refl;
  begin = rw e (λ k d lt. absurd (omega (arith, lt)));
}

-- one more field
pub Started-more : (octets rest after starts : List ℕ) (found : FoundField) (start : ℕ) → Started octets rest starts
    → IsFirstField rest found → start ≡ length octets - length found.from.now → after ≡ found.after.now
    → Started octets after (starts ++ start ∷ [])
Started-more octets rest after starts found start h f es ea =
    let from : found.from.now ≡ drop start octets =
    end_of_end octets rest found.from.now (length rest - length found.from.now) h.end h.within (omega arith)
    f.from_end ∙ ap (λ m. drop m octets) (sym es) in
    let here : fields_of (drop start octets) ≡ found.field ∷ fields_of found.after.now = ap fields_of (sym from) ∙ f.field in
    let one : field_from octets start ≡ found.field = ap (λ fs. slice_index_or fs 0 ([], [])) here in
    let shorter : length found.after.now < length found.from.now = omega (arith, f.between) in
    let is_start : IsFieldStart octets start = record { within = omega arith; some = rw here (omega arith) } in
    record {
      end = ea ∙ end_of_end octets rest found.after.now (length rest - length found.after.now) h.end h.within
          (omega arith) f.after_end ∙ ap (λ m. drop (length octets - m) octets) (ap length (sym ea));
      within = rw ea (omega (arith, f.from_within, h.within, shorter));
      value = rw (
        map-append (field_from octets) starts (start ∷ []),
        one,
        ea,
      ) (append_assoc (map (field_from octets) starts) (found.field ∷ []) (fields_of found.after.now)
          ∙ ap (λ fs. map (field_from octets) starts ++ fs) (sym (f.first ∙ f.field)) ∙ h.value);
      begin = All-push (IsFieldStart octets) starts start h.begin is_start;
    }

pub Started-done : (octets rest starts : List ℕ) → Started octets rest starts → fields_of rest ≡ []
    → map (field_from octets) starts ≡ fields_of octets
Started-done octets rest starts h none = sym (let e : map (field_from octets) starts
    ++ [] ≡ map (field_from octets) starts = append-nil (map (field_from octets) starts) in
    ap (λ fs. map (field_from octets) starts ++ fs) none ∙ e) ∙ h.value

-- room for one more start
pub Started-room : (octets rest starts : List ℕ) (found : FoundField) → Started octets rest starts
    → IsFirstField rest found → length starts < length (fields_of octets)
Started-room octets rest starts found h f =
    let counted : length (map (field_from octets) starts ++ found.field ∷ fields_of found.after.now)
    ≡ length (fields_of octets) =
    ap length (ap (λ fs. map (field_from octets) starts ++ fs) (sym (f.first ∙ f.field)) ∙ h.value) in
    omega (arith, simp (length-append, length-map) at counted)
